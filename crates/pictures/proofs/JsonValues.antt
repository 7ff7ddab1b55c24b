-- Lists of JSON values, and that none of them has a float.
use Rattle.std.specs.Global.{Vec}
use Rattle.std.proofs.lemmas.List.{append-nil}
use Rattle.pictures.proofs.Common.{Bool, Data, List, [], ap, ap₂, codes, drop, event_data, events_after, explained_data, false, has_float, history_data, inl, inr, items_have_float, items_of, length, listed, map, negsuc, pos, refl, reply_data, row_data, rows_data, rules, shown_lines, string_bytes, sym, table_data, tables_data, counted_data, verdict_data, view, ℕ, ℤ, ◌++◌, ◌||◌, ◌∙◌, ◌∷◌, ◌≡◌, ◌≤◌, ◌⊎◌}
use Rattle.pictures.proofs.Turns.{ends_here}
use Rattle.history.specs.declared.event.Event.{Event}
use Rattle.history.specs.declared.event.Event.TheVariants.{Reply, Settle}
use Rattle.script.specs.declared.named.Named.{Named}
use Rattle.script.specs.declared.script.Script.{Script}
use Rattle.script_text.specs.HistoryText.{label_of, settled}
use Rattle.serde_json.specs.declared.value.Value.{Value, the_lemmas}
use Rattle.serde_json.specs.declared.value.Value.TheVariants.{Array}

-- ---- lists

pub view_array : (v : Vec Value) (ds : List Data) → map view v.items ≡ ds → view (Array v) ≡ listed ds
view_array v ds is = search (rules, the_lemmas) ∙ ap listed is

nothing_left : (es : List Named) (ls : List (ℤ × Vec ℕ)) → (es ≡ []) ⊎ (ls ≡ []) → rows_data es (shown_lines ls) ≡ []
nothing_left [] ls end = refl
nothing_left (e ∷ es) [] end = refl
nothing_left (e ∷ es) (l ∷ ls) (inl is) = absurd (let h = is in cc)
nothing_left (e ∷ es) (l ∷ ls) (inr is) = absurd (let h = is in cc)

pub rows_end : (es : List Named) (ls : List (ℤ × Vec ℕ)) (done all : List Data) → done ++ rows_data es (shown_lines ls) ≡ all → (es ≡ []) ⊎ (ls ≡ []) → done ≡ all
rows_end es ls done all so_far end = sym (append-nil done) ∙ ap (λ (x : List Data). done ++ x) (sym (nothing_left es ls end)) ∙ so_far

-- ---- no floats

pub plain_list : {X : Type 0} (F : X → Data) → ((x : X) → has_float (F x) ≡ false) → (xs : List X) → items_have_float (items_of (map F xs)) ≡ false
plain_list F each [] = refl
plain_list F each (x ∷ xs) = ap₂ ◌||◌ (each x) (plain_list F each xs)

row_plain : (label bytes : List ℕ) (reply : ℤ) → has_float (row_data label reply bytes) ≡ false
row_plain label bytes (pos n) = refl
row_plain label bytes (negsuc n) = refl

rows_plain : (es : List Named) (ls : List (ℤ × List ℕ)) → items_have_float (items_of (rows_data es ls)) ≡ false
rows_plain [] ls = refl
rows_plain (e ∷ es) [] = refl
rows_plain (e ∷ es) (l ∷ ls) = ap₂ ◌||◌ (row_plain (string_bytes e.label) l.1 l.0) (rows_plain es ls)

pub table_plain : (c : Script) (ls : List (ℤ × List ℕ)) → has_float (table_data c ls) ≡ false
table_plain c ls = rows_plain c.entries.items ls

reply_plain : (word label : List ℕ) (reply : ℤ) → has_float (reply_data word label reply) ≡ false
reply_plain word label (pos n) = refl
reply_plain word label (negsuc n) = refl

event_plain : (c : Script) (before : List Event) (e : Event) → has_float (event_data c before e) ≡ false
event_plain c before (Reply r res bytes) = reply_plain (codes "reply") (label_of c r) res
event_plain c before (Settle r) = reply_plain (codes "settle") (label_of c r) (settled before r)
event_plain c before _ = refl

events_plain : (c : Script) (before es : List Event) → items_have_float (items_of (events_after c before es)) ≡ false
events_plain c before [] = refl
events_plain c before (e ∷ es) = ap₂ ◌||◌ (event_plain c before e) (events_plain c (before ++ e ∷ []) es)

pub history_plain : (c : Script) (es : List Event) → has_float (history_data c es) ≡ false
history_plain c es = events_plain c [] es

pub explained_plain : (c : Script) (x : List (ℤ × List ℕ) × List Event) → has_float (explained_data c x) ≡ false
explained_plain c x = ap₂ ◌||◌ (history_plain c x.1) (ap₂ ◌||◌ (table_plain c x.0) refl)

pub counted_plain : (c : Script) (x : List (ℤ × List ℕ) × ℕ) → has_float (counted_data c x) ≡ false
counted_plain c x = ap₂ ◌||◌ (table_plain c x.0) refl

verdict_plain : (x : List ℕ × Bool) → has_float (verdict_data x) ≡ false
verdict_plain x = refl

-- ---- lists that a loop has gone over

pub list_ends : {X Y : Type 0} (F : Y → Data) (G : X → Y) (xs : List X) (i : ℕ) (v : Vec Value) → length xs ≤ i
    → map view v.items ++ map F (map G (drop i xs)) ≡ map F (map G xs) → view (Array v) ≡ listed (map F (map G xs))
list_ends F G xs i v le so_far = view_array v (map F (map G xs)) (ends_here (λ k l. map F (map G l)) xs i (map view v.items) (map F (map G xs)) le refl so_far)

pub tables_plain : (c : Script) (xs : List (List (ℤ × List ℕ))) → has_float (tables_data c xs) ≡ false
tables_plain c xs = plain_list (λ (lines : List (ℤ × List ℕ)). table_data c lines) (table_plain c) xs

pub all_explained_plain : (c : Script) (xs : List (List (ℤ × List ℕ) × List Event)) → has_float (listed (map (explained_data c) xs)) ≡ false
all_explained_plain c xs = plain_list (explained_data c) (explained_plain c) xs

pub all_counted_plain : (c : Script) (xs : List (List (ℤ × List ℕ) × ℕ)) → has_float (listed (map (counted_data c) xs)) ≡ false
all_counted_plain c xs = plain_list (counted_data c) (counted_plain c) xs

pub all_verdicts_plain : (xs : List (List ℕ × Bool)) → has_float (listed (map verdict_data xs)) ≡ false
all_verdicts_plain xs = plain_list verdict_data verdict_plain xs
