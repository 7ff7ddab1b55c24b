-- The parts of a text without a fault keep the rules of scripts.
use Rattle.limits.specs.Limits.{is_capacity}
use Rattle.script.specs.Rules.{is_ring}
use Rattle.script_text.specs.declared.parts.Parts.{Parts}
use Rattle.script_text.proofs.Common.{Act, Actor, Bool, Deed, ENTRIES, Entered, IsFaultless, IsTrue, List, Named, None, Option, PIPES, RINGS, Sentence, Some, Stands, Vec, [], above_of, all_entered, and_from, ap, are_lines, arith, deed, deeds, deeds_at, deeds_in, each_once, entered, eq-eqb, has_own_label, has_ring_in, is_clock_line, is_entry, is_ring_line, is_same, is_timed_at, keeps_acts, keeps_clock, keeps_limits, keeps_parts, keeps_rules, labels_differ, le-leb, length, length-map, line_at, list_all, list_all-map, lt-ltb, map, nat_le, nat_lt, not, not-false, option_map, places_in, places_of, refl, reverse, rises, slice_get, slice_get-map, stated_in, subst, suc, sym, true, zero, ℕ, ◌&&◌, ◌++◌, ◌<◌, ◌==◌, ◌∙◌, ◌∷◌, ◌≡◌, ◌≤◌}
use Rattle.script_text.proofs.CleanActs.{AtRing, deed_fits, ring_ok}
use Rattle.script_text.proofs.CleanClock.{clock_fits, clock_ok, deeds_rise, rises_ok, timed_at}
use Rattle.script_text.proofs.CleanEntries.{distinct, entries_ok, entry_ok, labels_ok}
use Rattle.script_text.proofs.CleanLines.{AreClean, clean_above, is_clean, pipes_ok, rings_ok, some_ring}
use Rattle.script_text.proofs.CleanSubmits.{often, once_each, places_in_deeds, sum_same, sum_to, often_append}
use Rattle.script_text.proofs.LinesAbove.{above_all}
use Rattle.script_text.proofs.ReadingLines.{as_many_entries, entries_of_parts, label_of, label_stated, labels_in}

-- ---- the rules, by what lines say

ring_line_all : (cells n : ℕ) (acts : List Act) → list_all (deed_fits cells n) (deeds acts) ≡ list_all (is_ring_line cells n) acts
ring_line_all cells n (Act.Submit places ∷ acts) = ap (λ (b : Bool). is_ring_line cells n (Act.Submit places) && b) (ring_line_all cells n acts)
ring_line_all cells n (Act.Wait place ∷ acts) = ap (λ (b : Bool). nat_lt place n && b) (ring_line_all cells n acts)
ring_line_all cells n _ = refl

lines_ok : (n : ℕ) (rs : List (ℕ × Option ℕ)) (vs : List (Vec Act)) → length vs ≡ length rs → ((r : ℕ) → AtRing rs n r (deeds_at vs r)) → are_lines n rs vs ≡ true
lines_ok n [] [] e at = refl
lines_ok n (r ∷ rs) (v ∷ vs) e at =
    and_from (list_all (is_ring_line r.0 n) v.items) (are_lines n rs vs) (sym (ring_line_all r.0 n v.items) ∙ at 0) (lines_ok n rs vs (omega (arith, e)) (λ k. at (suc k)))
lines_ok n [] (v ∷ vs) e at = absurd (omega (arith, e))
lines_ok n (r ∷ rs) [] e at = absurd (omega (arith, e))

places_as : (acts : List Act) → places_in acts ≡ places_in_deeds (deeds acts)
places_as [] = refl
places_as (Act.Submit places ∷ acts) = ap (λ (xs : List ℕ). places.items ++ xs) (places_as acts)
places_as (_ ∷ acts) = places_as acts

often_places : (q : ℕ) (vs : List (Vec Act)) → often q (places_of vs) ≡ sum_to (length vs) (λ r. often q (places_in_deeds (deeds_at vs r)))
often_places q [] = refl
often_places q (v ∷ vs) =
    let a = often_append q (places_in v.items) (places_of vs) in
    let b = ap (often q) (places_as v.items) in
    let c = often_places q vs in
    omega (arith, a, b, c)

each_from : (n : ℕ) (places : List ℕ) → ((q : ℕ) → q < n → often q places ≡ 1) → each_once n places ≡ true
each_from zero places e = refl
each_from (suc n) places e = and_from (often n places == 1) (each_once n places) (eq-eqb (often n places) 1 (e n (omega arith))) (each_from n places (λ q lt. e q (omega arith)))

timed_as : (o : Option Named) → timed_at (option_map entered o) ≡ is_timed_at o
timed_as None = refl
timed_as (Some e) = refl

clock_line_as : (es : List Named) (a : Act) → clock_fits (all_entered es) (deed a) ≡ is_clock_line es a
clock_line_as es (Act.Submit places) = refl
clock_line_as es (Act.Wait place) = ap (λ (n : ℕ). nat_lt place n) (length-map es entered)
clock_line_as es (Act.Armed place) = ap timed_at (slice_get-map entered es place) ∙ timed_as (slice_get es place)
clock_line_as es (Act.Tick to) = refl

clock_line_all : (es : List Named) (acts : List Act) → list_all (clock_fits (all_entered es)) (deeds acts) ≡ list_all (is_clock_line es) acts
clock_line_all es [] = refl
clock_line_all es (a ∷ acts) = let x = clock_line_as es a in let y = clock_line_all es acts in λ i. x i && y i

rises_as : (m : ℕ) (acts : List Act) → deeds_rise m (deeds acts) ≡ rises m acts
rises_as m [] = refl
rises_as m (Act.Tick to ∷ acts) = ap (λ (b : Bool). nat_le m to && b) (rises_as to acts)
rises_as m (_ ∷ acts) = rises_as m acts

differ_as : (es : List Named) → distinct (map label_of (all_entered es)) ≡ labels_differ es
differ_as [] = refl
differ_as (e ∷ es) =
    let differs = λ (m : List ℕ). not (is_same (label_of (entered e)) m) in
    let a : list_all differs (map label_of (all_entered es)) ≡ list_all (λ x. differs (label_of x)) (all_entered es) = list_all-map differs label_of (all_entered es) in
    let b : list_all (λ x. differs (label_of x)) (all_entered es) ≡ has_own_label e es = list_all-map (λ x. differs (label_of x)) entered es in
    let x : list_all differs (map label_of (all_entered es)) ≡ has_own_label e es = a ∙ b in
    let y = differ_as es in
    λ i. x i && y i

-- ---- a text without a fault

head_ok : (ss : List Sentence) → 1 ≤ length ss → IsFaultless ss → has_ring_in (reverse ss) ≡ true
head_ok ss some none =
    let clean = is_clean (reverse ss) (above_of ss 0) (line_at ss 0) (none 0 (omega (arith, some))) in
    not-false (has_ring_in (reverse ss)) clean.head

all_clean : (ss : List Sentence) → IsFaultless ss → AreClean (reverse ss) (reverse ss)
all_clean ss none = subst (AreClean (reverse ss)) (above_all ss (length ss) (omega arith)) (clean_above ss (length ss) (omega arith) none)

limits_ok : (ss : List Sentence) (p : Parts) → 1 ≤ length ss → IsFaultless ss → Stands (stated_in (reverse ss)) (reverse ss) p → keeps_limits p.pipes.items p.rings.items p.entries.items ≡ true
limits_ok ss p some none st =
    let all = reverse ss in
    let clean = all_clean ss none in
    let pipes = pipes_ok all all clean in
    let rings = rings_ok all all clean in
    let ring = some_ring all (head_ok ss some none) in
    let entries = entries_ok all all clean in
    let few = entries.few in
    let many = entries_of_parts (stated_in all) all p st in
    and_from (nat_le (length p.pipes.items) PIPES && (nat_lt 0 (length p.rings.items) && nat_le (length p.rings.items) RINGS)) (nat_le (length p.entries.items) ENTRIES)
    (and_from (nat_le (length p.pipes.items) PIPES) (nat_lt 0 (length p.rings.items) && nat_le (length p.rings.items) RINGS)
    (rw st.pipes (le-leb _ PIPES pipes.few))
    (and_from (nat_lt 0 (length p.rings.items)) (nat_le (length p.rings.items) RINGS) (rw st.rings (lt-ltb 0 _ ring)) (rw st.rings (le-leb _ RINGS rings.few))))
    (le-leb (length p.entries.items) ENTRIES (omega (arith, few, many)))

parts_ok : (ss : List Sentence) (p : Parts) → IsFaultless ss → Stands (stated_in (reverse ss)) (reverse ss) p → keeps_parts p.pipes.items p.rings.items p.entries.items ≡ true
parts_ok ss p none st =
    let all = reverse ss in
    let clean = all_clean ss none in
    let pipes = pipes_ok all all clean in
    let rings = rings_ok all all clean in
    let entries : list_all entry_ok (all_entered p.entries.items) ≡ true = rw st.entries (entries_ok all all clean).each in
    let each : list_all is_entry p.entries.items ≡ true = sym (list_all-map entry_ok entered p.entries.items) ∙ entries in
    let labels : map label_of (all_entered p.entries.items) ≡ map label_stated (stated_in all) = ap (λ (es : List Entered). map label_of es) st.entries ∙ labels_in (stated_in all) all in
    let differ : labels_differ p.entries.items ≡ true = sym (differ_as p.entries.items) ∙ (ap distinct labels ∙ labels_ok all all clean) in
    and_from (list_all is_capacity p.pipes.items && list_all is_ring p.rings.items) (list_all is_entry p.entries.items && labels_differ p.entries.items)
    (and_from (list_all is_capacity p.pipes.items) (list_all is_ring p.rings.items) (rw st.pipes pipes.each) (rw st.rings rings.each))
    (and_from (list_all is_entry p.entries.items) (labels_differ p.entries.items) each differ)

acts_ok : (ss : List Sentence) (p : Parts) → IsFaultless ss → Stands (stated_in (reverse ss)) (reverse ss) p → keeps_acts p.rings.items p.entries.items p.acts.by_ring.items ≡ true
acts_ok ss p none st =
    let all = reverse ss in
    let lines = stated_in all in
    let clean = all_clean ss none in
    let many = entries_of_parts lines all p st in
    let n = length p.entries.items in
    let vs = p.acts.by_ring.items in
    let at : (r : ℕ) → AtRing p.rings.items n r (deeds_at vs r) = λ r. rw (st.rings, many, st.acts r) (ring_ok all all r clean (omega arith)) in
    let long = ap (λ (rs : List (ℕ × Option ℕ)). length rs) st.rings in
    let even = st.even.acts in
    let once : (q : ℕ) → q < n → often q (places_of vs) ≡ 1 = λ q lt. (
    often_places q vs
    ∙ (sum_same (length vs) (λ r. often q (places_in_deeds (deeds_at vs r))) (λ r. often q (places_in_deeds (deeds_in lines (Actor.Ring r) all))) (λ r. ap (λ (ds : List Deed). often q (places_in_deeds ds)) (st.acts r))
    ∙ once_each all (length vs) q clean (omega (arith, long, even)) (omega (arith, lt, many)))) in
    and_from (are_lines n p.rings.items vs) (each_once n (places_of vs)) (lines_ok n p.rings.items vs even at) (each_from n (places_of vs) once)

clock_kept : (ss : List Sentence) (p : Parts) → IsFaultless ss → Stands (stated_in (reverse ss)) (reverse ss) p → keeps_clock p.entries.items p.acts.clock.items ≡ true
clock_kept ss p none st =
    let all = reverse ss in
    let lines = stated_in all in
    let clean = all_clean ss none in
    let acts = p.acts.clock.items in
    let each : list_all (clock_fits (all_entered p.entries.items)) (deeds acts) ≡ true = rw (st.entries, st.clock) (clock_ok all all clean (as_many_entries lines all) (entries_ok all all clean).few) in
    let rise : deeds_rise 0 (deeds acts) ≡ true = rw st.clock (rises_ok all all clean) in
    and_from (list_all (is_clock_line p.entries.items) acts) (rises 0 acts) (sym (clock_line_all p.entries.items acts) ∙ each) (sym (rises_as 0 acts) ∙ rise)

pub parts_kept : (ss : List Sentence) (p : Parts) → 1 ≤ length ss → IsFaultless ss → Stands (stated_in (reverse ss)) (reverse ss) p
    → IsTrue (keeps_rules p.pipes.items p.rings.items p.entries.items p.acts.by_ring.items p.acts.clock.items)
parts_kept ss p some none st =
    and_from (keeps_limits p.pipes.items p.rings.items p.entries.items && keeps_parts p.pipes.items p.rings.items p.entries.items)
    (keeps_acts p.rings.items p.entries.items p.acts.by_ring.items && keeps_clock p.entries.items p.acts.clock.items)
    (and_from (keeps_limits p.pipes.items p.rings.items p.entries.items) (keeps_parts p.pipes.items p.rings.items p.entries.items) (limits_ok ss p some none st) (parts_ok ss p none st))
    (and_from (keeps_acts p.rings.items p.entries.items p.acts.by_ring.items) (keeps_clock p.entries.items p.acts.clock.items) (acts_ok ss p none st) (clock_kept ss p none st))
