-- The lines of the clock, where no line has a fault: each fits it, and the clock never goes back.
use Rattle.entry.specs.declared.op.Op.{Op}
use Rattle.text.specs.Number.{number_in}
use Rattle.script_text.specs.Keywords.{is_timer}
use Rattle.script_text.proofs.Common.{Actor, Armed, Bool, Deed, ENTRIES, Entered, Entry, Keyword, Kind, LinkTimeout, List, None, Option, OutOfRange, Sentence, Some, Standing, Stated, Submit, TICK, Tick, Timeout, Wait, [], actor_in, allowed_flags, and_from, and_parts, arith, batch_in, bit_and, cond, cond_both, count_of, deeds_in, deeds_with, entered_in, entered_line, entered_with, etime_bit, false, first_of, flagged, flags_in, has_etime, is_clock, is_left, is_ring, is_same_actor, is_timed_op, le-leb, leb-true, length, line_entry, line_of, link_timeout_op, list_all, list_all-append, lt-ltb, may_be_timer, nat_le, nat_lt, number_or, options_of, place_in, plain, range_faults, refl, sets, slice_get, standing_in, stated_in, stated_line, stated_with, submits, subst, suc, sym, ticks_in, time_in, time_with, timeout_count_op, true, waits, waits_armed, word_at, zero, ℕ, ◌&&◌, ◌++◌, ◌+◌, ◌==◌, ◌||◌, ◌∷◌, ◌≡◌, ◌≤◌}
use Rattle.script_text.proofs.CleanLines.{AreClean, is_clean, number_within}
use Rattle.script_text.proofs.CleanActs.{clock_is, has_place, place_below, same_clock}
use Rattle.script_text.proofs.NoFault.{IsClean, IsCleanIf, is_ring_from_pending}

-- ---- the entries of timers

timed_flagged : (e : Entry) (flags : ℕ) → is_timed_op e.op ≡ true → is_timed_op (flagged e flags).op ≡ true
timed_flagged e flags is =
    cond_both (bit_and flags (allowed_flags e.op) == flags) (record { user_data = e.user_data; flags = flags; op = e.op }) (record { user_data = e.user_data; flags = bit_and flags 12; op = Op.Invalid })
    (λ (x : Entry). is_timed_op x.op ≡ true) (λ _. is) (λ _. refl)

timed_timeout : (ticks count flags : ℕ) → is_timed_op (timeout_count_op ticks count flags) ≡ true
timed_timeout ticks count flags =
    cond_both (nat_lt count 1024 && (nat_lt ticks 2147483648 && ((flags == 0) || (flags == 32)))) (Op.Timeout ticks (flags == 32) count) Op.Invalid (λ (o : Op). is_timed_op o ≡ true) (λ _. refl) (λ _. refl)

timed_link_timeout : (ticks : ℕ) → is_timed_op (link_timeout_op ticks) ≡ true
timed_link_timeout ticks = cond_both (nat_lt ticks 2147483648) (Op.LinkTimeout ticks) Op.Invalid (λ (o : Op). is_timed_op o ≡ true) (λ _. refl) (λ _. refl)

timed_line : (lines : List Stated) (kind : Kind) (words : List (List ℕ)) (number : ℕ) (given : Option Entry) → is_timer kind ≡ true → is_timed_op (line_entry lines kind words number given).op ≡ true
timed_line lines Timeout words number given e =
    let ticks = ticks_in (word_at words 2) in
    let count = count_of (options_of Timeout words) in
    let bit = etime_bit (has_etime Timeout (options_of Timeout words)) in
    timed_flagged (plain (timeout_count_op ticks count bit)) (flags_in (options_of Timeout words)) (timed_timeout ticks count bit)
timed_line lines LinkTimeout words number given e =
    let ticks = ticks_in (word_at words 2) in
    timed_flagged (plain (link_timeout_op ticks)) (flags_in (options_of LinkTimeout words)) (timed_link_timeout ticks)
timed_line lines _ words number given e = absurd cc

-- entry lines with their entries: those of timers have timers
abbrev AreTimed : List Stated → List Entered → Type 0
AreTimed [] [] = Unit {0}
AreTimed (line ∷ lines) (e ∷ es) = (is_timer line.kind ≡ true → is_timed_op e.entry.op ≡ true) × AreTimed lines es
AreTimed _ _ = ⊥

timed_push : (lines : List Stated) (es : List Entered) (line : Stated) (e : Entered) → AreTimed lines es → (is_timer line.kind ≡ true → is_timed_op e.entry.op ≡ true) → AreTimed (lines ++ line ∷ []) (es ++ e ∷ [])
timed_push [] [] line e are is = (is, tt)
timed_push (x ∷ lines) (y ∷ es) line e are is = (are.0, timed_push lines es line e are.1 is)
timed_push [] (y ∷ es) line e are is = absurd are
timed_push (x ∷ lines) [] line e are is = absurd are

timed_if : (b : Bool) (lines : List Stated) (es : List Entered) (line : Stated) (e : Entered) → AreTimed lines es → (is_timer line.kind ≡ true → is_timed_op e.entry.op ≡ true) → AreTimed (cond b (lines ++ line ∷ []) lines) (cond b (es ++ e ∷ []) es)
timed_if true lines es line e are is = timed_push lines es line e are is
timed_if false lines es line e are is = are

timed_step : (file : List Stated) (k : Option Keyword) (words : List (List ℕ)) (given : Option Entry) (lines : List Stated) (es : List Entered) → AreTimed lines es → AreTimed (stated_with k words given lines) (entered_with file k words given es)
timed_step file (Some (Keyword.Entry kind)) words given lines es are =
    timed_if (nat_lt 1 (length words)) lines es (stated_line kind words given (length lines + 1)) (entered_line file kind words given (length es + 1)) are (timed_line file kind words (length es + 1) given)
timed_step file _ words given lines es are = are

timed_in : (file : List Stated) (above : List Sentence) → AreTimed (stated_in above) (entered_in file above)
timed_in file [] = tt
timed_in file (s ∷ above) = timed_step file (first_of s) s.words s.given (stated_in above) (entered_in file above) (timed_in file above)

abbrev pub timed_at : Option Entered → Bool
timed_at None = false
timed_at (Some e) = is_timed_op e.entry.op

timed_place : (lines : List Stated) (es : List Entered) (i : ℕ) (line : Stated) → AreTimed lines es → slice_get lines i ≡ Some line → is_timer line.kind ≡ true → timed_at (slice_get es i) ≡ true
timed_place [] es i line are found is = absurd cc
timed_place (x ∷ lines) [] i line are found is = absurd are
timed_place (x ∷ lines) (y ∷ es) zero line are found is = are.0 (subst (λ (o : Option Stated). may_be_timer o ≡ true) (sym found) is)
timed_place (x ∷ lines) (y ∷ es) (suc i) line are found is = timed_place lines es i line are.1 found is

-- ---- the lines of the clock

abbrev pub clock_fits : List Entered → Deed → Bool
clock_fits es (submits places) = false
clock_fits es (waits place) = nat_lt place (length es)
clock_fits es (waits_armed place) = timed_at (slice_get es place)
clock_fits es (sets to) = nat_le to TICK

fits_if : (own : Bool) (es : List Entered) (ds : List Deed) (d : Deed) → (own ≡ true → clock_fits es d ≡ true) → list_all (clock_fits es) ds ≡ true → list_all (clock_fits es) (cond own (ds ++ d ∷ []) ds) ≡ true
fits_if true es ds d fits all = rw list_all-append (and_from (list_all (clock_fits es) ds) (clock_fits es d && true) all (and_from (clock_fits es d) true (fits refl) refl))
fits_if false es ds d fits all = all

no_submit : (p : Standing) (lines : List Stated) (u : Bool) (words : List (List ℕ)) (given : Option Entry) → IsClean p lines u Submit words given → is_same_actor Actor.Clock p.actor ≡ true → ⊥
no_submit p lines u words given c own =
    let ring = is_ring_from_pending p.actor p.pending c.place in
    let at : is_ring Actor.Clock ≡ true = subst (λ (a : Actor). is_ring a ≡ true) (same_clock p.actor own) ring in
    cc

armed_fits : (p : Standing) (lines : List Stated) (u : Bool) (words : List (List ℕ)) (given : Option Entry) (es : List Entered) → IsClean p lines u Armed words given → AreTimed lines es → length lines ≤ ENTRIES
    → timed_at (slice_get es (place_in lines (word_at words 1))) ≡ true
armed_fits p lines u words given es c are few =
    let h = has_place lines (word_at words 1) c.own in
    let lt = h.within in
    let timer : may_be_timer (line_of lines (word_at words 1)) ≡ true = (and_parts (is_clock p.actor) _ c.place).1 in
    let is : is_timer h.line.kind ≡ true = subst (λ (o : Option Stated). may_be_timer o ≡ true) h.first timer in
    rw (h.is, lt-ltb h.place 4294967296 (omega (arith, lt, few))) (timed_place lines es h.place h.line are h.found is)

clock_step : (p : Standing) (lines : List Stated) (u : Bool) (k : Option Keyword) (words : List (List ℕ)) (given : Option Entry) (es : List Entered) (batch : List ℕ) (ds : List Deed) → IsCleanIf p lines u k words given
    → AreTimed lines es → length es ≡ length lines → length lines ≤ ENTRIES → list_all (clock_fits es) ds ≡ true
    → list_all (clock_fits es) (deeds_with lines k words (is_same_actor Actor.Clock p.actor) batch ds) ≡ true
clock_step p lines u (Some Submit) words given es batch ds c are many few all =
    fits_if (is_same_actor Actor.Clock p.actor) es ds (submits batch) (λ own. absurd (no_submit p lines u words given c own)) all
clock_step p lines u (Some Wait) words given es batch ds c are many few all =
    let lt = place_below lines (word_at words 1) c.own in
    fits_if (is_same_actor Actor.Clock p.actor) es ds (waits (place_in lines (word_at words 1))) (λ own. lt-ltb (place_in lines (word_at words 1)) (length es) (omega (arith, lt, many))) all
clock_step p lines u (Some Tick) words given es batch ds c are many few all =
    let o = number_in (word_at words 1) in
    fits_if (is_same_actor Actor.Clock p.actor) es ds (sets (number_or o 0 TICK)) (λ own. le-leb (number_or o 0 TICK) TICK (number_within o 0 TICK (omega arith)).1) all
clock_step p lines u (Some Armed) words given es batch ds c are many few all =
    fits_if (is_same_actor Actor.Clock p.actor) es ds (waits_armed (place_in lines (word_at words 1))) (λ own. armed_fits p lines u words given es c are few) all
clock_step p lines u _ words given es batch ds c are many few all = all

pub clock_ok : (all above : List Sentence) → AreClean all above → length (entered_in (stated_in all) all) ≡ length (stated_in all) → length (stated_in all) ≤ ENTRIES
    → list_all (clock_fits (entered_in (stated_in all) all)) (deeds_in (stated_in all) Actor.Clock above) ≡ true
clock_ok all [] c many few = refl
clock_ok all (s ∷ above) c many few = clock_step (standing_in above) (stated_in all) (is_left (actor_in above) all (length above + 1)) (first_of s) s.words s.given (entered_in (stated_in all) all) (batch_in Actor.Clock above) (deeds_in (stated_in all) Actor.Clock above) (is_clean all above s c.0).known (timed_in (stated_in all) all) many few (clock_ok all above c.1 many few)

-- ---- the clock never goes back

abbrev pub deeds_rise : ℕ → List Deed → Bool
deeds_rise m [] = true
deeds_rise m (sets n ∷ ds) = nat_le m n && deeds_rise n ds
deeds_rise m (_ ∷ ds) = deeds_rise m ds

abbrev last_set : ℕ → List Deed → ℕ
last_set m [] = m
last_set m (sets n ∷ ds) = last_set n ds
last_set m (_ ∷ ds) = last_set m ds

-- they rise from m on, up to this
record Rise (m : ℕ) (ds : List Deed) (to : ℕ) : Type 0 where
  rise : deeds_rise m ds ≡ true
  last : last_set m ds ≡ to

rise_to : (m : ℕ) (ds : List Deed) (to n : ℕ) → Rise m ds to → to ≤ n → Rise m (ds ++ sets n ∷ []) n
rise_to m [] to n r le = let is = r.last in record { rise = and_from (nat_le m n) true (le-leb m n (omega (arith, is, le))) refl; last = refl }
rise_to m (sets x ∷ ds) to n r le =
    let p = and_parts (nat_le m x) (deeds_rise x ds) r.rise in
    let t = rise_to x ds to n (record { rise = p.1; last = r.last }) le in
    record { rise = and_from (nat_le m x) (deeds_rise x (ds ++ sets n ∷ [])) p.0 t.rise; last = t.last }
rise_to m (_ ∷ ds) to n r le = let t = rise_to m ds to n (record { rise = r.rise; last = r.last }) le in record { rise = t.rise; last = t.last }

abbrev is_set : Deed → Bool
is_set (sets n) = true
is_set _ = false

rise_by : (m : ℕ) (ds : List Deed) (to : ℕ) (d : Deed) → is_set d ≡ false → Rise m ds to → Rise m (ds ++ d ∷ []) to
rise_by m [] to (sets n) e r = absurd cc
rise_by m (sets x ∷ ds) to d e r =
    let p = and_parts (nat_le m x) (deeds_rise x ds) r.rise in
    let t = rise_by x ds to d e (record { rise = p.1; last = r.last }) in
    record { rise = and_from (nat_le m x) (deeds_rise x (ds ++ d ∷ [])) p.0 t.rise; last = t.last }
rise_by m [] to _ e r = record { rise = refl; last = r.last }
rise_by m (_ ∷ ds) to d e r = let t = rise_by m ds to d e (record { rise = r.rise; last = r.last }) in record { rise = t.rise; last = t.last }

rise_if : (own : Bool) (ds : List Deed) (to : ℕ) (d : Deed) → is_set d ≡ false → Rise 0 ds to → Rise 0 (cond own (ds ++ d ∷ []) ds) to
rise_if true ds to d e r = rise_by 0 ds to d e r
rise_if false ds to d e r = r

tick_of : (a b c : Bool) (n low : ℕ) → (a ≡ true → low ≤ n) → c ≡ true → cond (a && b) [] (OutOfRange ∷ []) ≡ [] → low ≤ cond (c && b) n 0
tick_of true true true n low le is e = le refl
tick_of _ _ _ n low le is e = absurd cc

-- a number without a fault is itself, whatever else it may have to be above
tick_is : (o : Option ℕ) (low high : ℕ) → range_faults o low high ≡ [] → low ≤ number_or o 0 high
tick_is None low high e = absurd cc
tick_is (Some n) low high e = tick_of (nat_le low n) (nat_le n high) (nat_le 0 n) n low (leb-true low n) (le-leb 0 n (omega arith)) e

clock_tick : (a : Actor) → is_clock a ≡ true → is_same_actor Actor.Clock a ≡ true
clock_tick a e = rw (clock_is a e) refl

rise_step : (p : Standing) (lines : List Stated) (u : Bool) (k : Option Keyword) (words : List (List ℕ)) (given : Option Entry) (batch : List ℕ) (ds : List Deed) → IsCleanIf p lines u k words given
    → Rise 0 ds p.time → Rise 0 (deeds_with lines k words (is_same_actor Actor.Clock p.actor) batch ds) (time_with k words p.time)
rise_step p lines u (Some Submit) words given batch ds c r = rise_if (is_same_actor Actor.Clock p.actor) ds p.time (submits batch) refl r
rise_step p lines u (Some Wait) words given batch ds c r = rise_if (is_same_actor Actor.Clock p.actor) ds p.time (waits (place_in lines (word_at words 1))) refl r
rise_step p lines u (Some Tick) words given batch ds c r =
    let n = number_or (number_in (word_at words 1)) 0 TICK in
    rw (clock_tick p.actor c.place) (rise_to 0 ds p.time n r (tick_is (number_in (word_at words 1)) p.time TICK c.own))
rise_step p lines u (Some Armed) words given batch ds c r = rise_if (is_same_actor Actor.Clock p.actor) ds p.time (waits_armed (place_in lines (word_at words 1))) refl r
rise_step p lines u _ words given batch ds c r = r

rise_in : (all above : List Sentence) → AreClean all above → Rise 0 (deeds_in (stated_in all) Actor.Clock above) (time_in above)
rise_in all [] c = record { rise = refl; last = refl }
rise_in all (s ∷ above) c = rise_step (standing_in above) (stated_in all) (is_left (actor_in above) all (length above + 1)) (first_of s) s.words s.given (batch_in Actor.Clock above) (deeds_in (stated_in all) Actor.Clock above) (is_clean all above s c.0).known (rise_in all above c.1)

pub rises_ok : (all above : List Sentence) → AreClean all above → deeds_rise 0 (deeds_in (stated_in all) Actor.Clock above) ≡ true
rises_ok all above c = (rise_in all above c).rise
