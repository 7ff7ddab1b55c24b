-- The table of a run is one of the script's tables.
use Rattle.std.specs.Option.{option_map}
use Rattle.history.specs.Ticked.{counts_tick}
use Rattle.steps.specs.declared.line.Line.TheVariants.{Did}
use Rattle.steps.specs.Cells
use Rattle.steps.specs.Rule.{owns, NoneOf, Saw}
use Rattle.entry.specs.Entry.{Entry}
use Rattle.script.specs.{request_of, AreRequests, data_count}
use Rattle.script.proofs.CountedLines.{acts_long}
use Rattle.script.proofs.RequestEntries.{handed_request}
use Rattle.script.proofs.RequestsRead.{request_is}
use Rattle.script.proofs.RowData.{data_long}
use Rattle.script_run.proofs.Common.{Act, AllTell, AreRows, AreTaken, Bool, Completion, Event, Facts, Actor, ActorAt, HasCarried, HasTimed, IsCarried, IsCompletion, IsFound, IsPlayed, IsRow, IsTableOf, Keeps, KeepsRing, Legal, Line, List, None, Option, Pass, Poller, Req, Role, SawOwnLines, Script, Setup, Some, Submitter, Vec, [], all_keep, ap, arith, client_of, clock_at_end, data_of, drop, ended, events_of, false, get_or, get_or-map, length, length-map, map, none-some, none_keeps, refl, ring_at_end, row_of, setup_of, slice_get, slice_get-map, slice_get_cases, slice_get_within, submitter_of, subst, suc, sym, take, take-append-le, take-length, taken_by, timed_on, true, true≢false, was_shut, zero, ℕ, ℤ, ⊎_elim, ◌++◌, ◌<◌, ◌∙◌, ◌∷◌, ◌≡◌, ◌≤◌}
use Rattle.script_run.proofs.ClientCalls.{all_taken, carried_without, taken_by_line}

-- ---- the history that was ended

legal_shut : (s : Setup) (h : List Event) (lines : List (Completion × Bool)) → Legal s (ended lines h) → Legal s (Event.Shut ∷ h)
legal_shut s h [] l = l
legal_shut s h ((x, true) ∷ lines) l = legal_shut s h lines l.1
legal_shut s h ((x, false) ∷ lines) l = legal_shut s h lines l

keeps_ended : (c : Script) (h : List Event) (lines : List (Completion × Bool)) → Keeps c (Event.Shut ∷ h) → Keeps c (ended lines h)
keeps_ended c h [] k = k
keeps_ended c h ((x, true) ∷ lines) k = (tt, keeps_ended c h lines k)
keeps_ended c h ((x, false) ∷ lines) k = keeps_ended c h lines k

shut_ended : (h : List Event) (lines : List (Completion × Bool)) → was_shut (ended lines h) ≡ true
shut_ended h [] = refl
shut_ended h ((x, true) ∷ lines) = shut_ended h lines
shut_ended h ((x, false) ∷ lines) = shut_ended h lines

taken_ended : (s : Setup) (h : List Event) (lines : List (Completion × Bool)) (xs : List Completion) → Legal s (ended lines h) → AreTaken h xs → AreTaken (ended lines h) xs
taken_ended s h [] xs l k = all_taken s Event.Shut h xs l k
taken_ended s h ((x, true) ∷ lines) xs l k = all_taken s (Event.Cut x.req) (ended lines h) xs l (taken_ended s h lines xs l.1 k)
taken_ended s h ((x, false) ∷ lines) xs l k = taken_ended s h lines xs l k

-- ---- what each pass lacks none of

saw_at : (j : List Line) (ps qs : List Pass) (k : ℕ) (d : Pass) → SawOwnLines j (ps ++ qs) → k < length ps → Saw (get_or ps k d).view.role (get_or ps k d).view.seen j
saw_at j [] qs k d s lt = absurd (omega arith)
saw_at j (p ∷ ps) qs zero d s lt = s.0
saw_at j (p ∷ ps) qs (suc k) d s lt = saw_at j ps qs k d s.1 (omega arith)

-- the poller's clock goes no further without it
no_tick : (n : ℕ) (e : Event) → owns (Poller n) (Did e) ≡ false → counts_tick e ≡ 0
no_tick n (Event.Tick m) w = absurd (true≢false w)
no_tick n _ w = refl

timed_without : (c : Script) (s : Setup) (acts left : List Act) (n : ℕ) (later seen : List Line) → Legal s (events_of (later ++ seen)) → NoneOf (Poller n) later → HasTimed c acts left (events_of seen) → HasTimed c acts left (events_of (later ++ seen))
timed_without c s acts left n [] seen l none k = k
timed_without c s acts left n (Did e ∷ later) seen l none k = timed_on c s acts left e (events_of (later ++ seen)) l (no_tick n e none.0) (timed_without c s acts left n later seen l.1 none.1 k)
timed_without c s acts left n (_ ∷ later) seen l none k = timed_without c s acts left n later seen l none.1 k

-- ---- the run as a whole

module _ (c : Script) (b : Facts) (taken : List Completion) (lines : List (Completion × Bool)) (p : IsPlayed c b taken lines) (same : Cells.setup_of b.layout ≡ setup_of c) where
  abbrev s : Setup
  s = setup_of c

  abbrev h : List Event
  h = events_of p.report.all

  legal : Legal s (ended lines h)
  legal = subst (λ (z : Setup). Legal z (ended lines h)) same p.report.legal

  shut : Legal s (Event.Shut ∷ h)
  shut = legal_shut s h lines legal

  -- what the actor of a ring has done
  record ActorOf (i : ℕ) : Type 0 where
    actor : Actor
    ring : actor.client.ring ≡ i
    carried : IsCarried c actor
    saw : Saw actor.client.submitter.view.role actor.client.submitter.view.seen p.report.all

  actor_at : (k : ℕ) (d : Actor) → k < length p.actors → ActorOf k
  actor_at k d lt =
      let passes : List Pass = map submitter_of (map client_of p.actors) in
      let x : Actor = get_or p.actors k d in
      let one : get_or (map client_of p.actors) k (client_of d) ≡ client_of x = get_or-map client_of p.actors k d (client_of d) lt in
      let long : length (map client_of p.actors) ≡ length p.actors = length-map p.actors client_of in
      let more : length passes ≡ length (map client_of p.actors) = length-map (map client_of p.actors) submitter_of in
      let two : get_or passes k (submitter_of (client_of d)) ≡ submitter_of (client_of x) = get_or-map submitter_of (map client_of p.actors) k (client_of d) (submitter_of (client_of d)) (omega arith) ∙ ap submitter_of one in
      record {
        actor = x;
        ring = p.order.rings k d lt;
        carried = p.carried k d lt;
        saw = subst (λ (q : Pass). Saw q.view.role q.view.seen p.report.all) two (saw_at p.report.all passes p.workers k (submitter_of (client_of d)) p.report.own.1 (omega arith));
      }

  ring_carried : (i : ℕ) (v : Vec Act) → slice_get c.acts.items i ≡ Some v → ActorOf i → HasCarried c i v.items 0 h
  ring_carried i v at x =
      let k : ActorAt c v.items 0 x.actor = x.carried.through v (ap (slice_get c.acts.items) x.ring ∙ at) in
      let j : ℕ = x.actor.client.ring in
      let none : NoneOf (Submitter j) x.saw.later = subst (λ (z : Role). NoneOf z x.saw.later) k.role x.saw.none in
      let l : Legal s (events_of (x.saw.later ++ x.actor.client.submitter.view.seen)) = subst (λ (z : List Line). Legal s (events_of z)) x.saw.is shut.1 in
      let on = carried_without c s j v.items 0 x.saw.later x.actor.client.submitter.view.seen l none k.carried in
      subst (λ (z : ℕ). HasCarried c z v.items 0 h) x.ring (subst (λ (z : List Line). HasCarried c j v.items 0 (events_of z)) (sym x.saw.is) on)

  count_is : length p.actors ≡ length c.acts.items
  count_is =
      let long : length c.acts.items ≡ length c.rings.items = acts_long c in
      let rings : length b.layout.cells ≡ length c.rings.items = ap (λ (z : Setup). z.rings) same in
      p.order.count ∙ (rings ∙ sym long)

  some_actor : (i : ℕ) → i < length c.acts.items → ActorOf i
  some_actor i lt = pick p.actors refl where
    pick : (actors : List Actor) → actors ≡ p.actors → ActorOf i
    pick [] e = absurd (let z : 0 ≡ length p.actors = ap length e in let n = count_is in omega arith)
    pick (x ∷ actors) e = actor_at i x (let n = count_is in omega arith)

  ring_keeps : (i : ℕ) → KeepsRing c i h
  ring_keeps i = ⊎_elim
      (λ (z : (v : Vec Act) × (i < length c.acts.items) × (slice_get c.acts.items i ≡ Some v) × (get_or c.acts.items i v ≡ v)). (ring_carried i z.0 z.2 (some_actor i z.1)).keeps)
      (λ (z : (length c.acts.items ≤ i) × (slice_get c.acts.items i ≡ None)). none_keeps c s i h shut.1 (let long : length c.acts.items ≡ length c.rings.items = acts_long c in omega arith))
      (slice_get_cases c.acts.items i).1

  clock_carried : HasTimed c c.clock.items p.left h
  clock_carried =
      let saw = p.report.own.0 in
      let none : NoneOf (Poller (length b.layout.cells)) saw.later = subst (λ (z : Role). NoneOf z saw.later) p.role saw.none in
      let l : Legal s (events_of (saw.later ++ p.poller.view.seen)) = subst (λ (z : List Line). Legal s (events_of z)) saw.is shut.1 in
      subst (λ (z : List Line). HasTimed c c.clock.items p.left (events_of z)) (sym saw.is) (timed_without c s c.clock.items p.left (length b.layout.cells) saw.later p.poller.view.seen l none p.timed)

  pub keeps : Keeps c (ended lines h)
  keeps = keeps_ended c h lines (
    (
      λ i v at. ring_at_end c i v.items h (ring_carried i v at (some_actor i (slice_get_within c.acts.items i v at))),
      clock_at_end c c.clock.items p.left h refl clock_carried,
    ),
    all_keep c h ring_keeps clock_carried.keeps shut.0.0,
  )

  -- all that was taken are completions of the whole
  taken_at : (k : ℕ) (d : Actor) → k < length p.actors → AreTaken (ended lines h) (get_or p.actors k d).taken.items
  taken_at k d lt =
      let x : Actor = get_or p.actors k d in
      let passes : List Pass = map submitter_of (map client_of p.actors) in
      let long : length (map client_of p.actors) ≡ length p.actors = length-map p.actors client_of in
      let more : length passes ≡ length (map client_of p.actors) = length-map (map client_of p.actors) submitter_of in
      let one : get_or (map client_of p.actors) k (client_of d) ≡ client_of x = get_or-map client_of p.actors k d (client_of d) lt in
      let two : get_or passes k (submitter_of (client_of d)) ≡ submitter_of (client_of x) = get_or-map submitter_of (map client_of p.actors) k (client_of d) (submitter_of (client_of d)) (omega arith) ∙ ap submitter_of one in
      let saw : Saw x.client.submitter.view.role x.client.submitter.view.seen p.report.all = subst (λ (q : Pass). Saw q.view.role q.view.seen p.report.all) two (saw_at p.report.all passes p.workers k (submitter_of (client_of d)) p.report.own.1 (omega arith)) in
      let l : Legal s (events_of (saw.later ++ x.client.submitter.view.seen)) = subst (λ (z : List Line). Legal s (events_of z)) saw.is shut.1 in
      taken_ended s h lines x.taken.items legal (subst (λ (z : List Line). AreTaken (events_of z) x.taken.items) (sym saw.is) (taken_by_line s saw.later x.client.submitter.view.seen x.taken.items l (p.carried k d lt).taken))

  taken_all : AreTaken (ended lines h) taken
  taken_all = subst (AreTaken (ended lines h)) (sym p.taken_is) (all_of p.actors taken_at) where
    both : (xs ys : List Completion) → AreTaken (ended lines h) xs → AreTaken (ended lines h) ys → AreTaken (ended lines h) (xs ++ ys)
    both [] ys a b = b
    both (x ∷ xs) ys a b = (a.0, both xs ys a.1 b)

    all_of : (actors : List Actor) → ((k : ℕ) (d : Actor) → k < length actors → AreTaken (ended lines h) (get_or actors k d).taken.items) → AreTaken (ended lines h) (taken_by actors)
    all_of [] each = tt
    all_of (x ∷ actors) each = both x.taken.items (taken_by actors) (each 0 x (omega arith)) (all_of actors (λ k d lt. each (suc k) d (omega arith)))

  -- ---- the rows

  one_taken : (xs : List Completion) (i : ℕ) (x : Completion) → AreTaken (ended lines h) xs → slice_get xs i ≡ Some x → IsCompletion (ended lines h) x.req x
  one_taken [] zero x k e = absurd (none-some x e)
  one_taken [] (suc i) x k e = absurd (none-some x e)
  one_taken (y ∷ xs) zero x k e = let same : y ≡ x = cc in subst (λ (z : Completion). IsCompletion (ended lines h) z.req z) same k.0
  one_taken (y ∷ xs) (suc i) x k e = one_taken xs i x k.1 e

  one_left : (ls : List (Completion × Bool)) (i : ℕ) (x : Completion) (is_cut : Bool) → AllTell (ended lines h) ls → slice_get ls i ≡ Some (x, is_cut) → IsCompletion (ended lines h) x.req x
  one_left [] zero x is_cut k e = absurd (none-some (x, is_cut) e)
  one_left [] (suc i) x is_cut k e = absurd (none-some (x, is_cut) e)
  one_left (y ∷ ls) zero x is_cut k e = let same : y ≡ (x, is_cut) = cc in subst (λ (z : Completion × Bool). IsCompletion (ended lines h) z.0.req z.0) same k.0.completion
  one_left (y ∷ ls) (suc i) x is_cut k e = one_left ls i x is_cut k.1 e

  found : (r : Req) (x : Completion) → IsFound r taken lines x → IsCompletion (ended lines h) r x
  found r x f = subst (λ (q : Req). IsCompletion (ended lines h) q x) f.0 (⊎_elim
      (λ (t : (i : ℕ) × (slice_get taken i ≡ Some x)). one_taken taken t.0 x taken_all t.1)
      (λ (t : (i : ℕ) × (is_cut : Bool) × (slice_get lines i ≡ Some (x, is_cut))). one_left lines t.0 x t.1 p.report.tells t.2) f.1)

  front_is : (d rest : List ℕ) (n : ℕ) → length d ≡ n → take n (d ++ rest) ≡ d
  front_is d rest n e = take-append-le n d rest (omega arith) ∙ (ap (λ (m : ℕ). take m d) (sym e) ∙ take-length d)

  row_at : (requests : List (Option Req)) (place : ℕ) (row : ℤ × Vec ℕ) → AreRequests c requests → IsRow c requests taken lines place row → Some (row.0, row.1.items) ≡ row_of (ended lines h) (request_of c place)
  row_at requests place row at z =
      let is : request_of c place ≡ Some z.req = request_is c requests at place (Some z.req) z.request_is in
      let k = found z.req z.completion z.found in
      let entry : k.entry ≡ z.entry.sqe = handed_request c s (ended lines h) place z.req (record { entry = k.entry; bytes = k.bytes; last = k.end_of_batch }) z.entry legal keeps is z.entry_is k.handed_in in
      let res = z.completion.cqe.res in
      let long : length (data_of (ended lines h) z.req) ≡ data_count z.entry.sqe.op res = data_long s (ended lines h) z.req legal res (record { entry = k.entry; bytes = k.bytes; last = k.end_of_batch }) k.reply_is k.handed_in ∙ ap (λ (e : Entry). data_count e.op res) entry in
      let bytes : row.1.items ≡ data_of (ended lines h) z.req = z.row_is.bytes ∙ (ap (take (data_count z.entry.sqe.op res)) k.buffer ∙ front_is (data_of (ended lines h) z.req) (drop (length (data_of (ended lines h) z.req)) k.bytes) (data_count z.entry.sqe.op res) long) in
      let told : row_of (ended lines h) (Some z.req) ≡ Some (res, data_of (ended lines h) z.req) = ap (option_map (λ (v : ℤ). (v, data_of (ended lines h) z.req))) k.reply_is in
      (λ j. Some (z.row_is.reply j, bytes j)) ∙ (sym told ∙ ap (row_of (ended lines h)) (sym is))

  pub is_table : (requests : List (Option Req)) (rows : List (ℤ × Vec ℕ)) → AreRequests c requests → length rows ≡ length c.entries.items → AreRows c requests taken lines rows → IsTableOf c (map (λ (l : ℤ × Vec ℕ). (l.0, l.1.items)) rows)
  is_table requests rows at count each = (
    ended lines h,
    record {
      run = record { legal = legal; keeps = keeps };
      over = shut_ended h lines;
      has = record {
        all = length-map rows (λ (l : ℤ × Vec ℕ). (l.0, l.1.items)) ∙ count;
        each = λ place lt. ⊎_elim
            (λ (z : (x : ℤ × Vec ℕ) × (place < length rows) × (slice_get rows place ≡ Some x) × (get_or rows place x ≡ x)).
            slice_get-map (λ (l : ℤ × Vec ℕ). (l.0, l.1.items)) rows place ∙ (ap (option_map (λ (l : ℤ × Vec ℕ). (l.0, l.1.items))) z.2 ∙ row_at requests place z.0 at (each place z.0 z.2)))
            (λ (z : (length rows ≤ place) × (slice_get rows place ≡ None)). absurd (omega arith))
            (slice_get_cases rows place).1;
      };
    },
  )
