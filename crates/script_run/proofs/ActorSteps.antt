-- What an actor's calls make of it.
use Rattle.std.proofs.lemmas.Bool.Decides.{nat_tests}
use mathlib.Core.Logic.{dite}
use native.Mathlib.Decide.{ℕ_discrete}
use Rattle.steps.specs.Cells.{setup_of}
use Rattle.board.specs.declared.phase.Phase.{Phase}
use Rattle.board.specs.declared.phase.Phase.TheVariants.{Done, Gone}
use Rattle.board.specs.{Entries, submits_of, Goes, Stands, next_of}
use Rattle.script.specs.Requests.{request_of}
use Rattle.script_run.specs.declared.lines.Halt.{Halt}
use Rattle.script_run.proofs.Common.{Act, AreEntries, AreTaken, Carries, Completion, Event, Facts, Actor, ActorAt, SubmittedBatch, HasCarried, IfStuck, IsCarried, IsCompletion, IsFor, IsInVain, IsLowest, IsReplied, IsStuckLine, IsThrough, Legal, Line, List, None, Option, Pass, RanOut, Req, Role, Script, Some, Stayed, Submitter, TriedInVain, Vec, Went, [], add-one, ap, arith, drop, events_of, front_at, get_or, has_reply, holds_for, is_done, is_replied, length, line_done, line_handed, nat_lt, own_of, phase, reaped, refl, replied, rest_at, seen_by, seen_of, slice_get, slice_get_read, submits, subst, suc, sym, take, take-append-drop, take-length, true, true≢false, zero, ℕ, ⊎_elim, ◌++◌, ◌+◌, ◌<◌, ◌∙◌, ◌∷◌, ◌≡◌, ◌≤◌, ◌⊎◌}
use Rattle.script_run.proofs.ClientCalls.{taken_by_line, taken_more, carried_by, batch_handed}

-- a pass that went on has seen a legal history
went_legal : (b : Facts) (p q : Pass) (es : List Event) (g : Goes b p es q) → Legal (setup_of b.layout) (events_of (g.later ++ p.view.seen))
went_legal b p q es g = subst (λ (j : List Line). Legal (setup_of b.layout) (events_of j)) g.seen_is g.kept.legal

pub taken_on : (b : Facts) (p q : Pass) (es : List Event) (xs : List Completion) → Goes b p es q → AreTaken (seen_of p) xs → AreTaken (seen_of q) xs
taken_on b p q es xs g k = subst (λ (j : List Line). AreTaken (events_of j) xs) (sym g.seen_is) (taken_by_line (setup_of b.layout) g.later p.view.seen xs (went_legal b p q es g) k)

-- its own events actor nothing in
pub at_on : (b : Facts) (old new : Actor) (es : List Event) → new.client.ring ≡ old.client.ring → Goes b old.client.submitter es new.client.submitter → submits es old.client.ring ≡ 0 → (c : Script) (acts : List Act) (n : ℕ) → ActorAt c acts n old → ActorAt c acts n new
at_on b old new es ring g none c acts n k =
    let p = old.client.submitter in let q = new.client.submitter in
    let i : ℕ = old.client.ring in
    let own : own_of (Submitter i) g.later ≡ es = subst (λ (z : Role). own_of z g.later ≡ es) k.role g.own in
    let on : HasCarried c i acts n (seen_of q) = subst (λ (j : List Line). HasCarried c i acts n (events_of j)) (sym g.seen_is)
    (carried_by c (setup_of b.layout) i acts n g.later p.view.seen (went_legal b p q es g) (ap (λ h. submits h i) own ∙ none) k.carried) in
    record {
      role = g.role_is ∙ (k.role ∙ ap Submitter (sym ring));
      carried = subst (λ (z : ℕ). HasCarried c z acts n (seen_of q)) (sym ring) on;
    }

-- it looked, or was refused
pub went_looked : (b : Facts) (old new : Actor) → new.client.board ≡ old.client.board → new.client.ring ≡ old.client.ring → new.taken.items ≡ old.taken.items → new.halt ≡ old.halt → Goes b old.client.submitter [] new.client.submitter → Went old new
went_looked b old new board ring taken halt g = record {
  stayed = record {
    board = board;
    ring = ring;
    role = g.role_is;
    taken = λ k. subst (AreTaken (seen_by new)) (sym taken) (taken_on b old.client.submitter new.client.submitter [] old.taken.items g k);
  };
  at = at_on b old new [] ring g refl;
  halt = halt;
}

-- it took a completion
pub went_took : (b : Facts) (old new : Actor) (x : Completion) → new.client.board ≡ old.client.board → new.client.ring ≡ old.client.ring → new.taken.items ≡ old.taken.items ++ x ∷ [] → new.halt ≡ old.halt
    → Goes b old.client.submitter (Event.Reap x.req ∷ []) new.client.submitter → IsCompletion (seen_by new) x.req x → Went old new
went_took b old new x board ring taken halt g is = record {
  stayed = record {
    board = board;
    ring = ring;
    role = g.role_is;
    taken = λ k. subst (AreTaken (seen_by new)) (sym taken) (taken_more (seen_by new) old.taken.items x (taken_on b old.client.submitter new.client.submitter (Event.Reap x.req ∷ []) old.taken.items g k) is);
  };
  at = at_on b old new (Event.Reap x.req ∷ []) ring g refl;
  halt = halt;
}

pub went_still : (old new : Actor) → new.client ≡ old.client → new.taken.items ≡ old.taken.items → new.halt ≡ old.halt → Went old new
went_still old new client taken halt = record {
  stayed = record {
    board = ap (λ x. x.board) client;
    ring = ap (λ x. x.ring) client;
    role = ap (λ x. x.submitter.view.role) client;
    taken = λ k. subst (λ x. AreTaken (seen_of x.submitter) new.taken.items) (sym client) (subst (AreTaken (seen_by old)) (sym taken) k);
  };
  at = λ c acts n k. record { role = ap (λ x. x.submitter.view.role) client ∙ (k.role ∙ ap (λ x. Submitter x.ring) (sym client)); carried = subst (λ x. HasCarried c x.ring acts n (seen_of x.submitter)) (sym client) k.carried };
  halt = halt;
}

pub stayed_then : (x y z : Actor) → Stayed x y → Stayed y z → Stayed x z
stayed_then x y z a b = record { board = b.board ∙ a.board; ring = b.ring ∙ a.ring; role = b.role ∙ a.role; taken = λ k. b.taken (a.taken k) }

pub went_then : (x y z : Actor) → Went x y → Went y z → Went x z
went_then x y z a b = record { stayed = stayed_then x y z a.stayed b.stayed; at = λ c acts n k. b.at c acts n (a.at c acts n k); halt = b.halt ∙ a.halt }

-- ---- a line

pub carries_batch : (c : Script) (places : Vec ℕ) (xs : Entries) (old mid new : Actor) → AreEntries c places.items xs → Went old mid → SubmittedBatch xs mid new → Carries c (Act.Submit places) old new
carries_batch c places xs old mid new are w h = record {
  stayed = stayed_then old mid new w.stayed h.stayed;
  at = λ v acts left at lines k. (
      let b : Facts = mid.client.board in let g = h.goes in let p = mid.client.submitter in let q = new.client.submitter in
      let i : ℕ = mid.client.ring in
      let m = w.at c acts 0 k in
      let all = submits_of i (submits (seen_by mid) i) xs in
      let own : own_of (Submitter i) g.later ≡ all = subst (λ (z : Role). own_of z g.later ≡ all) m.role g.own in
      let on : HasCarried c i acts (length places.items) (seen_of q) = subst (λ (j : List Line). HasCarried c i acts (length places.items) (events_of j)) (sym g.seen_is)
      (batch_handed c (setup_of b.layout) i (submits (seen_by mid) i) v acts left places xs p.view.seen (ap (slice_get c.acts.items) w.stayed.ring ∙ at) lines are g.later (went_legal b p q all g) own m.carried) in
      record {
        role = g.role_is ∙ (m.role ∙ ap Submitter (sym h.stayed.ring));
        carried = subst (λ (z : ℕ). HasCarried c z (acts ++ Act.Submit places ∷ []) 0 (seen_of q)) (sym h.stayed.ring) (line_handed c i acts places (seen_of q) on);
      });
}

replied_test : (h : List Event) (r : Req) → IsReplied (phase h r) → is_replied (phase h r) ≡ true
replied_test h r i = elim (phase h r) as (λ p. IsReplied p → is_replied p ≡ true) [ Rattle.history.specs.History.unborn ↦ λ z. absurd z | Rattle.history.specs.History.waits ↦ λ z. absurd z | Rattle.history.specs.History.runs ↦ λ z. absurd z | Rattle.history.specs.History.armed d ↦ λ z. absurd z | replied c res ↦ λ z. refl | reaped c res ↦ λ z. refl ] i

pub carries_wait : (c : Script) (p : ℕ) (r : Req) (old new : Actor) → request_of c p ≡ Some r → Went old new → IsReplied (phase (seen_by new) r) → Carries c (Act.Wait p) old new
carries_wait c p r old new is w i = record {
  stayed = w.stayed;
  at = λ v acts left at lines k. (
      let m = w.at c acts 0 k in
      let done : is_done c (seen_by new) (Act.Wait p) ≡ true = ap (holds_for is_replied (seen_by new)) is ∙ replied_test (seen_by new) r i in
      record { role = m.role; carried = line_done c new.client.ring acts p (seen_by new) done m.carried });
}

-- ---- where a request stands that was found

pub reply_found : (j : List Line) (r : Req) (x : Phase) → Stands j r x → has_reply (Some x) ≡ true → IsReplied (phase (events_of j) r)
reply_found j r Gone s w = subst IsReplied (sym s.2) tt
reply_found j r (Done n) s w = subst IsReplied (sym s.1) tt
reply_found j r _ s w = absurd (true≢false (sym w))

-- an element is the same whatever stands past the end
same_at : (xs : List Actor) (k : ℕ) (d e : Actor) → k < length xs → get_or xs k e ≡ get_or xs k d
same_at [] k d e lt = absurd (omega arith)
same_at (x ∷ xs) zero d e lt = refl
same_at (x ∷ xs) (suc k) d e lt = same_at xs k d e (omega arith)

pub went_same : (x y : Actor) → y ≡ x → Went x y
went_same x y is = subst (Went x) (sym is) (went_still x x refl refl refl)

-- ---- a batch that was handed in

pub handed : (old new : Actor) (r : Req) (xs : Entries) → new.client.board ≡ old.client.board → new.client.ring ≡ old.client.ring → new.taken ≡ old.taken → r ≡ next_of old.client.submitter old.client.ring
    → Goes old.client.board old.client.submitter (submits_of old.client.ring r.k xs) new.client.submitter → SubmittedBatch xs old new
handed old new r xs board ring taken first g =
    let all = submits_of old.client.ring (submits (seen_by old) old.client.ring) xs in
    let goes : Goes old.client.board old.client.submitter all new.client.submitter = subst (λ (z : Req). Goes old.client.board old.client.submitter (submits_of old.client.ring z.k xs) new.client.submitter) first g in
    record {
      stayed = record {
        board = board;
        ring = ring;
        role = g.role_is;
        taken = λ k. subst (λ (z : Vec Completion). AreTaken (seen_by new) z.items) (sym taken) (taken_on old.client.board old.client.submitter new.client.submitter all old.taken.items goes k);
      };
      goes = goes;
    }

-- ---- the lines of a ring, one after another

-- an element of a list, read from one that is the same
pub element_at : {X : Type 0} (xs read : List X) (v : X) (n i : ℕ) → read ≡ xs → n ≡ i → true ≡ nat_lt n (length read) → v ≡ get_or read n v → slice_get xs i ≡ Some v
element_at {X} xs read v n i same at lt is = subst (λ (z : List X × ℕ). slice_get z.0 z.1 ≡ Some v) (λ j. (same j, at j)) (slice_get_read read (length read) n v refl (grind (arith, nat_tests)) is)

pub line_carried : (c : Script) (v : Vec Act) (xs : List Act) (i : ℕ) (a : Act) (old new : Actor) → xs ≡ v.items → i < length xs → a ≡ get_or xs i a → slice_get c.acts.items old.client.ring ≡ Some v → Carries c a old new → ActorAt c (take i xs) 0 old → ActorAt c (take (i + 1) xs) 0 new
line_carried c v xs i a old new same lt is at k h =
    let rest = rest_at xs i a lt is in
    let parts : v.items ≡ take i xs ++ a ∷ drop (i + 1) xs = sym same ∙ (sym (take-append-drop i xs) ∙ ap (λ (z : List Act). take i xs ++ z) rest) in
    subst (λ (z : List Act). ActorAt c z 0 new) (sym (front_at xs i a lt is)) (k.at v (take i xs) (drop (i + 1) xs) at parts h)

-- all lines are carried out
pub all_carried : (c : Script) (v : Vec Act) (xs : List Act) (i : ℕ) (h : Actor) → xs ≡ v.items → i ≤ length xs → length xs ≤ i → slice_get c.acts.items h.client.ring ≡ Some v → ActorAt c (take i xs) 0 h → IsThrough c h
all_carried c v xs i h here below above at k w same =
    let one : v ≡ w = cc in
    let whole : take i xs ≡ xs = ap (λ (n : ℕ). take n xs) (let z : i ≡ length xs = omega arith in z) ∙ take-length xs in
    subst (λ (z : Vec Act). ActorAt c z.items 0 h) one (subst (λ (z : List Act). ActorAt c z 0 h) (whole ∙ here) k)

-- ---- a line that runs out of tries

-- one try more, before and after which it took completions
pub tried_more : (c : Script) (act : Act) (n : ℕ) (old mid first last new : Actor) → TriedInVain c act n old mid → Went mid first → IsInVain c act first last → Went last new → TriedInVain c act (n + 1) old new
tried_more c act n old mid first last new tries before vain after = subst (λ (k : ℕ). TriedInVain c act k old new) (sym (add-one n)) (mid, tries, record { first = first; last = last; before = before; tried = vain; after = after })

pub ran_out : (c : Script) (act : Act) (turns tries p : ℕ) (old new : Actor) → tries ≤ turns → turns ≤ tries → IsFor act p → TriedInVain c act tries old new → RanOut c turns act p old new
ran_out c act turns tries p old new below above is_for k = record { is_for = is_for; tried = subst (λ (n : ℕ). TriedInVain c act n old new) (let same : tries ≡ turns = omega arith in same) k }

-- the line at a place of the ring's lines
pub stuck_at : (c : Script) (turns p : ℕ) (v : Vec Act) (xs : List Act) (i : ℕ) (a : Act) (old new : Actor) → xs ≡ v.items → i < length xs → a ≡ get_or xs i a → slice_get c.acts.items old.client.ring ≡ Some v → new.client.ring ≡ old.client.ring
    → ActorAt c (take i xs) 0 old → RanOut c turns a p old new → IsStuckLine c turns p new
stuck_at c turns p v xs i a old new same lt is at ring k out = record {
  lines = v;
  lines_are = ap (slice_get c.acts.items) ring ∙ at;
  done = take i xs;
  act = a;
  left = drop (i + 1) xs;
  split = sym same ∙ (sym (take-append-drop i xs) ∙ ap (λ (z : List Act). take i xs ++ z) (rest_at xs i a lt is));
  from = old;
  at = k;
  to = new;
  same = refl;
  out = out;
}

-- the same actor, but for why it was stopped
pub carried_as : (c : Script) (h new : Actor) → new.client ≡ h.client → new.taken ≡ h.taken → IsCarried c h → IsCarried c new
carried_as c h new client taken k = record {
  through = λ v at. (
      let x = k.through v (ap (λ z. slice_get c.acts.items z.ring) (sym client) ∙ at) in
      record { role = ap (λ z. z.submitter.view.role) client ∙ (x.role ∙ ap (λ z. Submitter z.ring) (sym client)); carried = subst (λ z. HasCarried c z.ring v.items 0 (seen_of z.submitter)) (sym client) x.carried });
  taken = subst (λ z. AreTaken (seen_of z.submitter) new.taken.items) (sym client) (subst (λ (z : Vec Completion). AreTaken (seen_by h) z.items) (sym taken) k.taken);
}

pub stuck_as : (c : Script) (turns p : ℕ) (h new : Actor) → new.client ≡ h.client → IsStuckLine c turns p h → IsStuckLine c turns p new
stuck_as c turns p h new client k = record {
  lines = k.lines;
  lines_are = ap (λ x. slice_get c.acts.items x.ring) client ∙ k.lines_are;
  done = k.done;
  act = k.act;
  left = k.left;
  split = k.split;
  from = k.from;
  at = k.at;
  to = k.to;
  same = client ∙ k.same;
  out = k.out;
}

pub if_stuck : (P Q : ℕ → Type 0) (h : Halt) → ((p : ℕ) → P p → Q p) → IfStuck P h → IfStuck Q h
if_stuck P Q (Halt.Stuck p) f k = f p k
if_stuck P Q _ f k = tt

-- the halt that is told of one actor more
pub halts_more : (actors : List Actor) (i : ℕ) (h : Actor) (old new : Option Halt) → i < length actors → h ≡ get_or actors i h
    → (new ≡ None → (old ≡ None) × (h.halt ≡ None)) → ((p : ℕ) → new ≡ Some (Halt.Stuck p) → (old ≡ Some (Halt.Stuck p)) ⊎ ((old ≡ None) × (h.halt ≡ Some (Halt.Stuck p))))
    → (old ≡ None → (k : ℕ) (d : Actor) → k < i → (get_or actors k d).halt ≡ None) → ((p : ℕ) → old ≡ Some (Halt.Stuck p) → IsLowest actors i p)
    → (new ≡ None → (k : ℕ) (d : Actor) → k < i + 1 → (get_or actors k d).halt ≡ None) × ((p : ℕ) → new ≡ Some (Halt.Stuck p) → IsLowest actors (i + 1) p)
halts_more actors i h old new lt is told_none told_stuck none stuck = (
  λ w k d in'. (let e = told_none w in dite (ℕ_discrete k i)
      (λ same. ap (λ (z : ℕ). (get_or actors z d).halt) same ∙ (at d ∙ e.1))
      (λ other. none e.0 k d (omega arith))),
  λ p w. ⊎_elim
      (λ (x : old ≡ Some (Halt.Stuck p)). (let low = stuck p x in let below = low.below in record { ring = low.ring; below = omega arith; stuck = low.stuck; lower = low.lower }))
      (λ (x : (old ≡ None) × (h.halt ≡ Some (Halt.Stuck p))). record { ring = i; below = omega arith; stuck = λ d. at d ∙ x.1; lower = λ k d under. none x.0 k d under })
      (told_stuck p w),
) where
  at : (d : Actor) → (get_or actors i d).halt ≡ h.halt
  at d = ap (λ (z : Actor). z.halt) (same_at actors i h d lt ∙ sym is)
