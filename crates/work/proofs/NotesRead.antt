-- What the notes of a request tell the worker that runs it; and what a run came to that began with looks at them.
use Rattle.answers.specs.declared.named.NamedPipes.{NamedPipes}
use Rattle.answers.specs.declared.named.NamedPipes.TheVariants.{Nothing, One, Both}
use Rattle.claim.specs.Facts.{Facts}
use Rattle.steps.specs.Notes.{row_number}
use Rattle.steps.proofs.FactsRead.{parts_of, parts_small, row_small, same_facts}
use Rattle.steps.proofs.NotesKept.{lent_out, notes_are}
use Rattle.work.specs.declared.run.Parked.{Parked as Reason}
use Rattle.work.specs.declared.run.Parked.TheVariants.{NotReady, PipeBusy}
use Rattle.work.specs.declared.run.Ran.{Ran}
use Rattle.work.specs.declared.run.Ran.TheVariants.{Replied, Parked}
use Rattle.work.proofs.Common.{Begin, Begins, Bool, Busy, Cause, Did, EndsBy, Entry, Event, Extends, FewSteps, FoundOut, HasStepped, HasWoken, IsPlaced, IsReaped, IsReason, IsRun, IsStep, IsTrue, IsUnderway, LaidDown, Legal, Line, LinkTimeout, List, Looks, None, NoneOf, Nop, NotesSay, Op, Option, Submission, Park, Pass, ReadNotes, Reply, Req, Role, Running, RunsIt, Saw, Setup, Some, Step, StepsAt, StepsBy, TableId, Took, View, WakesAt, Wanted, [], ap, append_assoc, arith, bool_cases, cells_in, claim_at, cond, event_of, events_of, facts_at, false, fits_facts, inl, inr, lasts, length-append, lent, ne_eqb, noted, notes_read, op_run, own_of, owns, packed_facts, phase, placed_lasts, refl, replied, run_as, runs, same_itself, seeing, seen_of, setup_of, steps_at, still_runs, submission, submitted_in, subst, sym, true, unborn, user_at, wanted_in, was_shut, ℕ, ℤ, ⊎_elim, ◌*◌, ◌++◌, ◌+◌, ◌==◌, ◌∙◌, ◌∷◌, ◌≡◌, ◌⊎◌}
use Rattle.work.proofs.CancelSearch.{steps_both}
use Rattle.work.proofs.RunsKept.{begins_both, runs_placed, took_both}

-- ---- the notes of what runs are its own

pub underway_begun : (v w : View) (r : Req) → Extends v (Did (Begin r)) (Busy r) w → IsUnderway w r
underway_begun v w r e = ap (λ (z : View). phase (events_of z.seen) r) e.is ∙ ap (λ (b : Bool). cond b runs (phase (events_of e.mid) r)) (same_itself r)

pub underway_still : (v w : View) (r : Req) → v.role ≡ Busy r → Looks v w → IsUnderway v r → IsUnderway w r
underway_still v w r busy e is = subst (λ (j : List Line). phase (events_of j) r ≡ runs) (sym (ap (λ (z : View). z.seen) e.is ∙ e.saw.is))
    (still_runs (setup_of v.layout) r e.saw.later v.seen (subst (λ (j : List Line). Legal (setup_of v.layout) (events_of j)) e.saw.is e.legal) (subst (λ (j : List Line). was_shut (events_of j) ≡ false) e.saw.is e.live) (subst (λ (z : Role). NoneOf z e.saw.later) busy e.saw.none) is)

module _ (table : TableId) (v : View) (x g : ℕ) (r : Req) (p : Submission) (pipes : ℕ) (k : RunsIt table v x g r p pipes) (underway : IsUnderway v r) where
  say : NotesSay v.layout.cells v.seen x g (record { entry = p.sqe; bytes = k.submission.0; last = p.last }) (run_as p.sqe)
  say = notes_are v.layout (setup_of v.layout) x k.fits.1 g v.seen k.legal k.orderly _ _
      (subst (λ (q : Req). submission (events_of v.seen) q ≡ Some (record { entry = p.sqe; bytes = k.submission.0; last = p.last })) (sym k.req_is) k.submission.1)
      (subst (λ (q : Req). IsPlaced (events_of v.seen) q (run_as p.sqe)) (sym k.req_is) (runs_placed table v v x g r p pipes k))
      (λ z. subst IsReaped (ap (λ (q : Req). phase (events_of v.seen) q) k.req_is ∙ underway) z)

  -- its slot is not out for a Reap
  at_home : lent v.seen r ≡ false
  at_home = ⊎_elim
      (λ (u : lent v.seen r ≡ true). absurd (⊎_elim
      (λ (e : phase (events_of v.seen) r ≡ unborn). (let z = sym underway ∙ e in cc))
      (λ (e : (c : Cause) × (res : ℤ) × (phase (events_of v.seen) r ≡ replied c res)). (let z = sym underway ∙ e.2 in cc))
      (lent_out v.layout (setup_of v.layout) v.seen r k.legal k.orderly u)))
      (λ (u : lent v.seen r ≡ false). u) (bool_cases (lent v.seen r))

  pub row_told : (w : Facts) → IsTrue (fits_facts w) → packed_facts w ≡ noted v.seen (facts_at x) → w.row ≡ row_number (op_run p.sqe.op)
  row_told w fits is = let s = parts_small w fits in
      (same_facts w (parts_of g (run_as p.sqe) p.last) s.0 k.fits.3 s.1 (row_small (op_run p.sqe.op)) (is ∙ say.facts (subst (λ (q : Req). lent v.seen q ≡ false) (sym k.req_is) at_home))).row

  pub user_told : noted v.seen (user_at x) ≡ p.sqe.user_data
  user_told = say.user_data

-- what was placed stays so once the worker has looked
pub placed_looked : (table : TableId) (v w : View) (x g : ℕ) (r : Req) (p : Submission) (pipes : ℕ) → RunsIt table v x g r p pipes → Looks v w → (e : Entry) → IsPlaced (events_of v.seen) r e → IsPlaced (events_of w.seen) r e
placed_looked table v w x g r p pipes k l e is = let S : Setup = setup_of v.layout in
    subst (λ (j : List Line). IsPlaced (events_of j) r e) (sym (ap (λ (z : View). z.seen) l.is ∙ l.saw.is)) (lasts S (λ h. IsPlaced h r e) r (placed_lasts S r e) l.saw.later v.seen (subst (λ (j : List Line). Legal S (events_of j)) l.saw.is l.legal) (submitted_in S v.seen r _ k.legal k.submission.1) is)

pub is_nop : (op : Op) → row_number (op_run op) ≡ 0 → op ≡ Nop
is_nop Nop e = refl
is_nop op e = absurd (omega arith)

pub reads_one : (op : Op) → ¬ (row_number (op_run op) ≡ 0) → notes_read op ≡ 1
reads_one Nop n = absurd (n refl)
reads_one op n = refl

-- as it is placed it is read as it was handed in
pub reads_run : (op : Op) → notes_read (op_run op) ≡ notes_read op
reads_run (LinkTimeout ticks) = refl
reads_run op = refl

-- the steps at the notes
apart : (s : Step) (x y : ℕ) → (s.word ≡ facts_at y) ⊎ (s.word ≡ user_at y) → (l : List Step) → steps_at (claim_at x) l ≡ 0 → steps_at (claim_at x) (s ∷ l) ≡ 0
apart s x y at l e =
    let off : (s.word == claim_at x) ≡ false = ne_eqb s.word (claim_at x) (⊎_elim
    (λ (k : s.word ≡ facts_at y). λ z. absurd (let m : ℕ = s.word in let k' : m ≡ facts_at y = k in let z' : m ≡ claim_at x = z in omega arith))
    (λ (k : s.word ≡ user_at y). λ z. absurd (let m : ℕ = s.word in let k' : m ≡ user_at y = k in let z' : m ≡ claim_at x = z in omega arith)) at) in
    let n : ℕ = steps_at (claim_at x) l in let m : ℕ = cond (s.word == claim_at x) 1 0 in let here : m ≡ 0 = ap (λ (b : Bool). cond b 1 0) off in let e' : n ≡ 0 = e in omega arith

pub read_one : (v w : View) (x found : ℕ) → IsStep (facts_at x) found v w → ReadNotes v w 1
read_one v w x found is = let s : Step = record { word = facts_at x; found = found; seen = w.seen } in record { steps = s ∷ []; is = is; bare = λ y. apart s y x (inl refl) [] refl; count_is = refl }

pub read_two : (v m w : View) (x found then' : ℕ) → IsStep (facts_at x) found v m → IsStep (user_at x) then' m w → ReadNotes v w 2
read_two v m w x found then' a b = let s : Step = record { word = facts_at x; found = found; seen = m.seen } in let t : Step = record { word = user_at x; found = then'; seen = w.seen } in record {
  steps = t ∷ s ∷ [];
  is = b ∙ ap (λ (l : List Step). t ∷ l) a;
  bare = λ y. apart t y x (inr refl) (s ∷ []) (apart s y x (inl refl) [] refl);
  count_is = refl;
}

-- ---- a run that began with looks

none_own : (role : Role) (l : List Line) → NoneOf role l → own_of role l ≡ []
none_own role [] n = refl
none_own role (x ∷ l) n = ap (λ (b : Bool). cond b (event_of x (own_of role l)) (own_of role l)) n.0 ∙ none_own role l n.1

own_before : (role : Role) (k l : List Line) → own_of role l ≡ [] → own_of role (k ++ l) ≡ own_of role k
own_before role [] l n = n
own_before role (x ∷ k) l n = ap (λ (h : List Event). cond (owns role x) (event_of x h) h) (own_before role k l n)

-- the same of this request, by this view
abbrev pub seen_as : Running → View × Req → Running
seen_as a z = record a { pass = record a.pass { view = z.0 }; req = z.1 }

module _ (b c : Running) (w : Pass) (a : List Line) (t : List Step) (saw : Saw b.pass.view.role b.pass.view.seen a) (busy : b.pass.view.role ≡ Busy b.req) where
  abbrev v : View
  v = b.pass.view

  abbrev m : View
  m = seeing v v.role a t

  abbrev d : Running
  d = seen_as c (m, b.req)

  begins_there : (j : List Line) → Begins j a → Begins j v.seen
  begins_there j is = begins_both v.seen a j (saw.later, saw.is) is

  ends_there : (first : List Event) (e : Event) → EndsBy m w.view b.req first e → EndsBy v w.view b.req first e
  ends_there first e k = record {
    later = k.later ++ saw.later;
    seen_is = k.seen_is ∙ ap (λ (j : List Line). Did e ∷ j) (ap (λ (j : List Line). k.later ++ j) saw.is ∙ sym (append_assoc k.later saw.later v.seen));
    own = own_before (Busy b.req) k.later saw.later (none_own (Busy b.req) saw.later (subst (λ (z : Role). NoneOf z saw.later) busy saw.none)) ∙ k.own;
    role_is = k.role_is;
  }

  laid_there : (p : ℕ) (out : List Req) → LaidDown m w.view b.req p out → LaidDown v w.view b.req p out
  laid_there p out k = record { at = k.at; laid = k.laid; after = begins_there k.at k.after; before = k.before; lies = k.lies; out_is = k.out_is }

  wakes_there : (named : NamedPipes) (ran : Ran) → WakesAt named d w ran → WakesAt named b w ran
  wakes_there Nothing ran k = k
  wakes_there (One p) (Replied cqe) k = k
  wakes_there (One p) (Parked NotReady) k = laid_there p w.woken k
  wakes_there (One p) (Parked PipeBusy) k = k
  wakes_there (Both s u) (Replied cqe) k = k
  wakes_there (Both s u) (Parked NotReady) k = (k.0, k.1, laid_there s k.0 k.2, laid_there u k.1 k.3, k.4)
  wakes_there (Both s u) (Parked PipeBusy) k = k

  out_there : (s : List Step) → t ≡ s ++ v.steps → (p : ℕ) → FoundOut m w.view b.req p → FoundOut v w.view b.req p
  out_there s is p k = record {
    before = k.before ++ s;
    step = k.step;
    after = k.after;
    steps = k.steps ∙ ap (λ (l : List Step). k.after ++ (k.step ∷ l)) (ap (λ (l : List Step). k.before ++ l) is ∙ sym (append_assoc k.before s v.steps));
    word_is = k.word_is;
    out = k.out;
    other = k.other;
    holds = k.holds;
    is_other = k.is_other;
  }

  steps_there : (n : ℕ) → ReadNotes v m n → (named : NamedPipes) (ran : Ran) → StepsAt 0 named m w.view b.req ran → StepsAt n named v w.view b.req ran
  steps_there n r named ran k = by named ran k where
    then_took : (i : ℕ) → Took m w.view i → Took v w.view (i + n)
    then_took i z = took_both v m w.view n i (r.steps, r.count_is, r.is) z

    by : (named : NamedPipes) (ran : Ran) → StepsAt 0 named m w.view b.req ran → StepsAt n named v w.view b.req ran
    by Nothing (Replied cqe) z = then_took 1 z
    by Nothing (Parked why) z = absurd z
    by (One p) (Replied cqe) z = then_took 3 z
    by (One p) (Parked NotReady) z = then_took 3 z
    by (One p) (Parked PipeBusy) z = then_took 2 z
    by (Both s u) (Replied cqe) z = then_took 5 z
    by (Both s u) (Parked NotReady) z = then_took 5 z
    by (Both s u) (Parked PipeBusy) z = ⊎_elim
        (λ (y : Took m w.view 2 × FoundOut m w.view b.req s). inl (then_took 2 y.0, out_there r.steps r.is s y.1))
        (λ (y : Took m w.view 4 × FoundOut m w.view b.req u). inr (then_took 4 y.0, out_there r.steps r.is u y.1)) z

  few_there : (n k all : ℕ) → ReadNotes v m n → FewSteps m w.view k (0 + all) → FewSteps v w.view k (n + all)
  few_there n k all r f = record {
    steps = f.steps ++ r.steps;
    is = f.is ∙ (ap (λ (l : List Step). f.steps ++ l) r.is ∙ sym (append_assoc f.steps r.steps v.steps));
    few = λ x. (let i = steps_both (claim_at x) f.steps r.steps in let j = r.bare x in let l = f.few x in omega arith);
    most = (let i = length-append f.steps r.steps in let j = r.count_is in let l = f.most in omega arith);
  }

  stepped_there : (e : Entry) (n : ℕ) → ReadNotes v m n → (asked : Option Wanted) (ran : Ran) → StepsBy 0 asked d w.view e ran → StepsBy n asked b w.view e ran
  stepped_there e n r (Some u) ran k = few_there n 4 (5 * cells_in v.layout.cells b.req.ring) r k
  stepped_there e n r None ran k = (k.0, k.1, steps_there n r k.0 ran k.2)

  reason_there : (e : Entry) (n : ℕ) → ReadNotes v m n → (p : ℕ) (why : Reason) → IsReason m w.view b.req e p why → IsReason v w.view b.req e p why
  reason_there e n r p NotReady k = record { at = k.at; after = begins_there k.at k.after; before = k.before; legal = k.legal; has = k.has; none = k.none }
  reason_there e n r p PipeBusy k = out_there r.steps r.is p k

  module _ (placed_then : (e : Entry) → IsPlaced (seen_of b.pass) b.req e → IsPlaced (events_of a) b.req e) (notes : (e : Entry) → IsPlaced (seen_of b.pass) b.req e → ReadNotes v m (notes_read e.op)) where
    pub woken_then : (e : Entry) (ran : Ran) → HasWoken d w e ran → HasWoken b w e ran
    woken_then e ran k = (k.0, k.1, wakes_there k.0 ran k.2)

    pub stepped_then : (ran : Ran) → ((e : Entry) → IsPlaced (events_of a) b.req e → StepsBy 0 (wanted_in e.op) d w.view e ran) → (e : Entry) → IsPlaced (seen_of b.pass) b.req e → HasStepped b w.view e ran
    stepped_then ran k e is = stepped_there e (notes_read e.op) (notes e is) (wanted_in e.op) ran (k e (placed_then e is))

    pub ran_then : (ran : Ran) → IsRun d w ran → IsRun b w ran
    ran_then (Replied cqe) k = (
      record { data' = k.0.data'; own = k.0.own; ends = ends_there k.0.own (Reply b.req cqe.res k.0.data') k.0.ends; hits = k.0.hits; took_is = k.0.took_is; few = λ e is. k.0.few e (placed_then e is) },
      λ e is. k.1 e (placed_then e is),
    )
    ran_then (Parked why) k = (ends_there [] (Park b.req) k.0, k.1, λ e is. (let z = k.2 e (placed_then e is) in (z.0, z.1, z.2, reason_there e (notes_read e.op) (notes e is) z.0 why z.3)))
