-- What is tested of a batch, and what its submission comes to, entry by entry.
use Rattle.std.proofs.Common.{append-nil}
use Rattle.std.proofs.Math.Seq.{drop-cons}
use Rattle.std.specs.Global.{Vec}
use Rattle.steps.specs.Notes.{words_in}
use Rattle.board.specs.Refusals.{RefusesBatch}
use Rattle.board.specs.declared.error.SubmitError.{SubmitError}
use Rattle.board.specs.declared.error.SubmitError.TheVariants.{Full, Spent}
use Rattle.board.proofs.Common.{AreFit, AreSteps, Bool, Did, EndsWith, Entries, Entry, Event, ExtendsAfter, ExtendsNoted, Facts, Goes, IsFree, IsReady, Lending, Line, List, None, Pass, RefusesRoom, Req, Some, Submit, Submitter, Took, View, [], ap, append_assoc, arith, before_in, cells_in, claim_at, cond, count_notes, count_of, drop, eq-eqb, events_of, facts_at, false, get_or, is_empty, is_timeout, length, ne_eqb, notes_of, nth, own_of, refl, same_submits, seen_of, steps_for, steps_in, submits, submits_after, submits_of, submitter_can, subst, suc, sym, took_both, true, zero, ℕ, ◌++◌, ◌+◌, ◌/◌, ◌<◌, ◌==◌, ◌∙◌, ◌∷◌, ◌≡◌, ◌≤◌}
use Rattle.board.proofs.GoesLaws.{goes_still, events_before, own_both}
use Rattle.board.proofs.QueuesKept.{just_before}
use Rattle.board.proofs.SubmitterSeats.{lends_it}
use Rattle.board.proofs.SubmitterLooks.{free_then}

-- what is left of a batch from its i-th entry on
pub left_at : (xs : Entries) (i : ℕ) (x : Entry × Vec ℕ) → i < length xs → x ≡ get_or xs i x → drop i xs ≡ x ∷ drop (suc i) xs
left_at xs i x lt is = drop-cons xs i x lt ∙ ap (λ (z : Entry × Vec ℕ). z ∷ drop (suc i) xs) (sym is)

pub none_left : (xs : Entries) (i : ℕ) → length xs ≤ i → drop i xs ≡ []
none_left [] zero le = refl
none_left [] (suc i) le = refl
none_left (x ∷ xs) zero le = absurd (omega arith)
none_left (x ∷ xs) (suc i) le = none_left xs i (omega arith)

-- ---- a pass that continues with several events of its own

pub goes_more : (b : Facts) (p m q : Pass) (e : Event) (es : List Event) → Goes b p es m → Goes b m (e ∷ []) q → Goes b p (e ∷ es) q
goes_more b p m q e es x y = record {
  kept = y.kept;
  role_is = y.role_is ∙ x.role_is;
  later = y.later ++ x.later;
  seen_is = y.seen_is ∙ (ap (λ (j : List Line). y.later ++ j) x.seen_is ∙ sym (append_assoc y.later x.later p.view.seen));
  own = own_both p.view.role y.later x.later ∙ ((λ i. own_of (sym x.role_is i) y.later ++ x.own i) ∙ ap (λ (h : List Event). h ++ es) y.own);
  last = subst (EndsWith (e ∷ es)) (sym (events_before y.later x.later)) (y.last.0 ++ events_of x.later, ap (λ (z : List Event). z ++ events_of x.later) y.last.1);
}

-- ---- a batch, entry by entry

-- a submitter that has submitted some of a batch, and may submit the rest
pub record Going (b : Facts) (p q : Pass) (ring k : ℕ) (all rest : Entries) : Type 0 where
  pub at : ℕ
  pub done : List Event
  pub goes : Goes b p done q
  pub events : submits_of ring k all ≡ submits_of ring at rest ++ done
  pub ready : IsReady b q ring at rest
  pub took : (n : ℕ) × Took p.view q.view n × (n + steps_in rest ≡ steps_in all)

pub going_start : (b : Facts) (p : Pass) (ring k : ℕ) (all : Entries) → IsReady b p ring k all → Going b p p ring k all all
going_start b p ring k all r = record {
  at = k;
  done = [];
  goes = goes_still b p r.of;
  events = sym (append-nil (submits_of ring k all));
  ready = r;
  took = (0, ([], refl, refl), omega arith);
}

pub going_more : (b : Facts) (p q w : Pass) (ring k : ℕ) (all rest : Entries) (x : Entry × Vec ℕ) (r : Req) (last : Bool) (g : Going b p q ring k all (x ∷ rest)) → last ≡ is_empty rest → r ≡ nth ring g.at → Goes b q (Submit r x.0 x.1.items last ∷ []) w → Took q.view w.view (steps_for x.0)
    → submits (seen_of w) ring ≡ g.at + 1 → Going b p w ring k all rest
going_more b p q w ring k all rest x r last g ends is goes took next = let e : Event = Submit (nth ring g.at) x.0 x.1.items (is_empty rest) in let y = g.ready in
    let go : Goes b q (e ∷ []) w = subst (λ (z : Req × Bool). Goes b q (Submit z.0 x.0 x.1.items z.1 ∷ []) w) (λ i. (is i, ends i)) goes in
    let at : suc g.at ≡ g.at + 1 = omega arith in record {
      at = suc g.at;
      done = e ∷ g.done;
      goes = goes_more b p q w e g.done g.goes go;
      events = g.events ∙ append_assoc (submits_of ring (suc g.at) rest) (e ∷ []) g.done;
      ready = record {
        of = go.kept;
        role = go.role_is ∙ y.role;
        next = at ∙ sym next;
        free = λ i lt. subst (λ (z : ℕ). IsFree b.layout.cells (seen_of w) (nth ring z)) (let e' : g.at + suc i ≡ suc g.at + i = omega arith in e') (free_then b q w (e ∷ []) (nth ring (g.at + suc i)) go (y.free (suc i) (let n : ℕ = length rest in omega arith)));
        fresh = λ i lt. subst (λ (z : ℕ). z / cells_in b.layout.cells ring < 16777215) (let e' : g.at + suc i ≡ suc g.at + i = omega arith in e') (y.fresh (suc i) (let n : ℕ = length rest in omega arith));
        fit = y.fit.1;
      };
      took = (let t = g.took in let m : ℕ = steps_for x.0 in (m + t.0, took_both p.view q.view w.view t.0 m t.1 took, (let c : t.0 + (m + steps_in rest) ≡ steps_in all = t.2 in let n : ℕ = steps_in rest in omega arith)));
    }

-- what the Submit of the next request, after these notes, leaves of what its submitter knows
after_next : (notes : List (ℕ × ℕ)) (v t : View) (ring next : ℕ) (r : Req) (e : Entry) (bytes : List ℕ) (last : Bool) → v.role ≡ Lending r → r ≡ nth ring next → submits (events_of v.seen) ring ≡ next
    → ExtendsAfter v r notes (Did (Submit r e bytes last)) (Submitter r.ring) t
    → (submits (events_of t.seen) ring ≡ next + 1) × (before_in (events_of t.seen) (nth ring (next + 1)) ≡ Some (record { entry = e; bytes = bytes; last = last }))
after_next [] v t ring next r e bytes last role is now x =
    let at : r.ring ≡ ring = ap (λ (z : Req). z.ring) is in let l : Line = Did (Submit r e bytes last) in
    let seen : t.seen ≡ l ∷ (x.saw.later ++ v.seen) = ap (λ (z : View). z.seen) x.is ∙ ap (λ (j : List Line). l ∷ j) x.saw.is in
    let before : submits (events_of (x.saw.later ++ v.seen)) ring ≡ next = same_submits v.role ring (lends_it v r ring role at) x.saw.later v.seen x.saw.none ∙ now in (
      ap (λ (j : List Line). submits (events_of j) ring) seen ∙ (ap (λ (z : Bool). cond z 1 0 + submits (events_of (x.saw.later ++ v.seen)) ring) (eq-eqb r.ring ring at) ∙ (let n : ℕ = submits (events_of (x.saw.later ++ v.seen)) ring in let z : n ≡ next = before in let o : 1 + n ≡ next + 1 = omega arith in o)),
      ap (λ (j : List Line). before_in (events_of j) (nth ring (next + 1))) seen ∙ (ap (λ (z : Req). before_in (Submit z e bytes last ∷ events_of (x.saw.later ++ v.seen)) (nth ring (next + 1))) is ∙ just_before ring next e bytes last (events_of (x.saw.later ++ v.seen))),
    )
after_next (n ∷ notes) v t ring next r e bytes last role is now x =
    let at : r.ring ≡ ring = ap (λ (z : Req). z.ring) is in let u : View = x.0 in
    after_next notes u t ring next r e bytes last (ap (λ (z : View). z.role) x.1.is) is (submits_after v u _ _ (λ j. refl) x.1 ring (lends_it v r ring role at) ∙ now) x.2

pub noted_next : (v t : View) (ring next : ℕ) (facts : ℕ × ℕ) (notes : List (ℕ × ℕ)) (r : Req) (e : Entry) (bytes : List ℕ) (last : Bool) → v.role ≡ Submitter ring → r ≡ nth ring next → submits (events_of v.seen) ring ≡ next
    → ExtendsNoted v r facts notes (Did (Submit r e bytes last)) (Submitter r.ring) t
    → (submits (events_of t.seen) ring ≡ next + 1) × (before_in (events_of t.seen) (nth ring (next + 1)) ≡ Some (record { entry = e; bytes = bytes; last = last }))
noted_next v t ring next facts notes r e bytes last role is now x = let u : View = x.0 in
    after_next notes u t ring next r e bytes last (ap (λ (z : View). z.role) x.1.is) is (submits_after v u _ _ (λ j. refl) x.1 ring (submitter_can v ring role) ∙ now) x.2

-- the steps of a submission
took_each : (words : List ℕ) (last : ℕ) (v w : View) → AreSteps words last v w → Took v w (suc (length words))
took_each [] last v w x = (record { word = last; found = x.0; seen = w.seen } ∷ [], refl, x.1)
took_each (word ∷ words) last v w x = subst (λ (n : ℕ). Took v w n) (let n : ℕ = length words in let e : suc n + 1 ≡ suc (suc n) = omega arith in e)
    (took_both v x.0 w 1 (suc (length words)) (record { word = word; found = x.1.0; seen = x.0.seen } ∷ [], refl, x.1.1) (took_each words last x.0 w x.2))

counted_notes : (c m : ℕ) (b : Bool) → suc (suc (suc (length (words_in (count_notes c (cond b (Some m) None)))))) ≡ cond b 4 3
counted_notes c m true = refl
counted_notes c m false = refl

pub took_noted : (c : ℕ) (e : Entry) (v w : View) → AreSteps (facts_at c ∷ words_in (notes_of c e)) (claim_at c) v w → Took v w (steps_for e)
took_noted c e v w x = subst (λ (n : ℕ). Took v w n) (counted_notes c (count_of e.op) (is_timeout e.op)) (took_each (facts_at c ∷ words_in (notes_of c e)) (claim_at c) v w x)

pub empty_is : (xs : Entries) → is_empty xs ≡ (length xs == 0)
empty_is [] = refl
empty_is (x ∷ xs) = sym (ne_eqb (length (x ∷ xs)) 0 (λ e. let n : ℕ = length xs in omega arith))

-- what a submitter that continues with a batch may do now
module _ (b : Facts) (p q : Pass) (ring k : ℕ) (all rest : Entries) (x : Entry × Vec ℕ) (g : Going b p q ring k all (x ∷ rest)) where
  pub going_ring : (i : ℕ) → q.view.role ≡ Submitter i → ring ≡ i
  going_ring i role = let z = sym g.ready.role ∙ role in cc

  pub going_free : (i : ℕ) → q.view.role ≡ Submitter i → IsFree b.layout.cells (seen_of q) (nth i (submits (seen_of q) i)) × (submits (seen_of q) i / cells_in b.layout.cells i < 16777215)
  going_free i role = let r = going_ring i role in let at : g.at + 0 ≡ submits (seen_of q) ring = (let n = g.ready.next in omega arith) in
      subst (λ (z : ℕ). IsFree b.layout.cells (seen_of q) (nth z (submits (seen_of q) z)) × (submits (seen_of q) z / cells_in b.layout.cells z < 16777215)) r
      (subst (λ (z : ℕ). IsFree b.layout.cells (seen_of q) (nth ring z)) at (g.ready.free 0 (let n : ℕ = length rest in omega arith)), subst (λ (z : ℕ). z / cells_in b.layout.cells ring < 16777215) at (g.ready.fresh 0 (let n : ℕ = length rest in omega arith)))

pub going_end : (b : Facts) (p q : Pass) (ring k : ℕ) (all rest : Entries) → rest ≡ [] → Going b p q ring k all rest → Goes b p (submits_of ring k all) q × Took p.view q.view (steps_in all)
going_end b p q ring k all rest none g = let e : submits_of ring k all ≡ g.done = g.events ∙ ap (λ (z : Entries). submits_of ring g.at z ++ g.done) none in let t = g.took in let n : steps_in all ≡ t.0 = (let z : steps_in rest ≡ 0 = ap steps_in none in let c = t.2 in omega arith) in
    (subst (λ (es : List Event). Goes b p es q) (sym e) g.goes, subst (λ (m : ℕ). Took p.view q.view m) (sym n) t.1)

-- why there was no room for a batch
pub batch_reason : (b : Facts) (xs : Entries) (ring k : ℕ) (p q : Pass) (error : SubmitError) → AreFit xs → RefusesRoom b.layout.cells ring k (length xs) p q error → RefusesBatch b xs ring k p q error
batch_reason b xs ring k p q Full fits no' = (fits, no')
batch_reason b xs ring k p q Spent fits no' = (fits, no')
batch_reason b xs ring k p q error fits no' = absurd no'
