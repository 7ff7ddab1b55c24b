-- Parts of a turn, one after another.
use Rattle.history.specs.declared.event.Event.{Event}
use Rattle.history.specs.History.{same}
use Rattle.history.proofs.Requests.{bool_cases, same_true}
use Rattle.steps.specs.Journal.{freed}
use Rattle.board.specs.Polls.{polled_by}
use Rattle.board.specs.declared.poller.Polled.{Polled}
use Rattle.board.specs.declared.poller.Released.{Released}
use Rattle.board.specs.declared.poller.Released.TheVariants.{Freed}
use Rattle.board.proofs.EventsTogether.{among_both, answered_then, goes_on, goes_on_then, new_both}
use Rattle.ring_c.proofs.Common.{AreNew, Bool, Facts, Goes, IsOf, IsTurn, List, Pass, Req, Told, Turned, [], answered_by, ap, append-nil, append_assoc, cond, false, inl, is_among, refl, subst, sym, true, true≢false, ⊎_elim, ◌++◌, ◌∙◌, ◌∷◌, ◌≡◌, ◌≢◌, ◌⊎◌}

pub turned_then : (b : Facts) (p m q : Pass) (o u w : Told) → Turned b p o m u → Turned b m u q w → Turned b p o q w
turned_then b p m q o u w x y = record {
  events = y.events ++ x.events;
  goes = goes_on_then b p m q x.events y.events x.goes y.goes;
  answered = answered_then o.answered u.answered w.answered x.events y.events x.answered y.answered;
  released = x.released ++ y.released;
  fresh = new_both p.view.seen m.view.seen x.released x.released y.released x.freed_are (λ r is. is) x.fresh y.fresh;
  freed_are = λ r. y.freed_are r ∙ (ap (λ (c : Bool). cond (is_among y.released r) true c) (x.freed_are r) ∙ among_both x.released y.released r (freed p.view.seen r));
  ready = y.ready ∙ (ap (λ (z : List Req). z ++ y.released) x.ready ∙ append_assoc o.ready x.released y.released);
  most = (y.most.0 ∙ x.most.0, y.most.1 ∙ x.most.1);
}

-- the poller went on by events which answer just what is told
pub turned_put : (b : Facts) (p q : Pass) (o u : Told) (es : List Event) → Goes b p es q → ((r : Req) → freed q.view.seen r ≡ freed p.view.seen r) → u ≡ record o { answered = o.answered ++ answered_by es } → Turned b p o q u
turned_put b p q o u es goes alone put = record {
  events = es;
  goes = goes_on b p q es goes;
  answered = ap (λ (z : Told). z.answered) put;
  released = [];
  fresh = tt;
  freed_are = alone;
  ready = ap (λ (z : Told). z.ready) put ∙ sym (append-nil o.ready);
  most = (ap (λ (z : Told). z.ready_most) put, ap (λ (z : Told). z.answered_most) put);
}

-- the poller went on by events that answer nothing
pub turned_silent : (b : Facts) (p q : Pass) (o u : Told) (es : List Event) → answered_by es ≡ [] → Goes b p es q → ((r : Req) → freed q.view.seen r ≡ freed p.view.seen r) → u ≡ o → Turned b p o q u
turned_silent b p q o u es silent goes alone put = turned_put b p q o u es goes alone (put ∙ ap (λ (z : List Req). record o { answered = z }) (sym (append-nil o.answered) ∙ ap (λ (z : List Req). o.answered ++ z) (sym silent)))

-- the poller did nothing
pub turned_still : (b : Facts) (p : Pass) (o : Told) → IsOf b p → Turned b p o p o
turned_still b p o of = record {
  events = [];
  goes = record { kept = of; role_is = refl; later = []; seen_is = refl; own = refl };
  answered = sym (append-nil o.answered);
  released = [];
  fresh = tt;
  freed_are = λ r. refl;
  ready = sym (append-nil o.ready);
  most = (refl, refl);
}

abbrev pub is_freed : Released → Bool
is_freed Freed = true
is_freed _ = false

-- a release that moved no request to Ready
pub others_alone : (x : Released) → is_freed x ≡ false → (r : Req) (p q : Pass) → ((i : Req) → (x ≢ Freed) ⊎ (same r i ≡ false) → freed q.view.seen i ≡ freed p.view.seen i) → (i : Req) → freed q.view.seen i ≡ freed p.view.seen i
others_alone x other r p q alone i = alone i (inl (λ (e : x ≡ Freed). true≢false (sym (ap is_freed e) ∙ other)))

freed_one : (r : Req) (p q : Pass) → freed q.view.seen r ≡ true → ((i : Req) → same r i ≡ false → freed q.view.seen i ≡ freed p.view.seen i) → (i : Req) → freed q.view.seen i ≡ cond (is_among (r ∷ []) i) true (freed p.view.seen i)
freed_one r p q is alone i = ⊎_elim
    (λ (w : same r i ≡ true). ap (freed q.view.seen) (sym (same_true r i w)) ∙ (is ∙ ap (λ (s : Bool). cond (cond s true false) true (freed p.view.seen i)) (sym w)))
    (λ (w : same r i ≡ false). alone i w ∙ ap (λ (s : Bool). cond (cond s true false) true (freed p.view.seen i)) (sym w))
    (bool_cases (same r i))

-- one request was moved to Ready
pub turned_freed : (b : Facts) (p q : Pass) (o u : Told) (r : Req) → Goes b p [] q → freed q.view.seen r ≡ true → freed p.view.seen r ≡ false → ((i : Req) → same r i ≡ false → freed q.view.seen i ≡ freed p.view.seen i) → u ≡ record o { ready = o.ready ++ r ∷ [] } → Turned b p o q u
turned_freed b p q o u r goes is new alone put = record {
  events = [];
  goes = goes_on b p q [] goes;
  answered = ap (λ (z : Told). z.answered) put ∙ sym (append-nil o.answered);
  released = r ∷ [];
  fresh = (new, refl, tt);
  freed_are = freed_one r p q is alone;
  ready = ap (λ (z : Told). z.ready) put;
  most = (ap (λ (z : Told). z.ready_most) put, ap (λ (z : Told). z.answered_most) put);
}

-- a turn from empty lists on
pub whole_turn : (b : Facts) (p q : Pass) (o u : Told) → o.ready ≡ [] → o.answered ≡ [] → Turned b p o q u → IsTurn b p q u.ready u.answered
whole_turn b p q o u none blank x =
    let is : u.ready ≡ x.released = x.ready ∙ ap (λ (z : List Req). z ++ x.released) none in record {
      events = x.events;
      goes = x.goes;
      answered_are = x.answered ∙ ap (λ (z : List Req). z ++ answered_by x.events) blank;
      fresh = subst (AreNew p.view.seen) (sym is) x.fresh;
      freed_are = λ r. x.freed_are r ∙ ap (λ (rs : List Req). cond (is_among rs r) true (freed p.view.seen r)) (sym is);
    }

-- the poller looked, after this
pub turned_looked : (b : Facts) (p m q : Pass) (o u : Told) → Turned b p o m u → Goes b m [] q → ((r : Req) → freed q.view.seen r ≡ freed m.view.seen r) → Turned b p o q u
turned_looked b p m q o u x goes alone = turned_then b p m q o u u x (turned_silent b m q u u [] refl goes alone refl)

-- a part of the turn follows events that answer nothing
pub turned_silent_then : (b : Facts) (p m q : Pass) (o u : Told) → Goes b p [] m → ((r : Req) → freed m.view.seen r ≡ freed p.view.seen r) → Turned b m o q u → Turned b p o q u
turned_silent_then b p m q o u goes alone x = turned_then b p m q o o u (turned_silent b p m o o [] refl goes alone refl) x

-- ---- what polling a timer answered

abbrev AnswersOne : Req → Polled → Type 0
AnswersOne r x = answered_by (polled_by x r) ≡ r ∷ []

pub answers_one : (r : Req) (x : Polled) → (x ≡ Polled.Expired) ⊎ ((x ≡ Polled.Counted) ⊎ ((x ≡ Polled.Missed) ⊎ (x ≡ Polled.Settled))) → AnswersOne r x
answers_one r x s = ⊎_elim
    (λ e. subst (AnswersOne r) (sym e) refl)
    (λ s. ⊎_elim (λ e. subst (AnswersOne r) (sym e) refl) (λ s. ⊎_elim (λ e. subst (AnswersOne r) (sym e) refl) (λ e. subst (AnswersOne r) (sym e) refl) s) s) s

abbrev AnswersNone : Req → Polled → Type 0
AnswersNone r x = answered_by (polled_by x r) ≡ []

pub answers_none : (r : Req) (x : Polled) → (x ≡ Polled.Early) ⊎ ((x ≡ Polled.Fewer) ⊎ ((x ≡ Polled.TargetOpen) ⊎ ((x ≡ Polled.Due) ⊎ (x ≡ Polled.NotArmed)))) → AnswersNone r x
answers_none r x s = ⊎_elim
    (λ e. subst (AnswersNone r) (sym e) refl)
    (λ s. ⊎_elim (λ e. subst (AnswersNone r) (sym e) refl) (λ s. ⊎_elim (λ e. subst (AnswersNone r) (sym e) refl) (λ s. ⊎_elim (λ e. subst (AnswersNone r) (sym e) refl) (λ e. subst (AnswersNone r) (sym e) refl) s) s) s) s
