-- Parts of a turn, one after another.
use Rattle.history.proofs.Requests.{bool_cases, same_true}
use Rattle.board.proofs.EventsTogether.{among_both, answered_both, answered_then, goes_nowhere, goes_on, goes_on_then, new_both}
use Rattle.board.specs.Polls.{polled_by}
use Rattle.board.specs.declared.poller.Polled.{Polled}
use Rattle.board.specs.declared.poller.Released.{Released}
use Rattle.board.specs.declared.poller.Released.TheVariants.{Severed, Freed, Shut, Timer, NotHeld}
use Rattle.ready.specs.Ready.{Facts as QueueFacts, IsQueuePass}
use Rattle.runtime.specs.declared.poll_state.PollState.{PollState}
use Rattle.runtime.proofs.Common.{AreNew, Bool, Cares, Did, Event, Facts, Goes, GoesOn, HandedOver, HasTicked, Intake, IsAt, IsOf, IsPollTurn, Line, List, LooksAfter, MayRelease, MayRing, Moves, Owed, Pass, Places, Rang, Req, Sleeping, [], answered_by, ap, append-nil, append_assoc, arith, cond, false, freed, inl, is_among, length, length-append, refl, same, subst, sym, ticked, true, true≢false, with_request, ℕ, ⊎_elim, ◌++◌, ◌+◌, ◌∙◌, ◌∷◌, ◌≡◌, ◌≢◌, ◌⊎◌}
use Rattle.runtime.proofs.ClockLaws.{none_then, still_pollers, ticks_then}

pub rang_then : (b : Facts) (h m k : PollState) (o u w : Places) → Rang b h o m u → Rang b m u k w → Rang b h o k w
rang_then b h m k o u w x y = record {
  events = y.events ++ x.events;
  goes = goes_on_then b h.poller m.poller k.poller x.events y.events x.goes y.goes;
  still = none_then y.events x.events y.still x.still;
  answered = answered_then o.items u.items w.items x.events y.events x.answered y.answered;
  places = y.places ∙ x.places;
  room = y.room ∙ x.room;
  alone = λ r. y.alone r ∙ x.alone r;
  same = (y.same.0 ∙ x.same.0, y.same.1 ∙ x.same.1);
  quiet = λ idle. let last = y.quiet idle in let first = x.quiet last.0 in (first.0, (λ i. last.1 i ++ first.1 i));
}

pub rang_still : (b : Facts) (h : PollState) (o : Places) → IsOf b h.poller → Rang b h o h o
rang_still b h o of = record { events = []; goes = goes_nowhere b h.poller of; still = refl; answered = sym (append-nil o.items); places = refl; room = refl; alone = λ r. refl; same = (refl, refl); quiet = λ idle. (idle, refl) }

pub new_same : (i j : List Line) (rs : List Req) → ((r : Req) → freed j r ≡ freed i r) → AreNew j rs → AreNew i rs
new_same i j [] same' n = tt
new_same i j (r ∷ rs) same' n = (sym (same' r) ∙ n.0, n.1, new_same i j rs same' n.2)

nil_left : (xs ys : List Req) → xs ++ ys ≡ [] → xs ≡ []
nil_left [] ys e = refl
nil_left (x ∷ xs) ys e = absurd (let z : x ∷ (xs ++ ys) ≡ [] = e in cc)

handed_then : (k1 r1 p1 k2 r2 p2 k3 : List Req) → k1 ++ r1 ≡ p1 ++ k2 → k2 ++ r2 ≡ p2 ++ k3 → k1 ++ (r1 ++ r2) ≡ (p1 ++ p2) ++ k3
handed_then k1 r1 p1 k2 r2 p2 k3 a b = sym (append_assoc k1 r1 r2) ∙ (ap (λ (z : List Req). z ++ r2) a ∙ (append_assoc p1 k2 r2 ∙ (ap (λ (z : List Req). p1 ++ z) b ∙ sym (append_assoc p1 p2 k3))))

puts_then : (x y z : Moves) (ps qs : List Req) → y ≡ record x { put = x.put ++ ps } → z ≡ record y { put = y.put ++ qs } → z ≡ record x { put = x.put ++ (ps ++ qs) }
puts_then x y z ps qs a b = b ∙ (ap (λ (w : Moves). record w { put = w.put ++ qs }) a ∙ ap (λ (l : List Req). record x { put = l }) (append_assoc x.put ps qs))

pub did_then : (b : Facts) (q : QueueFacts) (h m k : PollState) (o u w : Places) → Did b q h o m u → Did b q m u k w → Did b q h o k w
did_then b q h m k o u w x y = record {
  events = y.events ++ x.events;
  goes = goes_on_then b h.poller m.poller k.poller x.events y.events x.goes y.goes;
  still = none_then y.events x.events y.still x.still;
  answered = answered_then o.items u.items w.items x.events y.events x.answered y.answered;
  places = y.places ∙ x.places;
  room = y.room ∙ x.room;
  released = x.released ++ y.released;
  fresh = new_both h.poller.view.seen m.poller.view.seen x.released x.released y.released x.freed_are (λ q is. is) x.fresh y.fresh;
  freed_are = λ r. y.freed_are r ∙ (ap (λ (c : Bool). cond (is_among y.released r) true c) (x.freed_are r) ∙ among_both x.released y.released r (freed h.poller.view.seen r));
  puts = x.puts ++ y.puts;
  ready = puts_then h.ready m.ready k.ready x.puts y.puts x.ready y.ready;
  handed = handed_then h.kept.numbers x.released x.puts m.kept.numbers y.released y.puts k.kept.numbers x.handed y.handed;
  quiet = λ idle. let last = y.quiet idle in let first = x.quiet last.0 in (first.0, (λ i. last.1 i ++ first.1 i), (λ i. first.2 i ++ last.2 i), (λ i. first.3 i ++ last.3 i));
}

no_puts : (m : Moves) → m ≡ record m { put = m.put ++ [] }
no_puts m = ap (λ (l : List Req). record m { put = l }) (sym (append-nil m.put))

-- a part that moved no request to Ready
pub did_ring : (b : Facts) (q : QueueFacts) (h k : PollState) (o w : Places) → Rang b h o k w → Did b q h o k w
did_ring b q h k o w x = record {
  events = x.events;
  goes = x.goes;
  still = x.still;
  answered = x.answered;
  places = x.places;
  room = x.room;
  released = [];
  fresh = tt;
  freed_are = x.alone;
  puts = [];
  ready = x.same.0 ∙ no_puts h.ready;
  handed = append-nil h.kept.numbers ∙ ap (λ (z : Owed). z.numbers) (sym x.same.1);
  quiet = λ idle. let q = x.quiet idle in (q.0, q.1, refl, refl);
}

pub did_still : (b : Facts) (q : QueueFacts) (h : PollState) (o : Places) → IsOf b h.poller → Did b q h o h o
did_still b q h o of = did_ring b q h h o o (rang_still b h o of)

-- a part that only handed over what was kept
pub did_retry : (b : Facts) (q : QueueFacts) (h k : PollState) (o : Places) → IsOf b h.poller → HandedOver h.ready h.kept.numbers k.ready k.kept.numbers → k.poller ≡ h.poller → k.room ≡ h.room → (k.moved ≡ false → (h.moved ≡ false) × (h.kept.numbers ≡ [])) → Did b q h o k o
did_retry b q h k o of x same room quiet' = record {
  events = [];
  goes = subst (λ (z : Pass). GoesOn b h.poller [] z) (sym same) (goes_nowhere b h.poller of);
  still = refl;
  answered = sym (append-nil o.items);
  places = refl;
  room = ap (λ (n : ℕ). length o.items + n) room;
  released = [];
  fresh = tt;
  freed_are = λ r. ap (λ (z : Pass). freed z.view.seen r) same;
  puts = x.0;
  ready = x.1;
  handed = append-nil h.kept.numbers ∙ x.2;
  quiet = λ idle. let w = quiet' idle in (w.0, refl, refl, nil_left x.0 k.kept.numbers (sym x.2 ∙ w.1));
}

-- the passes are still those of the board and the queue, and there is still room
pub at_on : (b : Facts) (h k : PollState) (o w : Places) → IsAt b h → Rang b h o k w → IsAt b k
at_on b h k o w a x = (x.goes.kept, still_pollers b h.poller k.poller x.events x.goes a.1)

pub may_ring : (b : Facts) (h k : PollState) (o w : Places) (c d : Cares) → MayRing b h c o → Rang b h o k w → LooksAfter d k.poller.view.seen → MayRing b k d w
may_ring b h k o w c d a x cared = let r = a.room in let e = x.room in let p = x.places in record { own = at_on b h k o w a.own x; room = omega (arith, r, e, p); cared = cared }

pub may_release : (b : Facts) (q : QueueFacts) (h k : PollState) (o w : Places) (c d : Cares) → MayRelease b q h c o → Did b q h o k w → LooksAfter d k.poller.view.seen → MayRelease b q k d w
may_release b q h k o w c d a x cared = let r = a.room in let e = x.room in let p = x.places in record {
  own = ((x.goes.kept, still_pollers b h.poller k.poller x.events x.goes a.own.0.1), ap (λ (m : Moves). m.queue) x.ready ∙ a.own.1);
  room = omega (arith, r, e, p);
  cared = cared;
}

-- the poller went on by these events, and one request was put into the outbox
pub rang_answered : (b : Facts) (h k : PollState) (p : Pass) (o w : Places) (es : List Event) (r : Req) → ticked es ≡ 0 → answered_by es ≡ r ∷ [] → Goes b h.poller es p → ((q : Req) → freed p.view.seen q ≡ freed h.poller.view.seen q)
    → (k.poller ≡ p) × (k.ready ≡ h.ready) × (k.kept ≡ h.kept) → k.room + 1 ≡ h.room → k.moved ≡ true → w ≡ with_request r o → Rang b h o k w
rang_answered b h k p o w es r still one goes alone same room moved put = record {
  events = es;
  goes = subst (λ (z : Pass). GoesOn b h.poller es z) (sym same.0) (goes_on b h.poller p es goes);
  still = still;
  answered = ap (λ (z : Places). z.items) put ∙ ap (λ (z : List Req). o.items ++ z) (sym one);
  places = ap (λ (z : Places). z.places) put;
  room = let e : length w.items ≡ length (o.items ++ r ∷ []) = ap (λ (z : Places). length z.items) put in omega (arith, e, length-append o.items (r ∷ []), room);
  alone = λ q. ap (λ (z : Pass). freed z.view.seen q) same.0 ∙ alone q;
  same = (same.1, same.2);
  quiet = λ idle. absurd (true≢false (sym moved ∙ idle));
}

-- and two were
pub rang_twice : (b : Facts) (h m k : PollState) (p : Pass) (o u w : Places) (es : List Event) (t r : Req) → ticked es ≡ 0 → answered_by es ≡ t ∷ r ∷ [] → Goes b h.poller es p → ((q : Req) → freed p.view.seen q ≡ freed h.poller.view.seen q)
    → (m.poller ≡ p) × (m.ready ≡ h.ready) × (m.kept ≡ h.kept) → m.room + 1 ≡ h.room → u ≡ with_request t o
    → (k.poller ≡ m.poller) × (k.ready ≡ m.ready) × (k.kept ≡ m.kept) → k.room + 1 ≡ m.room → k.moved ≡ true → w ≡ with_request r u → Rang b h o k w
rang_twice b h m k p o u w es t r still both goes alone same room put then more moved last = record {
  events = es;
  goes = subst (λ (z : Pass). GoesOn b h.poller es z) (sym (then.0 ∙ same.0)) (goes_on b h.poller p es goes);
  still = still;
  answered = ap (λ (z : Places). z.items) last ∙ (ap (λ (z : Places). z.items ++ r ∷ []) put ∙ (append_assoc o.items (t ∷ []) (r ∷ []) ∙ ap (λ (z : List Req). o.items ++ z) (sym both)));
  places = ap (λ (z : Places). z.places) last ∙ ap (λ (z : Places). z.places) put;
  room = let e : length w.items ≡ length (u.items ++ r ∷ []) = ap (λ (z : Places). length z.items) last in
      let f : length u.items ≡ length (o.items ++ t ∷ []) = ap (λ (z : Places). length z.items) put in
      omega (arith, e, f, length-append u.items (r ∷ []), length-append o.items (t ∷ []), room, more);
  alone = λ q. ap (λ (z : Pass). freed z.view.seen q) (then.0 ∙ same.0) ∙ alone q;
  same = (then.1 ∙ same.1, then.2 ∙ same.2);
  quiet = λ idle. absurd (true≢false (sym moved ∙ idle));
}

-- the poller looked
pub rang_looked : (b : Facts) (h k : PollState) (o : Places) → Goes b h.poller [] k.poller → ((q : Req) → freed k.poller.view.seen q ≡ freed h.poller.view.seen q) → (k.ready ≡ h.ready) × (k.kept ≡ h.kept) × (k.room ≡ h.room) → (k.moved ≡ false → h.moved ≡ false) → Rang b h o k o
rang_looked b h k o goes alone same quiet' = record {
  events = [];
  goes = goes_on b h.poller k.poller [] goes;
  still = refl;
  answered = sym (append-nil o.items);
  places = refl;
  room = ap (λ (n : ℕ). length o.items + n) same.2;
  alone = alone;
  same = (same.0, same.1);
  quiet = λ idle. (quiet' idle, refl);
}

-- the poller went on by events that answer nothing
pub rang_silent : (b : Facts) (h k : PollState) (o : Places) (es : List Event) → ticked es ≡ 0 → answered_by es ≡ [] → Goes b h.poller es k.poller → ((q : Req) → freed k.poller.view.seen q ≡ freed h.poller.view.seen q) → (k.ready ≡ h.ready) × (k.kept ≡ h.kept) × (k.room ≡ h.room) → k.moved ≡ true → Rang b h o k o
rang_silent b h k o es still silent goes alone same moved = record {
  events = es;
  goes = goes_on b h.poller k.poller es goes;
  still = still;
  answered = sym (append-nil o.items) ∙ ap (λ (z : List Req). o.items ++ z) (sym silent);
  places = refl;
  room = ap (λ (n : ℕ). length o.items + n) same.2;
  alone = alone;
  same = (same.0, same.1);
  quiet = λ idle. absurd (true≢false (sym moved ∙ idle));
}

-- that a turn did something changes nothing else
pub rang_moved : (b : Facts) (h k : PollState) (o w : Places) → Rang b h o k w → Rang b h o (record k { moved = true }) w
rang_moved b h k o w x = record { events = x.events; goes = x.goes; still = x.still; answered = x.answered; places = x.places; room = x.room; alone = x.alone; same = x.same; quiet = λ idle. absurd (true≢false idle) }

abbrev pub is_freed : Released → Bool
is_freed Freed = true
is_freed Severed = false
is_freed Shut = false
is_freed Timer = false
is_freed NotHeld = false

-- a release that did not free moved nothing to Ready
pub others_alone : (x : Released) → is_freed x ≡ false → (r : Req) (p q : Pass) → ((i : Req) → (x ≢ Freed) ⊎ (same r i ≡ false) → freed q.view.seen i ≡ freed p.view.seen i) → (i : Req) → freed q.view.seen i ≡ freed p.view.seen i
others_alone x other r p q alone i = alone i (inl (λ (e : x ≡ Freed). true≢false (sym (ap is_freed e) ∙ other)))

freed_one : (r : Req) (p q : Pass) → freed q.view.seen r ≡ true → ((i : Req) → same r i ≡ false → freed q.view.seen i ≡ freed p.view.seen i) → (i : Req) → freed q.view.seen i ≡ cond (is_among (r ∷ []) i) true (freed p.view.seen i)
freed_one r p q is alone i = ⊎_elim
    (λ (w : same r i ≡ true). ap (freed q.view.seen) (sym (same_true r i w)) ∙ (is ∙ ap (λ (s : Bool). cond (cond s true false) true (freed p.view.seen i)) (sym w)))
    (λ (w : same r i ≡ false). alone i w ∙ ap (λ (s : Bool). cond (cond s true false) true (freed p.view.seen i)) (sym w))
    (bool_cases (same r i))

-- a request was moved to Ready, and handed over
pub did_freed : (b : Facts) (q : QueueFacts) (h k : PollState) (p : Pass) (o : Places) (r : Req) → Goes b h.poller [] p → freed p.view.seen r ≡ true → ((i : Req) → same r i ≡ false → freed p.view.seen i ≡ freed h.poller.view.seen i)
    → (k.poller ≡ p) × (k.room ≡ h.room) → k.moved ≡ true → freed h.poller.view.seen r ≡ false → HandedOver h.ready (h.kept.numbers ++ r ∷ []) k.ready k.kept.numbers → Did b q h o k o
did_freed b q h k p o r goes is alone same moved new x = record {
  events = [];
  goes = subst (λ (z : Pass). GoesOn b h.poller [] z) (sym same.0) (goes_on b h.poller p [] goes);
  still = refl;
  answered = sym (append-nil o.items);
  places = refl;
  room = ap (λ (n : ℕ). length o.items + n) same.1;
  released = r ∷ [];
  fresh = (new, refl, tt);
  freed_are = λ i. ap (λ (z : Pass). freed z.view.seen i) same.0 ∙ freed_one r h.poller p is alone i;
  puts = x.0;
  ready = x.1;
  handed = x.2;
  quiet = λ idle. absurd (true≢false (sym moved ∙ idle));
}

-- a whole turn: the clock was asked, and then the requests and timers were looked after
pub turned : (b : Facts) (q : QueueFacts) (h m k : PollState) (s t : Sleeping) (n r u : ℕ) (v z : List Intake) (a e f g : List Req) (l m' : List ((ℕ × ℕ) × ℕ)) (o w : Places) → IsQueuePass q h.ready → HasTicked b h m → Did b q m o k w → o.items ≡ [] → u ≡ r
    → IsPollTurn b q (record { poller = h.poller; sleeper = s; ready = h.ready; kept = h.kept.numbers; places = n; rings = r; intakes = v; waiting = a; watched = e; deadlines = l }) (record { poller = k.poller; sleeper = t; ready = k.ready; kept = k.kept.numbers; places = n; rings = u; intakes = z; waiting = f; watched = g; deadlines = m' }) w
turned b q h m k s t n r u v z a e f g l m' o w of x y none same = record {
  own = (y.goes.kept, ap (λ (z : Moves). z.queue) (y.ready ∙ ap (λ (z : Moves). record z { put = z.put ++ y.puts }) x.same.0) ∙ of);
  events = y.events ++ x.events;
  goes = goes_on_then b h.poller m.poller k.poller x.events y.events x.goes y.goes;
  once = let e = ticks_then y.events x.events in let l = x.once in let z = y.still in omega (arith, e, l, z);
  answered = y.answered ∙ (ap (λ (z : List Req). z ++ answered_by y.events) (none ∙ sym x.silent) ∙ sym (answered_both y.events x.events));
  released = y.released;
  fresh = new_same h.poller.view.seen m.poller.view.seen y.released x.alone y.fresh;
  freed_are = λ i. y.freed_are i ∙ ap (λ (c : Bool). cond (is_among y.released i) true c) (x.alone i);
  puts = y.puts;
  ready = y.ready ∙ ap (λ (z : Moves). record z { put = z.put ++ y.puts }) x.same.0;
  handed = ap (λ (z : Owed). z.numbers ++ y.released) (sym x.same.1) ∙ y.handed;
  shape = (refl, same);
}

-- a turn that did nothing
pub nothing_done : (b : Facts) (q : QueueFacts) (h m k : PollState) (o w : Places) → HasTicked b h m → Did b q m o k w → o.items ≡ [] → k.moved ≡ false → GoesOn b h.poller [] k.poller × ((r : Req) → freed k.poller.view.seen r ≡ freed h.poller.view.seen r) × (k.ready ≡ h.ready) × (w.items ≡ [])
nothing_done b q h m k o w x y none idle =
    let z = y.quiet idle in let t = x.quiet z.0 in (
      subst (λ (es : List Event). GoesOn b h.poller es k.poller) (λ i. z.1 i ++ t i) (goes_on_then b h.poller m.poller k.poller x.events y.events x.goes y.goes),
      λ r. y.freed_are r ∙ (ap (λ (rs : List Req). cond (is_among rs r) true (freed m.poller.view.seen r)) z.2 ∙ x.alone r),
      y.ready ∙ (ap (λ (ps : List Req). record m.ready { put = m.ready.put ++ ps }) z.3 ∙ (sym (no_puts m.ready) ∙ x.same.0)),
      y.answered ∙ ((λ i. none i ++ answered_by (z.1 i)) ∙ refl),
    )

-- ---- what polling a timer answered

abbrev AnswersOne : Req → Polled → Type 0
AnswersOne r x = (ticked (polled_by x r) ≡ 0) × (answered_by (polled_by x r) ≡ r ∷ [])

pub answers_one : (r : Req) (x : Polled) → (x ≡ Polled.Expired) ⊎ ((x ≡ Polled.Counted) ⊎ ((x ≡ Polled.Missed) ⊎ (x ≡ Polled.Settled))) → AnswersOne r x
answers_one r x s = ⊎_elim
    (λ e. subst (AnswersOne r) (sym e) (refl, refl))
    (λ s. ⊎_elim (λ e. subst (AnswersOne r) (sym e) (refl, refl)) (λ s. ⊎_elim (λ e. subst (AnswersOne r) (sym e) (refl, refl)) (λ e. subst (AnswersOne r) (sym e) (refl, refl)) s) s) s

abbrev AnswersNone : Req → Polled → Type 0
AnswersNone r x = polled_by x r ≡ []

pub answers_none : (r : Req) (x : Polled) → (x ≡ Polled.Early) ⊎ ((x ≡ Polled.Fewer) ⊎ ((x ≡ Polled.TargetOpen) ⊎ ((x ≡ Polled.Due) ⊎ (x ≡ Polled.NotArmed)))) → AnswersNone r x
answers_none r x s = ⊎_elim
    (λ e. subst (AnswersNone r) (sym e) refl)
    (λ s. ⊎_elim (λ e. subst (AnswersNone r) (sym e) refl) (λ s. ⊎_elim (λ e. subst (AnswersNone r) (sym e) refl) (λ s. ⊎_elim (λ e. subst (AnswersNone r) (sym e) refl) (λ e. subst (AnswersNone r) (sym e) refl) s) s) s) s
