-- What the poller's looks at a LINK_TIMEOUT and at its target, and its step that settles one, tell it.
use Rattle.board.specs.declared.phase.Phase.{Phase as Standing}
use Rattle.board.specs.declared.poller.Settling.{Settling}
use Rattle.board.specs.declared.poller.Settling.TheVariants.{Settled, TargetOpen}
use Rattle.board.proofs.Common.{Alarm, Alone, Armed, Bool, Did, Done, Entry, Event, Extends, Facts, Goes, Gone, Invalid, IsArmed, IsAt, IsArmedAt, IsKept, IsLinkTimeout, IsOurs, IsPlaced, IsReplied, IsStep, IsTarget, IsTargetOpen, IsUnfired, Layout, Legal, Line, Linked, List, None, Option, Paid, Pass, Req, Role, Seat, Settle, Settles, SettlingTells, Shown, Some, Stands, Submitted, Tag, TellsDeadline, Thing, View, Watched, [], ap, arith, armed, bool_cases, by_settle, claim_at, cond, counted_in, eq-eqb, events_of, false, fired, hosts, inl, is_link_timeout, is_timeout, lasts, negsuc, not, pass_of, phase, placed_from, placed_lasts, pollers, previous, refl, replied, request_at, same_fired, same_itself, seen_of, settled_by, setup_of, stands_for, submission, submits, submits_grow, subst, suc, sym, true, true≢false, was_shut, word_of, ℕ, ℤ, ⊎_elim, ◌&&◌, ◌++◌, ◌-◌, ◌<◌, ◌==◌, ◌∙◌, ◌∷◌, ◌≡◌, ◌≢◌, ◌⊎◌}
use Rattle.board.proofs.Expiries.{no_more_armed, stepped_by}
use Rattle.board.proofs.GoesLaws.{goes_then}
use Rattle.board.proofs.TimersHeld.{freed_one, goes_one, none}
use Rattle.board.proofs.TimersKept.{AllPass, is_calm, is_still, link_still}
use Rattle.board.proofs.Watching.{born_on, stepped_after, still_ours}
use Rattle.board.proofs.TimersHeld.{alarm_goes, fired_after}
use Rattle.history.specs.Legal.{IsPlacedAs}

abbrev TableSeat : Type 0
TableSeat = Seat (Option Thing) View

-- a LINK_TIMEOUT stands directly after an entry that hosts it
pub hosted : (before s : Option Submitted) (e : Entry) → placed_from before s ≡ Some e → is_link_timeout e.op ≡ true → hosts before ≡ true
hosted before None e p l = absurd (let z = p in cc)
hosted before (Some s) e p l = ⊎_elim (λ w. w)
    (λ (w : hosts before ≡ false). absurd (⊎_elim
    (λ (v : is_link_timeout s.entry.op ≡ true). let one : record s.entry { op = Invalid } ≡ e = (let z : Some (record s.entry { op = Invalid }) ≡ Some e = sym (λ i. Some (cond (v i && not (w i)) (record s.entry { op = Invalid }) s.entry)) ∙ p in cc) in true≢false (sym l ∙ sym (ap (λ (d : Entry). is_link_timeout d.op) one)))
    (λ (v : is_link_timeout s.entry.op ≡ false). let one : s.entry ≡ e = (let z : Some s.entry ≡ Some e = sym (ap (λ (c : Bool). Some (cond (c && not (hosts before)) (record s.entry { op = Invalid }) s.entry)) v) ∙ p in cc) in true≢false (sym l ∙ (sym (ap (λ (d : Entry). is_link_timeout d.op) one) ∙ v)))
    (bool_cases (is_link_timeout s.entry.op)))) (bool_cases (hosts before))

-- and so has a request before it
pub link_first : (h : List Event) (r : Req) → IsLinkTimeout h r → (r.k == 0) ≡ false
link_first h r link = ⊎_elim (λ (w : (r.k == 0) ≡ true). absurd (true≢false (sym (hosted None (submission h r) link.0 (sym (ap (λ (b : Bool). placed_from (cond b None (submission h (previous r))) (submission h r)) w) ∙ link.1) link.2)))) (λ w. w) (bool_cases (r.k == 0))

pub link_later : (h : List Event) (r : Req) → IsLinkTimeout h r → 0 < r.k
link_later h r link = let n : ¬ (r.k ≡ 0) = λ e. true≢false (sym (eq-eqb r.k 0 e) ∙ link_first h r link) in omega arith

-- ---- the step

module _ (b : Facts) (s t : TableSeat) (r : Req) (x g : ℕ) (o : IsOurs b s) (a : IsAt b.layout.cells x g r) where
  pub at_is : request_at s.me.0.layout.cells x g ≡ r
  at_is = ap (λ (L : Layout). request_at L.cells x g) o.ours.layout_is ∙ a.at

  pub mine : stands_for s.me.0.role pollers ≡ true
  mine = ap (λ (z : Role). stands_for z pollers) o.seat.role

  -- it settled the timer
  pub settles_now : t.table_id ≡ s.table_id → fired (events_of s.me.0.seen) r ≡ false → Extends s.me.0 (Did (Settle (request_at s.me.0.layout.cells x g))) s.me.0.role t.me.0 → Settles b r (pass_of s) (pass_of t) Settled
  settles_now id unfired y = let e = subst (λ (q : Req). Extends s.me.0 (Did (Settle q)) s.me.0.role t.me.0) at_is y in let now : t.me.0.seen ≡ Did (Settle r) ∷ (e.saw.later ++ s.me.0.seen) = ap (λ (z : View). z.seen) e.is ∙ ap (λ (j : List Line). Did (Settle r) ∷ j) e.saw.is in
      let before = e.saw.later ++ s.me.0.seen in let still : fired (events_of before) r ≡ false = same_fired s.me.0.role mine r e.saw.later s.me.0.seen e.saw.none ∙ unfired in record {
        goes = goes_one b (pass_of s) (pass_of t) (Settle r) o.ours mine id e;
        tells = ap (λ (j : List Line). phase (events_of j) r) now ∙ (ap (λ c. cond c (replied by_settle (cond (fired (events_of before) r) (negsuc 61) (negsuc 124))) (phase (events_of before) r)) (same_itself r) ∙ ap (λ (f : Bool). replied by_settle (cond f (negsuc 61) (negsuc 124))) still);
        others = freed_one s.me.0 t.me.0 (Settle r) mine e;
      }

  -- it was armed with this deadline, and is so no more
  pub settles_missed : (d : ℕ) → phase (events_of s.me.0.seen) r ≡ armed d → Watched b s t → (n : ℕ) × IsStep (claim_at x) n s.me.0 t.me.0 × Shown s.me.0.layout.cells t.me.0.seen x n × (n ≢ word_of Tag.Armed 0 g d) → Settles b r (pass_of s) (pass_of t) Settling.NotArmed
  settles_missed d was w f = record { goes = w.goes; tells = (inl (no_more_armed b s t r x g o a d was w f), stepped_by b s t r x g o a f.0 f.1 f.2); others = w.freed_is }

-- its target has no reply
pub settles_open : (b : Facts) (r : Req) (s t : TableSeat) → Watched b s t → IsTargetOpen b.layout.cells r (pass_of s) (pass_of t) → IsArmed (events_of t.me.0.seen) r → Settles b r (pass_of s) (pass_of t) TargetOpen
settles_open b r s t w k is = record { goes = w.goes; tells = (k, is); others = w.freed_is }

-- looks before it
pub settles_after : (b : Facts) (r : Req) (s t u : TableSeat) (n m : ℕ) (x : Settling) → Watched b s t → Paid s.me.0 t.me.0 n m → Settles b r (pass_of t) (pass_of u) x → Settles b r (pass_of s) (pass_of u) x
settles_after b r s t u n m x w p k = record { goes = goes_then b (pass_of s) (pass_of t) (pass_of u) _ w.goes k.goes; tells = tells_after x k.tells; others = λ i. k.others i ∙ w.freed_is i } where
  tells_after : (x : Settling) → SettlingTells b r (pass_of t) (pass_of u) x → SettlingTells b r (pass_of s) (pass_of u) x
  tells_after Settled k = k
  tells_after TargetOpen k = let o = k.0 in ((o.0, o.1, o.2, stepped_after b.layout.cells o.0 s t u b n m p o.3), k.1)
  tells_after Settling.NotArmed k = (k.0, stepped_after b.layout.cells r s t u b n m p k.1)

-- it arms and fires no timer, and leaves the clock
pub settled_calm : (x : Settling) (r : Req) → AllPass (is_calm none) (settled_by x r) × AllPass is_still (settled_by x r)
settled_calm Settled r = ((refl, tt), (refl, tt))
settled_calm TargetOpen r = (tt, tt)
settled_calm Settling.NotArmed r = (tt, tt)

-- what is no TIMEOUT is a LINK_TIMEOUT
pub linked_of : (a : Alarm) → ((f : Bool) (n : ℕ) → a ≡ Alone f n → ⊥) → a ≡ Linked
linked_of Linked n = refl
linked_of (Alone f m) n = absurd (n f m refl)

-- ---- a look at a timer that is armed

pub tells_deadline : (b : Facts) (s t : TableSeat) (r : Req) (x g d : ℕ) → IsOurs b s → IsAt b.layout.cells x g r → Watched b s t → g < 16777216 → Stands t.me.0.seen (request_at s.me.0.layout.cells x g) (Armed d) → TellsDeadline b s t x g r (Some d)
tells_deadline b s t r x g d o a w small stands =
    let is : phase (events_of t.me.0.seen) r ≡ armed d = subst (λ (q : Req). phase (events_of t.me.0.seen) q ≡ armed d) (at_is b s t r x g o a) stands in (
      record { ours = still_ours b s t w; at = a; small = small; armed_is = is; born = counted_in (setup_of b.layout) t.me.0.seen r (armed d) w.goes.kept.legal is (λ u. cc) },
      λ alarm knows. alarm_goes b (pass_of s) (pass_of t) [] w.goes (mine b s t r x g o a) none tt r (Some alarm) refl knows d is,
    )

-- what is kept of it tells which it is
module _ (h : List Event) (r : Req) (alarm : Alarm) (k : IsKept h r (Some alarm) × (fired h r ≡ false)) where
  pub kept_as : (a : Alarm) → alarm ≡ a → IsKept h r (Some a)
  kept_as a is = subst (λ (z : Alarm). IsKept h r (Some z)) is k.0

  pub kept_link : alarm ≡ Linked → IsUnfired h r
  kept_link is = let l = kept_as Linked is in ((l.0, l.1, l.2), k.1)

  alone_of : (a : Alarm) → IsKept h r (Some a) → (a ≡ Linked → ⊥) → IsPlacedAs h r is_timeout true
  alone_of Linked l n = absurd (n refl)
  alone_of (Alone f m) l n = (l.0, l.1, l.2.0)

  pub kept_alone : (alarm ≡ Linked → ⊥) → IsPlacedAs h r is_timeout true
  kept_alone n = alone_of alarm k.0 n

-- ---- the target, which is the request before it

pub target_is : (h : List Event) (r : Req) → IsLinkTimeout h r → IsTarget h r (previous r)
target_is h r link = let later = link_later h r link in (link, refl, (let z : suc (r.k - 1) ≡ r.k = omega arith in z))

pub born_goes : (b : Facts) (p q : Pass) (es : List Event) → Goes b p es q → (r : Req) → r.k < submits (seen_of p) r.ring → r.k < submits (seen_of q) r.ring
born_goes b p q es x r lt = subst (λ (j : List Line). r.k < submits (events_of j) r.ring) (sym x.seen_is) (let z = submits_grow (setup_of b.layout) x.later p.view.seen r.ring in omega arith)

-- a LINK_TIMEOUT is placed as one for ever
pub linked_goes : (b : Facts) (p q : Pass) (es : List Event) → Goes b p es q → (r : Req) → r.k < submits (seen_of p) r.ring → IsLinkTimeout (seen_of p) r → IsLinkTimeout (seen_of q) r
linked_goes b p q es x r born link = let S = setup_of b.layout in let legal : Legal S (events_of (x.later ++ p.view.seen)) = subst (λ (j : List Line). Legal S (events_of j)) x.seen_is x.kept.legal in
    (link.0, subst (λ (j : List Line). IsPlaced (events_of j) r link.0) (sym x.seen_is) (lasts S (λ h. IsPlaced h r link.0) r (placed_lasts S r link.0) x.later p.view.seen legal born link.1), link.2)

pub linked_on : (b : Facts) (s t : TableSeat) (r : Req) → Watched b s t → r.k < submits (events_of s.me.0.seen) r.ring → IsLinkTimeout (events_of s.me.0.seen) r → IsLinkTimeout (events_of t.me.0.seen) r
linked_on b s t r w = linked_goes b (pass_of s) (pass_of t) [] w.goes r

-- a LINK_TIMEOUT that is armed stays armed, and unfired, while the poller looks
pub armed_on : (b : Facts) (s t : TableSeat) (r : Req) (d : ℕ) → Watched b s t → IsLinkTimeout (events_of s.me.0.seen) r → phase (events_of s.me.0.seen) r ≡ armed d → phase (events_of t.me.0.seen) r ≡ armed d
armed_on b s t r d w link is = let S = setup_of b.layout in let j : List Line = s.me.0.seen in let later : List Line = w.goes.later in let all : t.me.0.seen ≡ later ++ j = w.goes.seen_is in
    let legal : Legal S (events_of (later ++ j)) = subst (λ (l : List Line). Legal S (events_of l)) all w.goes.kept.legal in let live : was_shut (events_of (later ++ j)) ≡ false = subst (λ (l : List Line). was_shut (events_of l) ≡ false) all w.goes.kept.live in
    subst (λ (l : List Line). phase (events_of l) r ≡ armed d) (sym all) (link_still s.me.0.role (ap (λ (z : Role). stands_for z pollers) (sym w.goes.role_is ∙ w.seat.role)) S r (armed d) tt later j legal live w.goes.own link is)

pub unfired_on : (b : Facts) (s t : TableSeat) (r : Req) → Watched b s t → fired (events_of s.me.0.seen) r ≡ false → fired (events_of t.me.0.seen) r ≡ false
unfired_on b s t r w is = fired_after b (pass_of s) (pass_of t) [] w.goes (ap (λ (z : Role). stands_for z pollers) (sym w.goes.role_is ∙ w.seat.role)) none tt r refl ∙ is

-- so it does with its cell
pub armed_at_on : (b : Facts) (s t : TableSeat) (r : Req) (x g d : ℕ) → Watched b s t → IsUnfired (events_of s.me.0.seen) r → IsArmedAt b s x g r d → IsArmedAt b t x g r d
armed_at_on b s t r x g d w link a = record { ours = still_ours b s t w; at = a.at; small = a.small; armed_is = armed_on b s t r d w link.0 a.armed_is; born = born_on b s t r.ring r.k w a.born }

-- it is Done or Gone
pub replied_by : (j : List Line) (q : Req) (y : Standing) → Stands j q y → ((res : ℤ) × (y ≡ Done res)) ⊎ (y ≡ Gone) → IsReplied (phase (events_of j) q)
replied_by j q y k is = ⊎_elim
    (λ (z : (res : ℤ) × (y ≡ Done res)). let m : Stands j q (Done z.0) = subst (Stands j q) z.1 k in subst IsReplied (sym m.1) tt)
    (λ (z : y ≡ Gone). let m : Stands j q Gone = subst (Stands j q) z k in subst IsReplied (sym m.2) tt) is
