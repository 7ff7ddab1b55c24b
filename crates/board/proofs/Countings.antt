-- How many later requests of a ring have replied, as the poller goes over them, and its step that answers a TIMEOUT which has counted enough.
use Rattle.history.proofs.LaterReplies.{replied_true, true_replied, replies_grow, replies_longer, later_longer}
use Rattle.board.specs.declared.phase.Phase.{Phase as Standing}
use Rattle.board.specs.declared.poller.Counting.{Counting}
use Rattle.board.specs.declared.poller.Counting.TheVariants.{Counted, Fewer, NotCounted}
use Rattle.board.proofs.Common.{Alarm, Alone, Armed, Bool, Count, CountingTells, Counts, Did, Done, Entry, Event, Extends, Facts, Gone, HasFewer, Held, IsArmedAt, IsAt, IsCounting, IsKept, IsOf, IsOurs, IsPlaced, IsReplied, IsStep, IsUncounted, KnowsAlarm, Layout, Line, Linked, List, None, Op, Option, Paid, Phase, Ready, Req, Role, Running, Seat, Shown, Some, Spends, Stands, StepsTo, Tag, TellsReply, Thing, Timeout, Unborn, View, Watched, [], ap, arith, armed, bool_byte, born_once, by_count, cells_in, claim_at, cond, count_of, counted_by, counted_in, earlier_gone, events_of, false, is_link_timeout, is_replied, later_replies, pass_of, phase, place_of, placed_lasts, pollers, pos, refl, replied, replies_from, request_at, ring_of, runs, same_itself, setup_of, stands_for, submits, subst, suc, suc-mul, sym, true, true≢false, unborn, waits, word_of, ℕ, ℤ, ◌*◌, ◌+◌, ◌-◌, ◌<◌, ◌∙◌, ◌∷◌, ◌≡◌, ◌≢◌, ◌≤◌, ◌⊎◌}
use Rattle.board.proofs.AlarmsSet.{reaped_armed}
use Rattle.board.proofs.Expiries.{armed_word, stepped_by}
use Rattle.board.proofs.GoesLaws.{goes_then}
use Rattle.board.proofs.Settlings.{replied_by}
use Rattle.board.proofs.TimersHeld.{armed_before, freed_one, goes_one, none}
use Rattle.board.proofs.TimersKept.{AllPass, is_calm, is_still}
use Rattle.board.proofs.RowLaws.{submits_goes}
use Rattle.board.proofs.CountLooks.{spends_add, spends_most, spends_other}
use Rattle.board.proofs.Watching.{lasts_on, paid_add, paid_one, replied_on, stepped_after, watched_then}

abbrev TableSeat : Type 0
TableSeat = Seat (Option Thing) View

-- ---- how many have replied

abbrev pub flag : Bool → ℕ
flag b = cond b 1 0

pub byte_is : (b : Bool) → bool_byte b ≡ flag b
byte_is true = refl
byte_is false = refl

flag_grows : (a b : Bool) → (a ≡ true → b ≡ true) → flag a ≤ flag b
flag_grows true true f = omega arith
flag_grows true false f = absurd (true≢false (sym (f refl)))
flag_grows false true f = omega arith
flag_grows false false f = omega arith

module _ (h g : List Event) (f : (q : Req) → IsReplied (phase h q) → IsReplied (phase g q)) where
  flag_on : (q : Req) → flag (is_replied (phase h q)) ≤ flag (is_replied (phase g q))
  flag_on q = flag_grows (is_replied (phase h q)) (is_replied (phase g q)) (λ is. replied_true (phase g q) (f q (true_replied (phase h q) is)))

-- later there are no fewer
pub later_grows : (b : Facts) (s t : TableSeat) (r : Req) → Watched b s t → later_replies (events_of s.me.0.seen) r ≤ later_replies (events_of t.me.0.seen) r
later_grows b s t r w = later_longer (events_of s.me.0.seen) (events_of t.me.0.seen) r (λ q. replied_on b s t q w) (submits_goes b (pass_of s) (pass_of t) [] r.ring w.goes)

-- ---- a look at one of them

module _ (b : Facts) (t : TableSeat) (q : Req) (o : IsOf b (pass_of t)) where
  there : (p : Phase) → phase (events_of t.me.0.seen) q ≡ p → p ≢ unborn → q.k < submits (events_of t.me.0.seen) q.ring
  there p is n = counted_in (setup_of b.layout) t.me.0.seen q p o.legal is n

  -- it is Done or Gone
  pub tells_replied : (y : Standing) → Stands t.me.0.seen q y → ((res : ℤ) × (y ≡ Done res)) ⊎ (y ≡ Gone) → TellsReply (events_of t.me.0.seen) q (Some true)
  tells_replied y k is = let z : IsReplied (phase (events_of t.me.0.seen) q) = replied_by t.me.0.seen q y k is in
      (there (phase (events_of t.me.0.seen) q) refl (λ u. subst IsReplied u z), replied_true (phase (events_of t.me.0.seen) q) z)

  -- it was submitted, and is neither
  pub tells_pending : (y : Standing) → Stands t.me.0.seen q y → (y ≡ Unborn → ⊥) → ((res : ℤ) → y ≡ Done res → ⊥) → (y ≡ Gone → ⊥) → TellsReply (events_of t.me.0.seen) q (Some false)
  tells_pending Unborn k n d g = absurd (n refl)
  tells_pending Held k n d g = (there waits k.0 (λ u. cc), ap is_replied k.0)
  tells_pending Ready k n d g = (there waits k.0 (λ u. cc), ap is_replied k.0)
  tells_pending Running k n d g = (there runs k (λ u. cc), ap is_replied k)
  tells_pending (Armed e) k n d g = (there (armed e) k (λ u. cc), ap is_replied k)
  tells_pending (Done res) k n d g = absurd (d res refl)
  tells_pending Gone k n d g = absurd (g refl)

-- ---- the poller goes over them

-- the requests after r and before k were looked at, and this many of these have replied
pub record IsCounted (b : Facts) (s t : TableSeat) (r : Req) (k found : ℕ) : Type 0 where
  pub watched : Watched b s t
  pub low : r.k < k
  pub high : k ≤ r.k + cells_in b.layout.cells r.ring
  pub born : k ≤ submits (events_of t.me.0.seen) r.ring
  pub at_least : found ≤ replies_from (events_of t.me.0.seen) r.ring (suc r.k) (k - suc r.k)
  pub at_most : replies_from (events_of s.me.0.seen) r.ring (suc r.k) (k - suc r.k) ≤ found
  pub paid : Paid s.me.0 t.me.0 0 (k - suc r.k)
  pub looks : Spends b.layout.cells r s.me.0 t.me.0 0 (k - suc r.k)

module _ (b : Facts) (s t u : TableSeat) (r : Req) (k found : ℕ) (x : IsCounted b s t r k found) (w : Watched b t u) where
  abbrev here : Req
  here = record { ring = r.ring; k = k }

  abbrev n : ℕ
  n = k - suc r.k

  looks_more : StepsTo b.layout.cells here t.me.0 u.me.0 → k < r.k + cells_in b.layout.cells r.ring → Spends b.layout.cells r s.me.0 u.me.0 0 (n + 1)
  looks_more step lt = spends_add b.layout.cells r s.me.0 t.me.0 u.me.0 0 n 0 1 x.looks (spends_other b.layout.cells r here t.me.0 u.me.0 refl x.low lt step)

  -- and one that wasn't submitted yet
  pub looks_all : StepsTo b.layout.cells here t.me.0 u.me.0 → k < r.k + cells_in b.layout.cells r.ring → Spends b.layout.cells r s.me.0 u.me.0 0 (cells_in b.layout.cells r.ring - 1)
  looks_all step lt = let low = x.low in spends_most b.layout.cells r s.me.0 u.me.0 0 (n + 1) 0 (cells_in b.layout.cells r.ring - 1) (looks_more step lt) (omega arith) (omega arith)

  -- one more was looked at
  pub counted_more : (replied' : Bool) → TellsReply (events_of u.me.0.seen) here (Some replied') → StepsTo b.layout.cells here t.me.0 u.me.0 → k < r.k + cells_in b.layout.cells r.ring → IsCounted b s u r (k + 1) (found + flag replied')
  counted_more replied' told step lt =
      let paid = paid_one _ _ t.me.0 u.me.0 step.5 in let low = x.low in let all = watched_then b s t u x.watched w in let h = events_of s.me.0.seen in let g = events_of u.me.0.seen in let i = r.ring in let m = suc r.k in
      let next : (k + 1) - suc r.k ≡ suc n = omega arith in let at : suc r.k + n ≡ k = omega arith in
      let here_is : (f : List Event) → replies_from f i m (suc n) ≡ replies_from f i m n + flag (is_replied (phase f here)) = λ f. ap (λ (z : ℕ). replies_from f i m n + flag (is_replied (phase f (record { ring = i; k = z })))) at in
      let told' : flag (is_replied (phase g here)) ≡ flag replied' = ap flag told.1 in
      let grown : replies_from (events_of t.me.0.seen) i m n ≤ replies_from g i m n = replies_grow (events_of t.me.0.seen) g i m n (λ q. replied_on b t u q w) in
      let was : flag (is_replied (phase h here)) ≤ flag (is_replied (phase g here)) = flag_on h g (λ q. replied_on b s u q all) here in
      let a = x.at_least in let c = x.at_most in let new = here_is g in let old = here_is h in let f : ℕ = flag replied' in record {
        watched = all;
        low = omega arith;
        high = omega arith;
        born = (let z = told.0 in omega arith);
        at_least = subst (λ (z : ℕ). found + f ≤ replies_from g i m z) (sym next) (omega (arith, a, grown, new, told'));
        at_most = subst (λ (z : ℕ). replies_from h i m z ≤ found + f) (sym next) (omega (arith, c, was, old, told'));
        paid = subst (λ (z : ℕ). Paid s.me.0 u.me.0 0 z) (let z : n + 1 ≡ (k + 1) - suc r.k = omega arith in z) (paid_add s.me.0 t.me.0 u.me.0 n 1 x.paid paid);
        looks = subst (λ (z : ℕ). Spends b.layout.cells r s.me.0 u.me.0 0 z) (let z : n + 1 ≡ (k + 1) - suc r.k = omega arith in z) (looks_more step lt);
      }

  -- the next wasn't submitted yet: nor were those after it
  pub counted_unborn : (count : ℕ) → TellsReply (events_of u.me.0.seen) here None → found < count → later_replies (events_of s.me.0.seen) r < count
  counted_unborn count told lt =
      let all = watched_then b s t u x.watched w in let h = events_of s.me.0.seen in let g = events_of u.me.0.seen in
      let few : ¬ (k < submits g r.ring) = λ born. born_once (setup_of b.layout) g here w.goes.kept.legal born told in
      let le : submits h r.ring ≤ submits g r.ring = submits_goes b (pass_of s) (pass_of u) [] r.ring all.goes in
      let z = replies_longer h r.ring (suc r.k) (submits h r.ring - suc r.k) n (omega arith) in let c = x.at_most in omega (arith, z, c, lt)

module _ (b : Facts) (s t : TableSeat) (r : Req) (k found count : ℕ) (x : IsCounted b s t r k found) where
  pub counted_enough : count ≤ found → count ≤ later_replies (events_of t.me.0.seen) r
  counted_enough le = let g = events_of t.me.0.seen in let born = x.born in let a = x.at_least in
      let z = replies_longer g r.ring (suc r.k) (k - suc r.k) (submits g r.ring - suc r.k) (omega arith) in omega (arith, le, a, z)

  -- all were looked at
  pub counted_all : r.k + cells_in b.layout.cells r.ring ≤ k → submits (events_of s.me.0.seen) r.ring ≤ r.k + cells_in b.layout.cells r.ring → found < count → later_replies (events_of s.me.0.seen) r < count
  counted_all end held lt = let h = events_of s.me.0.seen in let c = x.at_most in
      let z = replies_longer h r.ring (suc r.k) (submits h r.ring - suc r.k) (k - suc r.k) (omega arith) in omega (arith, z, c, lt)

  pub counted_looks : Spends b.layout.cells r s.me.0 t.me.0 0 (cells_in b.layout.cells r.ring - 1)
  counted_looks = let high = x.high in let low = x.low in spends_most b.layout.cells r s.me.0 t.me.0 0 (k - suc r.k) 0 (cells_in b.layout.cells r.ring - 1) x.looks (omega arith) (omega arith)

-- an armed timer has its cell, so no request came to that after it
pub held_bound : (b : Facts) (s : TableSeat) (r : Req) (x g d : ℕ) → IsOurs b s → IsAt b.layout.cells x g r → phase (events_of s.me.0.seen) r ≡ armed d → submits (events_of s.me.0.seen) r.ring ≤ r.k + cells_in b.layout.cells r.ring
held_bound b s r x g d o a is =
    let K : List ℕ = b.layout.cells in let S = setup_of b.layout in let j : List Line = s.me.0.seen in let c : ℕ = cells_in K (ring_of K x) in let h = events_of j in
    let u : suc g * c ≡ g * c + c = suc-mul g c in let m : ℕ = suc g * c in let p : ℕ = g * c in let u' : m ≡ p + c = u in
    let next : (request_at K x (suc g)).k ≡ (request_at K x g).k + c = (let z : m + place_of K x ≡ (p + place_of K x) + c = omega arith in z) in
    let n : ℕ = submits h (ring_of K x) in
    let few : ¬ ((request_at K x g).k + c < n) = λ lt. reaped_armed (phase h (request_at K x g)) d (subst (λ (q : Req). phase h q ≡ armed d) (sym a.at) is)
    (earlier_gone b.layout S x a.inside.0 j o.ours.legal o.ours.orderly (suc g) g (omega arith) (born_once S h (request_at K x (suc g)) o.ours.legal (subst (λ (z : ℕ). z < n) (sym next) lt))).0 in
    subst (λ (q : Req). submits h q.ring ≤ q.k + cells_in K q.ring) a.at (let z : n ≤ (request_at K x g).k + c = omega arith in z)

-- ---- the step

module _ (b : Facts) (s t : TableSeat) (r : Req) (x g : ℕ) (o : IsOurs b s) (a : IsAt b.layout.cells x g r) where
  at_is : request_at s.me.0.layout.cells x g ≡ r
  at_is = ap (λ (L : Layout). request_at L.cells x g) o.ours.layout_is ∙ a.at

  mine : stands_for s.me.0.role pollers ≡ true
  mine = ap (λ (z : Role). stands_for z pollers) o.seat.role

  -- it answered the timer
  pub counts_now : t.table_id ≡ s.table_id → Extends s.me.0 (Did (Count (request_at s.me.0.layout.cells x g))) s.me.0.role t.me.0 → Counts b r (pass_of s) (pass_of t) Counted
  counts_now id y = let e = subst (λ (q : Req). Extends s.me.0 (Did (Count q)) s.me.0.role t.me.0) at_is y in let now : t.me.0.seen ≡ Did (Count r) ∷ e.mid = ap (λ (z : View). z.seen) e.is in record {
    goes = goes_one b (pass_of s) (pass_of t) (Count r) o.ours mine id e;
    tells = ap (λ (j : List Line). phase (events_of j) r) now ∙ ap (λ c. cond c (replied by_count (pos 0)) (phase (events_of e.mid) r)) (same_itself r);
    others = freed_one s.me.0 t.me.0 (Count r) mine e;
  }

  -- it could be armed with this deadline alone, and is so no more
  pub counts_missed : (d : ℕ) → ((e : ℕ) → phase (events_of s.me.0.seen) r ≡ armed e → e ≡ d) → Watched b s t → (n : ℕ) × IsStep (claim_at x) n s.me.0 t.me.0 × Shown s.me.0.layout.cells t.me.0.seen x n × (n ≢ word_of Tag.Armed 0 g d) → Counts b r (pass_of s) (pass_of t) Counting.NotArmed
  counts_missed d only w f = record {
    goes = w.goes;
    tells = (
      (λ e is. let before = armed_before b (pass_of s) (pass_of t) [] w.goes mine none tt r e refl is in
          f.3 (armed_word s.me.0.layout.cells t.me.0.seen x f.0 f.2.0 f.2.1 g d (subst (λ (q : Req). phase (events_of t.me.0.seen) q ≡ armed d) (sym at_is) (is ∙ ap armed (only e before))))),
      stepped_by b s t r x g o a f.0 f.1 f.2,
    );
    others = w.freed_is;
  }

-- ---- what is kept of a timer tells its count

no_count : (o : Op) → is_link_timeout o ≡ true → count_of o ≡ 0
no_count (Timeout ticks etime_success count) is = absurd (true≢false (sym is))
no_count o is = refl

pub uncounted_linked : (h : List Event) (r : Req) (d : ℕ) → phase h r ≡ armed d → IsKept h r (Some Linked) → IsUncounted h r
uncounted_linked h r d is k = ((d, is), (k.0, k.1, no_count k.0.op k.2))

pub uncounted_alone : (h : List Event) (r : Req) (d n : ℕ) (f : Bool) → phase h r ≡ armed d → IsKept h r (Some (Alone f n)) → n ≡ 0 → IsUncounted h r
uncounted_alone h r d n f is k none' = ((d, is), (k.0, k.1, sym k.2.2 ∙ none'))

-- while the poller looks at the others
module _ (b : Facts) (s t : TableSeat) (r : Req) (x g d n : ℕ) (a : IsArmedAt b s x g r d) (k : IsCounting (events_of s.me.0.seen) r n) (w : Watched b s t) where
  -- fewer had replied already before the first look
  pub counts_fewer : later_replies (events_of s.me.0.seen) r < n → Counts b r (pass_of s) (pass_of t) Fewer
  counts_fewer lt = let is = k.2 in let some' = k.3 in record { goes = w.goes; tells = record { is_armed = (d, a.armed_is); entry = k.0; as_placed = k.1; counts = omega (arith, is, some'); fewer = omega (arith, is, lt) }; others = w.freed_is }

  -- it is armed with no other deadline later
  pub one_deadline : (e : ℕ) → phase (events_of t.me.0.seen) r ≡ armed e → e ≡ d
  one_deadline e is = let before = armed_before b (pass_of s) (pass_of t) [] w.goes (ap (λ (z : Role). stands_for z pollers) a.ours.seat.role) none tt r e refl is in let z : armed e ≡ armed d = sym before ∙ a.armed_is in cc

  -- and there are enough later
  pub enough_on : n ≤ later_replies (events_of t.me.0.seen) r → (e : Entry) × IsPlaced (events_of t.me.0.seen) r e × (0 < count_of e.op) × (count_of e.op ≤ later_replies (events_of t.me.0.seen) r)
  enough_on le = let is = k.2 in let some' = k.3 in (k.0, lasts_on b s t w (λ h. IsPlaced h r k.0) r (placed_lasts (setup_of b.layout) r k.0) a.born k.1, omega (arith, is, some'), omega (arith, is, le))

-- a look before it
module _ (b : Facts) (r : Req) (s t : TableSeat) (n m : ℕ) (alarm : Alarm) (o : IsOurs b s) (knows : KnowsAlarm (events_of s.me.0.seen) r (Some alarm)) (w : Watched b s t) (p : Paid s.me.0 t.me.0 n m) where
  pub was_armed : (d : ℕ) → phase (events_of t.me.0.seen) r ≡ armed d → phase (events_of s.me.0.seen) r ≡ armed d
  was_armed d is = armed_before b (pass_of s) (pass_of t) [] w.goes (ap (λ (z : Role). stands_for z pollers) o.seat.role) none tt r d refl is

  -- fewer had replied before
  pub fewer_sooner : HasFewer (events_of t.me.0.seen) r → HasFewer (events_of s.me.0.seen) r
  fewer_sooner f =
      let S = setup_of b.layout in let was = was_armed f.is_armed.0 f.is_armed.1 in let k = (knows f.is_armed.0 was).0 in
      let born = counted_in S s.me.0.seen r (armed f.is_armed.0) o.ours.legal was (λ u. cc) in
      let still : IsPlaced (events_of t.me.0.seen) r k.0 = lasts_on b s t w (λ h. IsPlaced h r k.0) r (placed_lasts S r k.0) born k.1 in
      let one : f.entry ≡ k.0 = (let z = sym f.as_placed ∙ still in cc) in let counts = ap (λ (e : Entry). count_of e.op) one in
      let some' = f.counts in let few = f.fewer in let le = later_grows b s t r w in
      record { is_armed = (f.is_armed.0, was); entry = k.0; as_placed = k.1; counts = omega (arith, counts, some'); fewer = omega (arith, counts, few, le) }

  tells_after : (u : TableSeat) (x : Counting) → CountingTells b r (pass_of t) (pass_of u) x → CountingTells b r (pass_of s) (pass_of u) x
  tells_after u Counted k = k
  tells_after u Fewer k = fewer_sooner k
  tells_after u NotCounted k = (k.0, stepped_after b.layout.cells r s t u b n m p k.1)
  tells_after u Counting.NotArmed k = (k.0, stepped_after b.layout.cells r s t u b n m p k.1)

  pub counts_after : (u : TableSeat) (x : Counting) → Counts b r (pass_of t) (pass_of u) x → Counts b r (pass_of s) (pass_of u) x
  counts_after u x k = record { goes = goes_then b (pass_of s) (pass_of t) (pass_of u) (counted_by x r) w.goes k.goes; tells = tells_after u x k.tells; others = λ i. k.others i ∙ w.freed_is i }

-- it arms and fires no timer, and leaves the clock
pub counted_calm : (x : Counting) (r : Req) → AllPass (is_calm none) (counted_by x r) × AllPass is_still (counted_by x r)
counted_calm Counted r = ((refl, tt), (refl, tt))
counted_calm Fewer r = (tt, tt)
counted_calm NotCounted r = (tt, tt)
counted_calm Counting.NotArmed r = (tt, tt)
