use Rattle.event_count.proofs.Common.{View, [], ap, arith, false, new_waiting, number_of, with_waiter, ◌∙◌, ◌≡◌}
use Rattle.event_count.proofs.Opening.{cuts_waiter, new_waiter_seat, one_more}
use Rattle.event_count.proofs.event_count.cut_waiters.Goals as goal

pub split_seat-cut-requires : goal.split_seat-cut-requires
split_seat-cut-requires c = let i = c.loop-number.invariant in let o = c.requires.own in (i.0 ∙ o.0, omega arith, cuts_waiter c.loop-number.seat.id c.loop-number.seat.me.0 (ap (λ (u : View). u.role) i.1 ∙ c.requires.first.0) (let b = c.loop-number-test.true in omega (arith, ap (λ (u : View). u.waiters) i.1, c.requires.few)))

pub new-requires : goal.new-requires
new-requires c = let o = c.requires.own in new_waiter_seat c.split_seat-cut.result c.loop-number.seat.me.0 (ap (λ m. m.0) c.split_seat-cut.ensures.4) (ap (λ t. t.words) (c.split_seat-cut.ensures.3 ∙ (c.loop-number.invariant.0 ∙ o.0)) ∙ o.1)

pub loop-number-preserved : goal.loop-number-preserved
loop-number-preserved c =
    let i = c.loop-number.invariant in
    let s = c.split_seat-cut.ensures in
    let seen : c.split_seat-cut.result.me.0.seen ≡ [] = ap (λ m. m.0.seen) s.4 in
    let number : number_of c.split_seat-cut.result.me.0.role ≡ c.loop-number._number = ap (λ m. number_of m.0.role) s.4 ∙ ap (λ (u : View). u.waiters) i.1 in
    let one : c.new.result ≡ new_waiting c.args.seat.now.table_id c.loop-number._number = c.new.ensures ∙ (let e : (record { table = c.split_seat-cut.result.table_id; number = number_of c.split_seat-cut.result.me.0.role; entered = false; key = 0; seen = c.split_seat-cut.result.me.0.seen }) ≡ new_waiting c.args.seat.now.table_id c.loop-number._number = (λ k. record { table = (s.3 ∙ i.0) k; number = number k; entered = false; key = 0; seen = seen k }) in e) in
    (s.0 ∙ i.0, ap (λ m. m.0) s.2 ∙ ap with_waiter i.1, one_more (new_waiting c.args.seat.now.table_id) c.loop-number.waiters.items c.push.new.self.items c.new.result c.loop-number._number i.2 c.in_ok-push.ensures.items one)
