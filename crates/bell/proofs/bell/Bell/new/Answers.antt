use Rattle.std.proofs.lemmas.Grind.{common_steps}
use Rattle.atomic_table.specs.Seated.{TableId}
use Rattle.bell.proofs.Common.{List, Ringing, View, [], ap, arith, at_last, at_longer, dite, get_elem?, length, length-append, length-replicate, new_ringer, new_ringing, opening_view, replicate, rules, some, subst, sym, with_ringer, ℕ, ℕ_discrete, ◌++◌, ◌+◌, ◌<◌, ◌∙◌, ◌∷◌, ◌≡◌, ◌≢◌}
use Rattle.bell.proofs.SleeperSteps.{opens, cuts_ringer}
use Rattle.bell.proofs.bell.Bell.new.Goals as goal

pub of_words-requires : goal.of_words-requires
of_words-requires c =
    let words : c.as_slice.result.now ≡ replicate (c.args.rings + 1) 0 = first_of (search rules, grind (arith, common_steps)) in
    let key : c.from-3.result ≡ c.args.rings = c.from-3.ensures in
    rw (words, key) (opens c.args.rings)

pub split_seat-cut-requires : goal.split_seat-cut-requires
split_seat-cut-requires c =
    let i = c.loop-ring.invariant in
    let t = c.in_ok-table.ensures in
    let v : c.loop-ring.seat.me.0 ≡ record (opening_view c.args.rings) { rings = c.loop-ring.ring } = i.1 in
    let words : c.as_slice.result.now ≡ replicate (c.args.rings + 1) 0 = first_of (search rules, grind (arith, common_steps)) in
    let count : c.in_ok-table.table.shared.table_id.words ≡ c.args.rings + 1 = t.0 ∙ (ap (λ (z : List ℕ). length z) words ∙ length-replicate (c.args.rings + 1) (let z : ℕ = 0 in z)) in
    let key : c.in_ok-table.table.shared.key ≡ c.args.rings = t.5 ∙ c.from-3.ensures in
    let rings : c.loop-ring.seat.me.0.rings ≡ c.loop-ring.ring = ap (λ (u : View). u.rings) v in
    let room : c.loop-ring.ring < c.args.rings = c.loop-ring-test.true in
    (i.0 ∙ t.2, omega arith, cuts_ringer _ c.loop-ring.seat.id c.loop-ring.seat.me.0 (ap (λ (u : View). u.role) v) (omega arith) (ap (λ (u : View). u.armed) v) (ap (λ (u : View). u.wakes) v))

-- a ringer more
ringers_pushed : (table : TableId) (old new : List Ringing) (x : Ringing) (n : ℕ) → length old ≡ n → new ≡ old ++ x ∷ [] → x ≡ new_ringing table n → ((r : ℕ) → r < n → get_elem? old r ≡ some (new_ringing table r)) → (length new ≡ n + 1) × ((r : ℕ) → r < n + 1 → get_elem? new r ≡ some (new_ringing table r))
ringers_pushed table old new x n long is one was = (
  ap (λ (z : List Ringing). length z) is ∙ (length-append old (x ∷ []) ∙ ap (λ (z : ℕ). z + 1) long),
  λ r h. subst (λ (z : List Ringing). get_elem? z r ≡ some (new_ringing table r)) (sym is) (dite (ℕ_discrete r n)
      (λ e. subst (λ (z : ℕ). get_elem? (old ++ x ∷ []) z ≡ some (new_ringing table z)) (sym e) (at_last old x n long ∙ ap some one))
      (λ d. at_longer old (x ∷ []) r (new_ringing table r) (was r (let f : r ≢ n = d in omega arith)))),
)

pub loop-ring-preserved : goal.loop-ring-preserved
loop-ring-preserved c =
    let i = c.loop-ring.invariant in
    let s = c.split_seat-cut.ensures in
    let w : c.split_seat-cut.result.me.0 ≡ new_ringer c.loop-ring.seat.me.0 = ap (λ m. m.0) s.4 in
    let tail : c.split_seat-cut.result.me.0.tail ≡ 0 = ap (λ (u : View). u.tail) w in
    let found : c.split_seat-cut.result.me.0.found ≡ [] = ap (λ (u : View). u.found) w in
    let wakes : c.split_seat-cut.result.me.0.wakes ≡ [] = ap (λ (u : View). u.wakes) w in
    let table : c.split_seat-cut.result.table_id ≡ c.in_ok-table.seat.table_id = s.3 ∙ i.0 in
    let one : c.new.result ≡ new_ringing c.in_ok-table.seat.table_id c.loop-ring.ring = c.new.ensures ∙ (let e : (record { table = c.split_seat-cut.result.table_id; ring = c.loop-ring.ring; tail = c.split_seat-cut.result.me.0.tail; found = c.split_seat-cut.result.me.0.found; wakes = c.split_seat-cut.result.me.0.wakes }) ≡ new_ringing c.in_ok-table.seat.table_id c.loop-ring.ring = (λ k. record { table = table k; ring = c.loop-ring.ring; tail = tail k; found = found k; wakes = wakes k }) in e) in
    let all = ringers_pushed c.in_ok-table.seat.table_id c.loop-ring.ringers.items c.push.new.self.items c.new.result c.loop-ring.ring i.2 c.in_ok-push.ensures.items one i.3 in
    (s.0 ∙ i.0, ap (λ m. m.0) s.2 ∙ ap with_ringer i.1, all.0, all.1)
