use Rattle.gates.proofs.Common.{Cell, IsSound, IsToldBy, Kept, None, [], ap, arith, false, free_by, length, refl, starting, subst, sym, true, true≢false, ◌++◌, ◌<◌, ◌∙◌, ◌∷◌, ◌≡◌, ◌≤◌}
use Rattle.gates.proofs.Adding.{stands_added, stands_moved, told_dropped}
use Rattle.gates.proofs.Freeing.{room_law, free_law, full_law, free_pos, first_done}
use Rattle.gates.proofs.row.Row.add_traits.Goals as goal

pub returns-then-len-self-clause-added : goal.returns-then-len-self-clause-added
returns-then-len-self-clause-added c = λ xs stands.
    let r = c.args.self.now in let sound = subst (λ z. IsSound z) c.self.view_is c.self.invariant.0 in
    let v : Cell = record { traits = c.args.traits; last = c.args.last; reply = None; behind = c.told_by_last-behind.result } in
    let told = subst (λ z. IsToldBy z.lost z.cells c.told_by_last-behind.result) c.self.view_is c.told_by_last-behind.ensures.told in
    let none = subst (λ z. length z.cells ≡ 0 → c.told_by_last-behind.result ≡ starting z.lost) c.self.view_is c.told_by_last-behind.ensures.first in
    let lt = subst (λ z. length z.cells < z.size) c.self.view_is (let a : length c.self.inside.cells.items < c.self.inside.size = omega arith in a) in
    stands_added xs r c.append.new.self v sound stands lt told none c.append.ensures.size c.append.ensures.lost c.append.ensures.cells

pub returns-then-len-self-clause-free : goal.returns-then-len-self-clause-free
returns-then-len-self-clause-free c = λ h i xs stands shows.
    let r = c.args.self.now in let sound = subst (λ z. IsSound z) c.self.view_is c.self.invariant.0 in
    let lt = subst (λ z. length z.cells < z.size) c.self.view_is (let a : length c.self.inside.cells.items < c.self.inside.size = omega arith in a) in
    ((λ _. room_law xs r sound stands lt h i shows), λ _. refl)

pub returns-then-not-is_free-clause-free : goal.returns-then-not-is_free-clause-free
returns-then-not-is_free-clause-free c = λ h i xs stands shows.
    let r = c.args.self.now in let sound = subst (λ z. IsSound z) c.self.view_is c.self.invariant.0 in
    let le = subst (λ z. z.size ≤ length z.cells) c.self.view_is (let a : c.self.inside.size ≤ length c.self.inside.cells.items = omega arith in a) in
    let e = subst (λ z. free_by z.lost z.cells z.oldest ≡ false) c.self.view_is (sym c.is_free.ensures ∙ c.if-not-is_free.true) in
    ((λ u. absurd (true≢false (sym u))), λ f. absurd (full_law xs r sound stands le h i shows e f))

pub append-requires-2-clause-told : goal.append-requires-2-clause-told
append-requires-2-clause-told c =
    let told = subst (λ z. IsToldBy z.lost z.cells c.told_by_last-behind.result) c.self.view_is c.told_by_last-behind.ensures.told in
    subst (λ z. IsToldBy z.lost z.cells c.told_by_last-behind.result) (sym c.drop_first.ensures) (told_dropped c.args.self.now.lost c.args.self.now.cells c.told_by_last-behind.result told)

pub returns-clause-added : goal.returns-clause-added
returns-clause-added c = λ xs stands.
    let r = c.args.self.now in let sound = subst (λ z. IsSound z) c.self.view_is c.self.invariant.0 in
    let v : Cell = record { traits = c.args.traits; last = c.args.last; reply = None; behind = c.told_by_last-behind.result } in
    let told = subst (λ z. IsToldBy z.lost z.cells c.told_by_last-behind.result) c.self.view_is c.told_by_last-behind.ensures.told in
    let none = subst (λ z. length z.cells ≡ 0 → c.told_by_last-behind.result ≡ starting z.lost) c.self.view_is c.told_by_last-behind.ensures.first in
    let le = subst (λ z. z.size ≤ length z.cells) c.self.view_is (let a : c.self.inside.size ≤ length c.self.inside.cells.items = omega arith in a) in
    let e = subst (λ z. free_by z.lost z.cells z.oldest ≡ true) c.self.view_is (sym c.is_free.ensures ∙ c.if-not-is_free.false) in
    let pos = free_pos xs r sound stands le e in
    stands_moved xs r c.append-2.new.self v sound stands pos le told none (first_done xs r sound stands le pos)
    (c.append-2.ensures.size ∙ ap (λ (z : Kept). z.size) c.drop_first.ensures) (c.append-2.ensures.lost ∙ ap (λ (z : Kept). z.lost) c.drop_first.ensures)
    (c.append-2.ensures.cells ∙ ap (λ (z : Kept). z.cells ++ v ∷ []) c.drop_first.ensures)

pub returns-clause-free : goal.returns-clause-free
returns-clause-free c = λ h i xs stands shows.
    let r = c.args.self.now in let sound = subst (λ z. IsSound z) c.self.view_is c.self.invariant.0 in
    let le = subst (λ z. z.size ≤ length z.cells) c.self.view_is (let a : c.self.inside.size ≤ length c.self.inside.cells.items = omega arith in a) in
    let e = subst (λ z. free_by z.lost z.cells z.oldest ≡ true) c.self.view_is (sym c.is_free.ensures ∙ c.if-not-is_free.false) in
    ((λ _. free_law xs r sound stands le h i shows e), λ _. refl)
