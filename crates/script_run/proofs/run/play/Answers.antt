use Rattle.script_run.proofs.Common.{All, AreClients, ClientFacts, Actor, HasLabel, IsLowest, IsStuckOn, List, None, Some, Stuck, ap, err_from_is_err_and, inl, inr, length, rules, subst, sym, ℕ, ◌∙◌, ◌≡◌}
use Rattle.script_run.proofs.RunSteps.{in_order, are_carried, of_board, played}
use Rattle.script_run.proofs.StuckRuns.{if_stuck_on, stuck_ring, stuck_clock, unstuck}
use Rattle.script_run.proofs.run.play.Goals as goal

pub end_at_once-requires : goal.end_at_once-requires
end_at_once-requires g c =
    let all : List Actor = c.carry_all-actors.result.items in
    let order = in_order c.args.stage.now.script.now c.args.stage.now.turns c.args.runtime.board c.args.actors.items all c.requires.actors c.carry_all-actors.ensures in
    subst (λ (xs : List ClientFacts). AreClients c.args.runtime.board xs) (sym c.parts_of-clients.ensures.clients) (of_board c.args.runtime.board all order)

pub end_at_rest-requires : goal.end_at_rest-requires
end_at_rest-requires g c =
    let all : List Actor = c.carry_all-actors.result.items in
    let order = in_order c.args.stage.now.script.now c.args.stage.now.turns c.args.runtime.board c.args.actors.items all c.requires.actors c.carry_all-actors.ensures in
    subst (λ (xs : List ClientFacts). AreClients c.args.runtime.board xs) (sym c.parts_of-clients.ensures.clients) (of_board c.args.runtime.board all order)

-- a ring's line
pub returns-in-Some-clause-stuck : goal.returns-in-Some-clause-stuck
returns-in-Some-clause-stuck g c =
    let script = c.args.stage.now.script.now in
    let turns = c.args.stage.now.turns in
    let whole : c.as_slice.result.now ≡ c.carry_all-actors.result.items = search rules in
    if_stuck_on (λ (label : List ℕ). (p : ℕ) × (c.in-Some.halt ≡ Stuck p) × HasLabel script p label) (IsStuckOn script turns c.args.runtime.board) c.fault_of.result
    (λ label x. inl (stuck_ring script turns c.args.runtime.board c.args.actors.items c.carry_all-actors.result.items x.0 label c.requires.actors c.carry_all-actors.ensures (subst (λ (hs : List Actor). IsLowest hs (length hs) x.0) whole (c.halt_of-halt.ensures.stuck x.0 (c.in-Some.is ∙ ap Some x.1))) x.2)) c.fault_of.ensures

pub returns-in-Some-taken-clause-played : goal.returns-in-Some-taken-clause-played
returns-in-Some-taken-clause-played g c =
    let script = c.args.stage.now.script.now in
    let all : List Actor = c.carry_all-actors.result.items in
    let order = in_order script c.args.stage.now.turns c.args.runtime.board c.args.actors.items all c.requires.actors c.carry_all-actors.ensures in
    let whole : c.as_slice.result.now ≡ all = search rules in
    let halts = subst (λ (hs : List Actor). All (λ (h : Actor). h.halt ≡ None) hs) whole (c.halt_of-halt.ensures.none c.in_default.is) in
    let carried = are_carried script c.args.stage.now.turns c.args.runtime.board c.args.actors.items all c.requires.actors c.carry_all-actors.ensures halts in
    let clock = c.in-Through.ensures in
    played script c.args.runtime.board all c.parts_of-clients.result.0.items c.in-Some-taken.taken.items c.in_ok-report.report c.in_ok-report.clock.lines.items c.args.lines.now c.in_ok-report.clock.next c.in_ok-report.clock.tries c.in_ok-report.clock.most c.in_ok-report.clock.is_stuck
    order carried c.parts_of-clients.ensures.clients (rw c.in-Some-taken.is at c.parts_of-clients.ensures.taken) clock.0 clock.1 c.requires.lines c.in_ok-report.ensures.ended

-- the clock's line
pub returns-in-Stuck-clause-stuck : goal.returns-in-Stuck-clause-stuck
returns-in-Stuck-clause-stuck g c =
    let script = c.args.stage.now.script.now in let turns = c.args.stage.now.turns in
    let all : List Actor = c.carry_all-actors.result.items in
    let order = in_order script turns c.args.runtime.board c.args.actors.items all c.requires.actors c.carry_all-actors.ensures in
    let whole : c.as_slice.result.now ≡ all = search rules in
    let halts = subst (λ (hs : List Actor). All (λ (h : Actor). h.halt ≡ None) hs) whole (c.halt_of-halt.ensures.none c.in_default.is) in
    let carried = are_carried script turns c.args.runtime.board c.args.actors.items all c.requires.actors c.carry_all-actors.ensures halts in
    let clock = c.in_ok-report.clock in
    if_stuck_on (λ (label : List ℕ). (p : ℕ) × (Stuck c.in-Stuck.place ≡ Stuck p) × HasLabel script p label) (IsStuckOn script turns c.args.runtime.board) c.fault_of-in-Stuck.result
    (λ label x. (
    let same : c.in-Stuck.place ≡ x.0 = cc in
    inr (stuck_clock script turns c.args.runtime.board all c.parts_of-clients.result.0.items clock.lines.items c.args.lines.now clock.next clock.tries clock.most clock.is_stuck c.in_ok-report.report c.in-Stuck.place label order carried c.requires.lines c.in-Stuck.ensures c.in_ok-report.ensures.ended (subst (λ (p : ℕ). HasLabel script p label) (sym same) x.2)))) c.fault_of-in-Stuck.ensures

pub returns-in_err-report-clause-stuck : goal.returns-in_err-report-clause-stuck
returns-in_err-report-clause-stuck g c =
    let p = err_from_is_err_and c.from_residual.result c.from_residual.ensures.1 in
    rw (p.1, p.2) (unstuck (IsStuckOn c.args.stage.now.script.now c.args.stage.now.turns c.args.runtime.board) _ c.in_err-report.ensures.unstuck)
