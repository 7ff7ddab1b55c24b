use Rattle.script_run.proofs.Common.{Armed, Some, Tick, Wait, ap, line_at, sym, ◌∙◌, ◌≡◌}
use Rattle.script_run.proofs.ClockSteps.{told_waiting, told_arming, told_setting, turn_counted, line_there, not_stuck, asked_is, waits_still, arms_still, at_next}
use Rattle.script_run.proofs.clock.LineClockClock.advance.Goals as goal

pub returns-in-Wait : goal.returns-in-Wait
returns-in-Wait c = λ j k t a.
    (let old = c.args.self.now in let new = c.count.new.self in let e = c.count.ensures in let r = c.in-Wait.field-0 in let p = c.in-Wait.field-1 in
    let at : line_at old.is_stuck old.lines.items old.next ≡ Some (Wait r p) = sym c.line.ensures ∙ (c.in_ok-line.was ∙ ap Some c.in-Wait.is) in
    turn_counted old.lines.items new.lines.items old.next new.next old.tries new.tries old.most new.most old.is_stuck new.is_stuck c.has_reply.result _
    (record { small = e.small; lines_are = ap (λ v. v.items) e.same.0; most_is = e.same.1; gone = e.gone; still = e.still })
    (not_stuck old.is_stuck old.lines.items old.next (Wait r p) at)
    (λ w. told_waiting old.is_stuck old.lines.items new.lines.items old.next new.next r p c.has_reply.result c.args.phase j at (ap (λ v. v.items) e.same.0) (λ z. (e.gone z).0) (λ z. (e.still z).0) c.has_reply.ensures k.along a)
    (λ w. waits_still _ r p c.args.phase j (line_there old.is_stuck old.lines.items old.next (Wait r p) at) (sym c.has_reply.ensures ∙ w) (asked_is old.is_stuck old.lines.items old.next (Wait r p) c.args.phase j at a))
    k)

pub returns-in-Armed : goal.returns-in-Armed
returns-in-Armed c = λ j k t a.
    (let old = c.args.self.now in let new = c.count-in-Armed.new.self in let e = c.count-in-Armed.ensures in let r = c.in-Armed.field-0 in let p = c.in-Armed.field-1 in
    let at : line_at old.is_stuck old.lines.items old.next ≡ Some (Armed r p) = sym c.line.ensures ∙ (c.in_ok-line.was ∙ ap Some c.in-Armed.is) in
    turn_counted old.lines.items new.lines.items old.next new.next old.tries new.tries old.most new.most old.is_stuck new.is_stuck c.is_ready.result _
    (record { small = e.small; lines_are = ap (λ v. v.items) e.same.0; most_is = e.same.1; gone = e.gone; still = e.still })
    (not_stuck old.is_stuck old.lines.items old.next (Armed r p) at)
    (λ w. told_arming old.is_stuck old.lines.items new.lines.items old.next new.next r p c.is_ready.result c.args.phase j at (ap (λ v. v.items) e.same.0) (λ z. (e.gone z).0) (λ z. (e.still z).0) c.is_ready.ensures k.along a)
    (λ w. arms_still _ r p c.args.phase j (line_there old.is_stuck old.lines.items old.next (Armed r p) at) (sym c.is_ready.ensures ∙ w) (asked_is old.is_stuck old.lines.items old.next (Armed r p) c.args.phase j at a))
    k)

pub returns-in-Tick : goal.returns-in-Tick
returns-in-Tick c = λ j k t a.
    (let old = c.args.self.now in let new = c.go_on.new.self in let e = c.go_on.ensures in
    let at : line_at old.is_stuck old.lines.items old.next ≡ Some (Tick c.in-Tick.to) = sym c.line.ensures ∙ (c.in_ok-line.was ∙ ap Some c.in-Tick.is) in
    let goes = e.same.2 ∙ not_stuck old.is_stuck old.lines.items old.next (Tick c.in-Tick.to) at in
    λ s more l none.
    (let set = told_setting old.is_stuck old.lines.items new.lines.items old.next new.next c.in-Tick.to j at (ap (λ v. v.items) e.same.0) e.next.0 k.along s more l none in
    (λ may. at_next new.lines.items new.next new.tries new.most new.is_stuck _ e.next.1 goes (set.0 may), λ late. at_next new.lines.items new.next new.tries new.most new.is_stuck _ e.next.1 goes (set.1 late))))
