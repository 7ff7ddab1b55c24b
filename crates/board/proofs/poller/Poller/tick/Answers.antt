use Rattle.board.proofs.Common.{Goes, IsOf, Pass, Role, Tick, [], ap, arith, pass_of, pollers, refl, stands_for, subst, sym, ◌∷◌, ◌≡◌}
use Rattle.board.proofs.RowsKept.{rows_on}
use Rattle.board.proofs.TimersHeld.{ticked_timers, goes_one, freed_one}
use Rattle.board.proofs.Watching.{seat_own}
use Rattle.board.proofs.poller.Poller.tick.Goals as goal

pub invariant_of-self : goal.invariant_of-self
invariant_of-self c =
    let i = c.self.invariant in let s = c.self.inside.seat in let t = c.tick.new.seat in let e = c.tick.ensures in let b = c.args.board.now in let o : IsOf b (pass_of s) = subst (IsOf b) (sym c.self.view_is) c.requires in
    let mine = ap (λ (z : Role). stands_for z pollers) i.0.role in let g : Goes b (pass_of s) (Tick c.args.to ∷ []) (pass_of t) = goes_one b (pass_of s) (pass_of t) (Tick c.args.to) o mine e.seat.0.0 e.ticks in
    let lt = c.if-to-gt-TICK.false in (
      seat_own s t (Tick c.args.to) i.0 e.seat.1 e.ticks,
      rows_on b s t (Tick c.args.to ∷ []) o g c.self.inside.rows.items i.1,
      ticked_timers b s t c.args.to i.0 o g e.ticks (omega arith) c.self.inside.clock c.self.inside.alarms.items i.2,
    )

pub returns-clause-ticked : goal.returns-clause-ticked
returns-clause-ticked c =
    let i = c.self.invariant in let s = c.self.inside.seat in let t = c.tick.new.seat in let e = c.tick.ensures in let b = c.args.board.now in let o : IsOf b (pass_of s) = subst (IsOf b) (sym c.self.view_is) c.requires in
    let mine = ap (λ (z : Role). stands_for z pollers) i.0.role in let g : Goes b (pass_of s) (Tick c.args.to ∷ []) (pass_of t) = goes_one b (pass_of s) (pass_of t) (Tick c.args.to) o mine e.seat.0.0 e.ticks in
    let freed' = freed_one s.me.0 t.me.0 (Tick c.args.to) mine e.ticks in
    subst (λ (p : Pass). Goes b p (Tick c.args.to ∷ []) (pass_of t) × Rattle.work.specs.Passes.Took p.view t.me.0 1 × ((q : Rattle.history.specs.declared.req.Req.Req) → Rattle.steps.specs.Journal.freed t.me.0.seen q ≡ Rattle.steps.specs.Journal.freed p.view.seen q)) c.self.view_is
    (g, (record { word = 0; found = e.step.0; seen = t.me.0.seen } ∷ [], refl, e.step.1), freed')
