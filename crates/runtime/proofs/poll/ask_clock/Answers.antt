use Rattle.runtime.proofs.Common.{GoesOn, IsPollers, Pass, Tick, [], ap, arith, freed, refl, subst, sym, true≢false, ◌∙◌, ◌∷◌}
use Rattle.runtime.proofs.ClockLaws.{clock_kept, goes_along, heard, stops_along}
use Rattle.board.proofs.EventsTogether.{goes_on, goes_on_then}
use Rattle.runtime.proofs.poll.ask_clock.Goals as goal

pub phase_of-phase-requires-clause-role : goal.phase_of-phase-requires-clause-role
phase_of-phase-requires-clause-role g c = (_, c.clock-now.ensures.role)

pub returns-in_default-clause-role : goal.returns-in_default-clause-role
returns-in_default-clause-role g c = (_, c.phase_of-phase.ensures.looks.role_is ∙ c.clock-now.ensures.role)

pub returns-in_default-tick-clause-role : goal.returns-in_default-tick-clause-role
returns-in_default-tick-clause-role g c = (_, ap (λ (z : Pass). z.view.role) c.in_default-tick.ensures.refused.0 ∙ (c.phase_of-phase.ensures.looks.role_is ∙ c.clock-now.ensures.role))

pub returns-clause-role : goal.returns-clause-role
returns-clause-role g c = (_, c.in-Ok.ensures.goes.role_is ∙ (c.phase_of-phase.ensures.looks.role_is ∙ c.clock-now.ensures.role))

pub returns-in_default-clause-ticked : goal.returns-in_default-clause-ticked
returns-in_default-clause-ticked g c = record {
  events = [];
  goes = goes_on _ _ _ _ c.phase_of-phase.ensures.looks;
  once = omega arith;
  silent = refl;
  alone = c.phase_of-phase.ensures.alone;
  same = (refl, refl, refl);
  quiet = λ idle. refl;
}

pub returns-in_default-tick-clause-ticked : goal.returns-in_default-tick-clause-ticked
returns-in_default-tick-clause-ticked g c = record {
  events = [];
  goes = subst (λ (z : Pass). GoesOn c.args.board.now c.args.state.now.poller [] z) (sym c.in_default-tick.ensures.refused.0) (goes_on _ _ _ _ c.phase_of-phase.ensures.looks);
  once = omega arith;
  silent = refl;
  alone = λ r. ap (λ (z : Pass). freed z.view.seen r) c.in_default-tick.ensures.refused.0 ∙ c.phase_of-phase.ensures.alone r;
  same = (refl, refl, refl);
  quiet = λ idle. refl;
}

pub returns-clause-ticked : goal.returns-clause-ticked
returns-clause-ticked g c = record {
  events = Tick c.in-Some.to ∷ [];
  goes = goes_on_then _ _ c.phase_of-phase.new.poller _ [] (Tick c.in-Some.to ∷ []) (goes_on _ _ _ _ c.phase_of-phase.ensures.looks) (goes_on _ _ _ _ c.in-Ok.ensures.goes);
  once = omega arith;
  silent = refl;
  alone = λ r. c.tick.ensures.alone r ∙ c.phase_of-phase.ensures.alone r;
  same = (refl, refl, refl);
  quiet = λ idle. absurd (true≢false idle);
}

pub returns-in_default-clause-follows : goal.returns-in_default-clause-follows
returns-in_default-clause-follows g c f =
    let role : IsPollers c.args.state.now.poller = (_, c.clock-now.ensures.role) in
    let time = c.clock-now.ensures.clock ∙ sym (clock_kept _ _ _ [] (goes_on _ _ _ _ c.phase_of-phase.ensures.looks) role refl) in
    let before = heard (g.C.Clock.follows c.args.clock.now) (g.met.C.Clock.stays c.args.clock.now) _ _ _ _ _ _ c.phase_of-phase.ensures.looks role c.ask.ensures c.phase_of-phase.ensures.asked f in
    c.in_default.ensures c.phase_of-phase.new.poller.view.seen before.0 time before.1

pub returns-in_default-tick-clause-follows : goal.returns-in_default-tick-clause-follows
returns-in_default-tick-clause-follows g c f =
    let role : IsPollers c.args.state.now.poller = (_, c.clock-now.ensures.role) in
    let time = c.clock-now.ensures.clock ∙ sym (clock_kept _ _ _ [] (goes_on _ _ _ _ c.phase_of-phase.ensures.looks) role refl) in
    let before = heard (g.C.Clock.follows c.args.clock.now) (g.met.C.Clock.stays c.args.clock.now) _ _ _ _ _ _ c.phase_of-phase.ensures.looks role c.ask.ensures c.phase_of-phase.ensures.asked f in
    let refused = c.in_default-tick.ensures.refused in
    stops_along (g.C.Clock.follows c.advance.new.self) _ _ _ c.in-Some.to c.phase_of-phase.ensures.looks.kept refused.0 refused.1 (c.in-Some.ensures c.phase_of-phase.new.poller.view.seen before.0 time before.1)

pub returns-clause-follows : goal.returns-clause-follows
returns-clause-follows g c f =
    let role : IsPollers c.args.state.now.poller = (_, c.clock-now.ensures.role) in
    let time = c.clock-now.ensures.clock ∙ sym (clock_kept _ _ _ [] (goes_on _ _ _ _ c.phase_of-phase.ensures.looks) role refl) in
    let before = heard (g.C.Clock.follows c.args.clock.now) (g.met.C.Clock.stays c.args.clock.now) _ _ _ _ _ _ c.phase_of-phase.ensures.looks role c.ask.ensures c.phase_of-phase.ensures.asked f in
    let still : IsPollers c.phase_of-phase.new.poller = (role.0, c.phase_of-phase.ensures.looks.role_is ∙ role.1) in
    goes_along (g.C.Clock.follows c.advance.new.self) _ _ _ c.in-Some.to still c.in-Ok.ensures.goes (c.in-Some.ensures c.phase_of-phase.new.poller.view.seen before.0 time before.1)
