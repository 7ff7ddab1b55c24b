use Rattle.board.proofs.Common.{Facts, IsCell, Layout, Req, Shown, Stands, ap, inl, inr, length, request_at, subst, sym, ◌≡◌, ◌≤◌}
use Rattle.board.proofs.GoesLaws.{goes_looked}
use Rattle.board.proofs.PassFacts.{keeps_freed, unborn_ring, found_word, stepped_once, cell_of}
use Rattle.board.proofs.board.Board.look.Goals as goal

pub returns-in_default-clause-finds : goal.returns-in_default-clause-finds
returns-in_default-clause-finds g c =
    let le : length c.args.self.now.layout.cells ≤ c.args.req.ring = subst (λ (b : Facts). length b.layout.cells ≤ c.args.req.ring) c.self.view_is c.in_default.ensures.none in
    (unborn_ring c.args.self.now (g.P.Pass.knows c.args.pass.now) c.args.req c.requires le, inl le)

pub told-requires : goal.told-requires
told-requires g c = let e = c.load-word.ensures in found_word c.args.self.now (g.P.Pass.knows c.args.pass.now) (g.P.Pass.knows c.load-word.new.self) c.in-Some.cell.index c.load-word.result c.requires e.table e.looks e.shown

pub returns-clause-looks : goal.returns-clause-looks
returns-clause-looks g c = let e = c.load-word.ensures in goes_looked c.args.self.now (g.P.Pass.knows c.args.pass.now) (g.P.Pass.knows c.load-word.new.self) c.requires e.table e.looks

pub returns-clause-finds : goal.returns-clause-finds
returns-clause-finds g c =
    let e = c.load-word.ensures in let p = g.P.Pass.knows c.args.pass.now in let q = g.P.Pass.knows c.load-word.new.self in let s = c.in-Some.cell in
    let at = cell_of c.args.self.now p c.self.inside.grid s.index s.generation c.args.req c.requires (sym (ap (λ (b : Facts). b.layout.cells) c.self.view_is)) c.in-Some.ensures.some.1 in
    (subst (λ (r : Req). Stands q.view.seen r c.told.result) at (c.told.ensures.stands p.view.layout.cells q.view.seen s.index e.shown), inr (stepped_once c.args.self.now.layout.cells c.args.req p q s.index s.generation c.load-word.result (subst (λ (b : Facts). IsCell b.layout.cells s.index) c.self.view_is c.in-Some.ensures.some.0) (subst (λ (b : Facts). request_at b.layout.cells s.index s.generation ≡ c.args.req) c.self.view_is c.in-Some.ensures.some.1) e.step (subst (λ (L : Layout). Shown L.cells q.view.seen s.index c.load-word.result) c.requires.layout_is e.shown)))

pub returns-clause-alone : goal.returns-clause-alone
returns-clause-alone g c = keeps_freed (g.P.Pass.knows c.args.pass.now) (g.P.Pass.knows c.load-word.new.self) c.load-word.ensures.looks
