use Rattle.board.proofs.Common.{Begins, CanReach, Facts, HasLooked, IsBoard, KeepsFreed, Pass, Step, [], ap, claim_at, looked_of, refl, subst, sym, ◌∙◌, ◌∷◌, ◌≡◌}
use Rattle.board.proofs.GoesLaws.{goes_looked}
use Rattle.board.proofs.PassFacts.{first_cell_reached, goes_told, begins_told, has_looked, keeps_freed, keeps_freed_told}
use Rattle.board.proofs.board.Board.meet.Goals as goal

pub load-requires : goal.load-requires
load-requires g c = let k = subst IsBoard c.self.view_is c.self.invariant.0 in subst (λ (b : Facts). CanReach b.table (g.P.Pass.knows c.args.pass.now) 0) (sym c.self.view_is) (first_cell_reached c.args.self.now (g.P.Pass.knows c.args.pass.now) k c.requires.first)

pub tell-messenger-requires : goal.tell-messenger-requires
tell-messenger-requires g c = let e = c.load.ensures in let p = g.P.Pass.knows c.args.pass.now in let q = g.P.Pass.knows c.load.new.self in let k = subst IsBoard c.self.view_is c.self.invariant.0 in
    subst (λ (b : Facts). CanReach b.table q 0) (sym c.self.view_is) (first_cell_reached c.args.self.now q k (looked_of c.args.self.now p q c.requires.first e.table e.looks))

pub hear-requires-clause-reach : goal.hear-requires-clause-reach
hear-requires-clause-reach g c = let k = subst IsBoard c.self.view_is c.self.invariant.0 in subst (λ (b : Facts). CanReach b.table (g.Q.Pass.knows c.args.other.now) 0) (sym c.self.view_is) (first_cell_reached c.args.self.now (g.Q.Pass.knows c.args.other.now) k c.requires.second)

pub load-requires-2 : goal.load-requires-2
load-requires-2 g c = let p = g.Q.Pass.knows c.args.other.now in let m = c.tell-messenger.result in let k = subst IsBoard c.self.view_is c.self.invariant.0 in
    let r = first_cell_reached c.args.self.now p k c.requires.second in
    subst (λ (b : Facts). CanReach b.table (g.Q.Pass.knows c.hear.new.self) 0) (sym c.self.view_is) (subst (λ (z : Pass). CanReach c.args.self.now.table z 0) (sym c.hear.ensures.heard) record { table_is = r.table_is; cell = r.cell })

pub returns-clause-first : goal.returns-clause-first
returns-clause-first g c = let e = c.load.ensures in let p = g.P.Pass.knows c.args.pass.now in
    subst (λ (z : Pass). Rattle.board.specs.Calls.Goes c.args.self.now p [] z) (sym c.tell-messenger.ensures.same) (goes_looked c.args.self.now p (g.P.Pass.knows c.load.new.self) c.requires.first e.table e.looks)

pub returns-clause-second : goal.returns-clause-second
returns-clause-second g c = let e = c.load-2.ensures in let p = g.Q.Pass.knows c.args.other.now in let m = c.tell-messenger.result in
    goes_told c.args.self.now p (g.Q.Pass.knows c.hear.new.self) (g.Q.Pass.knows c.load-2.new.self) m.view c.requires.second c.hear.ensures.heard (ap (λ (z : Pass). z.view.parts) c.tell-messenger.ensures.told) e.table e.looks

pub returns-clause-looked : goal.returns-clause-looked
returns-clause-looked g c = let e = c.load-2.ensures in let p = g.P.Pass.knows c.args.pass.now in let q = g.Q.Pass.knows c.load-2.new.self in
    let last : Step = record { word = claim_at 0; found = c.load-2.result; seen = q.view.seen } in (
      subst (λ (z : Pass). HasLooked p z) (sym c.tell-messenger.ensures.same) (has_looked p (g.P.Pass.knows c.load.new.self) (claim_at 0) c.load.result c.load.ensures.step),
      (last, [], e.step ∙ ap (λ (z : Pass). last ∷ z.view.steps) c.hear.ensures.heard, refl),
    )

pub returns-clause-told : goal.returns-clause-told
returns-clause-told g c = let p = g.Q.Pass.knows c.args.other.now in let m = c.tell-messenger.result in let q = g.Q.Pass.knows c.load-2.new.self in
    let seen : m.view.seen ≡ (g.P.Pass.knows c.tell-messenger.new.self).view.seen = ap (λ (z : Pass). z.view.seen) c.tell-messenger.ensures.told ∙ ap (λ (z : Pass). z.view.seen) (sym c.tell-messenger.ensures.same) in
    subst (Begins q.view.seen) seen (begins_told p (g.Q.Pass.knows c.hear.new.self) q m.view c.hear.ensures.heard c.load-2.ensures.looks)

pub returns-clause-woken : goal.returns-clause-woken
returns-clause-woken g c = (
  ap (λ (z : Pass). z.woken) c.tell-messenger.ensures.same ∙ c.load.ensures.woken,
  c.load-2.ensures.woken ∙ ap (λ (z : Pass). z.woken) c.hear.ensures.heard,
)

pub returns-clause-took : goal.returns-clause-took
returns-clause-took g c = (
  ap (λ (z : Pass). z.took) c.tell-messenger.ensures.same ∙ c.load.ensures.took,
  c.load-2.ensures.took ∙ ap (λ (z : Pass). z.took) c.hear.ensures.heard,
)

pub returns-clause-alone : goal.returns-clause-alone
returns-clause-alone g c = let p = g.P.Pass.knows c.args.pass.now in let o = g.Q.Pass.knows c.args.other.now in let m = c.tell-messenger.result in (
  subst (λ (z : Pass). KeepsFreed p z) (sym c.tell-messenger.ensures.same) (keeps_freed p (g.P.Pass.knows c.load.new.self) c.load.ensures.looks),
  keeps_freed_told o (g.Q.Pass.knows c.hear.new.self) (g.Q.Pass.knows c.load-2.new.self) m.view c.hear.ensures.heard (ap (λ (z : Pass). z.view.parts) c.tell-messenger.ensures.told) c.load-2.ensures.looks,
)
