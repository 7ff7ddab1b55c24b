use Rattle.board.specs.declared.phase.Phase.{Phase as Standing}
use Rattle.board.proofs.Common.{Facts, IsCell, IsStep, List, Req, Stands, StepsTo, View, ap, claim_at, pass_of, request_at, subst, sym, ℕ, ◌≡◌}
use Rattle.board.proofs.Countings.{tells_pending, tells_replied}
use Rattle.board.proofs.PassFacts.{found_word, cell_of}
use Rattle.board.proofs.Watching.{watched_look}
use Rattle.board.proofs.counting.has_replied.Goals as goal

-- the step was at the request's cell
step_to : (K grid : List ℕ) (r : Req) (v w : View) (x g n : ℕ) → grid ≡ K → IsCell grid x → request_at grid x g ≡ r → IsStep (claim_at x) n v w → StepsTo K r v w
step_to K grid r v w x g n is inside at step = (x, g, n, subst (λ (L : List ℕ). IsCell L x) is inside, subst (λ (L : List ℕ). request_at L x g ≡ r) is at, step)

pub told-requires : goal.told-requires
told-requires c = let e = c.look-word.ensures in found_word c.args.board.now (pass_of c.args.seat.now) (pass_of c.look-word.new.seat) c.in-Some.cell.index c.look-word.result c.requires.ours.ours e.seat.0.0 e.looks e.shown

pub returns-in-Unborn : goal.returns-in-Unborn
returns-in-Unborn c = let b = c.args.board.now in let s = c.args.seat.now in let t = c.look-word.new.seat in let e = c.look-word.ensures in let x = c.in-Some.cell in
    let at = cell_of b (pass_of s) c.board.inside.grid x.index x.generation c.args.req c.requires.ours.ours (sym (ap (λ (z : Facts). z.layout.cells) c.board.view_is)) c.in-Some.ensures.some.1 in
    let stands : Stands t.me.0.seen c.args.req c.told.result = subst (λ (r : Req). Stands t.me.0.seen r c.told.result) at (c.told.ensures.stands s.me.0.layout.cells t.me.0.seen x.index e.shown) in record {
      watched = watched_look b s t c.requires.ours e.seat e.looks;
      told = subst (λ (z : Standing). Stands t.me.0.seen c.args.req z) c.in-Unborn.is stands;
      step = step_to c.args.board.now.layout.cells c.board.inside.grid c.args.req s.me.0 t.me.0 x.index x.generation c.look-word.result (ap (λ (z : Facts). z.layout.cells) c.board.view_is) c.in-Some.ensures.some.0 c.in-Some.ensures.some.1 e.step;
    }

pub returns-in-Done : goal.returns-in-Done
returns-in-Done c = let b = c.args.board.now in let s = c.args.seat.now in let t = c.look-word.new.seat in let e = c.look-word.ensures in let x = c.in-Some.cell in
    let at = cell_of b (pass_of s) c.board.inside.grid x.index x.generation c.args.req c.requires.ours.ours (sym (ap (λ (z : Facts). z.layout.cells) c.board.view_is)) c.in-Some.ensures.some.1 in
    let stands : Stands t.me.0.seen c.args.req c.told.result = subst (λ (r : Req). Stands t.me.0.seen r c.told.result) at (c.told.ensures.stands s.me.0.layout.cells t.me.0.seen x.index e.shown) in let w = watched_look b s t c.requires.ours e.seat e.looks in record {
      watched = w;
      told = tells_replied b t c.args.req w.goes.kept c.told.result stands c.in-Done.is;
      step = step_to c.args.board.now.layout.cells c.board.inside.grid c.args.req s.me.0 t.me.0 x.index x.generation c.look-word.result (ap (λ (z : Facts). z.layout.cells) c.board.view_is) c.in-Some.ensures.some.0 c.in-Some.ensures.some.1 e.step;
    }

pub returns-in_default-told : goal.returns-in_default-told
returns-in_default-told c = let b = c.args.board.now in let s = c.args.seat.now in let t = c.look-word.new.seat in let e = c.look-word.ensures in let x = c.in-Some.cell in
    let at = cell_of b (pass_of s) c.board.inside.grid x.index x.generation c.args.req c.requires.ours.ours (sym (ap (λ (z : Facts). z.layout.cells) c.board.view_is)) c.in-Some.ensures.some.1 in
    let stands : Stands t.me.0.seen c.args.req c.told.result = subst (λ (r : Req). Stands t.me.0.seen r c.told.result) at (c.told.ensures.stands s.me.0.layout.cells t.me.0.seen x.index e.shown) in let w = watched_look b s t c.requires.ours e.seat e.looks in record {
      watched = w;
      told = tells_pending b t c.args.req w.goes.kept c.told.result stands c.in_default-told.not-Unborn c.in_default-told.not-Done c.in_default-told.not-Gone;
      step = step_to c.args.board.now.layout.cells c.board.inside.grid c.args.req s.me.0 t.me.0 x.index x.generation c.look-word.result (ap (λ (z : Facts). z.layout.cells) c.board.view_is) c.in-Some.ensures.some.0 c.in-Some.ensures.some.1 e.step;
    }
