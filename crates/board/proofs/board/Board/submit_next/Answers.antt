use Rattle.board.proofs.Common.{Did, ExtendsNoted, Facts, Goes, IsCell, IsFree, Layout, List, Req, Submit, Submitter, [], ap, cells_in, facts_at, next_of, notes_of, nth, refl, request_at, seen_of, submits, subst, sym, ℕ, ◌/◌, ◌<◌, ◌∙◌, ◌∷◌, ◌≡◌}
use Rattle.board.proofs.GoesLaws.{goes_noted}
use Rattle.board.proofs.BatchesKept.{noted_next, took_noted}
use Rattle.board.proofs.SubmitterLooks.{generation_is}
use Rattle.board.proofs.board.Board.submit_next.Goals as goal

pub submit-requires-clause-small : goal.submit-requires-clause-small
submit-requires-clause-small c = let b = c.args.self.now in let p = c.args.submitter.now in let s = c.in-Some.cell in let n = c.next_request-req.ensures in let i = c.next_request-req.result.ring in
    let grid : c.self.inside.grid ≡ b.layout.cells = ap (λ (z : Facts). z.layout.cells) c.self.view_is in
    let inside : IsCell b.layout.cells s.index = subst (λ (K : List ℕ). IsCell K s.index) grid c.in-Some.ensures.some.0 in
    let at : request_at b.layout.cells s.index s.generation ≡ next_of p i = subst (λ (K : List ℕ). request_at K s.index s.generation ≡ next_of p i) grid (c.in-Some.ensures.some.1 ∙ n.next) in
    let ring : Rattle.steps.specs.Cells.ring_of b.layout.cells s.index ≡ i = ap (λ (r : Req). r.ring) at in let k : (request_at b.layout.cells s.index s.generation).k ≡ (next_of p i).k = ap (λ (r : Req). r.k) at in
    subst (λ (z : ℕ). z < 16777215) ((λ j. sym k j / cells_in b.layout.cells (sym ring j)) ∙ generation_is b.layout.cells s.index s.generation inside) (c.requires.free i n.role).1

pub submit-requires-clause-free : goal.submit-requires-clause-free
submit-requires-clause-free c = let b = c.args.self.now in let p = c.args.submitter.now in let s = c.in-Some.cell in let n = c.next_request-req.ensures in let i = c.next_request-req.result.ring in
    let grid : c.self.inside.grid ≡ b.layout.cells = ap (λ (z : Facts). z.layout.cells) c.self.view_is in
    let inside : IsCell b.layout.cells s.index = subst (λ (K : List ℕ). IsCell K s.index) grid c.in-Some.ensures.some.0 in
    let at : request_at b.layout.cells s.index s.generation ≡ next_of p i = subst (λ (K : List ℕ). request_at K s.index s.generation ≡ next_of p i) grid (c.in-Some.ensures.some.1 ∙ n.next) in
    subst (λ (L : Layout). IsFree L.cells (seen_of p) (request_at L.cells s.index s.generation)) (sym c.requires.of.layout_is) (subst (λ (r : Req). IsFree b.layout.cells (seen_of p) r) (sym at) (c.requires.free i n.role).0)

pub returns-clause-submitted : goal.returns-clause-submitted
returns-clause-submitted c = let b = c.args.self.now in let p = c.args.submitter.now in let s = c.in-Some.cell in let n = c.next_request-req.ensures in let i = c.next_request-req.result.ring in
    let grid : c.self.inside.grid ≡ b.layout.cells = ap (λ (z : Facts). z.layout.cells) c.self.view_is in
    let inside : IsCell b.layout.cells s.index = subst (λ (K : List ℕ). IsCell K s.index) grid c.in-Some.ensures.some.0 in
    let at : request_at b.layout.cells s.index s.generation ≡ next_of p i = subst (λ (K : List ℕ). request_at K s.index s.generation ≡ next_of p i) grid (c.in-Some.ensures.some.1 ∙ n.next) in
    let here : request_at p.view.layout.cells s.index s.generation ≡ next_of p i = ap (λ (L : Layout). request_at L.cells s.index s.generation) c.requires.of.layout_is ∙ at in let z = c.submit.ensures.submits in let d = c.args.submission in
    let own : Goes b p (Submit (next_of p i) d.sqe d.buffer.items d.last ∷ []) c.submit.new.self = goes_noted b p c.submit.new.self (next_of p i) (facts_at s.index, z.0) (notes_of s.index d.sqe) (Submit (next_of p i) d.sqe d.buffer.items d.last) c.requires.of c.submit.ensures.table n.role refl
    (subst (λ (r : Req). ExtendsNoted p.view r (facts_at s.index, z.0) (notes_of s.index d.sqe) (Did (Submit r d.sqe d.buffer.items d.last)) (Submitter r.ring) c.submit.new.self.view) here z.1) in
    λ ring role'. (let r = n.role in let same' : i ≡ ring = cc in (n.next ∙ ap (next_of p) same', subst (λ (r : Req). Goes b p (Submit r d.sqe d.buffer.items d.last ∷ []) c.submit.new.self) (sym n.next) own))

pub returns-clause-steps : goal.returns-clause-steps
returns-clause-steps c = took_noted c.in-Some.cell.index c.args.submission.sqe c.args.submitter.now.view c.submit.new.self.view c.submit.ensures.steps

pub returns-clause-next : goal.returns-clause-next
returns-clause-next c = λ ring role. let p = c.args.submitter.now in let o = c.in-Some.cell in let z = c.submit.ensures.submits in let n = c.next_request-req.ensures in let d = c.args.submission in
    let b = c.args.self.now in let grid : c.self.inside.grid ≡ p.view.layout.cells = ap (λ (z : Facts). z.layout.cells) c.self.view_is ∙ ap (λ (L : Layout). L.cells) (sym c.requires.of.layout_is) in let same' : c.next_request-req.result.ring ≡ ring = (let r = n.role in cc) in
    let here : request_at p.view.layout.cells o.index o.generation ≡ nth ring (submits (seen_of p) ring) = subst (λ (K : List ℕ). request_at K o.index o.generation ≡ c.next_request-req.result) grid c.in-Some.ensures.some.1 ∙ (n.next ∙ ap (next_of p) same') in
    noted_next p.view c.submit.new.self.view ring (submits (seen_of p) ring) (facts_at o.index, z.0) (notes_of o.index d.sqe) (request_at p.view.layout.cells o.index o.generation) d.sqe d.buffer.items d.last role here refl z.1
