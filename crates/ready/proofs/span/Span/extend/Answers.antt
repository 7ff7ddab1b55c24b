use Rattle.ready.proofs.Common.{List, Req, [], ap, arith, run_from, suc, ◌++◌, ◌+◌, ◌∙◌, ◌∷◌, ◌≡◌}
use Rattle.ready.proofs.SpanLists.{run_snoc}
use Rattle.ready.proofs.span.Span.extend.Goals as goal

pub returns-clause-taken : goal.returns-clause-taken
returns-clause-taken c = λ yes.
    let s = c.self.inside in
    let first : Req = record { ring = s.ring; k = s.k } in
    let below = c.in-Some.ensures.0 in
    let apart = c.in-Some.ensures.1 in
    let as_many = c.if-apart-from.false in
    let more = c.from.ensures in
    let number : s.k + suc s.more ≡ c.args.req.k = omega arith in
    let ring : s.ring ≡ c.args.req.ring = omega (arith, c.if-req-self.false) in
    let one : s.more + 1 ≡ suc s.more = omega arith in
    ap (λ z. first ∷ run_from s.ring (suc s.k) z) one
    ∙ run_snoc s.ring s.k (suc s.more)
    ∙ ap (λ z. run_from s.ring s.k (suc s.more) ++ (record { ring = s.ring; k = z }) ∷ []) number
    ∙ ap (λ z. run_from s.ring s.k (suc s.more) ++ (record { ring = z; k = c.args.req.k }) ∷ []) ring
    ∙ ap (λ (z : List Req). z ++ c.args.req ∷ []) c.self.view_is
