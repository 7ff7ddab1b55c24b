use Rattle.std.proofs.lemmas.Int.{to_z-of_z}
use Rattle.claim.specs.declared.tag.Tag.TheVariants.{Done}
use Rattle.board.proofs.Common.{Claim, Fits-of_lt, SFits, Says, Tag, ap, arith, of_z, replied, request_at, sfits_to_z, subst, sym, to_z, w32, ℕ, ℤ, ◌∙◌, ◌≡◌}
use Rattle.board.proofs.Standings.{fits_parts, parts_tell, reply_is}
use Rattle.board.proofs.phase.told.Goals as goal

pub returns-then-generation-now-clause-stands : goal.returns-then-generation-now-clause-stands
returns-then-generation-now-clause-stands c = λ K j x shown.
    (let e = c.parts-claim.ensures in let p = parts_tell K j x c.args.word shown.0 c.parts-claim.result e.0 e.1 shown.1 in let v = ap (λ (z : Claim). z.generation) c.claim.view_is in
    let lt = c.if-generation-now.true in let n = c.from-now.ensures in let g = p.2 in shown.1.ages.before c.args.generation (omega arith))

pub returns-then-now-generation-clause-stands : goal.returns-then-now-generation-clause-stands
returns-then-now-generation-clause-stands c = λ K j x shown.
    (let e = c.parts-claim.ensures in let p = parts_tell K j x c.args.word shown.0 c.parts-claim.result e.0 e.1 shown.1 in let v = ap (λ (z : Claim). z.generation) c.claim.view_is in
    let lt = c.if-now-generation.true in let n = c.from-now.ensures in let g = p.2 in shown.1.ages.after c.args.generation (omega arith))

pub returns-in-Done-clause-stands : goal.returns-in-Done-clause-stands
returns-in-Done-clause-stands c = λ K j x shown.
    (let e = c.parts-claim.ensures in let p = parts_tell K j x c.args.word shown.0 c.parts-claim.result e.0 e.1 shown.1 in let v = ap (λ (z : Claim). z.generation) c.claim.view_is in let t = ap (λ (z : Claim). z.tag) c.claim.view_is in
    let a = c.if-generation-now.false in let b = c.if-now-generation.false in let n = c.from-now.ensures in let g = p.2 in
    let at : shown.1.gen ≡ c.args.generation = omega arith in let tag : shown.1.tag ≡ Done = p.0 ∙ (sym t ∙ c.in-Done.is) in
    let says : Says j (request_at K x c.args.generation) shown.0 shown.1.cause c.parts-claim.result.payload Done = subst (λ (z : ℕ). Says j (request_at K x c.args.generation) shown.0 shown.1.cause z Done) p.3 (subst (λ (z : Tag). Says j (request_at K x c.args.generation) shown.0 shown.1.cause shown.1.payload z) tag (subst (λ (z : ℕ). Says j (request_at K x z) shown.0 shown.1.cause shown.1.payload shown.1.tag) at shown.1.says)) in
    let signed : to_z w32 (of_z w32 c.reply.result) ≡ c.reply.result = to_z-of_z w32 c.reply.result (subst (SFits w32) (sym c.reply.ensures) (sfits_to_z {w = w32} {n = c.parts-claim.result.payload} (Fits-of_lt {w = w32} {n = c.parts-claim.result.payload} (fits_parts c.parts-claim.result e.0).2))) in
    let same' : says.1 ≡ to_z w32 (of_z w32 c.reply.result) = sym (reply_is says.1 c.parts-claim.result.payload says.4) ∙ (sym c.reply.ensures ∙ sym signed) in
    (says.0, says.3 ∙ ap (λ (z : ℤ). replied says.0 z) same'))
