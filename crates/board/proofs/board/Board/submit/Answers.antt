use Rattle.board.proofs.Common.{Facts, Fits, FitsOp, Goes, IsBoard, IsFree, Layout, List, Pass, RefusesRoom, Req, Submit, Submitter, Took, [], ap, arith, cells_in, counts_at, length, next_of, nth, refl, seen_of, steps_for, submits, subst, sym, took_both, true, ℕ, ◌+◌, ◌/◌, ◌<◌, ◌∙◌, ◌∷◌, ◌≡◌, ◌≤◌}
use Rattle.board.proofs.GoesLaws.{goes_then}
use Rattle.board.proofs.QueueWalks.{watched_took, watched_submits}
use Rattle.board.proofs.SubmitterLooks.{goes_watched, free_then, entry_reason}
use Rattle.board.proofs.board.Board.submit.Goals as goal

pub returns-in-Err-clause-refused : goal.returns-in-Err-clause-refused
returns-in-Err-clause-refused c = let b : Facts = c.args.self.now in let p : Pass = c.args.submitter.now in let m : Pass = c.room.new.self in let r = c.in-Err.ensures in let go : Goes b p [] m = goes_watched b p m r.looks.0 c.requires r.table r.looks.2 in (go, refl)

pub returns-in-Err-clause-reason : goal.returns-in-Err-clause-reason
returns-in-Err-clause-reason c = λ ring role. let b : Facts = c.args.self.now in let p : Pass = c.args.submitter.now in let m : Pass = c.room.new.self in let r = c.in-Err.ensures in let go : Goes b p [] m = goes_watched b p m r.looks.0 c.requires r.table r.looks.2 in
    let grid : c.self.inside.grid ≡ b.layout.cells = ap (λ (z : Facts). z.layout.cells) c.self.view_is in
    let fits : Fits c.args.sqe c.args.buffer.items = subst (λ (z : ℕ). FitsOp c.args.sqe.op z) (c.len.ensures ∙ c.args.buffer.ok.0) (c.fits_length.ensures.0 c.if-not-fits_length.false) in
    entry_reason b c.args.sqe c.args.buffer.items ring (submits (seen_of p) ring) p m c.in-Err.error (counts_at b.layout.cells ring (subst IsBoard c.self.view_is c.self.invariant.0).cells.0 (subst (λ (L : Layout). ring < length L.cells) c.requires.layout_is (r.there ring role))).0 fits
    (subst (λ (K : List ℕ). RefusesRoom K ring (submits (seen_of p) ring) 1 p m c.in-Err.error) grid (r.refused ring role))

pub submit_next-requires-clause-of : goal.submit_next-requires-clause-of
submit_next-requires-clause-of c = let b : Facts = c.args.self.now in let p : Pass = c.args.submitter.now in let m : Pass = c.room.new.self in let r = c.in_default.ensures in let go : Goes b p [] m = goes_watched b p m r.looks.0 c.requires r.table r.looks.2 in go.kept

pub submit_next-requires-clause-free : goal.submit_next-requires-clause-free
submit_next-requires-clause-free c = λ ring role. let b : Facts = c.args.self.now in let p : Pass = c.args.submitter.now in let m : Pass = c.room.new.self in let r = c.in_default.ensures in let go : Goes b p [] m = goes_watched b p m r.looks.0 c.requires r.table r.looks.2 in let old : p.view.role ≡ Submitter ring = sym go.role_is ∙ role in let same : submits (seen_of m) ring ≡ submits (seen_of p) ring = watched_submits r.looks.0 p.view m.view ring old r.looks.2 in
    let grid : c.self.inside.grid ≡ b.layout.cells = ap (λ (z : Facts). z.layout.cells) c.self.view_is in let zero : submits (seen_of p) ring + 0 ≡ submits (seen_of m) ring = (let e = same in omega arith) in (
      subst (λ (z : List ℕ × ℕ). IsFree z.0 (seen_of m) (nth ring z.1)) (λ i. (grid i, zero i)) (r.free ring old 0 (omega arith)),
      subst (λ (z : List ℕ × ℕ). z.1 / cells_in z.0 ring < 16777215) (λ i. (grid i, zero i)) (r.fresh ring old 0 (omega arith)),
    )

pub returns-clause-submitted : goal.returns-clause-submitted
returns-clause-submitted c = λ ring old. let b : Facts = c.args.self.now in let p : Pass = c.args.submitter.now in let m : Pass = c.room.new.self in let r = c.in_default.ensures in let go : Goes b p [] m = goes_watched b p m r.looks.0 c.requires r.table r.looks.2 in let s = c.submit_next.ensures.submitted ring (go.role_is ∙ old) in
    let same : submits (seen_of m) ring ≡ submits (seen_of p) ring = watched_submits r.looks.0 p.view m.view ring old r.looks.2 in
    (s.0 ∙ ap (λ (k : ℕ). nth ring k) same, goes_then b p m c.submit_next.new.submitter (Submit c.submit_next.result c.args.sqe c.args.buffer.items true ∷ []) go s.1)

pub returns-clause-free : goal.returns-clause-free
returns-clause-free c = let b : Facts = c.args.self.now in let p : Pass = c.args.submitter.now in let m : Pass = c.room.new.self in let r = c.in_default.ensures in let go : Goes b p [] m = goes_watched b p m r.looks.0 c.requires r.table r.looks.2 in let ring = c.submit_next.result.ring in let role = c.submit_next.ensures.role in let old : p.view.role ≡ Submitter ring = sym go.role_is ∙ role in
    let same : submits (seen_of m) ring ≡ submits (seen_of p) ring = watched_submits r.looks.0 p.view m.view ring old r.looks.2 in let s = c.submit_next.ensures.submitted ring role in
    let grid : c.self.inside.grid ≡ b.layout.cells = ap (λ (z : Facts). z.layout.cells) c.self.view_is in let zero : submits (seen_of p) ring + 0 ≡ submits (seen_of m) ring = (let e = same in omega arith) in
    let free : IsFree b.layout.cells (seen_of m) (next_of m ring) = subst (λ (z : List ℕ × ℕ). IsFree z.0 (seen_of m) (nth ring z.1)) (λ i. (grid i, zero i)) (r.free ring old 0 (omega arith)) in
    subst (λ (q : Req). IsFree b.layout.cells (seen_of c.submit_next.new.submitter) q) (sym s.0) (free_then b m c.submit_next.new.submitter _ (next_of m ring) s.1 free)

pub returns-clause-steps : goal.returns-clause-steps
returns-clause-steps c = let b : Facts = c.args.self.now in let p : Pass = c.args.submitter.now in let m : Pass = c.room.new.self in let r = c.in_default.ensures in let go : Goes b p [] m = goes_watched b p m r.looks.0 c.requires r.table r.looks.2 in let ring = c.submit_next.result.ring in let old : p.view.role ≡ Submitter ring = sym go.role_is ∙ c.submit_next.ensures.role in
    let grid : c.self.inside.grid ≡ b.layout.cells = ap (λ (z : Facts). z.layout.cells) c.self.view_is in let n : ℕ = r.looks.0 in let k : ℕ = steps_for c.args.sqe in let t = took_both p.view m.view c.submit_next.new.submitter.view n k (watched_took n p.view m.view r.looks.2) c.submit_next.ensures.steps in
    (n, subst (λ (K : List ℕ). n ≤ cells_in K ring + 1) grid (r.looks.1 ring old), r.looks.3 ring old, subst (λ (k : ℕ). Took p.view c.submit_next.new.submitter.view k) (let e : k + n ≡ n + k = omega arith in e) t)
