use Rattle.board.proofs.Common.{AreFit, Entries, Facts, Goes, IsFree, IsReady, List, Pass, RefusesRoom, Req, Submitter, Took, [], ap, arith, cells_in, length, nth, refl, seen_of, steps_in, submits, submits_of, subst, sym, took_both, ℕ, ◌+◌, ◌/◌, ◌<◌, ◌∙◌, ◌≡◌, ◌≤◌}
use Rattle.board.proofs.GoesLaws.{goes_then}
use Rattle.board.proofs.QueueWalks.{watched_took, watched_submits}
use Rattle.board.proofs.SubmitterLooks.{goes_watched, free_then}
use Rattle.board.proofs.BatchesKept.{batch_reason}
use Rattle.board.proofs.board.Board.submit_batch.Goals as goal

pub returns-in-Err-clause-refused : goal.returns-in-Err-clause-refused
returns-in-Err-clause-refused c = let b : Facts = c.args.self.now in let p : Pass = c.args.submitter.now in let m : Pass = c.room.new.self in let xs : Entries = c.args.batch.items in let r = c.in-Err.ensures in let go : Goes b p [] m = goes_watched b p m r.looks.0 c.requires r.table r.looks.2 in (go, refl)

pub returns-in-Err-clause-reason : goal.returns-in-Err-clause-reason
returns-in-Err-clause-reason c = λ ring role. let b : Facts = c.args.self.now in let p : Pass = c.args.submitter.now in let m : Pass = c.room.new.self in let xs : Entries = c.args.batch.items in let r = c.in-Err.ensures in let go : Goes b p [] m = goes_watched b p m r.looks.0 c.requires r.table r.looks.2 in let grid : c.self.inside.grid ≡ b.layout.cells = ap (λ (z : Facts). z.layout.cells) c.self.view_is in let count : c.len.result ≡ length xs = c.len.ensures ∙ c.args.batch.ok.0 in
    let fits : AreFit xs = subst AreFit c.as_slice.ensures.value (c.are_fit.ensures.0 c.if-not-are_fit.false) in
    batch_reason b xs ring (submits (seen_of p) ring) p m c.in-Err.error fits (subst (λ (z : List ℕ × ℕ). RefusesRoom z.0 ring (submits (seen_of p) ring) z.1 p m c.in-Err.error) (λ i. (grid i, count i)) (r.refused ring role))

pub submit_all-requires : goal.submit_all-requires
submit_all-requires c = let b : Facts = c.args.self.now in let p : Pass = c.args.submitter.now in let m : Pass = c.room.new.self in let xs : Entries = c.args.batch.items in let r = c.in_default.ensures in let go : Goes b p [] m = goes_watched b p m r.looks.0 c.requires r.table r.looks.2 in let n = c.next_request-req.ensures in let ring = c.next_request-req.result.ring in let old : p.view.role ≡ Submitter ring = sym go.role_is ∙ n.role in let same : submits (seen_of m) ring ≡ submits (seen_of p) ring = watched_submits r.looks.0 p.view m.view ring old r.looks.2 in let grid : c.self.inside.grid ≡ b.layout.cells = ap (λ (z : Facts). z.layout.cells) c.self.view_is in let count : c.len.result ≡ length xs = c.len.ensures ∙ c.args.batch.ok.0 in
    let fits : AreFit xs = subst AreFit c.as_slice.ensures.value (c.are_fit.ensures.0 c.if-not-are_fit.false) in
    record {
      ready = (
        ring,
        subst (λ (k : ℕ). IsReady b m ring k xs) (sym same) record {
          of = go.kept;
          role = n.role;
          next = sym same;
          free = λ i lt. subst (λ (K : List ℕ). IsFree K (seen_of m) (nth ring (submits (seen_of p) ring + i))) grid (r.free ring old i (omega arith));
          fresh = λ i lt. subst (λ (K : List ℕ). (submits (seen_of p) ring + i) / cells_in K ring < 16777215) grid (r.fresh ring old i (omega arith));
          fit = fits;
        },
      );
    }

pub returns-clause-submitted : goal.returns-clause-submitted
returns-clause-submitted c = λ ring' role. let b : Facts = c.args.self.now in let p : Pass = c.args.submitter.now in let m : Pass = c.room.new.self in let xs : Entries = c.args.batch.items in let r = c.in_default.ensures in let go : Goes b p [] m = goes_watched b p m r.looks.0 c.requires r.table r.looks.2 in let n = c.next_request-req.ensures in let ring = c.next_request-req.result.ring in let old : p.view.role ≡ Submitter ring = sym go.role_is ∙ n.role in let same : submits (seen_of m) ring ≡ submits (seen_of p) ring = watched_submits r.looks.0 p.view m.view ring old r.looks.2 in let one : ring ≡ ring' = (let z = sym old ∙ role in cc) in
    let s = c.submit_all.ensures.submitted ring n.role in let k : c.next_request-req.result.k ≡ submits (seen_of m) ring = ap (λ (z : Req). z.k) n.next in
    (n.next ∙ (λ i. nth (one i) ((same ∙ ap (submits (seen_of p)) one) i)), subst (λ (z : ℕ × ℕ). Goes b p (submits_of z.0 z.1 xs) c.submit_all.new.submitter) (λ i. (one i, sym k i)) (goes_then b p m c.submit_all.new.submitter _ go s))

pub returns-clause-free : goal.returns-clause-free
returns-clause-free c = λ i lt. let b : Facts = c.args.self.now in let p : Pass = c.args.submitter.now in let m : Pass = c.room.new.self in let xs : Entries = c.args.batch.items in let r = c.in_default.ensures in let go : Goes b p [] m = goes_watched b p m r.looks.0 c.requires r.table r.looks.2 in let n = c.next_request-req.ensures in let ring = c.next_request-req.result.ring in let old : p.view.role ≡ Submitter ring = sym go.role_is ∙ n.role in let same : submits (seen_of m) ring ≡ submits (seen_of p) ring = watched_submits r.looks.0 p.view m.view ring old r.looks.2 in let grid : c.self.inside.grid ≡ b.layout.cells = ap (λ (z : Facts). z.layout.cells) c.self.view_is in let count : c.len.result ≡ length xs = c.len.ensures ∙ c.args.batch.ok.0 in let s = c.submit_all.ensures.submitted ring n.role in let k : c.next_request-req.result.k ≡ submits (seen_of p) ring = ap (λ (z : Req). z.k) n.next ∙ same in
    let free : IsFree b.layout.cells (seen_of m) (nth ring (submits (seen_of p) ring + i)) = subst (λ (K : List ℕ). IsFree K (seen_of m) (nth ring (submits (seen_of p) ring + i))) grid (r.free ring old i (omega arith)) in
    subst (λ (z : ℕ). IsFree b.layout.cells (seen_of c.submit_all.new.submitter) (nth ring (z + i))) (sym k) (free_then b m c.submit_all.new.submitter _ (nth ring (submits (seen_of p) ring + i)) s free)

pub returns-clause-steps : goal.returns-clause-steps
returns-clause-steps c = let b : Facts = c.args.self.now in let p : Pass = c.args.submitter.now in let m : Pass = c.room.new.self in let xs : Entries = c.args.batch.items in let r = c.in_default.ensures in let go : Goes b p [] m = goes_watched b p m r.looks.0 c.requires r.table r.looks.2 in let n = c.next_request-req.ensures in let ring = c.next_request-req.result.ring in let old : p.view.role ≡ Submitter ring = sym go.role_is ∙ n.role in let same : submits (seen_of m) ring ≡ submits (seen_of p) ring = watched_submits r.looks.0 p.view m.view ring old r.looks.2 in let grid : c.self.inside.grid ≡ b.layout.cells = ap (λ (z : Facts). z.layout.cells) c.self.view_is in let count : c.len.result ≡ length xs = c.len.ensures ∙ c.args.batch.ok.0 in let t : ℕ = r.looks.0 in let w = c.submit_all.new.submitter in
    let both = took_both p.view m.view w.view t (steps_in xs) (watched_took t p.view m.view r.looks.2) c.submit_all.ensures.steps in let z : ℕ = steps_in xs in
    (t, subst (λ (K : List ℕ). t ≤ cells_in K ring + 1) grid (r.looks.1 ring old), r.looks.3 ring old, subst (λ (k : ℕ). Took p.view w.view k) (let e : z + t ≡ t + z = omega arith in e) both)
