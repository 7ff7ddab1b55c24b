use Rattle.runtime.proofs.Common.{All, All-pop, All-push, IsWorkSide, List, Some, WorkSide, [], ap, arith, length, length-append, rules, subst, sym, ◌∷◌, ◌≡◌}
use Rattle.runtime.proofs.settling.+serve_all.Goals as goal

pub serve-worker-requires : goal.serve-worker-requires
serve-worker-requires g t c = (All-pop (λ (w : WorkSide). IsWorkSide c.args.context.shared.now w) c.args.workers.items c.pop.new.self.items (Some c.in-Some.worker) c.in-Some.ensures.items c.requires.workers).1

pub serve_all-workers-requires : goal.serve_all-workers-requires
serve_all-workers-requires g t c κs within =
    let fewer = ap (λ (z : List WorkSide). length z) c.in-Some.ensures.items in
    let one = length-append c.pop.new.self.items (c.in-Some.worker ∷ []) in (
      search rules,
      (
        within,
        (
          (All-pop (λ (w : WorkSide). IsWorkSide c.args.context.shared.now w) c.args.workers.items c.pop.new.self.items (Some c.in-Some.worker) c.in-Some.ensures.items c.requires.workers).0,
          search rules,
        ),
      ),
    )

pub returns-clause-workers : goal.returns-clause-workers
returns-clause-workers g t c =
    let s = c.args.context.shared.now in
    let fewer = ap (λ (z : List WorkSide). length z) c.in-Some.ensures.items in
    let one = length-append c.pop.new.self.items (c.in-Some.worker ∷ []) in
    let more = ap (λ (z : List WorkSide). length z) c.push_reserved.ensures.items in
    let last = length-append c.serve_all-workers.result.0.items (c.serve-worker.result.0 ∷ []) in (
      subst (λ (z : List WorkSide). All (λ w. IsWorkSide s w) z) (sym c.push_reserved.ensures.items) (All-push (λ (w : WorkSide). IsWorkSide s w) _ _ c.serve_all-workers.ensures.workers.0 c.serve-worker.ensures.own),
      omega (arith, fewer, one, more, last, c.serve_all-workers.ensures.workers.1),
    )

pub returns-clause-idle : goal.returns-clause-idle
returns-clause-idle g t c idle =
    let each = c.both.ensures idle in
    subst (λ (z : List WorkSide). All (λ (w : WorkSide). w.desk.kept ≡ []) z) (sym c.push_reserved.ensures.items) (All-push (λ (w : WorkSide). w.desk.kept ≡ []) _ _ (c.serve_all-workers.ensures.idle each.1) (c.serve-worker.ensures.idle each.0))
