use Rattle.steps.proofs.Common.{Did, Extends, HasPipe, Layout, Leaving, Line, List, Option, Reply, Req, Step, Thing, View, ap, length, lt-ltb, pipe_at, request_at, rest, subst, sym, ℕ, ◌<◌, ◌∙◌, ◌∷◌, ◌≡◌}
use Rattle.steps.proofs.ViewsKept.{layout_after, role_after}
use Rattle.steps.proofs.PipeSteps.{alone_replied, pipe_replied}
use Rattle.steps.proofs.pipes.reply.Goals as goal

pub leave-requires : goal.leave-requires
leave-requires c =
    let a = c.requires.answer in let f = c.requires.pipe_fits in let v : View = c.args.seat.now.me.0 in let w : View = c.reply_holding.new.seat.me.0 in let p : ℕ = c.args.pipe in
    let q : Req = request_at v.layout.cells c.args.response.cell c.args.response.generation in
    let x : Extends v (Did (Reply q c.args.response.res a.1)) (Leaving q) w = c.reply_holding.ensures.replies a.0 a.1 a.2 in let there = lt-ltb p (length v.layout.caps) f.2 in
    let same : w.layout ≡ v.layout = layout_after v w (Did (Reply q c.args.response.res a.1)) (Leaving q) x in let given = a.2.submission in
    let now = pipe_replied v w q p c.requires.busy (Leaving q) c.args.response.res a.1 there x c.args.seat.now.me.1 c.requires.alone.0 a.0 _ a.2.placed_is given.2.1 a.2.answers a.2.has a.4 in record {
      fits = (c.reply_holding.ensures.seat.0.0 ∙ f.0, f.1, subst (λ (z : Layout). p < length z.caps) (sym same) f.2, f.3);
      leaving = (q, role_after v w (Did (Reply q c.args.response.res a.1)) (Leaving q) x, alone_replied v w q p c.requires.busy (Leaving q) c.args.response.res a.1 there x c.requires.alone);
      pipe = subst (λ (hand : List (ℕ × Option Thing)). HasPipe (w, hand) p (rest hand)) (sym c.reply_holding.ensures.seat.1) now;
    }

pub returns : goal.returns
returns c = let v : View = c.args.seat.now.me.0 in let w : View = c.reply_holding.new.seat.me.0 in let q : Req = request_at v.layout.cells c.args.response.cell c.args.response.generation in let l = c.leave.ensures.leaves in record {
  seat = ((c.leave.ensures.seat.0.0 ∙ c.reply_holding.ensures.seat.0.0, c.leave.ensures.seat.0.1 ∙ c.reply_holding.ensures.seat.0.1), c.leave.ensures.seat.1 ∙ ap rest c.reply_holding.ensures.seat.1);
  ended = (let a = c.requires.answer in let x = c.reply_holding.ensures.replies a.0 a.1 a.2 in (ap (λ (z : View). z.role) l.1, ap (λ (z : View). z.parts) l.1 ∙ ap (λ (z : View). z.parts) x.is, ap (λ (z : View). z.layout) l.1 ∙ ap (λ (z : View). z.layout) x.is));
  replies = λ e data' m. (w, c.reply_holding.ensures.replies e data' m, l.0, l.1);
  steps = (w, (_, c.reply_holding.ensures.step), (l.0, ap (λ (z : View). z.steps) l.1 ∙ ap (λ (j : List Line). (let last : Step = record { word = pipe_at c.args.pipe; found = l.0; seen = j } in last) ∷ w.steps) (sym (ap (λ (z : View). z.seen) l.1))));
}
