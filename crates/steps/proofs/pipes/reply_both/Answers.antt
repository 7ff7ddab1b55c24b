use Rattle.steps.proofs.Common.{Did, Extends, HasPipe, IsStep, Layout, Leaving, List, Option, Reply, Req, Thing, View, ap, is_pipe, leaves_one, length, lt-ltb, pipe_at, refl, request_at, rest, subst, sym, true, ℕ, ◌<◌, ◌∙◌, ◌≡◌}
use Rattle.steps.proofs.ViewsKept.{layout_after, role_after}
use Rattle.steps.proofs.PipeSteps.{both_replied, pipe_replied}
use Rattle.steps.proofs.pipes.reply_both.Goals as goal

pub leave_both-requires : goal.leave_both-requires
leave_both-requires c =
    let a = c.requires.answer in let f = c.requires.pipes_fit in let v : View = c.args.seat.now.me.0 in let w : View = c.reply_holding.new.seat.me.0 in let p : ℕ = c.args.first in let n : ℕ = c.args.second in
    let q : Req = request_at v.layout.cells c.args.response.cell c.args.response.generation in let e = c.reply_holding.ensures in let both = c.requires.both in
    let x : Extends v (Did (Reply q c.args.response.res a.1)) (Leaving q) w = e.replies a.0 a.1 a.2 in
    let there : is_pipe v.layout.caps p ≡ true = lt-ltb p (length v.layout.caps) f.0.2 in let there' : is_pipe v.layout.caps n ≡ true = lt-ltb n (length v.layout.caps) f.1.2 in
    let same : w.layout ≡ v.layout = layout_after v w (Did (Reply q c.args.response.res a.1)) (Leaving q) x in let given = a.2.submission in let table = e.seat.0.0 in
    let top = pipe_replied v w q p c.requires.busy (Leaving q) c.args.response.res a.1 there x c.args.seat.now.me.1 both.1 a.0 _ a.2.placed_is given.2.1 a.2.answers a.2.has a.4.0 in
    let under = pipe_replied v w q n c.requires.busy (Leaving q) c.args.response.res a.1 there' x (rest c.args.seat.now.me.1) both.2 a.0 _ a.2.placed_is given.2.1 a.2.answers a.2.has a.4.1 in record {
      fits = ((table ∙ f.0.0, f.0.1, subst (λ (z : Layout). p < length z.caps) (sym same) f.0.2, f.0.3), (table ∙ f.1.0, f.1.1, subst (λ (z : Layout). n < length z.caps) (sym same) f.1.2, f.1.3));
      leaving = (q, role_after v w (Did (Reply q c.args.response.res a.1)) (Leaving q) x, both_replied v w q p c.requires.busy (Leaving q) c.args.response.res a.1 there x n there' both);
      pipes = subst (λ (hand : List (ℕ × Option Thing)). HasPipe (w, hand) p (rest hand) × HasPipe (w, rest hand) n (rest (rest hand))) (sym e.seat.1) (top, under);
    }

pub returns : goal.returns
returns c = let a = c.requires.answer in let v : View = c.args.seat.now.me.0 in let w : View = c.reply_holding.new.seat.me.0 in let q : Req = request_at v.layout.cells c.args.response.cell c.args.response.generation in
    let e = c.reply_holding.ensures in let k = c.leave_both.ensures in
    let x = e.replies a.0 a.1 a.2 in let l = k.leaves q (ap (λ (z : View). z.role) x.is) in let mid : View = leaves_one q c.args.second (pipe_at c.args.first) l.0 w in record {
      seat = ((k.seat.0.0 ∙ e.seat.0.0, k.seat.0.1 ∙ e.seat.0.1), k.seat.1 ∙ ap (λ (hand : List (ℕ × Option Thing)). rest (rest hand)) e.seat.1);
      ended = (ap (λ (z : View). z.role) l.2, ap (λ (z : View). z.parts) l.2 ∙ ap (λ (z : View). z.parts) x.is, ap (λ (z : View). z.layout) l.2 ∙ ap (λ (z : View). z.layout) x.is);
      replies = λ d data' m. (w, e.replies d data' m, l.0, l.1, l.2);
      steps = (w, (_, e.step), (mid, (l.0, refl), (l.1, subst (λ (z : View). IsStep (pipe_at c.args.second) l.1 mid z) (sym l.2) refl)));
    }
