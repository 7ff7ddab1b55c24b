use Rattle.board.proofs.Common.{AreOf, Closing, Ended, Facts, IsOf, List, Option, Pass, Thing, View, ap, length, pass_of, slots_items, subst, sym, ℕ, ◌∙◌, ◌≡◌}
use Rattle.board.proofs.TableEnd.{view_after}
use Rattle.board.proofs.board.Board.close.Goals as goal

pub returns-clause-closing : goal.returns-clause-closing
returns-clause-closing c =
    let b : Facts = record { table = c.self.inside.table.shared.table_id; layout = record { cells = c.self.inside.grid; caps = c.self.inside.table.shared.key.caps.value.items }; workers = c.self.inside.workers } in
    let same' : b ≡ c.args.self = c.self.view_is in let p : Pass = c.args.poller in let ss : List Pass = c.args.submitters.items in let ws : List Pass = c.args.workers.items in
    let words : List ℕ = slots_items c.finish.result.words in let slots : List (Option Thing) = slots_items c.finish.result.slots in let v : View = c.hear_workers.new.seat.me.0 in
    subst (λ (f : Facts). (w : View) × Closing f p ss ws w words slots) same' (
      v,
      record {
        ours = subst (λ (f : Facts). IsOf f p) (sym same') c.requires.poller;
        board = c.self.invariant.0;
        rings = length c.into_seat-seat.result.me.0.layout.cells;
        role = ap (λ (y : Pass). y.view.role) (sym c.into_seat-seat.ensures.value) ∙ c.into_seat-seat.ensures.seat.role;
        submitters = subst (λ (f : Facts). AreOf f ss × (length ss ≡ length f.layout.cells)) (sym same') c.requires.submitters;
        workers = subst (λ (f : Facts). AreOf f ws × (length ws ≡ f.workers)) (sym same') c.requires.workers;
        view_is = view_after p (pass_of c.into_seat-seat.result) c.into_seat-seat.result.me.1 c.hear_submitters.new.seat.me c.hear_workers.new.seat.me ss ws c.into_seat-seat.ensures.value c.hear_submitters.ensures.heard c.hear_workers.ensures.heard;
        ended = subst (λ (k : List ℕ). Ended (record { cells = k; caps = c.self.inside.table.shared.key.caps.value.items }) v words slots) c.self.invariant.1 c.finish.ensures.ended;
      },
    )
