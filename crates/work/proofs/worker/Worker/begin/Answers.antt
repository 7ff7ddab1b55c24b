use Rattle.work.proofs.Common.{Begin, Did, Extends, Full, HasRooms, IsCell, IsSubmission, IsTask, List, Pass, Req, Role, Some, [], ap, arith, holder, layout_after, length, refl, request_at, slot_at, subst, sym, total, true≢false, words_of, ℕ, ◌<◌, ◌∙◌, ◌∷◌, ◌≡◌, ◌≢◌}
use Rattle.work.proofs.MarksKept.{marked_after, worker_looked}
use Rattle.work.proofs.PassesKept.{took_one}
use Rattle.work.proofs.RunsKept.{grid_on, runs_begun, unhit_begun}
use Rattle.work.proofs.NotesRead.{underway_begun}
use Rattle.work.proofs.TaskKept.{Hand}
use Rattle.work.proofs.worker.Worker.begin.Goals as goal

pub invariant_of-result-then-cell-from : goal.invariant_of-result-then-cell-from
invariant_of-result-then-cell-from c = worker_looked c.self.inside.seat c.look.new.seat c.self.inside.lists.value c.self.invariant c.look.ensures.looks c.look.ensures.seat.1

pub invariant_of-result-then-not-begin : goal.invariant_of-result-then-not-begin
invariant_of-result-then-not-begin c = let x = c.if-not-begin.ensures.looks (λ e. true≢false (sym e)) in worker_looked c.self.inside.seat c.begin.new.seat c.self.inside.lists.value c.self.invariant x.0 x.1

pub returns-clause-steps : goal.returns-clause-steps
returns-clause-steps c = took_one c.args.self.view c.self.inside.seat.me.0 c.begin.new.seat.me.0 c.begin.new.seat.me.0 _ _ (ap (λ (p : Pass). p.view) c.self.view_is) (c.if-not-begin.ensures.step refl) refl

pub invariant_of-result-2 : goal.invariant_of-result-2
invariant_of-result-2 c =
    let s = c.self.inside.seat in let w = c.begin.new.seat in let lists = c.self.inside.lists.value in let table = c.args.words.now.table_id in let k = c.if-not-begin.ensures in let x = k.begins refl in let cell = c.in-Some.cell in let h = x.1 in
    let cells : s.me.0.layout.cells ≡ c.args.grid.now = ap (λ (p : Pass). p.view.layout.cells) c.self.view_is ∙ c.requires.on.cells_are in
    let at : request_at s.me.0.layout.cells cell.index cell.generation ≡ c.args.req = ap (λ (K : List ℕ). request_at K cell.index cell.generation) cells ∙ c.in-Some.ensures.some.1 in
    let inside : IsCell s.me.0.layout.cells cell.index = subst (λ (K : List ℕ). IsCell K cell.index) (sym cells) c.in-Some.ensures.some.0 in
    let wide : table.words ≡ words_of (total s.me.0.layout.cells) = c.requires.on.wide ∙ ap (λ (K : List ℕ). words_of (total K)) (sym cells) in
    let begun = subst (λ (q : Req). Extends s.me.0 (Did (Begin q)) (Role.Busy q) w.me.0) at x.0 in
    let submission : IsSubmission w.me.0.seen c.args.req [] h.0 = subst (λ (q : Req). IsSubmission w.me.0.seen q [] h.0) at h.2 in
    let task : IsTask table c.args.grid.now w cell.index cell.generation c.args.req h.0 c.args.pipes lists = record {
      table_is = k.seat.0 ∙ (ap (λ (p : Pass). p.table) c.self.view_is ∙ c.requires.on.table_is);
      grid = grid_on table c.args.grid.now s.me.0 w.me.0 (layout_after s.me.0 w.me.0 _ _ x.0) record { cells_are = cells; wide = c.requires.on.wide };
      unhit = unhit_begun s.me.0 w.me.0 c.args.req begun;
      spare = subst (λ (K : List ℕ). HasRooms K lists) cells c.self.invariant.1;
      marked = marked_after lists.marks s.me.0 w.me.0 _ _ x.0 c.self.invariant.2;
      runs = runs_begun table s.me.0 w.me.0 cell.index cell.generation c.args.req h.0 c.args.pipes begun at
          (c.in-Some.ensures.some.2, inside, (let n : cell.index < total s.me.0.layout.cells = inside in omega arith), (let n = c.if-cell-from.false in omega arith))
          (ap (λ (p : Pass). length p.view.layout.caps) c.self.view_is ∙ c.requires.on.pipes_are, c.requires.on.few) c.self.invariant.0.parts submission;
    } in (
      underway_begun s.me.0 w.me.0 c.args.req begun,
      h.0,
      record {
        task = task;
        out = h.1 ∙ ap (λ (l : Hand). (slot_at cell.index, Some (Full h.0)) ∷ l) c.self.invariant.0.bare;
        bare = λ n. (subst (λ (q : Req). holder w.me.0.seen n ≢ Some q) at (x.2 n));
      },
    )
