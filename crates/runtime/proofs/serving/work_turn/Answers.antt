use Rattle.std.proofs.lemmas.List.{length-append}
use Rattle.runtime.specs.WorkTurns.{Desk}
use Rattle.runtime.proofs.Common.{Bool, Facts, IsOf, IsWorkTurn, List, Pass, Places, Req, Shifts, [], ap, append-nil, arith, cond, inl, inr, length, refl, rules, subst, sym, ◌++◌, ◌+◌, ◌∙◌, ◌∷◌, ◌≡◌}
use Rattle.runtime.proofs.ShiftLaws.{back_same, shifts_again, shifts_put, shifts_tried}
use Rattle.runtime.proofs.serving.work_turn.Goals as goal
use Rattle.runtime.proofs.serving.work_turn.Goals.{then-left-2, else-left-2}

pub keep-requires : goal.keep-requires
keep-requires g c =
    let tried = c.serve-worker.ensures.tried in
    let fit = c.make_room.ensures.room (search rules) in
    let given = c.in-Some.ensures.few in
    let woken : length c.serve-worker.new.desk.kept ≡ length c.next.new.self.kept + length tried.1 = ap (λ (d : Desk). length d.kept) {y = record c.next.new.self { kept = c.next.new.self.kept ++ tried.1 }} tried.4 ∙ length-append c.next.new.self.kept tried.1 in
    let places : c.serve-worker.new.desk.places ≡ c.next.new.self.places = ap (λ (d : Desk). d.places) tried.4 in
    let put = c.put_kept-2.ensures.few in record { room = omega (arith, fit, given.0, given.1, woken, places, put.0, put.1, tried.5) }

-- a turn that tried no request
untried : (b : Facts) (old new : Desk) (p : Pass) (before : Places) → IsOf b p → Shifts old [] [] new → IsWorkTurn b old new p p before before
untried b old new p before own numbers = record {
  of = own;
  answered = [];
  gone = [];
  woken = [];
  serves = inl (refl, refl, refl, refl);
  outbox = ap (λ (l : List Req). record before { items = l }) (sym (append-nil before.items));
  numbers = numbers;
}

pub returns-then-not-make_room-clause-turned : goal.returns-then-not-make_room-clause-turned
returns-then-not-make_room-clause-turned g c = untried _ _ _ _ _ c.requires.worker (shifts_put _ _ (back_same _ _ _ c.put_kept.ensures.back c.make_room.ensures.same))

pub returns-in_default-clause-turned : goal.returns-in_default-clause-turned
returns-in_default-clause-turned g c = untried _ _ _ _ _ c.requires.worker (subst (λ (d : Desk). Shifts c.args.desk.now [] [] d) (sym c.in_default.ensures.shifts) (shifts_put _ _ (back_same _ _ _ c.put_kept.ensures.back c.make_room.ensures.same)))

pub returns-clause-turned : goal.returns-clause-turned
returns-clause-turned g c =
    let r = c.in-Some.req in
    let tried = c.serve-worker.ensures.tried in
    let done : Shifts c.args.desk.now tried.1 (r ∷ []) c.put_kept-2.new.self = shifts_tried _ c.make_room.new.self _ _ _ r tried.1 (back_same _ _ _ c.put_kept.ensures.back c.make_room.ensures.same) c.in-Some.ensures.shifts tried.4 c.put_kept-2.ensures.back in
    record {
      of = c.serve-worker.ensures.own;
      answered = tried.0;
      gone = cond c.serve-worker.result.1.again [] (r ∷ []);
      woken = tried.1;
      serves = inr (r, tried.2);
      outbox = tried.3;
      numbers = elim c.if-left-2.branch [
        | then-left-2 w ↦ subst (λ (d : Desk). Shifts c.args.desk.now tried.1 (cond c.serve-worker.result.1.again [] (r ∷ [])) d) (sym w.desk-is)
            (subst (λ (b : Bool). Shifts c.args.desk.now tried.1 (cond b [] (r ∷ [])) w.keep.new.self) (sym w.if-left-2.true)
            (shifts_again _ _ _ r tried.1 done w.keep.ensures))
        | else-left-2 w ↦ subst (λ (d : Desk). Shifts c.args.desk.now tried.1 (cond c.serve-worker.result.1.again [] (r ∷ [])) d) (sym (w.desk-is ∙ w.finish.ensures))
            (subst (λ (b : Bool). Shifts c.args.desk.now tried.1 (cond b [] (r ∷ [])) c.put_kept-2.new.self) (sym w.if-left-2.false) done)
      ];
    }
