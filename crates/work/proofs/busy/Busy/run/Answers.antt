use Rattle.work.proofs.Common.{Entry, HasWoken, IsPlaced, IsRun, ReadNotes, Req, StepsBy, View, events_of, notes_read, seeing, seen_of, subst, wanted_in}
use Rattle.work.proofs.NotesRead.{ran_then, seen_as, stepped_then, woken_then}
use Rattle.work.proofs.busy.Busy.run.Goals as goal

pub returns-clause-woken : goal.returns-clause-woken
returns-clause-woken c = let b = c.args.self in let a = c.ask.result in let l = c.ask.ensures.looks in let w = c.run.result.0 in let ran = c.run.result.1 in
    let placed : (e : Entry) → IsPlaced (seen_of b.pass) b.req e → IsPlaced (events_of l.now) b.req e = λ e is. subst (λ (z : View × Req). IsPlaced (events_of z.0.seen) z.1 e) (λ i. (l.is i, c.ask.ensures.same.0 i)) (c.ask.ensures.placed e is) in
    let notes : (e : Entry) → IsPlaced (seen_of b.pass) b.req e → ReadNotes b.pass.view (seeing b.pass.view b.pass.view.role l.now l.steps) (notes_read e.op) = λ e is. subst (λ (z : View). ReadNotes b.pass.view z (notes_read e.op)) l.is (c.ask.ensures.steps e is) in
    λ e is. woken_then b a w l.now l.steps l.saw c.ask.ensures.busy placed notes e ran (subst (λ (z : View × Req). HasWoken (seen_as a z) w e ran) (λ i. (l.is i, c.ask.ensures.same.0 i)) (c.run.ensures.woken e (c.ask.ensures.placed e is)))

pub returns-clause-steps : goal.returns-clause-steps
returns-clause-steps c = let b = c.args.self in let a = c.ask.result in let l = c.ask.ensures.looks in let w = c.run.result.0 in let ran = c.run.result.1 in
    let placed : (e : Entry) → IsPlaced (seen_of b.pass) b.req e → IsPlaced (events_of l.now) b.req e = λ e is. subst (λ (z : View × Req). IsPlaced (events_of z.0.seen) z.1 e) (λ i. (l.is i, c.ask.ensures.same.0 i)) (c.ask.ensures.placed e is) in
    let notes : (e : Entry) → IsPlaced (seen_of b.pass) b.req e → ReadNotes b.pass.view (seeing b.pass.view b.pass.view.role l.now l.steps) (notes_read e.op) = λ e is. subst (λ (z : View). ReadNotes b.pass.view z (notes_read e.op)) l.is (c.ask.ensures.steps e is) in
    stepped_then b a w l.now l.steps l.saw c.ask.ensures.busy placed notes ran (subst (λ (z : View × Req). (e : Entry) → IsPlaced (events_of z.0.seen) z.1 e → StepsBy 0 (wanted_in e.op) (seen_as a z) w.view e ran) (λ i. (l.is i, c.ask.ensures.same.0 i)) c.run.ensures.steps)

pub returns-clause-ran : goal.returns-clause-ran
returns-clause-ran c = let b = c.args.self in let a = c.ask.result in let l = c.ask.ensures.looks in let w = c.run.result.0 in let ran = c.run.result.1 in
    let placed : (e : Entry) → IsPlaced (seen_of b.pass) b.req e → IsPlaced (events_of l.now) b.req e = λ e is. subst (λ (z : View × Req). IsPlaced (events_of z.0.seen) z.1 e) (λ i. (l.is i, c.ask.ensures.same.0 i)) (c.ask.ensures.placed e is) in
    let notes : (e : Entry) → IsPlaced (seen_of b.pass) b.req e → ReadNotes b.pass.view (seeing b.pass.view b.pass.view.role l.now l.steps) (notes_read e.op) = λ e is. subst (λ (z : View). ReadNotes b.pass.view z (notes_read e.op)) l.is (c.ask.ensures.steps e is) in
    ran_then b a w l.now l.steps l.saw c.ask.ensures.busy placed notes ran (subst (λ (z : View × Req). IsRun (seen_as a z) w ran) (λ i. (l.is i, c.ask.ensures.same.0 i)) c.run.ensures.ran)
