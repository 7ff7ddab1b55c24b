use Rattle.board.specs.declared.phase.Phase.{Phase as Standing}
use Rattle.board.proofs.Common.{Did, Done, ExtendsTwice, Facts, Goes, Gone, IsCell, IsDone, IsOf, IsSubmission, IsReaped, Layout, Lending, Lent, List, Reap, Req, Role, Shown, Some, Stands, View, [], ap, arith, data_of, facts_at, inl, inr, looked_of, of_z, over, phase, place_of, refl, replied, request_at, seen_of, setup_of, submits, subst, sym, to_z, w32, ℕ, ◌∙◌, ◌∷◌, ◌≡◌, ◌≤◌}
use Rattle.board.proofs.GoesLaws.{goes_looked, goes_then, goes_twice}
use Rattle.board.proofs.PassFacts.{found_word, stepped_once, took_three}
use Rattle.board.proofs.OnceEach.{reaped_once}
use Rattle.board.proofs.Reaping.{is_done, signed_reply, reaped_now, data_now, reply_now, unreplied, unreplied_yet}
use Rattle.board.proofs.board.Board.reap.Goals as goal

pub returns-then-next_request-req-clause-reason : goal.returns-then-next_request-req-clause-reason
returns-then-next_request-req-clause-reason c = λ ring role'. (
    let r = c.ring.ensures.role in let n = c.next_request.ensures in let nr = n.role in let one : c.ring.result ≡ ring = cc in let two : c.next_request.result.ring ≡ ring = cc in
    let at : c.args.req.ring ≡ ring = c.if-req-ring.false ∙ one in
    let k : c.next_request.result.k ≡ submits (seen_of c.args.submitter.now) ring = ap (λ (z : Req). z.k) n.next ∙ ap (submits (seen_of c.args.submitter.now)) two in
    let le = c.if-next_request-req.true in let past : submits (seen_of c.args.submitter.now) ring ≤ c.args.req.k = omega arith in
    (at, unreplied_yet c.args.self.now c.args.submitter.now c.args.req c.requires (subst (λ (i : ℕ). submits (seen_of c.args.submitter.now) i ≤ c.args.req.k) (sym at) past), inl past))

pub told-requires : goal.told-requires
told-requires c = let e = c.look_at-word.ensures in found_word c.args.self.now c.args.submitter.now c.look_at-word.new.self c.in-Some.cell.index c.look_at-word.result c.requires e.table e.looks e.shown

pub has_failed-requires : goal.has_failed-requires
has_failed-requires c = let e = c.look_at-word.ensures in found_word c.args.self.now c.args.submitter.now c.look_at-word.new.self c.in-Some.cell.index c.look_at-word.result c.requires e.table e.looks e.shown

pub reap-returned-requires-clause-done : goal.reap-returned-requires-clause-done
reap-returned-requires-clause-done c = let e = c.look_at-word.ensures in let b = c.args.self.now in let p = c.args.submitter.now in let m = c.look_at-word.new.self in let s = c.in-Some.cell in
    let grid : c.self.inside.grid ≡ b.layout.cells = ap (λ (z : Facts). z.layout.cells) c.self.view_is in
    let at : request_at b.layout.cells s.index s.generation ≡ c.args.req = subst (λ (K : List ℕ). request_at K s.index s.generation ≡ c.args.req) grid c.in-Some.ensures.some.1 in
    let there : request_at p.view.layout.cells s.index s.generation ≡ c.args.req = ap (λ (L : Layout). request_at L.cells s.index s.generation) c.requires.layout_is ∙ at in
    let stands : Stands m.view.seen c.args.req c.told.result = subst (λ (r : Req). Stands m.view.seen r c.told.result) there (c.told.ensures.stands p.view.layout.cells m.view.seen s.index e.shown) in
    let done : Stands m.view.seen c.args.req (Done c.in-Done.res) = subst (λ (z : Standing). Stands m.view.seen c.args.req z) c.in-Done.is stands in
    let layout : p.view.layout ≡ m.view.layout = sym (ap (λ (z : View). z.layout) e.looks.is) in
    subst (λ (L : Layout). IsDone m.view.seen (request_at L.cells s.index s.generation) s.generation c.look_at-word.result) layout
    (is_done p.view.layout.cells m.view.seen s.index c.look_at-word.result s.generation done.0 c.in-Done.res e.shown (subst (λ (r : Req). phase (seen_of m) r ≡ replied done.0 c.in-Done.res) (sym there) done.1))

pub returns-in-Done : goal.returns-in-Done
returns-in-Done c = let e = c.look_at-word.ensures in let b = c.args.self.now in let p = c.args.submitter.now in let m = c.look_at-word.new.self in let s = c.in-Some.cell in
    let grid : c.self.inside.grid ≡ b.layout.cells = ap (λ (z : Facts). z.layout.cells) c.self.view_is in
    let at : request_at b.layout.cells s.index s.generation ≡ c.args.req = subst (λ (K : List ℕ). request_at K s.index s.generation ≡ c.args.req) grid c.in-Some.ensures.some.1 in
    let there : request_at p.view.layout.cells s.index s.generation ≡ c.args.req = ap (λ (L : Layout). request_at L.cells s.index s.generation) c.requires.layout_is ∙ at in
    let stands : Stands m.view.seen c.args.req c.told.result = subst (λ (r : Req). Stands m.view.seen r c.told.result) there (c.told.ensures.stands p.view.layout.cells m.view.seen s.index e.shown) in
    let role : p.view.role ≡ Role.Submitter c.args.req.ring = c.ring.ensures.role ∙ ap Role.Submitter (sym c.if-req-ring.false) in
    let done : Stands m.view.seen c.args.req (Done c.in-Done.res) = subst (λ (z : Standing). Stands m.view.seen c.args.req z) c.in-Done.is stands in
    let q = c.reap-returned.new.self in let z = c.reap-returned.ensures.reaps in let km : IsOf b m = looked_of b p m c.requires e.table e.looks in let here : request_at m.view.layout.cells s.index s.generation ≡ c.args.req = ap (λ (L : Layout). request_at L.cells s.index s.generation) km.layout_is ∙ at in
    let role' : m.view.role ≡ Role.Submitter c.args.req.ring = ap (λ (z : View). z.role) e.looks.is ∙ role in
    let x : ExtendsTwice m.view (Lent c.args.req (facts_at s.index) z.0) (Lending c.args.req) (Did (Reap c.args.req)) (Role.Submitter c.args.req.ring) q.view = subst (λ (r : Req). ExtendsTwice m.view (Lent r (facts_at s.index) z.0) (Lending r) (Did (Reap r)) (Role.Submitter r.ring) q.view) here z.1 in
    let goes : Goes b m (Reap c.args.req ∷ []) q = goes_twice b m q c.args.req (Lent c.args.req (facts_at s.index) z.0) (Reap c.args.req) (λ h. refl) km c.reap-returned.ensures.table role' refl x in
    let now = reaped_now m.view q.view c.args.req (facts_at s.index) z.0 done.0 c.in-Done.res role' x done.1 in
    let f = c.reap-returned.ensures.submission in
    let submission : IsSubmission q.view.seen c.args.req (data_of (seen_of m) c.args.req) f.0 = subst (λ (r : Req). IsSubmission q.view.seen r (data_of (seen_of m) r) f.0) here f.1 in
    let signed : to_z w32 (of_z w32 c.in-Done.res) ≡ c.in-Done.res = signed_reply p.view.layout.cells m.view.seen s.index c.look_at-word.result s.generation done.0 c.in-Done.res e.shown (subst (λ (r : Req). phase (seen_of m) r ≡ replied done.0 c.in-Done.res) (sym there) done.1) in record {
      reaped = goes_then b p m q (Reap c.args.req ∷ []) (goes_looked b p m c.requires e.table e.looks) goes;
      completion = (
        record {
          entry = f.0.sqe;
          bytes = submission.0;
          end_of_batch = f.0.last;
          handed_in = submission.1;
          req_is = refl;
          user_data = f.2;
          reply_is = reply_now m.view q.view c.args.req (facts_at s.index) z.0 done.0 c.in-Done.res role' x done.1 ∙ ap Some (sym signed);
          buffer = ap (λ v. v.items) f.3 ∙ (submission.2 ∙ ap (λ (d : List ℕ). over d submission.0) (sym (data_now m.view q.view c.args.req (facts_at s.index) z.0 done.0 c.in-Done.res role' x done.1)));
        },
        subst IsReaped (sym now) tt,
      );
      once = reaped_once (setup_of b.layout) (seen_of q) c.args.req done.0 c.in-Done.res goes.kept.legal (reaped_now m.view q.view c.args.req (facts_at s.index) z.0 done.0 c.in-Done.res role' x done.1);
      steps = (let z = c.reap-returned.ensures.steps in took_three c.args.submitter.now.view c.look_at-word.new.self.view z.0 c.reap-returned.new.self.view _ _ c.look_at-word.ensures.step z.1.0 _ z.1.1 z.2.0 _ z.2.1);
      refused = tt;
      reason = λ ring role. tt;
    }

pub returns-in-Gone-clause-refused : goal.returns-in-Gone-clause-refused
returns-in-Gone-clause-refused c = let e = c.look_at-word.ensures in goes_looked c.args.self.now c.args.submitter.now c.look_at-word.new.self c.requires e.table e.looks

pub returns-in-Gone-clause-reason : goal.returns-in-Gone-clause-reason
returns-in-Gone-clause-reason c = let e = c.look_at-word.ensures in let b = c.args.self.now in let p = c.args.submitter.now in let m = c.look_at-word.new.self in let s = c.in-Some.cell in
    let grid : c.self.inside.grid ≡ b.layout.cells = ap (λ (z : Facts). z.layout.cells) c.self.view_is in
    let at : request_at b.layout.cells s.index s.generation ≡ c.args.req = subst (λ (K : List ℕ). request_at K s.index s.generation ≡ c.args.req) grid c.in-Some.ensures.some.1 in
    let there : request_at p.view.layout.cells s.index s.generation ≡ c.args.req = ap (λ (L : Layout). request_at L.cells s.index s.generation) c.requires.layout_is ∙ at in
    let stands : Stands m.view.seen c.args.req c.told.result = subst (λ (r : Req). Stands m.view.seen r c.told.result) there (c.told.ensures.stands p.view.layout.cells m.view.seen s.index e.shown) in
    let gone : Stands m.view.seen c.args.req Gone = subst (λ (z : Standing). Stands m.view.seen c.args.req z) c.in-Gone.is stands in
    λ ring role'. (let r = c.ring.ensures.role in let one : c.ring.result ≡ ring = cc in (c.if-req-ring.false ∙ one, subst IsReaped (sym gone.2) tt))

pub returns-in_default-told : goal.returns-in_default-told
returns-in_default-told c = let e = c.look_at-word.ensures in let b = c.args.self.now in let p = c.args.submitter.now in let m = c.look_at-word.new.self in let s = c.in-Some.cell in
    let grid : c.self.inside.grid ≡ b.layout.cells = ap (λ (z : Facts). z.layout.cells) c.self.view_is in
    let at : request_at b.layout.cells s.index s.generation ≡ c.args.req = subst (λ (K : List ℕ). request_at K s.index s.generation ≡ c.args.req) grid c.in-Some.ensures.some.1 in
    let there : request_at p.view.layout.cells s.index s.generation ≡ c.args.req = ap (λ (L : Layout). request_at L.cells s.index s.generation) c.requires.layout_is ∙ at in
    let stands : Stands m.view.seen c.args.req c.told.result = subst (λ (r : Req). Stands m.view.seen r c.told.result) there (c.told.ensures.stands p.view.layout.cells m.view.seen s.index e.shown) in
    record {
      reaped = tt;
      completion = tt;
      once = tt;
      steps = tt;
      refused = goes_looked b p m c.requires e.table e.looks;
      reason = λ ring role'. (let r = c.ring.ensures.role in let one : c.ring.result ≡ ring = cc in
          (c.if-req-ring.false ∙ one, unreplied m.view.seen c.args.req c.told.result stands c.in_default-told.not-Done c.in_default-told.not-Gone, inr (stepped_once b.layout.cells c.args.req p m s.index s.generation c.look_at-word.result (subst (λ (f : Facts). IsCell f.layout.cells s.index) c.self.view_is c.in-Some.ensures.some.0) at e.step (subst (λ (L : Layout). Shown L.cells m.view.seen s.index c.look_at-word.result) c.requires.layout_is e.shown))));
    }

pub reap-returned-requires-clause-shown : goal.reap-returned-requires-clause-shown
reap-returned-requires-clause-shown c = let e = c.look_at-word.ensures in subst (λ (L : Layout). Shown L.cells c.look_at-word.new.self.view.seen c.in-Some.cell.index c.look_at-word.result) (sym (ap (λ (z : View). z.layout) e.looks.is)) e.shown

pub reap-returned-requires-clause-number : goal.reap-returned-requires-clause-number
reap-returned-requires-clause-number c = let e = c.look_at-word.ensures in let s = c.in-Some.cell in
    subst (λ (K : List ℕ). s.number ≡ place_of K s.index) (ap (λ (z : Facts). z.layout.cells) c.self.view_is ∙ sym (ap (λ (z : View). z.layout.cells) e.looks.is ∙ ap (λ (L : Layout). L.cells) c.requires.layout_is)) c.in-Some.ensures.number
