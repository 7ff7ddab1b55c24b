use Rattle.steps.proofs.Common.{Busy, HasAlone, Req, Some, View, ap, bool_cases, false, is_pipe, length, lt-ltb, subst, sym, true, true≢false, ℕ, ⊎_elim, ◌<◌, ◌∙◌, ◌≡◌, ◌≢◌}
use Rattle.steps.proofs.PipeSteps.{one_worker, one_alone, both_after, first_after, same_looked, alone_looked, lacks_after}
use Rattle.steps.proofs.pipes.hold_second.Goals as goal

-- the pipe that the worker has is the one that the call asks for
first_is : (v : View) (second : ℕ) → ((q : Req) × (first : ℕ) × (v.role ≡ Busy q) × (first ≢ second) × (first < length v.layout.caps) × HasAlone v.seen first q) → (q : Req) (first : ℕ) → v.role ≡ Busy q → HasAlone v.seen first q → (first ≢ second) × (is_pipe v.layout.caps first ≡ true)
first_is v second b q first is has = let who : b.0 ≡ q = one_worker b.0 q (sym b.2 ∙ is) in let one : b.1 ≡ first = one_alone v.seen b.1 first q (subst (HasAlone v.seen b.1) who b.5) has in
    subst (λ (z : ℕ). (z ≢ second) × (is_pipe v.layout.caps z ≡ true)) one (b.3, lt-ltb b.1 (length v.layout.caps) b.4)

pub take-requires-clause-busy : goal.take-requires-clause-busy
take-requires-clause-busy c = let b = c.requires.busy in (b.0, b.2)

pub returns-clause-holds : goal.returns-clause-holds
returns-clause-holds c = let v : View = c.args.seat.now.me.0 in let w : View = c.take.new.seat.me.0 in
    λ e q first is has. let d = c.take.ensures.holds e q is in let f = first_is v c.args.second c.requires.busy q first is has in (d.0, both_after v w q c.args.second is first f.0 f.1 has d.0, d.1)

pub returns-clause-alone : goal.returns-clause-alone
returns-clause-alone c = let v : View = c.args.seat.now.me.0 in let w : View = c.take.new.seat.me.0 in
    λ ne q first is has. alone_looked v w q first is (first_is v c.args.second c.requires.busy q first is has).1 has (c.take.ensures.looks ne).0

pub returns-clause-missed : goal.returns-clause-missed
returns-clause-missed c = λ ne. let b = c.requires.busy in let v : View = c.args.seat.now.me.0 in let w : View = c.take.new.seat.me.0 in let m = c.take.ensures.missed ne in let looked = (c.take.ensures.looks ne).0 in
    (m.0, m.1, m.2, m.3, m.4, λ is. lacks_after v w b.0 c.args.second b.2 (b.5.1 c.args.second (λ e. b.3 (sym e))) looked (m.4 ∙ ap Some (one_worker m.3 b.0 (sym is ∙ (ap (λ (k : View). k.role) looked.is ∙ b.2)))))

pub returns-clause-same : goal.returns-clause-same
returns-clause-same c = let v : View = c.args.seat.now.me.0 in let w : View = c.take.new.seat.me.0 in
    λ q first is has. let f = first_is v c.args.second c.requires.busy q first is has in ⊎_elim
    (λ (hit : c.take.result ≡ true). first_after v w q c.args.second is first f.0 f.1 has (c.take.ensures.holds hit q is).0)
    (λ (miss : c.take.result ≡ false). (same_looked v w q first is f.1 has.0 (c.take.ensures.looks (λ hit. true≢false (sym hit ∙ miss))).0).1) (bool_cases c.take.result)
