use Rattle.steps.proofs.Common.{Allows, Busy, Extends, Free, HasPipeLaid, IsStep, Laid, Layout, MayLay, Req, Role, Ruled, Seated, Some, events_of, holder, length, lt-ltb, none, pipe_at, pipe_returned, rest, step, subst, sym, ℕ, ◌<◌, ◌∙◌, ◌≡◌}
use Rattle.steps.proofs.PipeSteps.{one_worker, free_allows}
use Rattle.steps.proofs.pipes.give_back.Goals as goal

-- what the worker has in hand may be given back so
abbrev Left : Seated → ℕ → Laid → Type 0
Left me p laid = (q : Req) → me.0.role ≡ Busy q → HasPipeLaid me p q laid × MayLay me.0.layout.caps (events_of me.0.seen) q p laid

allowed : (slots id : ℕ) (me : Seated) (p : ℕ) (given laid : Laid) → given ≡ laid → (q : Req) → me.0.role ≡ Busy q → holder me.0.seen p ≡ Some q → p < 64 → p < length me.0.layout.caps → Left me p given → (M : Layout) → Allows (Ruled M) slots id me (pipe_at p) (λ _. 0) (λ _. pipe_returned laid (step slots (pipe_at p) 0 0 none) me 0)
allowed slots id me p given laid same q busy has small there left M = let l = subst (Left me p) same left q busy in free_allows slots id me q p busy small laid l.0.0 (lt-ltb _ _ there) has l.1 l.0.1 l.0.2 M

-- what the store tells, said of the worker's request
told : (old new : Seated) (p word : ℕ) (given laid : Laid) → given ≡ laid → word ≡ pipe_at p → (q : Req) → old.0.role ≡ Busy q → holder old.0.seen p ≡ Some q
    → ((n : ℕ) (d : Req) → word ≡ pipe_at n → old.0.role ≡ Busy d → holder old.0.seen n ≡ Some d → Extends old.0 (Free d n laid) old.0.role new.0 × (new.1 ≡ rest old.1) × ((found : ℕ) × IsStep word found old.0 new.0))
    → ((d : Req) → old.0.role ≡ Busy d → Extends old.0 (Free d p given) (Busy d) new.0) × (new.1 ≡ rest old.1) × ((found : ℕ) × IsStep (pipe_at p) found old.0 new.0)
told old new p word given laid same at q busy has k = let x = k p q at busy has in (
  λ d is. subst (λ (z : Role). Extends old.0 (Free d p given) z new.0) is (subst (λ (z : Req × Laid). Extends old.0 (Free z.0 p z.1) old.0.role new.0) (λ i. (one_worker q d (sym busy ∙ is) i, sym same i)) x.0),
  x.1,
  subst (λ (i : ℕ). (found : ℕ) × IsStep i found old.0 new.0) at x.2,
)

pub store-requires : goal.store-requires
store-requires c = let f = c.requires.fits in let b = c.requires.busy in
    rw c.pipe_word-word.ensures (f.0, f.3, allowed _ _ c.args.seat.now.me c.args.pipe c.args.laid _ c.in-NoRequest.is b.0 b.1 b.2 f.1 f.2 c.requires.pipe _)

pub store-requires-in-Behind : goal.store-requires-in-Behind
store-requires-in-Behind c = let f = c.requires.fits in let b = c.requires.busy in
    rw c.pipe_word-word.ensures (f.0, f.3, allowed _ _ c.args.seat.now.me c.args.pipe c.args.laid _ c.in-Behind.is b.0 b.1 b.2 f.1 f.2 c.requires.pipe _)

pub store-requires-in-Alone : goal.store-requires-in-Alone
store-requires-in-Alone c = let f = c.requires.fits in let b = c.requires.busy in
    rw c.pipe_word-word.ensures (f.0, f.3, allowed _ _ c.args.seat.now.me c.args.pipe c.args.laid _ c.in-Alone.is b.0 b.1 b.2 f.1 f.2 c.requires.pipe _)

pub returns-in-NoRequest : goal.returns-in-NoRequest
returns-in-NoRequest c = let b = c.requires.busy in let s = c.store.ensures in let t = told c.args.seat.now.me c.store.new.seat.me c.args.pipe c.pipe_word-word.result c.args.laid _ c.in-NoRequest.is c.pipe_word-word.ensures b.0 b.1 b.2 s.2 in
    record { seat = ((s.0, s.1), t.1); frees = t.0; step = t.2 }

pub returns-in-Behind : goal.returns-in-Behind
returns-in-Behind c = let b = c.requires.busy in let s = c.store-in-Behind.ensures in let t = told c.args.seat.now.me c.store-in-Behind.new.seat.me c.args.pipe c.pipe_word-word.result c.args.laid _ c.in-Behind.is c.pipe_word-word.ensures b.0 b.1 b.2 s.2 in
    record { seat = ((s.0, s.1), t.1); frees = t.0; step = t.2 }

pub returns-in-Alone : goal.returns-in-Alone
returns-in-Alone c = let b = c.requires.busy in let s = c.store-in-Alone.ensures in let t = told c.args.seat.now.me c.store-in-Alone.new.seat.me c.args.pipe c.pipe_word-word.result c.args.laid _ c.in-Alone.is c.pipe_word-word.ensures b.0 b.1 b.2 s.2 in
    record { seat = ((s.0, s.1), t.1); frees = t.0; step = t.2 }
