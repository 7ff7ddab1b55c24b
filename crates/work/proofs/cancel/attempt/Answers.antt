use Rattle.claim.specs.declared.tag.Tag.TheVariants.{Running}
use Rattle.work.proofs.Common.{IsIdleWord, Line, List, Looks, Matches, Shown, View, events_of, inl, inr, refl, setup_of, subst, target_in, word_of, ⊎_elim, ◌≡◌, ◌⊎◌}
use Rattle.work.proofs.CancelGrowth.{born_on, grown_look}
use Rattle.work.proofs.CancelSearch.{idle_still, held_before, held_no_more, is_match, match_fails, may_hit, stepped_claim, target_born, word_open}
use Rattle.work.proofs.cancel.attempt.Goals as goal

pub returns-in_default-clause-tried : goal.returns-in_default-clause-tried
returns-in_default-clause-tried c = let s = c.args.seat.now in let r = c.requires.cancels in λ d w k.
    (inl refl, c.in_default.ensures.none s.me.0.layout.cells s.me.0.seen c.args.target.cell c.requires.shown (target_born c.args.words.now.table_id s r.0 r.1 c.args.target r.2 r.3).1)

pub take-word-requires-clause-cancel : goal.take-word-requires-clause-cancel
take-word-requires-clause-cancel c = let s = c.args.seat.now in let r = c.requires.cancels in let k = c.in-Some.ensures.some in let t = c.args.target in
    let going : IsIdleWord t.generation c.args.found ⊎ (c.args.found ≡ word_of Running 0 t.generation 0) = ⊎_elim (λ (e : c.in-Some.expected ≡ c.args.found). inl (subst (IsIdleWord t.generation) e k.0)) (λ p. inr p.0) k.1 in
    (r.0, r.2.busy, may_hit c.args.words.now.table_id s r.0 r.1 t r.2 r.5 (word_open s.me.0.layout.cells s.me.0.seen t.cell t.generation c.args.found c.requires.shown r.3.small going) r.4)

pub take-word-requires-clause-fails : goal.take-word-requires-clause-fails
take-word-requires-clause-fails c = let s = c.args.seat.now in let r = c.requires.cancels in let k = c.in-Some.ensures.some in let t = c.args.target in
    let going : IsIdleWord t.generation c.args.found ⊎ (c.args.found ≡ word_of Running 0 t.generation 0) = ⊎_elim (λ (e : c.in-Some.expected ≡ c.args.found). inl (subst (IsIdleWord t.generation) e k.0)) (λ p. inr p.0) k.1 in
    let m : Matches (events_of s.me.0.seen) r.0 (target_in s t) = is_match c.args.words.now.table_id s r.0 r.1 t r.2 r.5 (word_open s.me.0.layout.cells s.me.0.seen t.cell t.generation c.args.found c.requires.shown r.3.small going) in
    (m.2, m.4, match_fails (events_of s.me.0.seen) r.0 (target_in s t) m)

pub returns-then-word-expected-clause-steps : goal.returns-then-word-expected-clause-steps
returns-then-word-expected-clause-steps c = stepped_claim c.args.seat.now.me.0 c.take-word.new.seat.me.0 c.args.target.cell c.take-word.result c.take-word.ensures.step

pub returns-in-Idle-clause-again : goal.returns-in-Idle-clause-again
returns-in-Idle-clause-again c = let s = c.args.seat.now in let r = c.requires.cancels in let t = c.args.target in let v : View = s.me.0 in let idle = c.in-Idle.ensures.idle refl in
    let look = c.take-word.ensures.looks c.if-word-expected.false (idle_still t.generation c.take-word.result idle) in let x : Looks v c.take-word.new.seat.me.0 = look.0 in
    let grown = grown_look v c.take-word.new.seat.me.0 r.0 r.2.busy x in let seen = grown.seen_is in let shown = subst (λ (j : List Line). Shown v.layout.cells j t.cell c.take-word.result) seen look.1 in let legal = grown.legal in (
      x,
      look.1,
      held_before (setup_of v.layout) v.layout.cells grown.later v.seen t.cell t.generation c.args.found c.in-Some.expected c.take-word.result r.3.small legal c.requires.shown shown c.in-Some.ensures.some idle c.if-word-expected.false,
      held_no_more (setup_of v.layout) v.layout.cells grown.later v.seen t.cell t.generation c.args.found c.in-Some.expected c.take-word.result r.3.small legal c.requires.shown shown c.in-Some.ensures.some idle c.if-word-expected.false,
    )

pub returns-in-Idle-clause-steps : goal.returns-in-Idle-clause-steps
returns-in-Idle-clause-steps c = stepped_claim c.args.seat.now.me.0 c.take-word.new.seat.me.0 c.args.target.cell c.take-word.result c.take-word.ensures.step

pub returns-in-Running-clause-steps : goal.returns-in-Running-clause-steps
returns-in-Running-clause-steps c = stepped_claim c.args.seat.now.me.0 c.take-word.new.seat.me.0 c.args.target.cell c.take-word.result c.take-word.ensures.step

pub returns-in-Over-clause-tried : goal.returns-in-Over-clause-tried
returns-in-Over-clause-tried c = let s = c.args.seat.now in let r = c.requires.cancels in let t = c.args.target in let v : View = s.me.0 in
    let look = c.take-word.ensures.looks c.if-word-expected.false (c.in-Over.ensures.still refl) in let x : Looks v c.take-word.new.seat.me.0 = look.0 in λ d w k.
    (inr x, c.in-Over.ensures.over refl v.layout.cells c.take-word.new.seat.me.0.seen t.cell look.1 (born_on v c.take-word.new.seat.me.0 r.0 (grown_look v c.take-word.new.seat.me.0 r.0 r.2.busy x) (target_in s t) (target_born c.args.words.now.table_id s r.0 r.1 t r.2 r.3).0))

pub returns-in-Over-clause-steps : goal.returns-in-Over-clause-steps
returns-in-Over-clause-steps c = stepped_claim c.args.seat.now.me.0 c.take-word.new.seat.me.0 c.args.target.cell c.take-word.result c.take-word.ensures.step
