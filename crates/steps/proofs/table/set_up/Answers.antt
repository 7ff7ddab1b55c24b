use Rattle.std.proofs.lemmas.Grind.{common_steps}
use Rattle.steps.proofs.Common.{Layout, List, Option, PipeIn, Thing, [], ap, arith, get_elem?, refl, replicate, rules, some, subst, sym, total, untouched, words_of, ℕ, ◌<◌, ◌∙◌, ◌≡◌}
use Rattle.steps.proofs.CutsJoinsEnd.{starts}
use Rattle.steps.proofs.table.set_up.Goals as goal

pub new-requires : goal.new-requires
new-requires c = let n = c.args.rows in let e : c.as_slice-2.result.now ≡ replicate (words_of n) 0 = first_of (search rules, grind (arith, common_steps)) in let s = c.in_ok-slots.ensures in
    let L : Layout = record { cells = c.of.result.value.items; caps = c.of-2.result.value.items } in
    rw e (starts L n (words_of n) c.in_ok-slots.slots.items (c.requires.rows.1 ∙ ap total (sym (ap (λ v. v.items) c.of.ensures))) refl s.long s.empty
    (subst (λ (k : List ℕ × ℕ). (p : ℕ) → p < 64 → (x : Option Thing) × (get_elem? c.in_ok-slots.slots.items p ≡ some x) × PipeIn k.0 k.1 p x (untouched, [])) (λ i. ((c.as_slice.ensures.value ∙ sym (ap (λ v. v.items) c.of-2.ensures)) i, (c.requires.rows.1 ∙ ap total (sym (ap (λ v. v.items) c.of.ensures))) i)) s.pipes))
