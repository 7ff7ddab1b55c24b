use Rattle.pictures.proofs.Common.{List, OnOk, string_bytes, subst, sym, ℕ, ◌++◌, ◌≡◌}
use Rattle.pictures.proofs.Turns.{over_lane, to_target}
use Rattle.pictures.proofs.mermaid.push_step.Goals as goal

pub returns-in-None : goal.returns-in-None
returns-in-None c =
    let is = rw (c.of-from.ensures, c.as_str-text.ensures.value) at c.write.ensures.bytes in
    subst (λ (l : List ℕ). OnOk c.write.result (string_bytes c.write.new.self ≡ string_bytes c.args.out.now ++ l)) (sym (over_lane c.args.columns.now.rings c.args.columns.now.workers c.args.mark.now c.in-None.is)) is

pub returns-in-Some : goal.returns-in-Some
returns-in-Some c =
    let is = rw (c.of-from.ensures, c.as_str-text.ensures.value, c.of-to.ensures) at c.write-in-Some.ensures.bytes in
    subst (λ (l : List ℕ). OnOk c.write-in-Some.result (string_bytes c.write-in-Some.new.self ≡ string_bytes c.args.out.now ++ l)) (sym (to_target c.args.columns.now.rings c.args.columns.now.workers c.args.mark.now _ c.in-Some.is)) is
