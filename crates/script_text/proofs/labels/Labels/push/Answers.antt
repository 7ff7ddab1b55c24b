use Rattle.script_text.specs.Labels.{known_or, place_at}
use Rattle.script_text.proofs.Common.{all_stated, ap, arith, is_same, place_of, ◌∙◌, ◌≡◌}
use Rattle.script_text.proofs.Indexed.{one_more}
use Rattle.script_text.proofs.labels.Labels.push.Goals as goal

pub invariant_of-self-2 : goal.invariant_of-self-2
invariant_of-self-2 c =
    let lines = c.args.self.now.lines.items in
    let room = c.in_ok-reserve.ensures.ok in
    let pushed = c.push.ensures.succeeds (omega (arith, room)) in
    record {
      indexed = λ label.
          let added : place_at c.add.new.places label ≡ known_or (place_at c.args.self.now.places label) (is_same c.args.line.label.now label) c.len-place.result = c.in_ok-add.ensures.added label in
          let before = added ∙ ap (λ known. known_or known (is_same c.args.line.label.now label) c.len-place.result) (c.args.self.now.indexed label) in
          rw (c.push.ensures.items, pushed, c.reserve.ensures.items, one_more lines c.args.line label)
          (before ∙ ap (λ place. known_or (place_of (all_stated lines) label) (is_same c.args.line.label.now label) place) (c.len-place.ensures ∙ c.args.self.now.lines.ok.0));
    }
