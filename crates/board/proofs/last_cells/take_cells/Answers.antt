use Rattle.board.proofs.Common.{IsEmptied, List, Option, Thing, arith, claim_at, false, get_elem?, length, set, slot_at, slots_counts, slots_filled, slots_items, slots_of, some, subst, ℕ, ◌+◌, ◌<◌, ◌∙◌, ◌≡◌}
use Rattle.board.proofs.TakenCells.{emptied_more, taken_more}
use Rattle.board.proofs.last_cells.take_cells.Goals as goal

pub loop-x-preserved : goal.loop-x-preserved
loop-x-preserved c =
    let v = c.loop-x.invariant in let o = c.take-thing.ensures.others in let lt = c.loop-x-test.true in let count = v.count in let room = c.requires.slots in
    let here : get_elem? (slots_items c.args.closed.now.words) (claim_at c.loop-x.x) ≡ some c.word-word.result = subst (λ (i : ℕ). get_elem? (slots_items c.args.closed.now.words) i ≡ some c.word-word.result) c.claim_word.ensures (subst (λ z. get_elem? (slots_items z) c.claim_word.result ≡ some c.word-word.result) v.words c.word-word.ensures) in
    let there : get_elem? (slots_items c.args.closed.now.slots) (slot_at c.loop-x.x) ≡ some c.take-thing.result = subst (λ (i : ℕ). get_elem? (slots_items c.args.closed.now.slots) i ≡ some c.take-thing.result) c.slot.ensures (subst (λ (z : List (Option Thing)). get_elem? z c.slot.result ≡ some c.take-thing.result) v.items c.take-thing.ensures.value) in
    let long = (slots_counts c.loop-x.closed.slots).1 in let inside : slot_at c.loop-x.x < length (slots_filled c.loop-x.closed.slots) = omega arith in
    let next : slot_at c.loop-x.x + 1 ≡ slots_of (c.loop-x.x + 1) = omega arith in
    let taken = taken_more (slots_items c.args.closed.now.words) (slots_items c.args.closed.now.slots) c.loop-x.x c.word-word.result c.take-thing.result c.loop-x.last_cells.claims.items c.loop-x.last_cells.slots.items v.taken here there in
    record {
      words = o.3 ∙ v.words;
      items = o.0 ∙ v.items;
      count = o.2 ∙ v.count;
      emptied = subst (IsEmptied (slots_filled c.args.closed.now.slots) (slots_filled c.take-thing.new.self.slots) (slots_of 0)) next (emptied_more (slots_filled c.args.closed.now.slots) (slots_filled c.loop-x.closed.slots) (slots_filled c.take-thing.new.self.slots) (slots_of 0) (slot_at c.loop-x.x) (subst (λ (i : ℕ). slots_filled c.take-thing.new.self.slots ≡ set (slots_filled c.loop-x.closed.slots) i false) c.slot.ensures o.1) inside (omega arith) v.emptied);
      taken = rw c.in-Ok.ensures.items (rw c.in-Ok-push.ensures.items taken);
      claims = (let a = c.push.ensures.capacity in let b = v.claims in omega arith);
      room = (let a = c.push-in-loop-x.ensures.capacity in let b = v.room in omega arith);
    }
