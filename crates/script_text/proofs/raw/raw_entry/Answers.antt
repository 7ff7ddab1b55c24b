use Rattle.script_text.proofs.Common.{length, ◌≡◌}
use Rattle.script_text.proofs.RawEntries.{raw_only}
use Rattle.script_text.proofs.raw.raw_entry.Goals as goal

pub returns-clause-only : goal.returns-clause-only
returns-clause-only c = λ other h.
    let bytes = c.in-Some.bytes.items in
    let found = rw c.in-Some.is at c.in_ok-bytes.ensures.found in
    let same : c.copy_from_slice.new.self ≡ bytes = cc in
    let count : length bytes ≡ 64 = rw same at c.copy_from_slice.ensures.len in
    raw_only c.args.digits.now bytes c.of_bytes.result other found.0 count found.1 (rw same at c.of_bytes.ensures.says) (rw same at c.of_bytes.ensures.again)
    (λ bs are is. rw c.in-Some.is at (c.in_ok-bytes.ensures.only bs are is)) h
