use Rattle.answers.proofs.Common.{Answered, Close, PollAdd, Read, SFits, Splice, Write, rules, subst, to_z-of_z, w32, ℤ}
use Rattle.answers.proofs.piped.answer_with.Goals as goal

pub returns-in-PollAdd : goal.returns-in-PollAdd
returns-in-PollAdd c = rw c.in-PollAdd.is (let f : SFits w32 c.in-PollAdd.fd = search rules in subst (λ (fd : ℤ). Answered (PollAdd fd c.in-PollAdd.mask) c.poll.result c.args.pipe.now c.args.pipe.now c.args.buffer.now c.args.buffer.now) (to_z-of_z w32 c.in-PollAdd.fd f) c.poll.ensures)

pub returns-in-Close : goal.returns-in-Close
returns-in-Close c = rw c.in-Close.is (let f : SFits w32 c.in-Close.fd = search rules in subst (λ (fd : ℤ). Answered (Close fd) c.close.result c.args.pipe.now c.close.new.pipe c.args.buffer.now c.args.buffer.now) (to_z-of_z w32 c.in-Close.fd f) c.close.ensures)

pub returns-in-Read : goal.returns-in-Read
returns-in-Read c = rw c.in-Read.is (let f : SFits w32 c.in-Read.fd = search rules in subst (λ (fd : ℤ). Answered (Read fd c.in-Read.offset c.in-Read.len) c.read.result c.args.pipe.now c.read.new.pipe c.args.buffer.now c.read.new.buffer) (to_z-of_z w32 c.in-Read.fd f) (c.read.ensures c.in-Read.offset))

pub returns-in-Write : goal.returns-in-Write
returns-in-Write c = rw c.in-Write.is (let f : SFits w32 c.in-Write.fd = search rules in subst (λ (fd : ℤ). Answered (Write fd c.in-Write.offset c.in-Write.len) c.write.result c.args.pipe.now c.write.new.pipe c.args.buffer.now c.args.buffer.now) (to_z-of_z w32 c.in-Write.fd f) (c.write.ensures c.in-Write.offset))

pub returns-in-Splice : goal.returns-in-Splice
returns-in-Splice c = rw c.in-Splice.is (subst (λ (fds : ℤ × ℤ). Answered (Splice fds.0 fds.1 c.in-Splice.len) c.splice_alone.result c.args.pipe.now c.args.pipe.now c.args.buffer.now c.args.buffer.now) (λ i. (to_z-of_z w32 c.in-Splice.fd_in (search rules) i, to_z-of_z w32 c.in-Splice.fd_out (search rules) i)) (c.splice_alone.ensures c.in-Splice.len))
