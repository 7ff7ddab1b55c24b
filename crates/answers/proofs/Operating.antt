-- What READ, WRITE, CLOSE and POLL_ADD reply is what the definitions tell, and what they do to the held pipe is what their replies do to the
-- pipe of the history.
use Rattle.std.proofs.lemmas.List.{length-take-le}
use Rattle.entry.specs.declared.op.Offset.{Offset}
use Rattle.entry.specs.declared.op.Op.TheVariants.{Read as OpRead, Write as OpWrite, Splice as OpSplice}
use Rattle.level.specs.declared.ends.End.TheVariants.{Read as ReadSide, Write as WriteSide}
use Rattle.level.specs.Replies.{moved, read_reply, write_reply}
use Rattle.level.proofs.Moved.{read_few}
use Rattle.history.specs.Answers as told
use Rattle.history.specs.State.{Held, held_in}
use Rattle.history.proofs.Contents.{reads_held, writes_held, flows_held, flows_hold}
use Rattle.pipe.specs.{level_of, OnIdle, after_read, after_write}
use Rattle.answers.proofs.Common.{Answer, Conduit, Does, End, Event, Flow, IsPipe, IsSide, IsSound, List, None, Op, OpAnswers, Option, Req, Some, [], ap, append-nil, bare, cond, contents, drop, end_of, eq-eqb, eqb-true, false, flow, flows, is_at, is_pipe, later, length, level_at, lt-ltb, negsuc, no_end, now, offered, read_end, read_from, refl, size, slice_index, subst, sym, take, true, with_front, write_end, write_to, ℕ, ℤ, ◌++◌, ◌<◌, ◌==◌, ◌∙◌, ◌≡◌, ◌≤◌}

abbrev pub held_of : Conduit → Held
held_of c = record { bytes = c.content; read_closed = c.read_closed; write_closed = c.write_closed }

pub same : (p : ℕ) → (p == p) ≡ true
same p = eq-eqb p p refl

-- a held pipe has the level of the history's
pub level_said : (cap : ℕ) (c : Conduit) (w : Flow) → IsPipe cap c w → told.level_of cap w ≡ level_of c
level_said cap c w s = rw (← s.content_is, ← s.read_is, ← s.write_is, ← s.cap_is) refl

-- what a reply makes of the held pipe it makes of the history's
pub stays : (cap : ℕ) (op : Op) (bytes : List ℕ) (res : ℤ) (p : ℕ) (c new : Conduit) (w : Flow) → IsPipe cap c w → IsSound w → new.cap ≡ c.cap → held_of new ≡ flows_held op bytes res p (held_of c) → IsPipe cap new (flows op bytes res p w)
stays cap op bytes res p c new w s ok k e =
    let was : held_of c ≡ held_in w = cc in
    let all : held_of new ≡ held_in (flows op bytes res p w) = e ∙ ap (flows_held op bytes res p) was ∙ sym (flows_hold op bytes res p w ok) in
    record { cap_is = k ∙ s.cap_is; content_is = ap (λ (v : Held). v.bytes) all; read_is = ap (λ (v : Held). v.read_closed) all; write_is = ap (λ (v : Held). v.write_closed) all }

-- an error moves nothing
reads_nothing : (x : End) (n p : ℕ) (v : Held) → reads_held x (negsuc n) p v ≡ v
reads_nothing no_end n p v = refl
reads_nothing (write_end y) n p v = refl
reads_nothing (read_end y) n p v = elim (y == p) as (λ b. cond b (record v { bytes = drop 0 v.bytes }) v ≡ v) [ true ↦ refl | false ↦ refl ]

writes_nothing : (x : End) (bytes : List ℕ) (n p : ℕ) (v : Held) → writes_held x bytes (negsuc n) p v ≡ v
writes_nothing no_end bytes n p v = refl
writes_nothing (read_end y) bytes n p v = refl
writes_nothing (write_end y) bytes n p v = elim (y == p) as (λ b. cond b (record v { bytes = v.bytes ++ [] }) v ≡ v) [ true ↦ ap (λ (z : List ℕ). (let u : Held = record v { bytes = z } in u)) (append-nil v.bytes) | false ↦ refl ]

pub splice_nothing : (fd_in fd_out : ℤ) (len : ℕ) (bytes : List ℕ) (n p : ℕ) (v : Held) → flows_held (OpSplice fd_in fd_out len) bytes (negsuc n) p v ≡ v
splice_nothing fd_in fd_out len bytes n p v = reads_nothing (end_of fd_in) n p (writes_held (end_of fd_out) bytes (negsuc n) p v) ∙ writes_nothing (end_of fd_out) bytes n p v

-- the definitions give no answer where the pipe waits
pub silent : (x : Answer) (res : ℤ) (data' : List ℕ) → x ≡ later → ¬ (x ≡ now res data')
silent x res data' e f = cc

module _ (caps : List ℕ) (h : List Event) (r : Req) (p : ℕ) (fd : ℤ) (c : Conduit) (bytes : List ℕ) (there : p < length caps) (s : IsPipe (slice_index caps p) c (flow h p)) (ok : IsSound (flow h p)) where
  is_there : is_pipe caps p ≡ true
  is_there = lt-ltb p (length caps) there

  level_is : level_at caps (flow h) p ≡ level_of c
  level_is = level_said (slice_index caps p) c (flow h p) s

  -- the bytes that a reply puts into a pipe
  abbrev offers : Op → List ℕ
  offers op = offered op (contents h) bytes

  module _ (offset : Offset) (len : ℕ) (new : Conduit) (after : List ℕ) where
    abbrev read : Op
    read = OpRead fd offset len

    reads : (a : Option ℤ) → end_of fd ≡ read_end p → read_from caps (flow h) (end_of fd) len ≡ with_front c.content a → moved a ≤ length c.content → new ≡ after_read (moved a) c → after ≡ take (moved a) c.content ++ drop (moved a) bytes → OnIdle a ((new ≡ c) × (after ≡ bytes)) → Does caps h r read p a c new bytes after
    reads (Some res) end link le k b o = record {
      data' = take (size res) c.content;
      answers = link;
      pipe = stays (slice_index caps p) read (offers read) res p c new (flow h p) s ok (ap (λ (z : Conduit). z.cap) k) (rw (end, same p) (rw k refl));
      buffer = rw (length-take-le (size res) c.content le) b;
    }
    reads None end link le k b o = record { none = λ res d w. silent _ res d link w; pipe = o.0; buffer = o.1 }

    pub read_does : (a : Option ℤ) → end_of fd ≡ read_end p → len ≡ length bytes → a ≡ read_reply (level_of c) (length bytes) → new ≡ after_read (moved a) c → after ≡ take (moved a) c.content ++ drop (moved a) bytes → OnIdle a ((new ≡ c) × (after ≡ bytes)) → Does caps h r read p a c new bytes after
    read_does a end l e k b o = reads a end
        (rw (end, is_there) ((λ i. with_front ((sym s.content_is) i) (read_reply (level_is i) (l i))) ∙ ap (with_front c.content) (sym e)))
        (subst (λ (z : Option ℤ). moved z ≤ length c.content) (sym e) (read_few (level_of c) (length bytes))) k b o

  -- without data, and with the buffer as it was
  module _ (op : Op) (x : Answer) (tells : (res : ℤ) (data' : List ℕ) → x ≡ now res data' → OpAnswers caps h r op res data') (told : (res : ℤ) (data' : List ℕ) → OpAnswers caps h r op res data' → x ≡ now res data') (new : Conduit) where
    pub bare_does : (a : Option ℤ) → x ≡ bare a → new.cap ≡ c.cap → ((res : ℤ) → a ≡ Some res → held_of new ≡ flows_held op (offers op) res p (held_of c)) → OnIdle a (new ≡ c) → Does caps h r op p a c new bytes bytes
    bare_does (Some res) link k m o = record { data' = []; answers = tells res [] link; pipe = stays (slice_index caps p) op (offers op) res p c new (flow h p) s ok k (m res refl); buffer = refl }
    bare_does None link k m o = record { none = λ res d w. silent x res d link (told res d w); pipe = o; buffer = refl }

  module _ (new : Conduit) (a : Option ℤ) where
    pub write_does : (offset : Offset) (len : ℕ) → end_of fd ≡ write_end p → len ≡ length bytes → a ≡ write_reply (level_of c) (length bytes) → new ≡ after_write (moved a) bytes c → OnIdle a (new ≡ c) → Does caps h r (OpWrite fd offset len) p a c new bytes bytes
    write_does offset len end l e k o =
        bare_does (OpWrite fd offset len) (write_to caps (flow h) (end_of fd) len) (λ res d z. z) (λ res d z. z) new a
        (rw (end, is_there) ((λ i. bare (write_reply (level_is i) (l i))) ∙ ap bare (sym e)))
        (ap (λ (z : Conduit). z.cap) k)
        (λ n is. rw (end, same p) (rw (k, is) refl))
        o

-- which end of the pipe it is
pub side_read : (x : End) (p : ℕ) → IsSide ReadSide x → is_at x p ≡ true → x ≡ read_end p
side_read (read_end q) p i e = ap read_end (eqb-true q p e)
side_read (write_end q) p i e = absurd i
side_read no_end p i e = absurd i

pub side_write : (x : End) (p : ℕ) → IsSide WriteSide x → is_at x p ≡ true → x ≡ write_end p
side_write (write_end q) p i e = ap write_end (eqb-true q p e)
side_write (read_end q) p i e = absurd i
side_write no_end p i e = absurd i
