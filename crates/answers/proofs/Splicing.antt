-- What a SPLICE replies is what the definitions tell, and what it does to the held pipes is what its reply does to those of the history.
use Rattle.history.specs.State.{Held}
use Rattle.history.proofs.Contents.{reads_held, writes_held, flows_held}
use Rattle.level.specs.Replies.{moved, splice_reply}
use Rattle.pipe.specs.{level_of, OnIdle, after_read, after_write}
use Rattle.answers.proofs.Common.{Answer, Bool, Conduit, Does, DoesBoth, End, Event, Flow, IsPipe, IsSound, List, None, Op, Option, RepliesBoth, Req, Some, Splice, UsesBoth, UsesOne, [], ap, are_of_one, bad_end, bare, cond, contents, drop, end_of, eq-eqb, eqb-true, false, flow, given_at, gives, inl, inr, is_at, is_pipe, length, level_at, lt-ltb, ne_eqb, negsuc, no_end, not, now, offered, or_cases, read_end, reads, refl, size, slice_index, splice_into, splice_of, sym, take, takes, true, true≢false, write_end, writes, ℕ, ℤ, ⊎_elim, ◌&&◌, ◌++◌, ◌+◌, ◌<◌, ◌==◌, ◌||◌, ◌∙◌, ◌≡◌, ◌≢◌, ◌⊎◌}
use Rattle.answers.proofs.Absent.{not_there}
use Rattle.answers.proofs.Naming.{not_at, or_right}
use Rattle.answers.proofs.Operating.{held_of, same, stays, level_said, splice_nothing, silent, bare_does}

-- ---- which ends they are

at_end : (x : End) (p : ℕ) → is_at x p ≡ true → (x ≡ read_end p) ⊎ (x ≡ write_end p)
at_end (read_end q) p e = inl (ap read_end (eqb-true q p e))
at_end (write_end q) p e = inr (ap write_end (eqb-true q p e))
at_end no_end p e = absurd (true≢false (sym e))

read_end_is : (x : End) (p : ℕ) (c : Conduit) → is_at x p ≡ true → gives x c ≡ true → x ≡ read_end p
read_end_is (read_end q) p c e g = ap read_end (eqb-true q p e)
read_end_is (write_end q) p c e g = absurd (true≢false (sym g))
read_end_is no_end p c e g = absurd (true≢false (sym g))

write_end_is : (x : End) (p : ℕ) (c : Conduit) → is_at x p ≡ true → takes x c ≡ true → x ≡ write_end p
write_end_is (write_end q) p c e g = ap write_end (eqb-true q p e)
write_end_is (read_end q) p c e g = absurd (true≢false (sym g))
write_end_is no_end p c e g = absurd (true≢false (sym g))

-- ---- the reply

and_first : (a b : Bool) (x y : Answer) → cond a (cond b x y) y ≡ cond (a && b) x y
and_first true b x y = refl
and_first false b x y = refl

and_none : (a : Bool) (x y : Answer) → cond (a && false) x y ≡ y
and_none true x y = refl
and_none false x y = refl

either : (a : Bool) (x : Answer) → cond a x x ≡ x
either true x = refl
either false x = refl

module _ (caps : List ℕ) (f : ℕ → Flow) (s t : ℕ) (c d : Conduit) (s_there : s < length caps) (t_there : t < length caps) (source : IsPipe (slice_index caps s) c (f s)) (target : IsPipe (slice_index caps t) d (f t)) (len : ℕ) where
  -- the answer of a SPLICE between two open ends
  abbrev between : Answer
  between = cond (s == t) (now (negsuc 21) []) (bare (splice_reply (level_at caps f s) (level_at caps f t) len))

  ends_open : splice_of caps f (read_end s) (write_end t) len ≡ cond (gives (read_end s) c && takes (write_end t) d) between bad_end
  ends_open =
      let s_in : is_pipe caps s ≡ true = lt-ltb s (length caps) s_there in let t_in : is_pipe caps t ≡ true = lt-ltb t (length caps) t_there in
      (λ i. cond (s_in i && not ((sym source.read_is) i)) (cond (t_in i && not ((sym target.write_is) i)) between bad_end) bad_end) ∙ and_first (not c.read_closed) (not d.write_closed) between bad_end

  pub ends_said : (x z : End) → is_at x s ≡ true → is_at z t ≡ true → splice_of caps f x z len ≡ cond (gives x c && takes z d) between bad_end
  ends_said x z a b = ⊎_elim
      (λ (e : x ≡ read_end s). ⊎_elim
      (λ (k : z ≡ read_end t). rw (e, k) (sym (and_none (not c.read_closed) between bad_end)))
      (λ (k : z ≡ write_end t). rw (e, k) ends_open)
      (at_end z t b))
      (λ (e : x ≡ write_end s). rw e refl) (at_end x s a)

  -- of two pipes
  open_said : (x z : End) → is_at x s ≡ true → is_at z t ≡ true → s ≢ t → gives x c ≡ true → takes z d ≡ true → splice_of caps f x z len ≡ bare (splice_reply (level_of c) (level_of d) len)
  open_said x z a b apart g k = ends_said x z a b
      ∙ (λ i. cond (g i && k i) between bad_end)
      ∙ ap (λ (i : Bool). cond i (now (negsuc 21) []) (bare (splice_reply (level_at caps f s) (level_at caps f t) len))) (ne_eqb s t apart)
      ∙ (λ i. bare (splice_reply ((level_said (slice_index caps s) c (f s) source) i) ((level_said (slice_index caps t) d (f t) target) i) len))

  -- where an end is no open one of its side
  closed_said : (x z : End) → is_at x s ≡ true → is_at z t ≡ true → (gives x c && takes z d) ≡ false → splice_of caps f x z len ≡ bad_end
  closed_said x z a b n = ends_said x z a b ∙ ap (λ (i : Bool). cond i between bad_end) n

-- ---- what the reply makes of the pipes

moved_out : (res : ℤ) (s t : ℕ) (bytes : List ℕ) (v : Held) → s ≢ t → reads_held (read_end s) res s (writes_held (write_end t) bytes res s v) ≡ record v { bytes = drop (size res) v.bytes }
moved_out res s t bytes v apart = rw (same s, ne_eqb t s (λ e. apart (sym e))) refl

moved_in : (res : ℤ) (s t : ℕ) (bytes : List ℕ) (v : Held) → s ≢ t → reads_held (read_end s) res t (writes_held (write_end t) bytes res t v) ≡ record v { bytes = v.bytes ++ take (size res) bytes }
moved_in res s t bytes v apart = rw (ne_eqb s t apart, same t) refl

reads_past : (x : End) (res : ℤ) (p : ℕ) (w : Flow) → is_at x p ≡ false → reads x res p w ≡ w
reads_past (read_end y) res p w e = ap (λ (b : Bool). cond b (record w { out = w.out + size res }) w) e
reads_past (write_end y) res p w e = refl
reads_past no_end res p w e = refl

writes_past : (x : End) (bytes : List ℕ) (res : ℤ) (p : ℕ) (w : Flow) → is_at x p ≡ false → writes x bytes res p w ≡ w
writes_past (write_end y) bytes res p w e = ap (λ (b : Bool). cond b (record w { into = w.into ++ take (size res) bytes }) w) e
writes_past (read_end y) bytes res p w e = refl
writes_past no_end bytes res p w e = refl

-- ---- with both held pipes

module _ (caps : List ℕ) (h : List Event) (r : Req) (s t : ℕ) (fd_in fd_out : ℤ) (len : ℕ) (c d : Conduit) (u : UsesBoth (Splice fd_in fd_out len) (length caps) s t)
    (source : IsPipe (slice_index caps s) c (flow h s)) (s_ok : IsSound (flow h s)) (target : IsPipe (slice_index caps t) d (flow h t)) (t_ok : IsSound (flow h t)) where
  abbrev op : Op
  op = Splice fd_in fd_out len

  -- the bytes of the source
  abbrev bytes_in : List ℕ → List ℕ
  bytes_in bytes = offered op (contents h) bytes

  replies : (res : ℤ) (c' d' : Conduit) → splice_of caps (flow h) (end_of fd_in) (end_of fd_out) len ≡ now res [] → c'.cap ≡ c.cap → d'.cap ≡ d.cap
      → ((bytes : List ℕ) → held_of c' ≡ flows_held op (bytes_in bytes) res s (held_of c)) → ((bytes : List ℕ) → held_of d' ≡ flows_held op (bytes_in bytes) res t (held_of d)) → RepliesBoth caps h r op s t res c' d'
  replies res c' d' link k l out into = record {
    answers = link;
    source_is = λ bytes. stays (slice_index caps s) op (bytes_in bytes) res s c c' (flow h s) source s_ok k (out bytes);
    target_is = λ bytes. stays (slice_index caps t) op (bytes_in bytes) res t d d' (flow h t) target t_ok l (into bytes);
    others = λ bytes p ns nt. reads_past (end_of fd_in) res p (writes (end_of fd_out) (bytes_in bytes) res p (flow h p)) (not_at (end_of fd_in) s p u.joins.0 ns) ∙ writes_past (end_of fd_out) (bytes_in bytes) res p (flow h p) (not_at (end_of fd_out) t p u.joins.1 nt);
  }

  module _ (g : gives (end_of fd_in) c ≡ true) (k : takes (end_of fd_out) d ≡ true) (c' d' : Conduit) where
    first : end_of fd_in ≡ read_end s
    first = read_end_is (end_of fd_in) s c u.joins.0 g

    second : end_of fd_out ≡ write_end t
    second = write_end_is (end_of fd_out) t d u.joins.1 k

    link : (a : Option ℤ) → a ≡ splice_reply (level_of c) (level_of d) len → splice_of caps (flow h) (end_of fd_in) (end_of fd_out) len ≡ bare a
    link a e = open_said caps (flow h) s t c d u.source_there u.target_there source target len (end_of fd_in) (end_of fd_out) u.joins.0 u.joins.1 u.apart g k ∙ ap bare (sym e)

    bytes_are : (bytes : List ℕ) → bytes_in bytes ≡ c.content
    bytes_are bytes = ap (λ (x : End). given_at x (contents h)) first ∙ sym source.content_is

    does : (a : Option ℤ) → splice_of caps (flow h) (end_of fd_in) (end_of fd_out) len ≡ bare a → c' ≡ after_read (moved a) c → d' ≡ after_write (moved a) c.content d → OnIdle a ((c' ≡ c) × (d' ≡ d)) → DoesBoth caps h r op s t a c c' d d'
    does (Some res) tells out into o = replies res c' d' tells (ap (λ (z : Conduit). z.cap) out) (ap (λ (z : Conduit). z.cap) into)
        (λ bytes. ap held_of out ∙ sym ((λ i. reads_held (first i) res s (writes_held (second i) (bytes_in bytes) res s (held_of c))) ∙ moved_out res s t (bytes_in bytes) (held_of c) u.apart))
        (λ bytes. ap held_of into ∙ sym ((λ i. reads_held (first i) res t (writes_held (second i) ((bytes_are bytes) i) res t (held_of d))) ∙ moved_in res s t c.content (held_of d) u.apart))
    does None tells out into o = record { none = λ res data' w. silent _ res data' tells w; source_is = o.0; target_is = o.1 }

    pub both_does : (a : Option ℤ) → a ≡ splice_reply (level_of c) (level_of d) len → c' ≡ after_read (moved a) c → d' ≡ after_write (moved a) c.content d → OnIdle a ((c' ≡ c) × (d' ≡ d)) → DoesBoth caps h r op s t a c c' d d'
    both_does a e out into o = does a (link a e) out into o

-- ---- with one held pipe

one_of_both : (x z : End) (p : ℕ) → are_of_one x z ≡ true → (is_at x p || is_at z p) ≡ true → (is_at x p ≡ true) × (is_at z p ≡ true)
one_of_both x z p = by x z where
  split : (a b : ℕ) → (a == b) ≡ true → ((a == p) || (b == p)) ≡ true → ((a == p) ≡ true) × ((b == p) ≡ true)
  split a b e u =
      let eq : a ≡ b = eqb-true a b e in
      let at_b : (b == p) ≡ true = ⊎_elim (λ (l : (a == p) ≡ true). ap (λ (y : ℕ). y == p) (sym eq) ∙ l) (λ (l : (b == p) ≡ true). l) (or_cases (a == p) (b == p) u) in
      (ap (λ (y : ℕ). y == p) eq ∙ at_b, at_b)

  by : (x z : End) → are_of_one x z ≡ true → (is_at x p || is_at z p) ≡ true → (is_at x p ≡ true) × (is_at z p ≡ true)
  by (read_end a) (read_end b) e u = split a b e u
  by (read_end a) (write_end b) e u = split a b e u
  by (write_end a) (read_end b) e u = split a b e u
  by (write_end a) (write_end b) e u = split a b e u
  by (read_end a) no_end e u = absurd (true≢false (sym e))
  by (write_end a) no_end e u = absurd (true≢false (sym e))
  by no_end z e u = absurd (true≢false (sym e))

module _ (caps : List ℕ) (h : List Event) (r : Req) (p : ℕ) (fd_in fd_out : ℤ) (len : ℕ) (c : Conduit) (bytes : List ℕ) (u : UsesOne (Splice fd_in fd_out len) (length caps) p) (source : IsPipe (slice_index caps p) c (flow h p)) (ok : IsSound (flow h p)) where
  abbrev alone : Op
  alone = Splice fd_in fd_out len

  failed : (n : ℕ) → splice_of caps (flow h) (end_of fd_in) (end_of fd_out) len ≡ now (negsuc n) [] → Does caps h r alone p (Some (negsuc n)) c c bytes bytes
  failed n link = bare_does caps h r p fd_in c bytes u.there source ok alone (splice_of caps (flow h) (end_of fd_in) (end_of fd_out) len) (λ res d z. z) (λ res d z. z) c (Some (negsuc n)) link refl
      (λ res e. (let z : negsuc n ≡ res = cc in rw (← z) (sym (splice_nothing fd_in fd_out len (offered alone (contents h) bytes) n p (held_of c))))) refl

  -- a pipe that only one of the ends is of: the other is none of the board's
  off_board : (a b : ℕ) → (a == b) ≡ false → ((a == p) || (b == p)) ≡ true → ((q : ℕ) → q < length caps → q ≢ p → ((a == q) || (b == q)) ≡ false) → splice_of caps (flow h) (read_end a) (write_end b) len ≡ bad_end
  off_board a b ne used off = ⊎_elim
      (λ (l : (a == p) ≡ true). (let none' = not_there caps b (λ lt. true≢false (sym (or_right (a == b) (b == b) (same b)) ∙ off b lt (λ e. apart (eqb-true a p l ∙ sym e)))) in
      ap (λ (i : Bool). cond (is_pipe caps a && not (flow h a).read_closed) (cond (i && not (flow h b).write_closed) (cond (a == b) (now (negsuc 21) []) (bare (splice_reply (level_at caps (flow h) a) (level_at caps (flow h) b) len))) bad_end) bad_end) none' ∙ either (is_pipe caps a && not (flow h a).read_closed) bad_end))
      (λ (l : (b == p) ≡ true). (let none' = not_there caps a (λ lt. true≢false (sym (ap (λ (i : Bool). i || (b == a)) (same a)) ∙ off a lt (λ e. apart (e ∙ sym (eqb-true b p l))))) in
      ap (λ (i : Bool). cond (i && not (flow h a).read_closed) (splice_into caps (flow h) a b len) bad_end) none'))
      (or_cases (a == p) (b == p) used) where
        apart : a ≡ b → ⊥
        apart e = true≢false (sym (eq-eqb a b e) ∙ ne)

  apart_said : (x z : End) → are_of_one x z ≡ false → (is_at x p || is_at z p) ≡ true → ((q : ℕ) → q < length caps → q ≢ p → (is_at x q || is_at z q) ≡ false) → splice_of caps (flow h) x z len ≡ bad_end
  apart_said (read_end a) (write_end b) ne used off = off_board a b ne used off
  apart_said (read_end a) (read_end b) ne used off = refl
  apart_said (read_end a) no_end ne used off = refl
  apart_said (write_end a) z ne used off = refl
  apart_said no_end z ne used off = refl

  pub alone_apart : are_of_one (end_of fd_in) (end_of fd_out) ≡ false → Does caps h r alone p (Some (negsuc 8)) c c bytes bytes
  alone_apart ne = failed 8 (apart_said (end_of fd_in) (end_of fd_out) ne u.used u.alone)

  module _ (one : are_of_one (end_of fd_in) (end_of fd_out) ≡ true) where
    at_both : (is_at (end_of fd_in) p ≡ true) × (is_at (end_of fd_out) p ≡ true)
    at_both = one_of_both (end_of fd_in) (end_of fd_out) p one u.used

    pub alone_refused : (gives (end_of fd_in) c && takes (end_of fd_out) c) ≡ false → Does caps h r alone p (Some (negsuc 8)) c c bytes bytes
    alone_refused n = failed 8 (closed_said caps (flow h) p p c c u.there u.there source source len (end_of fd_in) (end_of fd_out) at_both.0 at_both.1 n)
