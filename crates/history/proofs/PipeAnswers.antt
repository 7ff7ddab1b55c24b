-- What an operation is answered from the pipes: it depends on what those hold whose ends it names, is an error where one isn't there, and
-- comes with data to a READ alone.
use Rattle.std.proofs.lemmas.List.{length-take-le}
use Rattle.level.proofs.Moved.{read_few}
use Rattle.history.specs.{is_at, uses_at, answer_at}
use Rattle.level.specs.declared.ends.End.{End as Side}
use Rattle.level.specs.declared.ends.End.TheVariants.{Read as ReadSide, Write as WriteSide}
use Rattle.level.specs.declared.level.Level.{Level}
use Rattle.level.specs.Replies.{close_reply, moved, poll_reply, read_reply, splice_reply, write_reply}
use Rattle.history.proofs.Common.{Answer, AsyncCancel, Bool, Close, End, Flow, Held, Invalid, LinkTimeout, List, Nop, Op, PollAdd, Read, Splice, Timeout, TimeoutRemove, Write, [], ap, at_end, bad_end, bare, cond, content, end_of, eq-eqb, eqb-true, false, held_in, inl, inr, is_pipe, later, length, level_at, negsuc, no_end, None, not, now, Option, pos, read_end, read_from, refl, size, slice_index, Some, splice_into, splice_of, sym, take, true, true≢false, with_front, write_end, write_to, ℕ, ℤ, ⊎_elim, ◌&&◌, ◌==◌, ◌||◌, ◌∙◌, ◌≡◌, ◌≤◌, ◌⊎◌}
use Rattle.history.proofs.Requests.{bool_cases}

or_true : (b : Bool) → (b || true) ≡ true
or_true true = refl
or_true false = refl

one_bad : (b : Bool) → cond b bad_end (let x : Answer = bad_end in x) ≡ bad_end
one_bad true = refl
one_bad false = refl

if_same : (b : Bool) (x y : Answer) → (b ≡ true → x ≡ y) → cond b x (let z : Answer = bad_end in z) ≡ cond b y bad_end
if_same true x y e = e refl
if_same false x y e = refl

and_same : (b : Bool) (k z : Bool) (x y : Answer) → (b ≡ true → cond (not k) x (let w : Answer = bad_end in w) ≡ cond (not z) y bad_end) → cond (b && not k) x (let w : Answer = bad_end in w) ≡ cond (b && not z) y bad_end
and_same true k z x y e = e refl
and_same false k z x y e = refl

-- ---- it depends on what the pipes hold

abbrev level_held : ℕ → Held → Level
level_held cap v = record { capacity = cap; count = length v.bytes; read_closed = v.read_closed; write_closed = v.write_closed }

module _ (caps : List ℕ) (f g : ℕ → Flow) where
  abbrev Agree : End → Type 0
  Agree x = (p : ℕ) → is_pipe caps p ≡ true → is_at x p ≡ true → held_in (f p) ≡ held_in (g p)

  read_same : (x : End) (len : ℕ) → Agree x → read_from caps f x len ≡ read_from caps g x len
  read_same (read_end p) len k = if_same (is_pipe caps p) _ _ (λ b. ap (λ (v : Held). with_front v.bytes (read_reply (level_held (slice_index caps p) v) len)) (k p b (eq-eqb p p refl)))
  read_same (write_end p) len k = refl
  read_same no_end len k = refl

  write_same : (x : End) (len : ℕ) → Agree x → write_to caps f x len ≡ write_to caps g x len
  write_same (write_end p) len k = if_same (is_pipe caps p) _ _ (λ b. ap (λ (v : Held). bare (write_reply (level_held (slice_index caps p) v) len)) (k p b (eq-eqb p p refl)))
  write_same (read_end p) len k = refl
  write_same no_end len k = refl

  into_same : (p q len : ℕ) → is_pipe caps p ≡ true → Agree (read_end p) → Agree (write_end q) → splice_into caps f p q len ≡ splice_into caps g p q len
  into_same p q len b k l = and_same (is_pipe caps q) _ _ _ _ (λ c. (λ i. (let v : Held = k p b (eq-eqb p p refl) i in let w : Held = l q c (eq-eqb q q refl) i in
      cond (not w.write_closed) (cond (p == q) (now (negsuc 21) []) (bare (splice_reply (level_held (slice_index caps p) v) (level_held (slice_index caps q) w) len))) bad_end)))

  splice_same : (x z : End) (len : ℕ) → Agree x → Agree z → splice_of caps f x z len ≡ splice_of caps g x z len
  splice_same (read_end p) (write_end q) len k l = and_same (is_pipe caps p) _ _ _ _ (λ b.
      ap (λ (v : Held). cond (not v.read_closed) (splice_into caps f p q len) bad_end) (k p b (eq-eqb p p refl)) ∙ ap (λ (x : Answer). cond (not (g p).read_closed) x bad_end) (into_same p q len b k l))
  splice_same (read_end p) (read_end q) len k l = refl
  splice_same (read_end p) no_end len k l = refl
  splice_same (write_end p) z len k l = refl
  splice_same no_end z len k l = refl

  end_same : (reply : Level → Side → Option ℤ) (x : End) → Agree x → at_end caps f reply x ≡ at_end caps g reply x
  end_same reply (read_end p) k = if_same (is_pipe caps p) _ _ (λ b. ap (λ (v : Held). bare (reply (level_held (slice_index caps p) v) ReadSide)) (k p b (eq-eqb p p refl)))
  end_same reply (write_end p) k = if_same (is_pipe caps p) _ _ (λ b. ap (λ (v : Held). bare (reply (level_held (slice_index caps p) v) WriteSide)) (k p b (eq-eqb p p refl)))
  end_same reply no_end k = refl

  pub answer_same : (op : Op) → ((p : ℕ) → is_pipe caps p ≡ true → uses_at op p ≡ true → held_in (f p) ≡ held_in (g p)) → answer_at caps f op ≡ answer_at caps g op
  answer_same (Read fd offset len) k = read_same (end_of fd) len k
  answer_same (Write fd offset len) k = write_same (end_of fd) len k
  answer_same (Splice fd_in fd len) k = splice_same (end_of fd_in) (end_of fd) len
      (λ p t u. k p t (ap (λ (b : Bool). b || is_at (end_of fd) p) u)) (λ p t u. k p t (ap (λ (b : Bool). is_at (end_of fd_in) p || b) u ∙ or_true (is_at (end_of fd_in) p)))
  answer_same (Close fd) k = end_same close_reply (end_of fd) k
  answer_same (PollAdd fd mask) k = end_same (λ l side. poll_reply l side mask) (end_of fd) k
  answer_same op k = refl

-- ---- pipes that are not there

module _ (caps : List ℕ) (f : ℕ → Flow) where
  -- no pipe that is there has this end
  abbrev Off : End → Type 0
  Off x = (p : ℕ) → is_at x p ≡ true → is_pipe caps p ≡ false

  read_off : (x : End) (len : ℕ) → Off x → read_from caps f x len ≡ bad_end
  read_off (read_end p) len n = ap (λ (b : Bool). cond b (with_front (content (f p)) (read_reply (level_at caps f p) len)) bad_end) (n p (eq-eqb p p refl))
  read_off (write_end p) len n = refl
  read_off no_end len n = refl

  write_off : (x : End) (len : ℕ) → Off x → write_to caps f x len ≡ bad_end
  write_off (write_end p) len n = ap (λ (b : Bool). cond b (bare (write_reply (level_at caps f p) len)) bad_end) (n p (eq-eqb p p refl))
  write_off (read_end p) len n = refl
  write_off no_end len n = refl

  splice_off : (x z : End) (len : ℕ) → Off x ⊎ Off z → splice_of caps f x z len ≡ bad_end
  splice_off (read_end p) (write_end q) len n = ⊎_elim
      (λ (o : Off (read_end p)). ap (λ (b : Bool). cond (b && not (f p).read_closed) (splice_into caps f p q len) bad_end) (o p (eq-eqb p p refl)))
      (λ (o : Off (write_end q)).
      ap (λ (b : Bool). cond (is_pipe caps p && not (f p).read_closed) (cond (b && not (f q).write_closed) (cond (p == q) (now (negsuc 21) []) (bare (splice_reply (level_at caps f p) (level_at caps f q) len))) bad_end) bad_end) (o q (eq-eqb q q refl))
      ∙ one_bad (is_pipe caps p && not (f p).read_closed)) n
  splice_off (read_end p) (read_end q) len n = refl
  splice_off (read_end p) no_end len n = refl
  splice_off (write_end p) z len n = refl
  splice_off no_end z len n = refl

  end_off : (reply : Level → Side → Option ℤ) (x : End) → Off x → at_end caps f reply x ≡ bad_end
  end_off reply (read_end p) n = ap (λ (b : Bool). cond b (bare (reply (level_at caps f p) ReadSide)) bad_end) (n p (eq-eqb p p refl))
  end_off reply (write_end p) n = ap (λ (b : Bool). cond b (bare (reply (level_at caps f p) WriteSide)) bad_end) (n p (eq-eqb p p refl))
  end_off reply no_end n = refl

  -- the end of a pipe that isn't there
  here : (x : End) (n : ℕ) → is_pipe caps n ≡ false → is_at x n ≡ true → Off x
  here (read_end m) n e u p t = ap (is_pipe caps) (sym (eqb-true m p t) ∙ eqb-true m n u) ∙ e
  here (write_end m) n e u p t = ap (is_pipe caps) (sym (eqb-true m p t) ∙ eqb-true m n u) ∙ e
  here no_end n e u p t = absurd (true≢false (sym t))

  -- the operation names a pipe that isn't there
  pub answer_off : (op : Op) (n : ℕ) → is_pipe caps n ≡ false → uses_at op n ≡ true → answer_at caps f op ≡ bad_end
  answer_off (Read fd offset len) n e u = read_off (end_of fd) len (here (end_of fd) n e u)
  answer_off (Write fd offset len) n e u = write_off (end_of fd) len (here (end_of fd) n e u)
  answer_off (Splice fd_in fd len) n e u = splice_off (end_of fd_in) (end_of fd) len (⊎_elim
      (λ (t : is_at (end_of fd_in) n ≡ true). inl (here (end_of fd_in) n e t))
      (λ (t : is_at (end_of fd_in) n ≡ false). inr (here (end_of fd) n e (sym (ap (λ (b : Bool). b || is_at (end_of fd) n) t) ∙ u))) (bool_cases (is_at (end_of fd_in) n)))
  answer_off (Close fd) n e u = end_off close_reply (end_of fd) (here (end_of fd) n e u)
  answer_off (PollAdd fd mask) n e u = end_off (λ l side. poll_reply l side mask) (end_of fd) (here (end_of fd) n e u)
  answer_off op n e u = absurd (true≢false (sym u))

  -- an operation on a pipe has a bad end
  abbrev pub IsBad : Op → Type 0
  IsBad Nop = Unit {0}
  IsBad Invalid = Unit {0}
  IsBad (AsyncCancel user_data all) = Unit {0}
  IsBad (TimeoutRemove user_data) = Unit {0}
  IsBad (Timeout ticks etime_success count) = Unit {0}
  IsBad (LinkTimeout ticks) = Unit {0}
  IsBad op = answer_at caps f op ≡ bad_end

  -- it names none that is there
  pub answer_none : (op : Op) → ((p : ℕ) → uses_at op p ≡ true → is_pipe caps p ≡ false) → IsBad op
  answer_none (Read fd offset len) n = read_off (end_of fd) len n
  answer_none (Write fd offset len) n = write_off (end_of fd) len n
  answer_none (Splice fd_in fd len) n = splice_off (end_of fd_in) (end_of fd) len (inl (λ p u. n p (ap (λ (b : Bool). b || is_at (end_of fd) p) u)))
  answer_none (Close fd) n = end_off close_reply (end_of fd) n
  answer_none (PollAdd fd mask) n = end_off (λ l side. poll_reply l side mask) (end_of fd) n
  answer_none op n = tt

-- ---- data

abbrev pub HasNone : Answer → Type 0
HasNone a = (res : ℤ) (data' : List ℕ) → a ≡ now res data' → data' ≡ []

pub either : (P : Answer → Type 0) (b : Bool) (x y : Answer) → P x → P y → P (cond b x y)
either P true x y p q = p
either P false x y p q = q

none : (r : ℤ) → HasNone (now r [])
none r res data' w = cc

nothing_yet : HasNone later
nothing_yet res data' w = cc

bares : (a : Option ℤ) → HasNone (bare a)
bares None = nothing_yet
bares (Some res) = none res

module _ (caps : List ℕ) (f : ℕ → Flow) where
  writes_to : (x : End) (len : ℕ) → HasNone (write_to caps f x len)
  writes_to (write_end p) len = either HasNone (is_pipe caps p) (bare (write_reply (level_at caps f p) len)) bad_end (bares (write_reply (level_at caps f p) len)) (none (negsuc 8))
  writes_to _ len = none (negsuc 8)

  splices_into : (p q len : ℕ) → HasNone (splice_into caps f p q len)
  splices_into p q len =
      either HasNone (is_pipe caps q && not (f q).write_closed) _ bad_end
      (either HasNone (p == q) (now (negsuc 21) []) _ (none (negsuc 21)) (bares (splice_reply (level_at caps f p) (level_at caps f q) len)))
      (none (negsuc 8))

  splices_of : (x z : End) (len : ℕ) → HasNone (splice_of caps f x z len)
  splices_of (read_end p) (write_end q) len = either HasNone (is_pipe caps p && not (f p).read_closed) (splice_into caps f p q len) bad_end (splices_into p q len) (none (negsuc 8))
  splices_of _ _ len = none (negsuc 8)

  ends : (reply : Level → Side → Option ℤ) (x : End) → HasNone (at_end caps f reply x)
  ends reply (read_end p) = either HasNone (is_pipe caps p) (bare (reply (level_at caps f p) ReadSide)) bad_end (bares (reply (level_at caps f p) ReadSide)) (none (negsuc 8))
  ends reply (write_end p) = either HasNone (is_pipe caps p) (bare (reply (level_at caps f p) WriteSide)) bad_end (bares (reply (level_at caps f p) WriteSide)) (none (negsuc 8))
  ends reply no_end = none (negsuc 8)

  -- the answers that bring none
  abbrev pub IsBare : Op → Type 0
  IsBare (Read fd offset len) = Unit {0}
  IsBare op = HasNone (answer_at caps f op)

  pub answer_bare : (op : Op) → IsBare op
  answer_bare (Read fd offset len) = tt
  answer_bare (Write fd offset len) = writes_to (end_of fd) len
  answer_bare (Splice fd_in fd len) = splices_of (end_of fd_in) (end_of fd) len
  answer_bare (Close fd) = ends close_reply (end_of fd)
  answer_bare (PollAdd fd mask) = ends (λ l side. poll_reply l side mask) (end_of fd)
  answer_bare Nop = none (pos 0)
  answer_bare Invalid = none (negsuc 21)
  answer_bare op = nothing_yet

-- a READ's data are as many bytes as its reply says
abbrev AsMany : Answer → Type 0
AsMany a = (res : ℤ) (data' : List ℕ) → a ≡ now res data' → length data' ≡ size res

as_many : (r : ℤ) (d : List ℕ) → length d ≡ size r → AsMany (now r d)
as_many r d e res data' w = let z : (r ≡ res) × (d ≡ data') = (cc, cc) in ap length (sym z.1) ∙ e ∙ ap size z.0

fronts : (bytes : List ℕ) (a : Option ℤ) → moved a ≤ length bytes → AsMany (with_front bytes a)
fronts bytes None le = λ res data' w. cc
fronts bytes (Some r) le = as_many r (take (size r) bytes) (length-take-le (size r) bytes le)

pub read_long : (caps : List ℕ) (f : ℕ → Flow) (x : End) (len : ℕ) (res : ℤ) (data' : List ℕ) → read_from caps f x len ≡ now res data' → length data' ≡ size res
read_long caps f (read_end p) len = either AsMany (is_pipe caps p) (with_front (content (f p)) (read_reply (level_at caps f p) len)) bad_end (fronts (content (f p)) (read_reply (level_at caps f p) len) (read_few (level_at caps f p) len)) (as_many (negsuc 8) [] refl)
read_long caps f _ len = as_many (negsuc 8) [] refl
