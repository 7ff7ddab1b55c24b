-- The pipes of a board that an operation is answered from, and the ends that it names.
use Rattle.std.specs.Prelude.{◌≡◌, ◌≢◌, ℕ, ◌<◌, ◌==◌, Bool, true, false, not, Option, Some, None}
use Rattle.entry.specs.declared.op.Op.{Op}
use Rattle.entry.specs.declared.op.Op.TheVariants.{Splice}
use Rattle.level.specs.declared.ends.End.{End as Side}
use Rattle.level.specs.declared.ends.End.TheVariants.{Read as ReadSide, Write as WriteSide}
use Rattle.pipe.specs.Pipe.{Conduit}
use Rattle.history.specs.{End, no_end, read_end, write_end, end_of, is_at, uses_at}
use Rattle.answers.specs.declared.named.NamedPipes.{NamedPipes}
use Rattle.answers.specs.declared.named.NamedPipes.TheVariants.{Nothing, One, Both}

-- the pipe of an end
abbrev pub pipe_with : End → Option ℕ
pipe_with no_end = None
pipe_with (read_end p) = Some p
pipe_with (write_end p) = Some p

-- the pipe of an end, where it is one of this many
abbrev pub IsAmong : End → ℕ → Option ℕ → Type 0
IsAmong x n None = (q : ℕ) → q < n → is_at x q ≡ false
IsAmong x n (Some p) = (p < n) × (is_at x p ≡ true)

abbrev pub is_same_pipe : Option ℕ → Option ℕ → Bool
is_same_pipe (Some p) (Some q) = p == q
is_same_pipe _ _ = false

-- both are ends of one pipe
abbrev pub are_of_one : End → End → Bool
are_of_one x z = is_same_pipe (pipe_with x) (pipe_with z)

-- the operation is answered from some pipe
abbrev pub UsesSome : Op → Type 0
UsesSome op = (p : ℕ) × (uses_at op p ≡ true)

-- among this many pipes it is answered from none
abbrev pub UsesNone : Op → ℕ → Type 0
UsesNone op n = (q : ℕ) → q < n → uses_at op q ≡ false

-- it is answered from this one alone
pub record UsesOne (op : Op) (n p : ℕ) : Type 0 where
  pub there : p < n
  pub used : uses_at op p ≡ true
  pub alone : (q : ℕ) → q < n → q ≢ p → uses_at op q ≡ false

-- it moves bytes from an end of the first to an end of the second
abbrev pub JoinsPipes : Op → ℕ → ℕ → Type 0
JoinsPipes (Splice fd_in fd_out len) source target = (is_at (end_of fd_in) source ≡ true) × (is_at (end_of fd_out) target ≡ true)
JoinsPipes _ source target = ⊥

-- it is answered from two of them
pub record UsesBoth (op : Op) (n source target : ℕ) : Type 0 where
  pub source_there : source < n
  pub target_there : target < n
  pub joins : JoinsPipes op source target
  pub apart : source ≢ target

-- among this many pipes these are the ones that the operation is answered from
abbrev pub AreNamed : Op → ℕ → NamedPipes → Type 0
AreNamed op n Nothing = UsesNone op n
AreNamed op n (One p) = UsesOne op n p
AreNamed op n (Both source target) = UsesBoth op n source target

-- the end is of this side
abbrev pub IsSide : Side → End → Type 0
IsSide ReadSide (read_end p) = Unit {0}
IsSide WriteSide (write_end p) = Unit {0}
IsSide side x = ⊥

-- bytes come out of this end of the pipe: the open read end
abbrev pub gives : End → Conduit → Bool
gives (read_end p) c = not c.read_closed
gives _ c = false

-- bytes go in at this end of the pipe: the open write end
abbrev pub takes : End → Conduit → Bool
takes (write_end p) c = not c.write_closed
takes _ c = false
