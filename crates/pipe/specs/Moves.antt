-- What a call makes of a pipe.
use Rattle.std.specs.Prelude.{ℕ, take, drop, true, false, ℤ, pos, negsuc, List, [], ◌++◌, Option, Some, None}
use Rattle.level.specs.declared.ends.End.{End}
use Rattle.level.specs.declared.ends.End.TheVariants.{Read, Write}
use Rattle.pipe.specs.Pipe.{Conduit}

-- a pipe that nothing has happened to
abbrev pub new_conduit : ℕ → Conduit
new_conduit n = record { cap = n; content = []; read_closed = false; write_closed = false }

-- a fact for a call that has no reply, or an error
abbrev pub OnIdle : Option ℤ → Type 0 → Type 0
OnIdle (Some (pos n)) P = Unit {0}
OnIdle (Some (negsuc n)) P = P
OnIdle None P = P

-- the first n bytes leave the pipe
abbrev pub after_read : ℕ → Conduit → Conduit
after_read n c = record c { content = drop n c.content }

-- the first n of these bytes go in after those that are there
abbrev pub after_write : ℕ → List ℕ → Conduit → Conduit
after_write n bytes c = record c { content = c.content ++ take n bytes }

-- the end is closed
abbrev pub after_close : End → Conduit → Conduit
after_close Read c = record c { read_closed = true }
after_close Write c = record c { write_closed = true }
