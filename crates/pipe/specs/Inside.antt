-- The value that the fields of a pipe stand for.
use Rattle.pipe.specs.Pipe.{Conduit}
use Rattle.pipe.specs.declared.pipe.Pipe.TheInside.{Inside}

abbrev pub conduit_of : Inside → Conduit
conduit_of p = record { cap = p.bytes.capacity; content = p.bytes.items; read_closed = p.read_closed; write_closed = p.write_closed }
