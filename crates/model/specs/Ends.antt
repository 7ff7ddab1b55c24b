-- The end of a pipe that a number names.
use Rattle.history.specs.Pipes.{End, no_end, read_end, write_end}
use Rattle.model.specs.declared.ends.NamedEnd.{NamedEnd}
use Rattle.model.specs.declared.ends.NamedEnd.TheVariants.{Nothing, Read, Write}

abbrev pub end_as : NamedEnd → End
end_as Nothing = no_end
end_as (Read p) = read_end p
end_as (Write p) = write_end p
