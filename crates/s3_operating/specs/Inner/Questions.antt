-- Who is asked if neither a log nor a rule answers a halt.
use Rattle.std.specs.Prelude.{Bool, true, false}
use Rattle.s3_operating.specs.declared.desk.Questioned.{Questioned}
use Rattle.s3_operating.specs.declared.desk.Questioned.TheVariants.{Nobody, Lines, Person}

-- a person is asked, at a terminal
abbrev pub is_person : Questioned → Bool
is_person Nobody = false
is_person Lines = false
is_person Person = true
