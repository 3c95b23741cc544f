-- Compiler correctness: a program has the lines of its source, with slots in place of names.
use Rattle.std.specs.Prelude.{◌≡◌}
use Rattle.s3_meaning.specs.Source.{Source}
use Rattle.s3_program.specs.declared.program.Program.{Program}
use Rattle.s3_program.specs.Inner.Valid.{Parts, named}

abbrev pub parts_of : Program → Parts
parts_of program = record {
  files = program.files.items;
  fields = program.fields.items;
  tags = program.tags.items;
  subroutines = program.subroutines.items;
  inputs = program.inputs.items;
  calculations = program.calculations.items;
  outputs = program.outputs.items;
}

-- the source of a program, with each slot replaced by its name
abbrev pub source_named : Program → Source
source_named program = named (parts_of program)

abbrev pub Stands : Program → Source → Type 0
Stands program source = source_named program ≡ source
