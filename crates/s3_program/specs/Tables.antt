-- The names of a program: the slot of each, and its definition.
use Rattle.std.specs.Prelude.{List, Option, Some, None}
use Rattle.std.specs.Map.{lookup}
use Rattle.s3_cards.specs.declared.name.Name.{Name}
use Rattle.s3_cards.specs.Names.{same_name}
use Rattle.s3_lines.specs.declared.sheet.FileLine.{FileLine}
use Rattle.s3_lines.specs.declared.sheet.Shape.{Shape}
use Rattle.s3_program.specs.declared.program.Kind.{Kind}
use Rattle.s3_program.specs.declared.program.Kind.TheVariants as kind
use Rattle.s3_program.specs.declared.program.Meaning.{Meaning}
use Rattle.s3_program.specs.declared.program.Meaning.TheVariants as meaning
use Rattle.s3_program.specs.declared.program.TagPlace.{TagPlace}
use Rattle.s3_program.specs.declared.program.SubroutinePlace.{SubroutinePlace}

pub record Tables : Type 0 where
  pub files : List (Name × FileLine)
  pub fields : List (Name × Shape)
  pub tags : List (Name × TagPlace)
  pub subroutines : List (Name × SubroutinePlace)

abbrev pub found_in : {X : Type 0} → List (Name × X) → Name → Option X
found_in table name = lookup (same_name name) table

-- ---- meanings
abbrev pub or_undefined : {X : Type 0} → (X → Meaning) → Option X → Meaning
or_undefined known None = meaning.Undefined
or_undefined known (Some x) = known x

-- the meaning of a name
abbrev pub meaning_of : Tables → Kind → Name → Meaning
meaning_of tables kind.File name = or_undefined (λ x. meaning.File x) (found_in tables.files name)
meaning_of tables kind.Field name = or_undefined (λ x. meaning.Field (record { name = name; meaning = x })) (found_in tables.fields name)
meaning_of tables kind.Tag name = or_undefined (λ x. meaning.Tag x) (found_in tables.tags name)
meaning_of tables kind.Subroutine name = or_undefined (λ x. meaning.Subroutine x) (found_in tables.subroutines name)
