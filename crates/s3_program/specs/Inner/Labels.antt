-- Tags and subroutines, identified by the places of their lines.
use Rattle.std.specs.Prelude.{ℕ, ◌+◌, ◌==◌, nat_eq, Bool, ◌&&◌, List, [], ◌∷◌, Option, Some, None, map}
use Rattle.std.specs.List.{cons_option}
use Rattle.std.specs.Map.{keys_of}
use Rattle.std.specs.Cmp.Lexicographic.{pointwise}
use Rattle.s3_cards.specs.declared.name.Name.{Name}
use Rattle.s3_lines.specs.declared.sheet.Operation.{Operation}
use Rattle.s3_lines.specs.declared.sheet.Operation.TheVariants as op
use Rattle.s3_lines.specs.declared.sheet.CalculationLine.{CalculationLine}
use Rattle.s3_program.specs.declared.program.TagPlace.{TagPlace}
use Rattle.s3_program.specs.declared.program.SubroutinePlace.{SubroutinePlace}
use Rattle.s3_program.specs.declared.program.Meaning.{Meaning}
use Rattle.s3_program.specs.declared.standing.CalculationStanding.{CalculationStanding}
use Rattle.s3_program.specs.Standings.{first_calculation, behind_calculation}
use Rattle.s3_program.specs.Jumps.{section_of}
use Rattle.s3_program.specs.Inner.Distinct.{are_distinct}

-- ---- places
-- the place and section of a TAG
abbrev pub tag_on : CalculationStanding → CalculationLine Meaning → Option TagPlace
tag_on at line = on line.operation
  where
    on : Option Operation → Option TagPlace
    on (Some op.Tag) = Some (record { place = at.place; section = section_of at line })
    on _ = None

-- the tags of these lines, the first line at this place
unfoldable pub tags_from : CalculationStanding → List (CalculationLine Meaning) → List TagPlace
tags_from at [] = []
tags_from at (line ∷ lines) = cons_option (tag_on at line) (tags_from (behind_calculation at line) lines)

-- the place of a BEGSR
abbrev pub subroutine_on : (place : ℕ) → CalculationLine Meaning → Option ℕ
subroutine_on place line = on line.operation
  where
    on : Option Operation → Option ℕ
    on (Some op.BeginSubroutine) = Some place
    on _ = None

unfoldable pub subroutines_from : (place : ℕ) → List (CalculationLine Meaning) → List ℕ
subroutines_from place [] = []
subroutines_from place (line ∷ lines) = cons_option (subroutine_on place line) (subroutines_from (place + 1) lines)

-- ---- the tables of tags and subroutines
abbrev pub same_tag : TagPlace → TagPlace → Bool
same_tag one two = one.place == two.place && one.section == two.section

-- no name occurs twice, and the tables have the tags and subroutines of the lines, in order
unfoldable pub labels_stand : List (Name × TagPlace) → List (Name × SubroutinePlace) → List (CalculationLine Meaning) → Bool
labels_stand tags subroutines lines =
    are_distinct (keys_of tags)
    && are_distinct (keys_of subroutines)
    && pointwise same_tag (map (λ tag. tag.1) tags) (tags_from first_calculation lines)
    && pointwise nat_eq (map (λ subroutine. subroutine.1.place) subroutines) (subroutines_from 0 lines)
