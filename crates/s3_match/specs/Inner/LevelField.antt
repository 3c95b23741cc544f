-- A match or control field as it is prepared for a run, and a type's fields by level.
use Rattle.std.specs.Prelude.{ℕ, zero, suc, ◌+◌, ◌-◌, Bool, ◌&&◌, List, Option, None, IsTrue, nat_le, slice_get, slice_range, unwrap_or}
use Rattle.s3_lines.specs.declared.sheet.FieldLine.{FieldLine}
use Rattle.s3_lines.specs.Ranges.{if_given, shape_in_range, shape_of_positions}
use Rattle.s3_meaning.specs.Selection.{compared}
use Rattle.s3_match.specs.declared.levels.LevelField.{LevelField}

-- what the code keeps of a field's line
abbrev pub prepared : {N : Type 0} → FieldLine N → LevelField
prepared field = record { from = field.from; to = field.to; form = field.form }

-- the bytes that the field compares
abbrev pub compared_at : List ℕ → LevelField → List ℕ
compared_at bytes field = compared field.form (slice_range bytes (field.from - 1) field.to)

-- the field has as many positions as its form allows
abbrev pub is_ranged : LevelField → Bool
is_ranged field = nat_le 1 field.from && shape_in_range (shape_of_positions field.form (field.to + 1 - field.from))

-- the field of a level; level 1 comes first in the list
abbrev pub field_in : List (Option LevelField) → ℕ → Option LevelField
field_in fields zero = None
field_in fields (suc n) = unwrap_or (slice_get fields n) None

-- each of the fields is in range
abbrev pub AreRanged : List (Option LevelField) → Type 0
AreRanged fields = (n : ℕ) → IsTrue (if_given is_ranged (field_in fields n))
