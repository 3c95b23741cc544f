-- The match and control fields of record types as they are prepared for a run.
use Rattle.std.specs.Prelude.{ℕ, ◌≡◌, ◌<◌, ◌≤◌, true, List, Option, Some, None, get_or, is_some, length, option_map, if◌then◌else◌}
use Rattle.s3_program.specs.declared.mark.Key.{Key}
use Rattle.s3_program.specs.declared.program.Program.{Program}
use Rattle.s3_program.specs.declared.starts.TypeStart.{TypeStart}
use Rattle.s3_match.specs.declared.levels.LevelField.{LevelField}
use Rattle.s3_match.specs.declared.levels.LevelFields.{LevelFields}
use Rattle.s3_match.specs.declared.levels.Levels.{Levels}
use Rattle.s3_match.specs.Inner.Fields.{field_at, some_type_names_level}
use Rattle.s3_match.specs.Inner.LevelField.{field_in, prepared}
use Rattle.s3_match.specs.Inner.Types.{is_type_start}

-- each field is the type's first one of its level
abbrev pub AreByLevel : Key → Program → TypeStart → List (Option LevelField) → Type 0
AreByLevel key program start fields = (n : ℕ) → 1 ≤ n → n ≤ 9 → field_in fields n ≡ option_map prepared (field_at program start key (Some n))

-- the match fields, or the control fields, of a type
pub record AreFieldsOf (key : Key) (program : Program) (start : TypeStart) (fields : LevelFields) : Type 0 where
  pub any : fields.is_any ≡ is_some (field_at program start key None)
  pub by_level : AreByLevel key program start fields.fields

-- the fields of the type that starts at a line
pub record AreFieldsAt (key : Key) (program : Program) (place : ℕ) (fields : LevelFields) : Type 0 where
  pub of_type : (start : TypeStart) → is_type_start program start ≡ true → start.place ≡ place → AreFieldsOf key program start fields

-- the fields of each line
abbrev pub AreByLine : Key → Program → List LevelFields → Type 0
AreByLine key program by_line = (place : ℕ) (d : LevelFields) → place < length by_line → AreFieldsAt key program place (get_or by_line place d)

-- the fields of each line if some type has any; else the list is empty
pub record AreLevels (key : Key) (program : Program) (levels : Levels) : Type 0 where
  pub many : length levels.by_line.items ≡ (if some_type_names_level key program.inputs.items then length program.inputs.items else 0)
  pub each : AreByLine key program levels.by_line.items
