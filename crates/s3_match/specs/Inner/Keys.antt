-- Match keys as the code keeps them.
use Rattle.std.specs.Prelude.{ℕ, List, Option, Some, None, filter_map, flat_map, if◌then◌else◌}
use Rattle.s3_meaning.specs.Selection.{levels}
use Rattle.s3_match.specs.declared.held.HeldField.{HeldField}
use Rattle.s3_match.specs.declared.keys.RecordKey.{RecordKey}
use Rattle.s3_match.specs.declared.levels.LevelFields.{LevelFields}
use Rattle.s3_match.specs.Inner.LevelField.{compared_at, field_in}

abbrev pub key_in : RecordKey → Option (List ℕ)
key_in key = if key.is_given then Some key.bytes else None

abbrev pub held_key : HeldField → Option (List ℕ)
held_key held = if held.is_given then Some held.bytes.items else None

-- the bytes that the fields of these levels compare
abbrev pub match_values : LevelFields → List ℕ → List ℕ → List ℕ
match_values fields bytes ns = flat_map (compared_at bytes) (filter_map (field_in fields.fields) ns)

-- the key of a record by its type's match fields
abbrev pub key_by : LevelFields → List ℕ → Option (List ℕ)
key_by fields bytes = if fields.is_any then Some (match_values fields bytes levels) else None
