-- Control fields are held, level by level.
use Rattle.std.specs.Prelude.{ℕ, ◌≡◌, ◌-◌, ◌==◌, Bool, not, ◌&&◌, List, Option, is_some, drop, find, option_map, unwrap_or, if◌then◌else◌}
use Rattle.std.specs.Option.{option_or}
use Rattle.s3_lines.specs.Ranges.{is_between}
use Rattle.s3_meaning.specs.Selection.{levels, same_key}
use Rattle.s3_match.specs.declared.held.HeldField.{HeldField}
use Rattle.s3_match.specs.declared.levels.LevelField.{LevelField}
use Rattle.s3_match.specs.Inner.Controls.{held_in}
use Rattle.s3_match.specs.Inner.LevelField.{compared_at, field_in}

-- the value that the field of a level compares
abbrev pub value_by : List (Option LevelField) → List ℕ → ℕ → Option (List ℕ)
value_by fields bytes n = option_map (compared_at bytes) (field_in fields n)

-- whether a level breaks, given the held value of each level
abbrev pub breaks_by : List (Option LevelField) → List ℕ → (ℕ → Option (List ℕ)) → ℕ → Bool
breaks_by fields bytes held n = is_some (value_by fields bytes n) && not (same_key (value_by fields bytes n) (held n))

-- the value of a level that is held then
abbrev pub held_by : List (Option LevelField) → List ℕ → (ℕ → Option (List ℕ)) → ℕ → Option (List ℕ)
held_by fields bytes held n = option_or (value_by fields bytes n) (held n)

-- So many levels, L9 first, are held. `broken` is the greatest of them that breaks, 0 if none.
pub record AreHeldTo (fields : List (Option LevelField)) (bytes : List ℕ) (count : ℕ) (old new : List HeldField) (broken : ℕ) : Type 0 where
  pub held : (n : ℕ) → held_in new n ≡ (if is_between (10 - count) 9 n then held_by fields bytes (held_in old) n else held_in old n)
  pub breaks : unwrap_or (find (breaks_by fields bytes (held_in old)) levels) 0 ≡ (if broken == 0 then unwrap_or (find (breaks_by fields bytes (held_in old)) (drop count levels)) 0 else broken)

-- all levels are held; `broken` is the greatest that breaks, 0 if none
pub record AreHeld (fields : List (Option LevelField)) (bytes : List ℕ) (old new : List HeldField) (broken : ℕ) : Type 0 where
  pub held : (n : ℕ) → held_in new n ≡ (if is_between 1 9 n then held_by fields bytes (held_in old) n else held_in old n)
  pub breaks : broken ≡ unwrap_or (find (breaks_by fields bytes (held_in old)) levels) 0
