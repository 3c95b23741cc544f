-- The held control fields, and which control levels break.
use Rattle.std.specs.Prelude.{◌≡◌, ℕ, zero, suc, Bool, not, ◌&&◌, List, Option, None, is_some, find, slice_get, unwrap_or}
use Rattle.std.specs.Option.{option_and_then, option_or}
use Rattle.s3_meaning.specs.RecordTypes.{RecordType}
use Rattle.s3_meaning.specs.Selection.{control_value, same_key, levels}
use Rattle.s3_program.specs.declared.program.Program.{Program}
use Rattle.s3_program.specs.declared.starts.TypeStart.{TypeStart}
use Rattle.s3_match.specs.declared.held.HeldField.{HeldField}
use Rattle.s3_match.specs.Inner.Keys.{held_key}
use Rattle.s3_match.specs.Inner.Types.{kind_at}

-- the held value of a level; L1 comes first in the list
abbrev pub held_in : List HeldField → ℕ → Option (List ℕ)
held_in held zero = None
held_in held (suc n) = option_and_then held_key (slice_get held n)

-- whether a level breaks, given the held value of each level
abbrev pub breaks_at : (ℕ → Option (List ℕ)) → RecordType → List ℕ → ℕ → Bool
breaks_at held kind bytes n = is_some (control_value kind bytes n) && not (same_key (control_value kind bytes n) (held n))

-- the greatest level that breaks, 0 if none: as the meaning has it in an environment with these held values
abbrev pub break_of : (ℕ → Option (List ℕ)) → RecordType → List ℕ → ℕ
break_of held kind bytes = unwrap_or (find (breaks_at held kind bytes) levels) 0

-- which level a record of a type breaks, and the values that are held then
pub record Breaks (program : Program) (start : TypeStart) (bytes : List ℕ) (old new : List HeldField) (broken : ℕ) : Type 0 where
  pub breaks : broken ≡ break_of (held_in old) (kind_at program start) bytes
  pub held : (n : ℕ) → held_in new n ≡ option_or (control_value (kind_at program start) bytes n) (held_in old n)
