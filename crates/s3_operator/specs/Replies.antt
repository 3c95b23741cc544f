-- Which replies a halt allows.
use Rattle.std.specs.Prelude.{ℕ, ◌==◌, Bool, true, false, ◌&&◌, ◌||◌}
use Rattle.s3_operator.specs.declared.halt_code.HaltCode.{HaltCode}
use Rattle.s3_operator.specs.declared.halt_kind.HaltKind.{HaltKind}
use Rattle.s3_operator.specs.declared.halt_kind.HaltKind.TheVariants.{GoesOn, Ends, NotStarted}
use Rattle.s3_operator.specs.Table.{kind_of}

abbrev pub goes_on : HaltKind → Bool
goes_on GoesOn = true
goes_on Ends = false
goes_on NotStarted = false

-- 2 and 3 are always allowed; 0 continues, if the halt allows that; no other digit is allowed
abbrev pub is_allowed : HaltCode → (digit : ℕ) → Bool
is_allowed code digit = digit == 0 && goes_on (kind_of code) || digit == 2 || digit == 3
