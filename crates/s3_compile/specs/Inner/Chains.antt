-- Nested calls: which subroutines are called.
use Rattle.std.specs.Prelude.{ℕ, nat_eq, Bool, false, List, Option, Some, None}
use Rattle.std.specs.List.{list_any}
use Rattle.s3_program.specs.declared.call.Call.{Call}

-- whether one of these calls calls this subroutine
abbrev pub is_called : List Call → ℕ → Bool
is_called calls subroutine = list_any (λ call. nat_eq subroutine call.callee) calls

-- whether a subroutine, if there is one, is in a set
abbrev pub is_among : (ℕ → Bool) → Option ℕ → Bool
is_among subroutines None = false
is_among subroutines (Some subroutine) = subroutines subroutine
