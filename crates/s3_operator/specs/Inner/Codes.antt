-- The halt with two given letters.
use Rattle.std.specs.Prelude.{◌≡◌, ◌≢◌, ℕ, nat_le, nat_eq, Bool, true, ◌&&◌, List, Option, Some, None}
use Rattle.std.specs.Cmp.Lexicographic.{pointwise}
use Rattle.s3_operator.specs.declared.halt_code.HaltCode.{HaltCode}
use Rattle.s3_operator.specs.declared.halt_code.HaltCode.TheVariants.{HaltIndicator}
use Rattle.s3_operator.specs.Table.{letters_of}

-- a halt that a level can show: the halt indicators are 1 to 9
abbrev pub is_shown : HaltCode → Bool
is_shown (HaltIndicator n) = nat_le 1 n && nat_le n 9
is_shown _ = true

abbrev pub has_letters : (letters : List ℕ) → HaltCode → Bool
has_letters letters code = pointwise nat_eq (letters_of code) letters

-- the halt with these letters, or none if no halt has them
abbrev pub IsCodeOf : (letters : List ℕ) → Option HaltCode → Type 0
IsCodeOf letters (Some code) = (letters_of code ≡ letters) × (is_shown code ≡ true)
IsCodeOf letters None = (code : HaltCode) → is_shown code ≡ true → letters_of code ≢ letters
