-- The number that a text of digits spells.
use Rattle.std.specs.Prelude.{ℕ, List, Option, Some, None, if◌then◌else◌}
use Rattle.std.specs.List.{list_all}
use Rattle.s3_cards.specs.Numbers.{is_digit_from, number_of}

-- the number that a text spells, if it has only digits
abbrev pub spelled_number : ℕ → List ℕ → Option ℕ
spelled_number code_of_zero text =
    if list_all (is_digit_from code_of_zero) text then Some (number_of code_of_zero text) else None
