-- Kinds of EBCDIC codes.
use Rattle.std.specs.Prelude.{ℕ, Bool, ◌==◌}
use Rattle.s3_cards.specs.declared.ebcdic.TheConstants.{MINUS, COMMA}

abbrev pub is_comma : ℕ → Bool
is_comma code = code == COMMA

abbrev pub is_hyphen : ℕ → Bool
is_hyphen code = code == MINUS
