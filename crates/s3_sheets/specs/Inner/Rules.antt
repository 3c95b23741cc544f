-- The widths that each kind of entry can have, and the rules whose columns are on a card.
use Rattle.std.specs.Prelude.{ℕ, ◌+◌, ◌-◌, Bool, true, ◌==◌, ◌&&◌, nat_le, nat_lt}
use Rattle.s3_sheets.specs.Rules.{Entry, Rule, CodePosition, CodeTest, MaybeConstant, MaybeEditCode, MaybeFactor}

-- ---- widths of entries
-- whether an entry can have this many columns
abbrev pub fits : Entry → ℕ → Bool
fits MaybeConstant width = nat_le width 26
fits (MaybeFactor longest) width = nat_le longest 8 && nat_le longest width && nat_le width 10
fits CodeTest width = width == 7
fits CodePosition width = width == 7
fits MaybeEditCode width = nat_lt 0 width
fits _ width = true

-- whether the columns of a rule are on a card, and the rule's entry can have this many
abbrev pub is_on_card : Rule → Bool
is_on_card rule = nat_lt 0 rule.from && nat_le rule.from rule.to && nat_le rule.to 96 && fits rule.entry (rule.to + 1 - rule.from)
