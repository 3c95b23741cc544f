-- Equality of names and of indicators, and the entries of a list that aren't blank.
use Rattle.std.specs.Prelude.{List, Option, filter_map}
pub use Rattle.s3_lines.specs.Indicators.{same_indicator, is_indicator}
pub use Rattle.s3_lines.specs.Reserved.{page, udate, umonth, uday, uyear, rpgobj}

-- the entries that are not blank
abbrev pub entries : {X : Type 0} → List (Option X) → List X
entries xs = filter_map (λ x. x) xs
