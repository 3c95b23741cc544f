-- The environment: fields and indicators by name, and the state of the cycle between two lines.
use Rattle.std.specs.Prelude.{ℕ, ◌+◌, ◌*◌, ◌-◌, ◌/◌, ◌%◌, ◌^◌, ◌==◌, Bool, true, false, not, ◌&&◌, ℤ, pos, List, replicate, slice_index, Option, None, if◌then◌else◌}
use Rattle.std.specs.List.{list_any, list_all}
use Rattle.s3_decimal.specs.Exact.{Fraction, exact}
use Rattle.s3_cards.specs.declared.name.Name.{Name}
use Rattle.s3_lines.specs.declared.indicator.Indicator.{Indicator}
use Rattle.s3_lines.specs.declared.indicator.Indicator.TheVariants.{Level, LastRecord, FirstPage, Switch}
use Rattle.s3_lines.specs.declared.indicator.Condition.{Condition}
use Rattle.s3_lines.specs.Ranges.{is_between}
use Rattle.s3_meaning.specs.Names.{same_indicator, is_indicator, udate, umonth, uday, uyear}
use Rattle.s3_cards.specs.Names.{same_name}
use Rattle.s3_meaning.specs.Source.{Source, length_of}
use Rattle.s3_meaning.specs.declared.current.Current.{Current}

pub record Environment : Type 0 where
  -- the values of numeric fields and of alphanumeric fields
  pub numbers : Name → ℤ
  pub texts : Name → List ℕ
  -- the indicators that are on
  pub on : Indicator → Bool
  -- the remainder of the last DIV, for MVR
  pub remainder : Fraction
  -- each file's current record
  pub current : Name → Option Current
  -- the control field saved for each level
  pub held : ℕ → Option (List ℕ)
  -- total time is no longer skipped
  pub totals_due : Bool
  -- the carriage: page and line
  pub page : ℕ
  pub line : ℕ

-- ---- updates
abbrev pub put_number : Name → ℤ → Environment → Environment
put_number name value e = record e { numbers = λ other. if same_name other name then value else e.numbers other }

abbrev pub put_text : Name → List ℕ → Environment → Environment
put_text name text e = record e { texts = λ other. if same_name other name then text else e.texts other }

abbrev pub turn : Indicator → Bool → Environment → Environment
turn indicator to e = record e { on = λ other. if same_indicator other indicator then to else e.on other }

-- sets indicators to the given values; an indicator that is listed twice is on if one of its values is on
abbrev pub show : List (Option Indicator × Bool) → Environment → Environment
show marks e =
    record e {
      on = λ other.
          if list_any (λ mark. is_indicator other mark.0) marks
          then list_any (λ mark. is_indicator other mark.0 && mark.1) marks
          else e.on other;
    }

abbrev pub is_level : Indicator → Bool
is_level (Level n) = is_between 1 9 n
is_level _ = false

-- turns L1 to L9 on or off
abbrev pub turn_levels : Bool → Environment → Environment
turn_levels to e = record e { on = λ other. if is_level other then to else e.on other }

-- turns LR and L1 to L9 on
abbrev pub with_last_record : Environment → Environment
with_last_record e = turn LastRecord true (turn_levels true e)

abbrev pub put_remainder : Fraction → Environment → Environment
put_remainder remainder e = record e { remainder = remainder }

abbrev pub no_remainder : Fraction
no_remainder = exact (pos 0) 0

abbrev pub put_current : Name → Option Current → Environment → Environment
put_current file current e = record e { current = λ other. if same_name other file then current else e.current other }

-- ---- conditions
abbrev pub holds : Environment → Condition → Bool
holds e condition = if condition.negated then not (e.on condition.indicator) else e.on condition.indicator

abbrev pub all_hold : Environment → List Condition → Bool
all_hold e conditions = list_all (holds e) conditions

-- ---- initial state
-- the bit of a switch: U1 is the highest of eight
abbrev pub switch_on : ℕ → ℕ → Bool
switch_on switches n = switches / 2 ^ (8 - n) % 2 == 1

-- L0 and 1P are on; the switches are as the job sets them
abbrev pub on_at_first : ℕ → Indicator → Bool
on_at_first switches (Level n) = n == 0
on_at_first switches FirstPage = true
on_at_first switches (Switch n) = switch_on switches n
on_at_first switches _ = false

-- the number that two adjacent digits of the date give
abbrev pub date_part : List ℕ → ℕ → ℕ
date_part date at = slice_index date at % 16 * 10 + slice_index date (at + 1) % 16

-- UDATE, UMONTH, UDAY and UYEAR from the date, which is six EBCDIC digits, mmddyy
abbrev pub numbers_at_first : List ℕ → Name → ℤ
numbers_at_first date name =
    if same_name name udate then pos (date_part date 0 * 10000 + date_part date 2 * 100 + date_part date 4)
    else (if same_name name umonth then pos (date_part date 0)
    else (if same_name name uday then pos (date_part date 2)
    else (if same_name name uyear then pos (date_part date 4) else pos 0)))

abbrev pub at_first : Source → ℕ → List ℕ → Environment
at_first source switches date =
    record {
      numbers = numbers_at_first date;
      texts = λ name. replicate (length_of source name) 0x40;
      on = on_at_first switches;
      remainder = no_remainder;
      current = λ file. None;
      held = λ level. None;
      totals_due = false;
      page = 1;
      line = 1;
    }
