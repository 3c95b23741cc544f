-- The entries that the columns of a card may have, and the error if they have another.
use Rattle.std.specs.Prelude.{ℕ, List, Bool, true, false, ◌==◌, ◌&&◌, ◌||◌, Option, is_some, take, slice_index, if◌then◌else◌}
use Rattle.std.specs.List.{list_all, list_any}
use Rattle.s3_cards.specs.declared.ebcdic.TheConstants.{BLANK, LETTER_N}
use Rattle.s3_cards.specs.Names.{is_letter, is_name}
use Rattle.s3_edit.specs.Codes.{code_of as edit_code_of}
use Rattle.s3_sheets.specs.Columns.{columns_between, are_blank, same_codes, number_between}
use Rattle.s3_sheets.specs.Entries.{constant_text, factor_of, part_of, time_of}
use Rattle.s3_sheets.specs.Indicators.{listed, level_behind, condition_of}
use Rattle.s3_sheets.specs.declared.indicators.IndicatorList.{IndicatorList}
use Rattle.s3_sheets.specs.declared.faults.Fault.{Fault}
use Rattle.s3_sheets.specs.declared.faults.Fault.TheVariants.{WrongEntry, WrongName, WrongNumber}
use Rattle.s3_sheets.specs.declared.faults.Faults.{Faults}

-- the allowed entry of some columns
pub data Entry : Type 0 where
  -- blank
  Blank : Entry
  -- one of these texts
  OneOf : List (List ℕ) → Entry
  Letters : Entry
  -- an indicator of a list
  Listed : IndicatorList → Entry
  MaybeListed : IndicatorList → Entry
  -- blank, or a letter and then 1 to 9
  MaybeLevel : ℕ → Entry
  MaybeCondition : Entry
  -- the level entry of a calculation card
  Time : Entry
  -- a record identification code of seven columns, checked after its position: blank or N, then C, Z or D; or a blank code
  CodeTest : Entry
  MaybeEditCode : Entry
  Name : Entry
  MaybeName : Entry
  MaybeConstant : Entry
  -- a literal, a name of at most this many characters, or blank
  MaybeFactor : ℕ → Entry
  -- a number in a range
  Number : ℕ → ℕ → Entry
  MaybeNumber : ℕ → ℕ → Entry
  -- a record identification code of seven columns, its position in the first four; or a blank code
  CodePosition : Entry

-- the columns from one to another, counted from 1, with their allowed entry
pub record Rule : Type 0 where
  pub from : ℕ
  pub to : ℕ
  pub entry : Entry

-- blank, or an entry that can be read
abbrev pub is_blank_or : {X : Type 0} → (List ℕ → Option X) → List ℕ → Bool
is_blank_or read entry = are_blank entry || is_some (read entry)

abbrev pub allows : Entry → List ℕ → Bool
allows Blank entry = are_blank entry
allows (OneOf allowed) entry = list_any (same_codes entry) allowed
allows Letters entry = list_all is_letter entry
allows (Listed list) entry = is_some (listed list entry)
allows (MaybeListed list) entry = is_blank_or (listed list) entry
allows (MaybeLevel letter) entry = is_blank_or (level_behind letter) entry
allows MaybeCondition entry = is_blank_or condition_of entry
allows Time entry = is_some (time_of entry)
allows CodeTest entry =
    are_blank entry || (((slice_index entry 4 == BLANK) || (slice_index entry 4 == LETTER_N)) && is_some (part_of (slice_index entry 5)))
allows MaybeEditCode entry = is_blank_or (λ entry. edit_code_of (slice_index entry 0)) entry
allows Name entry = is_name entry
allows MaybeName entry = are_blank entry || is_name entry
allows MaybeConstant entry = is_blank_or constant_text entry
allows (MaybeFactor longest) entry = is_blank_or (factor_of longest) entry
allows (Number low high) entry = is_some (number_between low high entry)
allows (MaybeNumber low high) entry = is_blank_or (number_between low high) entry
allows CodePosition entry = is_blank_or (λ entry. number_between 1 9999 (take 4 entry)) entry

-- the kind of error if the columns have another entry
abbrev pub fault_of : Entry → Fault
fault_of Blank = WrongEntry
fault_of (OneOf allowed) = WrongEntry
fault_of Letters = WrongEntry
fault_of (Listed list) = WrongEntry
fault_of (MaybeListed list) = WrongEntry
fault_of (MaybeLevel letter) = WrongEntry
fault_of MaybeCondition = WrongEntry
fault_of Time = WrongEntry
fault_of CodeTest = WrongEntry
fault_of MaybeEditCode = WrongEntry
fault_of Name = WrongName
fault_of MaybeName = WrongName
fault_of MaybeConstant = WrongName
fault_of (MaybeFactor longest) = WrongName
fault_of (Number low high) = WrongNumber
fault_of (MaybeNumber low high) = WrongNumber
fault_of CodePosition = WrongNumber

-- ---- the errors of a card: 2, 3 and 4
abbrev pub no_faults : Faults
no_faults = record { entry = false; name = false; number = false }

abbrev pub one_fault : Fault → Faults
one_fault WrongEntry = record { entry = true; name = false; number = false }
one_fault WrongName = record { entry = false; name = true; number = false }
one_fault WrongNumber = record { entry = false; name = false; number = true }

abbrev pub both_faults : Faults → Faults → Faults
both_faults a b = record { entry = a.entry || b.entry; name = a.name || b.name; number = a.number || b.number }

-- the errors by one rule
unfoldable pub rule_faults : List ℕ → Rule → Faults
rule_faults card rule = if allows rule.entry (columns_between card rule.from rule.to) then no_faults else one_fault (fault_of rule.entry)

-- the errors by some rules
abbrev pub broken_by : List Rule → List ℕ → Faults
broken_by rules card = record {
  entry = list_any (λ rule. (rule_faults card rule).entry) rules;
  name = list_any (λ rule. (rule_faults card rule).name) rules;
  number = list_any (λ rule. (rule_faults card rule).number) rules;
}
