-- Values read from columns are in range, whatever the columns contain.
use Rattle.std.proofs.Common.{◌≡◌, ℕ, List, [], ◌∷◌, Bool, true, false, refl, arith, inl, inr, take}
use Rattle.std.specs.Prelude.{Option, Some, None, option_map, unwrap_or, nat_le, ◌==◌, ◌&&◌, ◌||◌, not, slice_index, codes, if◌then◌else◌}
use Rattle.std.specs.Option.{option_or}
use Rattle.std.proofs.lemmas.Bool.{cases_Bool}
use Rattle.std.proofs.lemmas.Bool.Decides.{nat_tests}
use Rattle.s3_cards.specs.Codes.{ebcdic}
use Rattle.s3_cards.specs.Names.{is_digit, is_within}
use Rattle.s3_lines.specs.Ranges.{is_between, if_given, is_record_indicator, is_total_indicator}
use Rattle.s3_lines.specs.Inner.Ranges.{indicator_in_range, conditions_in_range, codes_in_range, time_in_range}
use Rattle.s3_lines.specs.declared.indicator.Indicator.{Indicator}
use Rattle.s3_lines.specs.declared.indicator.Indicator.TheVariants.{General}
use Rattle.s3_lines.specs.declared.indicator.Condition.{Condition}
use Rattle.s3_lines.specs.declared.sheet.CodePart.{CodePart}
use Rattle.s3_lines.specs.declared.sheet.RecordCode.{RecordCode}
use Rattle.s3_lines.specs.declared.sheet.CalculationTime.TheVariants.{Detail, Total}
use Rattle.s3_sheets.specs.Columns.{only, are_blank, number_of, number_between, same_codes}
use Rattle.s3_sheets.specs.Indicators.{general_of, level_of, halt_of, overflow_of, switch_of, lettered_of, indicator_of, belongs, listed, level_behind, condition_of}
use Rattle.s3_sheets.specs.Entries.{code_with, part_of, code_of, time_of}
use Rattle.s3_sheets.specs.Lines.{record_indicator}
use Rattle.s3_sheets.specs.declared.indicators.IndicatorList.{IndicatorList}
use Rattle.s3_sheets.specs.declared.indicators.IndicatorList.TheVariants.{Record as RecordList, Total as TotalList}

-- ---- options
pub both : {a b : Bool} → a ≡ true → b ≡ true → (a && b) ≡ true
both e f = rw (e, f) refl

pub only_passes : {X : Type 0} (test : X → Bool) (o : Option X) → if_given test (only test o) ≡ true
only_passes test None = refl
only_passes test (Some x) = elim (cases_Bool (test x)) [ inl good ↦ rw good good | inr bad ↦ rw bad refl ]

pub or_default : {X : Type 0} (test : X → Bool) (o : Option X) (d : X) → if_given test o ≡ true → test d ≡ true → test (unwrap_or o d) ≡ true
or_default test None d given default = default
or_default test (Some x) d given default = given

either : {X : Type 0} (test : X → Bool) (o p : Option X) → if_given test o ≡ true → if_given test p ≡ true → if_given test (option_or o p) ≡ true
either test None p first second = second
either test (Some x) p first second = first

-- ---- numbers
pub number_in_range : (low high : ℕ) (entry : List ℕ) → if_given (is_between low high) (number_between low high entry) ≡ true
unfolding number_between
number_in_range low high entry = only_passes (is_between low high) (number_of entry)

pub at_least : (low high n : ℕ) → is_between low high n ≡ true → nat_le low n ≡ true
at_least low high n within = grind (arith, nat_tests)

-- ---- indicators
general_in_range : (tens units : ℕ) → if_given indicator_in_range (general_of tens units) ≡ true
general_in_range tens units = elim (cases_Bool (is_digit tens && is_digit units && not ((tens == 0xf0) && (units == 0xf0)))) [
  | inl good ↦ rw good (grind (arith, nat_tests))
  | inr bad ↦ rw bad refl
]

level_in_range : (code : ℕ) → if_given indicator_in_range (level_of code) ≡ true
level_in_range code = elim (cases_Bool (is_digit code)) [
  | inl good ↦ rw good (grind (arith, nat_tests))
  | inr bad ↦ rw bad (elim (cases_Bool (code == 0xd9)) [ inl is ↦ rw is refl | inr other ↦ rw other refl ])
]

halt_in_range : (code : ℕ) → if_given indicator_in_range (halt_of code) ≡ true
halt_in_range code = elim (cases_Bool (is_within 0xf1 0xf9 code)) [
  | inl good ↦ rw good (grind (arith, nat_tests))
  | inr bad ↦ rw bad refl
]

overflow_in_range : (code : ℕ) → if_given indicator_in_range (overflow_of code) ≡ true
overflow_in_range code = elim (cases_Bool (is_within 0xc1 0xc7 code)) [
  | inl good ↦ rw good (grind (arith, nat_tests))
  | inr bad ↦ rw bad (elim (cases_Bool (code == 0xe5)) [ inl is ↦ rw is refl | inr other ↦ rw other refl ])
]

switch_in_range : (code : ℕ) → if_given indicator_in_range (switch_of code) ≡ true
switch_in_range code = elim (cases_Bool (is_within 0xf1 0xf8 code)) [
  | inl good ↦ rw good (grind (arith, nat_tests))
  | inr bad ↦ rw bad refl
]

if_either : {X : Type 0} (test : X → Bool) (b : Bool) (o p : Option X) → if_given test o ≡ true → if_given test p ≡ true → if_given test (if b then o else p) ≡ true
if_either test true o p first second = first
if_either test false o p first second = second

lettered_in_range : (first second : ℕ) → if_given indicator_in_range (lettered_of first second) ≡ true
lettered_in_range first second =
    if_either indicator_in_range (first == 0xd3) _ _ (level_in_range second)
    (if_either indicator_in_range (first == 0xc8) _ _ (halt_in_range second)
    (if_either indicator_in_range (first == 0xd6) _ _ (overflow_in_range second)
    (if_either indicator_in_range (first == 0xe4) _ _ (switch_in_range second)
    (if_either indicator_in_range ((first == 0xd4) && (second == 0xd9)) _ _ refl
    (if_either indicator_in_range ((first == 0xf1) && (second == 0xd7)) _ _ refl refl)))))

pub indicator_ranged : (entry : List ℕ) → if_given indicator_in_range (indicator_of entry) ≡ true
unfolding indicator_of
indicator_ranged [] = refl
indicator_ranged (first ∷ []) = refl
indicator_ranged (first ∷ second ∷ []) =
    either indicator_in_range (general_of first second) (lettered_of first second) (general_in_range first second) (lettered_in_range first second)
indicator_ranged (first ∷ second ∷ third ∷ rest) = refl

pub listed_passes : (list : IndicatorList) (entry : List ℕ) → if_given (belongs list) (listed list entry) ≡ true
unfolding listed
listed_passes list entry = only_passes (belongs list) (indicator_of entry)

pub record_indicator_passes : (entry : List ℕ) → is_record_indicator (record_indicator entry) ≡ true
record_indicator_passes entry = or_default is_record_indicator (listed RecordList entry) (General 1) (listed_passes RecordList entry) refl

pub level_passes : (letter : ℕ) (entry : List ℕ) → if_given (is_between 1 9) (level_behind letter entry) ≡ true
unfolding level_behind
level_passes letter [] = refl
level_passes letter (first ∷ []) = refl
level_passes letter (first ∷ second ∷ []) = elim (cases_Bool ((first == letter) && is_within 0xf1 0xf9 second)) [
  | inl good ↦ rw good (grind (arith, nat_tests))
  | inr bad ↦ rw bad refl
]
level_passes letter (first ∷ second ∷ third ∷ rest) = refl

-- ---- conditions
abbrev test_condition : Condition → Bool
test_condition condition = indicator_in_range condition.indicator

negated_or_not : (negated : Bool) (o : Option Indicator) → if_given indicator_in_range o ≡ true
    → if_given test_condition (option_map (λ indicator. record { negated = negated; indicator = indicator }) o) ≡ true
negated_or_not negated None given = refl
negated_or_not negated (Some indicator) given = given

pub condition_passes : (entry : List ℕ) → if_given test_condition (condition_of entry) ≡ true
unfolding condition_of
condition_passes [] = refl
condition_passes (sign ∷ entry) =
    if_either test_condition ((sign == 0x40) || (sign == 0xd5)) _ _ (negated_or_not (sign == 0xd5) (indicator_of entry) (indicator_ranged entry)) refl

pub conditions_pass : (a b c : List ℕ) → conditions_in_range (condition_of a ∷ condition_of b ∷ condition_of c ∷ []) ≡ true
conditions_pass a b c = both (condition_passes a) (both (condition_passes b) (both (condition_passes c) refl))

-- ---- codes
abbrev test_code : RecordCode → Bool
test_code code = nat_le 1 code.position

code_passes_from : (o : Option ℕ) (p : Option CodePart) (negated : Bool) (character : ℕ) → if_given (is_between 1 9999) o ≡ true
    → if_given test_code (code_with o p negated character) ≡ true
code_passes_from None None negated character given = refl
code_passes_from None (Some part) negated character given = refl
code_passes_from (Some n) None negated character given = refl
code_passes_from (Some n) (Some part) negated character given = at_least 1 9999 n given

pub code_passes : (entry : List ℕ) → if_given test_code (code_of entry) ≡ true
unfolding code_of
code_passes entry =
    code_passes_from (number_between 1 9999 (take 4 entry)) (part_of (slice_index entry 5)) (slice_index entry 4 == 0xd5) (slice_index entry 6)
    (number_in_range 1 9999 (take 4 entry))

pub codes_pass : (a b c : List ℕ) → codes_in_range (code_of a ∷ code_of b ∷ code_of c ∷ []) ≡ true
codes_pass a b c = both (code_passes a) (both (code_passes b) (both (code_passes c) refl))

-- ---- level entries of calculations
total_or_not : (o : Option Indicator) → if_given is_total_indicator o ≡ true → if_given time_in_range (option_map (λ indicator. Total indicator) o) ≡ true
total_or_not None given = refl
total_or_not (Some indicator) given = given

time_given : (entry : List ℕ) → if_given time_in_range (time_of entry) ≡ true
unfolding time_of
time_given entry =
    if_either time_in_range (are_blank entry) _ _ refl
    (if_either time_in_range (same_codes entry (ebcdic (codes "SR"))) _ _ refl
    (if_either time_in_range (same_codes entry (ebcdic (codes "AN"))) _ _ refl
    (if_either time_in_range (same_codes entry (ebcdic (codes "OR"))) _ _ refl (total_or_not (listed TotalList entry) (listed_passes TotalList entry)))))

pub time_passes : (entry : List ℕ) → time_in_range (unwrap_or (time_of entry) Detail) ≡ true
time_passes entry = or_default time_in_range (time_of entry) Detail (time_given entry) refl
