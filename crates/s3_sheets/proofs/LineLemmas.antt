-- In the line of a card without errors each entry is in range.
use Rattle.std.proofs.Common.{◌≡◌, ℕ, zero, suc, ◌+◌, ◌-◌, ◌<◌, ◌≤◌, List, [], ◌∷◌, Bool, true, false, refl, subst, ◌∙◌, ap, arith, inl, inr, length, take, drop, replicate, get_or, lit<, length-take}
use Rattle.std.specs.Prelude.{Option, Some, None, unwrap_or, is_some, is_none, nat_le, nat_lt, ◌==◌, ◌&&◌, ◌||◌, not, if◌then◌else◌}
use Rattle.std.specs.List.{list_all, list_any, prefix_len}
use Rattle.std.specs.Option.{option_to_list}
use Rattle.std.proofs.lemmas.Bool.{cases_Bool}
use Rattle.std.proofs.lemmas.Bool.Decides.{nat_tests}
use Rattle.std.proofs.lemmas.List.Folds.{list_any_at}
use Rattle.s3_entries.specs.declared.calculation.TheConstants as calculation
use Rattle.s3_entries.specs.declared.file.TheConstants as file
use Rattle.s3_entries.specs.declared.input.TheConstants as input
use Rattle.s3_entries.specs.declared.output.TheConstants as output
use Rattle.s3_entries.specs.declared.shared.TheConstants as shared
use Rattle.s3_lines.specs.Files.{is_printer, is_by_cycle}
use Rattle.s3_cards.specs.declared.name.Name.{Name}
use Rattle.s3_cards.specs.Names.{begins_name, is_mark, is_word, is_name, name_of}
use Rattle.s3_lines.specs.Ranges.{is_between, if_given, longest_record, is_overflow_indicator, shape_in_range, shape_of_positions}
use Rattle.s3_lines.specs.Inner.Ranges.{in_range, is_named, conditions_in_range, key_in_range, file_in_range, field_in_range, calculation_in_range, output_in_range, content_in_range}
use Rattle.s3_lines.specs.declared.indicator.Indicator.{Indicator}
use Rattle.s3_lines.specs.declared.sheet.KeyField.{KeyField}
use Rattle.s3_lines.specs.declared.sheet.FieldOutput.{FieldOutput}
use Rattle.s3_lines.specs.declared.sheet.OutputContent.TheVariants.{Constant as ConstantContent, Field as FieldContent}
use Rattle.s3_lines.specs.declared.sheet.Line.{Line}
use Rattle.s3_lines.specs.declared.sheet.OutputLine.TheVariants.{Line as LineCard, Field as OutputFieldCard}
use Rattle.s3_sheets.specs.Columns.{are_blank, columns, columns_between, column, number_of, number_between, only}
use Rattle.s3_sheets.specs.Indicators.{indicator_of, listed}
use Rattle.s3_sheets.specs.Entries.{constant, constant_text}
use Rattle.s3_sheets.specs.Rules.{rule_faults, broken_by, no_faults, one_fault}
use Rattle.s3_sheets.specs.Tables.{rules_of, file_rules, output_field_rules, blank}
use Rattle.s3_sheets.specs.Kinds.{kind_of}
use Rattle.s3_sheets.specs.Combinations.{is_key_within, has_stray_entry, has_bad_extent, has_bad_positions, has_bad_definition, has_no_content, has_early_constant, begins_too_early, combined_faults}
use Rattle.s3_sheets.specs.Lines.{designation_of, device_of, key_field, key_of, form_of, has_index, file_line, field_line, calculation_line, longest_name, definition_of, spacing_of, space_of, is_addition, output_card, output_field, three_conditions, sheet_line, line_at, line_of}
use Rattle.s3_sheets.specs.Sheets.{faults_of, has_fault}
use Rattle.s3_sheets.specs.declared.faults.Faults.{Faults}
use Rattle.s3_sheets.specs.declared.faults.Fault.TheVariants.{WrongName, WrongNumber}
use Rattle.s3_sheets.specs.declared.kind.CardKind.{CardKind}
use Rattle.s3_sheets.specs.declared.kind.CardKind.TheVariants.{Comment, Unknown, Header, File, Record, RecordAnd, RecordOr, Field, Calculation, OutputLine, OutputAnd, OutputOr, OutputField}
use Rattle.s3_sheets.specs.declared.indicators.IndicatorList.{IndicatorList}
use Rattle.s3_sheets.specs.declared.indicators.IndicatorList.TheVariants.{Record as RecordList, Overflow as OverflowList, Switch as SwitchList, Resulting as ResultingList}
use Rattle.s3_sheets.proofs.ConstantLemmas.{all_blank}
use Rattle.s3_sheets.proofs.FactorLemmas.{between, factor_passes, text_length}
use Rattle.s3_sheets.proofs.RangeLemmas.{both, only_passes, number_in_range, at_least, listed_passes, record_indicator_passes, level_passes, conditions_pass, codes_pass, time_passes}

-- ---- tests
pub neither : (a b : Bool) → (a || b) ≡ false → (a ≡ false) × (b ≡ false)
neither true b e = absurd cc
neither false b e = (refl, e)

pub each : (a b : Bool) → (a && b) ≡ true → (a ≡ true) × (b ≡ true)
each true b e = (refl, e)
each false b e = absurd cc

pub not_false : (b : Bool) → not b ≡ false → b ≡ true
not_false true e = refl
not_false false e = absurd cc

-- ---- File Description specifications
-- a code that begins a name isn't blank
begun_named : (code : ℕ) (codes : List ℕ) → begins_name code ≡ true → is_named (name_of (code ∷ codes)) ≡ true
begun_named code codes begins = elim (cases_Bool (code == 0x40)) [
  | inl same ↦ absurd (let e : code ≡ 0x40 = grind (arith, nat_tests) in let f = subst (λ c. begins_name c ≡ true) e begins in cc)
  | inr other ↦ rw other refl
]

name_given : (codes : List ℕ) → is_name codes ≡ true → is_named (name_of codes) ≡ true
unfolding is_word
name_given codes named = begun codes (prefix_len is_mark codes) (each (is_word (take (prefix_len is_mark codes) codes)) _ named).0
  where
    begun : (codes : List ℕ) (end : ℕ) → is_word (take end codes) ≡ true → is_named (name_of codes) ≡ true
    begun [] zero word = absurd cc
    begun [] (suc end) word = absurd cc
    begun (code ∷ codes) zero word = absurd cc
    begun (code ∷ codes) (suc end) word = begun_named code codes (each (begins_name code) _ word).0

key_given : (ix : Bool) (o : Option KeyField) (n : ℕ) → (ix && not (is_key_within n (if ix then o else None))) ≡ false
    → (if ix then is_some (if ix then o else None) else is_none (if ix then o else None)) ≡ true
key_given true None n e = absurd cc
key_given true (Some key) n e = refl
key_given false o n e = refl

key_from : (l s : Option ℕ) (n : ℕ) → if_given (is_between 1 29) l ≡ true → if_given (is_between 1 9999) s ≡ true
    → is_key_within n (key_field l s) ≡ true → if_given (key_in_range n) (key_field l s) ≡ true
key_from None None n a b e = refl
key_from None (Some s) n a b e = refl
key_from (Some l) None n a b e = refl
key_from (Some l) (Some s) n a b e = both (both a (at_least 1 9999 s b)) e

key_ranged : (ix : Bool) (l s : Option ℕ) (n : ℕ) → if_given (is_between 1 29) l ≡ true → if_given (is_between 1 9999) s ≡ true
    → (ix && not (is_key_within n (if ix then key_field l s else None))) ≡ false → if_given (key_in_range n) (if ix then key_field l s else None) ≡ true
key_ranged true l s n a b e = key_from l s n a b (not_false _ e)
key_ranged false l s n a b e = refl

ends_with : (ends selected : Bool) → (ends && not selected) ≡ false → (not ends || selected) ≡ true
ends_with true selected e = not_false selected e
ends_with false selected e = refl

of_printer : (o : Option Indicator) (filled printer : Bool) → if_given is_overflow_indicator o ≡ true → (filled ≡ false → o ≡ None)
    → (filled && not printer) ≡ false → if_given (λ indicator. is_overflow_indicator indicator && printer) o ≡ true
of_printer None filled printer listed blank e = refl
of_printer (Some indicator) true printer listed blank e = both listed (not_false printer e)
of_printer (Some indicator) false printer listed blank e = absurd (let f = blank refl in cc)

blanks_listed : (list : IndicatorList) (n : ℕ) → listed list (replicate n 0x40) ≡ None
unfolding listed indicator_of
blanks_listed list zero = refl
blanks_listed list (suc zero) = refl
blanks_listed list (suc (suc zero)) = refl
blanks_listed list (suc (suc (suc n))) = refl

blank_listed : (list : IndicatorList) (entry : List ℕ) → not (are_blank entry) ≡ false → listed list entry ≡ None
blank_listed list entry blank = ap (listed list) (all_blank entry (not_false (are_blank entry) blank)) ∙ blanks_listed list (length entry)

file_passes : (card : List ℕ) → is_name (columns card shared.FILENAME) ≡ true → has_stray_entry card ≡ false → has_bad_extent card ≡ false → file_in_range (file_line card) ≡ true
unfolding has_stray_entry has_bad_extent file_line
file_passes card named stray bad =
    let ends : Bool = column card file.END == 0xc5 in
    let selected : Bool = is_by_cycle (designation_of (column card file.DESIGNATION)) in
    let printer : Bool = is_printer (device_of (columns card file.DEVICE)) in
    let filled : Bool = not (are_blank (columns card file.OVERFLOW)) in
    let keyed : Bool = not (has_index card) && (not (are_blank (columns card file.KEY_LENGTH)) || not (are_blank (columns card file.KEY_START))) in
    let size : ℕ = unwrap_or (number_of (columns card file.RECORD_LENGTH)) 0 in
    let fits : Bool = is_between 1 (longest_record (device_of (columns card file.DEVICE))) size in
    let l : Option ℕ = number_between 1 29 (columns card file.KEY_LENGTH) in
    let p : Option ℕ = number_between 1 9999 (columns card file.KEY_START) in
    let s = neither ((ends && not selected) || keyed) (filled && not printer) stray in
    let t = neither (ends && not selected) keyed s.0 in
    let b = neither (not fits) (has_index card && not (is_key_within size (key_of card))) bad in
    both (both (both (both (both (both (name_given (columns card shared.FILENAME) named) (not_false fits b.0)) (key_given (has_index card) (key_field l p) size b.1))
    (key_ranged (has_index card) l p size (number_in_range 1 29 (columns card file.KEY_LENGTH)) (number_in_range 1 9999 (columns card file.KEY_START)) b.1))
    (ends_with ends selected t.0))
    (of_printer (listed OverflowList (columns card file.OVERFLOW)) filled printer (listed_passes OverflowList (columns card file.OVERFLOW))
    (blank_listed OverflowList (columns card file.OVERFLOW)) s.1))
    (listed_passes SwitchList (columns card file.CONDITION))

-- ---- Input specifications
from_one : (o : Option ℕ) → if_given (is_between 1 9999) o ≡ true → nat_le 1 (unwrap_or o 1) ≡ true
from_one None given = refl
from_one (Some n) given = at_least 1 9999 n given

field_passes : (card : List ℕ) → has_bad_positions card ≡ false → field_in_range (field_line card) ≡ true
unfolding has_bad_positions field_line
field_passes card bad =
    let from : ℕ = unwrap_or (number_between 1 9999 (columns card input.FROM)) 1 in
    let to : ℕ = unwrap_or (number_between 1 9999 (columns card input.TO)) 1 in
    let holds : Bool = shape_in_range (shape_of_positions (form_of (column card input.PACKED == 0xd7) (columns card input.DECIMALS)) (to + 1 - from)) in
    let p = each (nat_le from to) holds (not_false (nat_le from to && holds) bad) in
    both (both (both (both (both (both (from_one (number_between 1 9999 (columns card input.FROM)) (number_in_range 1 9999 (columns card input.FROM))) p.0) p.1)
    (level_passes 0xd3 (columns card input.CONTROL_LEVEL))) (level_passes 0xd4 (columns card input.MATCHING))) (listed_passes RecordList (columns card input.RELATION)))
    (both (listed_passes RecordList (columns card input.PLUS)) (both (listed_passes RecordList (columns card input.MINUS)) (both (listed_passes RecordList (columns card input.ZERO)) refl)))

-- ---- Calculation specifications
ten_columns : (card : List ℕ) (from to : ℕ) → to - (from - 1) ≤ 10 → length (columns_between card from to) ≤ 10
ten_columns card from to few = omega (arith, length-take (to - (from - 1)) (drop (from - 1) card))

calculation_passes : (card : List ℕ) → has_bad_definition card ≡ false → calculation_in_range (calculation_line card) ≡ true
unfolding has_bad_definition calculation_line
calculation_passes card bad =
    both (both (both (both (both (time_passes (columns card calculation.CONTROL_LEVEL)) (conditions_pass (columns card calculation.INDICATOR_1) (columns card calculation.INDICATOR_2) (columns card calculation.INDICATOR_3)))
    (factor_passes 6 (columns card calculation.FACTOR_1) (ten_columns card 18 27 (omega arith))))
    (factor_passes (longest_name card) (columns card calculation.FACTOR_2) (ten_columns card 33 42 (omega arith)))) (not_false (if_given shape_in_range (definition_of (columns card calculation.LENGTH) (columns card calculation.DECIMALS))) bad))
    (both (listed_passes ResultingList (columns card calculation.HIGH)) (both (listed_passes ResultingList (columns card calculation.LOW)) (both (listed_passes ResultingList (columns card calculation.EQUAL)) refl)))

-- ---- Output specifications
space_ranged : (addition : Bool) (entry : List ℕ) → if_given (is_between 0 3) (space_of addition entry) ≡ true
space_ranged true entry = refl
space_ranged false entry = number_in_range 0 3 entry

line_passes : (card : List ℕ) → output_in_range (LineCard (output_card card)) ≡ true
unfolding output_card spacing_of
line_passes card =
    both (both (both (both (space_ranged (is_addition card) (columns card output.SPACE_BEFORE)) (space_ranged (is_addition card) (columns card output.SPACE_AFTER)))
    (number_in_range 1 66 (columns card output.SKIP_BEFORE))) (number_in_range 1 66 (columns card output.SKIP_AFTER)))
    (conditions_pass (columns card output.INDICATOR_1) (columns card output.INDICATOR_2) (columns card output.INDICATOR_3))

conditions_of_line : (card : List ℕ) → conditions_in_range (three_conditions card) ≡ true
conditions_of_line card = conditions_pass (columns card output.INDICATOR_1) (columns card output.INDICATOR_2) (columns card output.INDICATOR_3)

constant_fits : (entry : List ℕ) (t : Option (List ℕ)) (o : Option ℕ) → constant_text entry ≡ t → length entry ≤ 26 → is_some t ≡ true
    → begins_too_early o t ≡ false → is_some (only (is_between 1 9999) o) ≡ true
    → (is_between 1 24 (length (unwrap_or t [])) && nat_le (length (unwrap_or t [])) (unwrap_or (only (is_between 1 9999) o) 1)) ≡ true
constant_fits entry None o e short some early known = absurd cc
constant_fits entry (Some text) None e short some early known = absurd cc
constant_fits entry (Some text) (Some n) e short some early known = elim (cases_Bool (is_between 1 9999 n)) [
  | inl good ↦ (let size = text_length entry text e in rw good (both (between 1 24 (length text) size.0 (omega (arith, size.1, short))) (not_less n (length text) early)))
  | inr bad ↦ absurd (let f = rw bad at known in cc)
]
  where
    not_less : (a b : ℕ) → nat_lt a b ≡ false → nat_le b a ≡ true
    not_less a b e = grind (arith, nat_tests)

content_ranged : (blank : Bool) (text : List ℕ) (field : FieldOutput Name) (at : ℕ)
    → (blank ≡ true → (is_between 1 24 (length text) && nat_le (length text) at) ≡ true)
    → content_in_range (if blank then ConstantContent (constant text) else FieldContent field) at ≡ true
content_ranged true text field at fits = fits refl
content_ranged false text field at fits = refl

text_given : (blank empty some : Bool) → (blank && empty) ≡ false → (empty || some) ≡ true → blank ≡ true → some ≡ true
text_given true true some content given is = absurd cc
text_given true false some content given is = given
text_given false empty some content given is = absurd cc

put_passes : (card : List ℕ) → has_no_content card ≡ false → has_early_constant card ≡ false
    → (are_blank (columns card output.CONSTANT) || is_some (constant_text (columns card output.CONSTANT))) ≡ true
    → is_some (number_between 1 9999 (columns card output.END_POSITION)) ≡ true → output_in_range (OutputFieldCard (output_field card)) ≡ true
unfolding output_field has_early_constant number_between
put_passes card content early text known =
    let entry : List ℕ = columns card output.CONSTANT in
    let at : Option ℕ = number_of (columns card output.END_POSITION) in
    let short : length entry ≤ 26 = omega (arith, length-take 26 (drop 44 card)) in
    both (both (conditions_of_line card) (from_one (only (is_between 1 9999) at) (only_passes (is_between 1 9999) at)))
    (content_ranged (are_blank (columns card output.FIELD_NAME)) (unwrap_or (constant_text entry) []) _ (unwrap_or (only (is_between 1 9999) at) 1)
    (λ blank. constant_fits entry (constant_text entry) at refl short
    (text_given (are_blank (columns card output.FIELD_NAME)) (are_blank entry) (is_some (constant_text entry)) content text blank) early known))

-- ---- all specifications
pub record NoFaults (faults : Faults) : Type 0 where
  pub entry : faults.entry ≡ false
  pub name : faults.name ≡ false
  pub number : faults.number ≡ false

pub none_at : {X : Type 0} (test : X → Bool) (xs : List X) (i : ℕ) (d : X) → list_any test xs ≡ false → i < length xs → test (get_or xs i d) ≡ false
none_at test xs i d none in' = elim (cases_Bool (test (get_or xs i d))) [
  | inl good ↦ absurd (let e = list_any_at test xs i d in' good in cc)
  | inr bad ↦ bad
]

name_allowed : (b : Bool) → (if b then no_faults else one_fault WrongName).name ≡ false → b ≡ true
name_allowed true e = refl
name_allowed false e = absurd cc

pub number_allowed : (b : Bool) → (if b then no_faults else one_fault WrongNumber).number ≡ false → b ≡ true
number_allowed true e = refl
number_allowed false e = absurd cc

abbrev pub are_in_range : List Line → Bool
are_in_range lines = list_all (λ line. in_range line.sheet) lines

put_line_passes : (card : List ℕ) → NoFaults (broken_by output_field_rules card) → NoFaults (combined_faults OutputField card)
    → output_in_range (OutputFieldCard (output_field card)) ≡ true
unfolding output_field_rules rule_faults
put_line_passes card broken combined =
    put_passes card combined.name combined.number
    (name_allowed _ (none_at (λ rule. (rule_faults card rule).name) output_field_rules 9 (blank 1 1) broken.name (lit< tt)))
    (number_allowed _ (none_at (λ rule. (rule_faults card rule).number) output_field_rules 7 (blank 1 1) broken.number (lit< tt)))

file_named : (card : List ℕ) → (broken_by file_rules card).name ≡ false → is_name (columns card shared.FILENAME) ≡ true
unfolding file_rules rule_faults
file_named card broken = name_allowed _ (none_at (λ rule. (rule_faults card rule).name) file_rules 0 (blank 1 1) broken (lit< tt))

kind_passes : (kind : CardKind) (card : List ℕ) (number : ℕ) → NoFaults (broken_by (rules_of kind) card) → NoFaults (combined_faults kind card)
    → are_in_range (option_to_list (line_at number (sheet_line kind card))) ≡ true
unfolding in_range
kind_passes Comment card number broken combined = refl
kind_passes Unknown card number broken combined = refl
kind_passes Header card number broken combined = refl
kind_passes File card number broken combined = both (file_passes card (file_named card broken.name) combined.entry combined.number) refl
kind_passes Record card number broken combined =
    both (both (record_indicator_passes (columns card input.RECORD_INDICATOR)) (codes_pass (columns card input.CODE_1) (columns card input.CODE_2) (columns card input.CODE_3))) refl
kind_passes RecordAnd card number broken combined = both (codes_pass (columns card input.CODE_1) (columns card input.CODE_2) (columns card input.CODE_3)) refl
kind_passes RecordOr card number broken combined =
    both (both (record_indicator_passes (columns card input.RECORD_INDICATOR)) (codes_pass (columns card input.CODE_1) (columns card input.CODE_2) (columns card input.CODE_3))) refl
kind_passes Field card number broken combined = both (field_passes card combined.number) refl
kind_passes Calculation card number broken combined = both (calculation_passes card combined.number) refl
kind_passes OutputLine card number broken combined = both (line_passes card) refl
kind_passes OutputAnd card number broken combined = both (conditions_of_line card) refl
kind_passes OutputOr card number broken combined = both (conditions_of_line card) refl
kind_passes OutputField card number broken combined = both (put_line_passes card broken combined) refl

pub card_passes : (card : List ℕ) (number : ℕ) → has_fault (faults_of card) ≡ false → are_in_range (option_to_list (line_of number card)) ≡ true
unfolding faults_of line_of
card_passes card number free =
    let b : Faults = broken_by (rules_of (kind_of card)) card in
    let c : Faults = combined_faults (kind_of card) card in
    let two = neither ((b.entry || c.entry) || (b.name || c.name)) (b.number || c.number) free in
    let one = neither (b.entry || c.entry) (b.name || c.name) two.0 in
    let e = neither b.entry c.entry one.0 in
    let n = neither b.name c.name one.1 in
    let k = neither b.number c.number two.1 in
    kind_passes (kind_of card) card number (record { entry = e.0; name = n.0; number = k.0 }) (record { entry = e.1; name = n.1; number = k.1 })
