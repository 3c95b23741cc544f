-- The lines of an accepted source are right: what has a diagnostic is left out.
use Rattle.std.proofs.Common.{◌≡◌, ℕ, suc, ◌+◌, ◌==◌, Bool, true, false, not, ◌&&◌, true≢false, List, [], ◌∷◌, ◌++◌, append_assoc, length, length-append, if◌then◌else◌, refl, sym, ◌∙◌, ap, ap₂, subst, arith}
use Rattle.std.specs.Prelude.{Option, Some, None, cond, filter, filter_map, find, is_some, map, option_map, unwrap_or}
use Rattle.std.specs.List.{AllByRecursion as Each, list_all}
use Rattle.std.specs.Map.{lookup}
use Rattle.std.specs.Option.{option_or}
use Rattle.std.proofs.lemmas.Bool.{and_parts, eqb-true, not-false, or_parts}
use Rattle.s3_lines.specs.Files.{is_by_cycle, is_chained, is_input_use, is_disk, is_card_reader, is_printer}
use Rattle.s3_cards.specs.declared.name.Name.{Name}
use Rattle.s3_cards.specs.Names.{no_name, same_name}
use Rattle.s3_cards.proofs.NameLemmas.{same_name-equal, same_name-self}
use Rattle.s3_lines.specs.declared.indicator.Indicator.{Indicator}
use Rattle.s3_lines.specs.declared.indicator.Indicator.TheVariants.{General, Level, LastRecord, Matching, Halt, FirstPage, Overflow, Switch}
use Rattle.s3_lines.specs.declared.diagnostic.Diagnostic.{Diagnostic}
use Rattle.s3_lines.specs.declared.sheet.Designation.{Designation}
use Rattle.s3_lines.specs.declared.sheet.Designation.TheVariants.{Primary, Secondary, Chained}
use Rattle.s3_lines.specs.declared.sheet.Device.{Device}
use Rattle.s3_lines.specs.declared.sheet.Device.TheVariants.{CardReader, Printer, Disk}
use Rattle.s3_lines.specs.declared.sheet.FileUse.{FileUse}
use Rattle.s3_lines.specs.declared.sheet.FileUse.TheVariants.{Input as InputUse, Output as OutputUse, Update as UpdateUse}
use Rattle.s3_lines.specs.declared.sheet.FileLine.{FileLine}
use Rattle.s3_lines.specs.declared.sheet.FieldLine.{FieldLine}
use Rattle.s3_lines.specs.declared.sheet.InputLine.{InputLine}
use Rattle.s3_lines.specs.declared.sheet.InputLine.TheVariants.{Record, And as AndCodes, Or as OrCodes, Field as FieldOfRecord}
use Rattle.s3_lines.specs.declared.sheet.Factor.{Factor}
use Rattle.s3_lines.specs.declared.sheet.Factor.TheVariants.{Named, Number, Text}
use Rattle.s3_lines.specs.declared.sheet.Operation.{Operation}
use Rattle.s3_lines.specs.declared.sheet.Operation.TheVariants as op
use Rattle.s3_lines.specs.declared.indicator.Condition.{Condition}
use Rattle.s3_lines.specs.declared.sheet.CalculationTime.{CalculationTime}
use Rattle.s3_lines.specs.declared.sheet.CalculationLine.{CalculationLine}
use Rattle.s3_lines.specs.declared.sheet.OutputCard.{OutputCard}
use Rattle.s3_lines.specs.declared.sheet.OutputLine.TheVariants.{Line as LineCard, And as AndCard, Or as OrCard, Field as FieldCard}
use Rattle.s3_lines.specs.declared.sheet.SheetLine.{SheetLine}
use Rattle.s3_lines.specs.declared.sheet.SheetLine.TheVariants as sheet
use Rattle.s3_lines.specs.declared.sheet.Line.{Line}
use Rattle.s3_lines.specs.Ranges.{if_given, is_overflow_indicator, is_record_indicator, is_resulting_indicator}
use Rattle.s3_lines.specs.Inner.Ranges.{are_read, file_in_range, in_range, input_in_range}
use Rattle.s3_sheets.specs.Lines.{lines_of}
use Rattle.s3_sheets.specs.Sheets.{diagnostic, holds, pairs, sheet_diagnostics}
use Rattle.s3_sheets.proofs.InsideLemmas.{all_read}
use Rattle.s3_meaning.specs.Names.{entries}
use Rattle.s3_meaning.specs.RecordTypes.{group_fields, types_from}
use Rattle.s3_meaning.specs.Calculations.{Calculation, calculations_from, group_conditions, group_time, name_in}
use Rattle.s3_meaning.specs.OutputLines.{outputs_from}
use Rattle.s3_meaning.specs.Source.{calculation_line, file_line, file_named, input_line, is_input, output_line, overflow_of, source_of}
use Rattle.s3_program.specs.declared.program.Kind.TheVariants as kind
use Rattle.s3_program.specs.declared.program.Meaning.{Meaning}
use Rattle.s3_program.specs.declared.program.Meaning.TheVariants as a
use Rattle.s3_program.specs.declared.row.Operand.TheVariants as operand
use Rattle.s3_program.specs.Conditions.{file_places, first_file_of, numbers}
use Rattle.s3_program.specs.FileEntries.{file_entry}
use Rattle.s3_program.specs.FileTable.{allows_output, is_addition_allowed, is_in_table, is_in_table_on}
use Rattle.s3_program.specs.Lines.{map_card, map_factor}
use Rattle.s3_program.specs.Operands.{calculation_unfit, factor_fits}
use Rattle.s3_program.specs.Redefined.{is_elsewhere}
use Rattle.s3_program.specs.Tables.{or_undefined}
use Rattle.s3_program.specs.Uses.{refuses_line}
use Rattle.s3_diagnose.specs.declared.standing.Standing.{Standing}
use Rattle.s3_diagnose.specs.Known.{Meanings, behind, first_standing, meant_calculation, meant_line}
use Rattle.s3_diagnose.specs.Lookups.{Known, known_of, meanings_of, tables_given}
use Rattle.s3_diagnose.specs.Diagnostics.{compile_diagnostics, diagnostic_of, diagnostics_from, found_on, has_one_primary, line_holds, placed, precedes}
use Rattle.s3_job_files.proofs.Putting.{differ_sym}
use Rattle.s3_solo.specs.Serving.{diagnostics_of, first_else}
use Rattle.s3_time.proofs.Elements.{each_both, each_other, each_taken, found_one}
use Rattle.s3_time.proofs.Requested.{FitsFile, FitsLine, IsRight, PutsOut}
use Rattle.s3_time.proofs.Switches.{NoSwitch, SetsNone, is_no_switch}

-- ---- names
symmetric : (a b : Name) → same_name a b ≡ same_name b a
symmetric a b = by (same_name a b) refl
  where
    by : (r : Bool) → same_name a b ≡ r → same_name a b ≡ same_name b a
    by true is = is ∙ sym (ap (same_name b) (same_name-equal a b is) ∙ same_name-self b)
    by false is = is ∙ sym (differ_sym a b is)

found_same : (name : Name) (files : List FileLine) → lookup (same_name name) (map file_entry files) ≡ find (λ (file : FileLine). same_name file.name name) files
found_same name [] = refl
found_same name (file ∷ files) = ap₂ (λ (b : Bool) (o : Option FileLine). cond b (Some file) o) (symmetric name file.name) (found_same name files)

-- what a file's name means
file_meaning : (lines : List Line) (name : Name) → meanings_of lines kind.File name ≡ or_undefined (λ (file : FileLine). a.File file) (file_named (source_of lines) name)
unfolding tables_given
file_meaning lines name = ap (or_undefined (λ (file : FileLine). a.File file)) (found_same name (filter_map file_line lines))

-- ---- entries in range
each_of_all : {X : Type 0} (test : X → Bool) (xs : List X) → list_all test xs ≡ true → Each (λ x. test x ≡ true) xs
each_of_all test [] all = tt
each_of_all test (x ∷ xs) all = let parts = and_parts (test x) (list_all test xs) all in (parts.0, each_of_all test xs parts.1)

of_records : (indicator : Indicator) → is_record_indicator indicator ≡ true → is_no_switch indicator ≡ true
of_records (General n) is = refl
of_records (Level n) is = refl
of_records LastRecord is = refl
of_records Matching is = refl
of_records (Halt n) is = refl
of_records FirstPage is = refl
of_records (Overflow n) is = refl
of_records (Switch n) is = is

of_results : (indicator : Indicator) → is_resulting_indicator indicator ≡ true → is_no_switch indicator ≡ true
of_results (General n) is = refl
of_results (Level n) is = refl
of_results LastRecord is = refl
of_results Matching is = refl
of_results (Halt n) is = refl
of_results FirstPage is = refl
of_results (Overflow n) is = refl
of_results (Switch n) is = is

given_none : (test : Indicator → Bool) (entry : Option Indicator) → ((indicator : Indicator) → test indicator ≡ true → is_no_switch indicator ≡ true) → if_given test entry ≡ true → NoSwitch entry
given_none test None go is = tt
given_none test (Some indicator) go is = go indicator is

marks_none : (test : Indicator → Bool) (indicators : List (Option Indicator)) → ((indicator : Indicator) → test indicator ≡ true → is_no_switch indicator ≡ true) → list_all (if_given test) indicators ≡ true
    → Each NoSwitch indicators
marks_none test indicators go all =
    each_other (λ (entry : Option Indicator). if_given test entry ≡ true) NoSwitch indicators (each_of_all (if_given test) indicators all) (λ entry is. given_none test entry go is)

abbrev InRange : Line → Type 0
InRange line = in_range line.sheet ≡ true

-- ---- F lines in range: named, and with an overflow indicator if with any
record RangedFile (file : FileLine) : Type 0 where
  named : same_name file.name no_name ≡ false
  overflow : NoSwitch file.overflow

ranged_file : (file : FileLine) → file_in_range file ≡ true → RangedFile file
ranged_file file is =
    let six = (and_parts _ _ is).0 in
    let name = (and_parts _ _ (and_parts _ _ (and_parts _ _ (and_parts _ _ (and_parts _ _ six).0).0).0).0).0 in
    record { named = named (same_name file.name no_name) name; overflow = by file.overflow (and_parts _ _ six).1 }
  where
    named : (b : Bool) → not b ≡ true → b ≡ false
    named true wrong = sym wrong
    named false is = refl

    by : (entry : Option Indicator) → if_given (λ indicator. is_overflow_indicator indicator && is_printer file.device) entry ≡ true → NoSwitch entry
    by None is = tt
    by (Some (General n)) is = refl
    by (Some (Level n)) is = refl
    by (Some LastRecord) is = refl
    by (Some Matching) is = refl
    by (Some (Halt n)) is = refl
    by (Some FirstPage) is = refl
    by (Some (Overflow n)) is = refl
    by (Some (Switch n)) is = is

files_ranged : (lines : List Line) → Each InRange lines → Each RangedFile (filter_map file_line lines)
unfolding in_range
files_ranged lines each = each_taken InRange RangedFile file_line lines each (λ line file is taken. by line.sheet file is taken)
  where
    by : (one : SheetLine) (file : FileLine) → in_range one ≡ true → file_line (record { card = 0; sheet = one }) ≡ Some file → RangedFile file
    by (sheet.File line) file is taken = let same : line ≡ file = cc in subst RangedFile same (ranged_file line is)
    by (sheet.Header name) file is taken = absurd cc
    by (sheet.Input line) file is taken = absurd cc
    by (sheet.Calculation line) file is taken = absurd cc
    by (sheet.Output line) file is taken = absurd cc

overflow_none : (files : List FileLine) → Each RangedFile files → NoSwitch (overflow_of files)
overflow_none [] each = tt
overflow_none (file ∷ files) each = by file.overflow each.0.overflow (overflow_none files each.1)
  where
    by : (o : Option Indicator) → NoSwitch o → NoSwitch (overflow_of files) → NoSwitch (option_or o (overflow_of files))
    by None clear later = later
    by (Some indicator) clear later = clear

-- ---- I lines in range
abbrev InputRanged : InputLine Name → Type 0
InputRanged line = input_in_range line ≡ true

inputs_ranged : (lines : List Line) → Each InRange lines → Each InputRanged (filter_map input_line lines)
unfolding in_range
inputs_ranged lines each = each_taken InRange InputRanged input_line lines each (λ line input is taken. by line.sheet input is taken)
  where
    by : (one : SheetLine) (input : InputLine Name) → in_range one ≡ true → input_line (record { card = 0; sheet = one }) ≡ Some input → InputRanged input
    by (sheet.Input line) input is taken = let same : line ≡ input = cc in subst InputRanged same is
    by (sheet.Header name) input is taken = absurd cc
    by (sheet.File line) input is taken = absurd cc
    by (sheet.Calculation line) input is taken = absurd cc
    by (sheet.Output line) input is taken = absurd cc

abbrev FieldSetsNone : FieldLine Name → Type 0
FieldSetsNone field = Each NoSwitch field.indicators

fields_none : (lines : List (InputLine Name)) → Each InputRanged lines → Each FieldSetsNone (group_fields lines)
fields_none [] each = tt
fields_none (Record file indicator codes ∷ lines) each = tt
fields_none (AndCodes codes ∷ lines) each = fields_none lines each.1
fields_none (OrCodes indicator codes ∷ lines) each = fields_none lines each.1
fields_none (FieldOfRecord field ∷ lines) each = (marks_none is_record_indicator field.indicators of_records (and_parts _ _ each.0).1, fields_none lines each.1)

types_none : (file : Name) (lines : List (InputLine Name)) → Each InputRanged lines → Each SetsNone (types_from file lines)
types_none file [] each = tt
types_none file (Record next indicator codes ∷ lines) each =
    (record { itself = of_records indicator (and_parts _ _ each.0).0; fields = fields_none lines each.1 }, types_none next lines each.1)
types_none file (AndCodes codes ∷ lines) each = types_none file lines each.1
types_none file (OrCodes indicator codes ∷ lines) each =
    (record { itself = of_records indicator (and_parts _ _ each.0).0; fields = fields_none lines each.1 }, types_none file lines each.1)
types_none file (FieldOfRecord field ∷ lines) each = types_none file lines each.1

-- ---- C lines in range
abbrev MarksNone : CalculationLine Name → Type 0
MarksNone line = Each NoSwitch line.indicators

calculations_ranged : (lines : List Line) → Each InRange lines → Each MarksNone (filter_map calculation_line lines)
unfolding in_range
calculations_ranged lines each = each_taken InRange MarksNone calculation_line lines each (λ line calculation is taken. by line.sheet calculation is taken)
  where
    by : (one : SheetLine) (calculation : CalculationLine Name) → in_range one ≡ true → calculation_line (record { card = 0; sheet = one }) ≡ Some calculation → MarksNone calculation
    by (sheet.Calculation line) calculation is taken =
        let same : line ≡ calculation = cc in subst MarksNone same (marks_none is_resulting_indicator line.indicators of_results (and_parts _ _ is).1)
    by (sheet.Header name) calculation is taken = absurd cc
    by (sheet.File line) calculation is taken = absurd cc
    by (sheet.Input line) calculation is taken = absurd cc
    by (sheet.Output line) calculation is taken = absurd cc

-- ---- conditions that don't hold
none_mapped : {A B : Type 0} (f : A → B) (xs : List A) → map f xs ≡ [] → xs ≡ []
none_mapped f [] none = refl
none_mapped f (x ∷ xs) none = absurd cc

none_joined : {A : Type 0} (xs ys : List A) → xs ++ ys ≡ [] → (xs ≡ []) × (ys ≡ [])
none_joined [] ys none = (refl, none)
none_joined (x ∷ xs) ys none = absurd cc

none_kept : (test : ℕ → Bool) (xs : List ℕ) → filter test xs ≡ [] → Each (λ n. test n ≡ false) xs
none_kept test [] none = tt
none_kept test (x ∷ xs) none = by (test x) refl none (none_kept test xs)
  where
    by : (b : Bool) → test x ≡ b → cond b (x ∷ filter test xs) (filter test xs) ≡ [] → (filter test xs ≡ [] → Each (λ n. test n ≡ false) xs) → (test x ≡ false) × Each (λ n. test n ≡ false) xs
    by true is none later = absurd cc
    by false is none later = (is, later none)

-- no condition of a line holds
abbrev IsOff : (ℕ → Bool) → Type 0
IsOff holds = Each (λ n. holds n ≡ false) numbers

record Off (known : Known) (at : Standing) (line : Line) (lines : List Line) : Type 0 where
  here : IsOff (line_holds known at lines (meant_line known.meanings line.sheet))
  later : diagnostics_from known (behind at (meant_line known.meanings line.sheet)) lines ≡ []

off : (known : Known) (at : Standing) (line : Line) (lines : List Line) → diagnostics_from known at (line ∷ lines) ≡ [] → Off known at line lines
off known at line lines none =
    let parts = none_joined (found_on known at lines line.card (meant_line known.meanings line.sheet) numbers) (diagnostics_from known (behind at (meant_line known.meanings line.sheet)) lines) none in
    record {
      here = none_kept (line_holds known at lines (meant_line known.meanings line.sheet)) numbers
          (none_mapped (diagnostic_of line.card) (filter (line_holds known at lines (meant_line known.meanings line.sheet)) numbers) parts.0);
      later = parts.1;
    }

-- ---- F lines: each is in the table of files, and the first of its name
record Tabled (all : List FileLine) (file : FileLine) : Type 0 where
  tabled : is_in_table file ≡ true
  first : find (λ (other : FileLine). same_name other.name file.name) all ≡ Some file

first_at : (name : Name) (start : ℕ) (before rest : List FileLine) (file : FileLine) → file.name ≡ name → is_elsewhere (start + length before) (lookup (same_name name) (file_places start (before ++ file ∷ rest))) ≡ false
    → find (λ (other : FileLine). same_name other.name name) (before ++ file ∷ rest) ≡ Some file
first_at name start [] rest file named here =
    ap (λ (b : Bool). cond b (Some file) (find (λ (other : FileLine). same_name other.name name) rest)) (ap (λ (n : Name). same_name n name) named ∙ same_name-self name)
first_at name start (other ∷ before) rest file named here = by (same_name name other.name) refl here (first_at name (start + 1) before rest file named)
  where
    found : Option ℕ
    found = lookup (same_name name) (file_places (start + 1) (before ++ file ∷ rest))

    by : (b : Bool) → same_name name other.name ≡ b → is_elsewhere (start + suc (length before)) (cond b (Some start) found) ≡ false
        → (is_elsewhere (start + 1 + length before) found ≡ false → find (λ (one : FileLine). same_name one.name name) (before ++ file ∷ rest) ≡ Some file)
        → find (λ (one : FileLine). same_name one.name name) (other ∷ before ++ file ∷ rest) ≡ Some file
    by true same here later = let wrong : start ≡ start + suc (length before) = eqb-true start (start + suc (length before)) (not-false (start == start + suc (length before)) here) in absurd (omega (arith, wrong))
    by false differs here later =
        let at : start + suc (length before) ≡ start + 1 + length before = omega arith in
        ap (λ (b : Bool). cond b (Some other) (find (λ (one : FileLine). same_name one.name name) (before ++ file ∷ rest))) (symmetric other.name name ∙ differs)
        ∙ later (subst (λ (n : ℕ). is_elsewhere n found ≡ false) at here)

file_tabled : (known : Known) (at : Standing) (file : FileLine) (lines : List Line) (all before : List FileLine) → known.first_file ≡ first_file_of all → all ≡ before ++ file ∷ filter_map file_line lines
    → at.files.place ≡ length before → IsOff (line_holds known at lines (meant_line known.meanings (sheet.File file))) → Tabled all file
file_tabled known at file lines all before is whole place clear = record {
  tabled = not-false (is_in_table file) (or_parts _ _ (or_parts _ _ clear.1.1.1.1.1.1.1.0).0).0;
  first =
      let rest = filter_map file_line lines in
      let one : is_elsewhere at.files.place (first_file_of all file.name) ≡ false = subst (λ (f : Name → Option ℕ). is_elsewhere at.files.place (f file.name) ≡ false) is clear.1.0 in
      let two : is_elsewhere (length before) (first_file_of all file.name) ≡ false = subst (λ (n : ℕ). is_elsewhere n (first_file_of all file.name) ≡ false) place one in
      let three : is_elsewhere (length before) (first_file_of (before ++ file ∷ rest) file.name) ≡ false =
      subst (λ (fs : List FileLine). is_elsewhere (length before) (first_file_of fs file.name) ≡ false) whole two in
      let from_first : length before ≡ 0 + length before = omega arith in
      let four : is_elsewhere (0 + length before) (first_file_of (before ++ file ∷ rest) file.name) ≡ false =
      subst (λ (n : ℕ). is_elsewhere n (first_file_of (before ++ file ∷ rest) file.name) ≡ false) from_first three in
      ap (find (λ (other : FileLine). same_name other.name file.name)) whole ∙ first_at file.name 0 before rest file refl four;
}

files_tabled : (known : Known) (at : Standing) (lines : List Line) (all before : List FileLine) → known.first_file ≡ first_file_of all → all ≡ before ++ filter_map file_line lines → at.files.place ≡ length before
    → diagnostics_from known at lines ≡ [] → Each (Tabled all) (filter_map file_line lines)
files_tabled known at [] all before is whole place none = tt
files_tabled known at (line ∷ lines) all before is whole place none =
    let clear = off known at line lines none in
    step line.card line.sheet whole clear.here (λ before' whole' place'. files_tabled known (behind at (meant_line known.meanings line.sheet)) lines all before' is whole' place' clear.later)
  where
    step : (card : ℕ) (one : SheetLine) → all ≡ before ++ filter_map file_line (record { card = card; sheet = one } ∷ lines) → IsOff (line_holds known at lines (meant_line known.meanings one))
        → ((before' : List FileLine) → all ≡ before' ++ filter_map file_line lines → (behind at (meant_line known.meanings one)).files.place ≡ length before' → Each (Tabled all) (filter_map file_line lines))
        → Each (Tabled all) (filter_map file_line (record { card = card; sheet = one } ∷ lines))
    step card (sheet.File file) whole clear later =
        let size : length (before ++ file ∷ []) ≡ length before + 1 = length-append before (file ∷ []) in
        (file_tabled known at file lines all before is whole place clear, later (before ++ file ∷ []) (whole ∙ sym (append_assoc before (file ∷ []) (filter_map file_line lines))) (omega (arith, size, place)))
    step card (sheet.Header name) whole clear later = later before whole place
    step card (sheet.Input input) whole clear later = later before whole place
    step card (sheet.Calculation calculation) whole clear later = later before whole place
    step card (sheet.Output output) whole clear later = later before whole place

-- ---- devices
on_disk : (device : Device) → (device ≡ CardReader → ⊥) → (device ≡ Printer → ⊥) → is_disk device ≡ true
on_disk Disk cards prints = refl
on_disk CardReader cards prints = absurd (cards refl)
on_disk Printer cards prints = absurd (prints refl)

not_both : (designation : Option Designation) → is_by_cycle designation ≡ true → is_chained designation ≡ true → ⊥
not_both None one other = true≢false (sym one)
not_both (Some Primary) one other = true≢false (sym other)
not_both (Some Secondary) one other = true≢false (sym other)
not_both (Some Chained) one other = true≢false (sym one)

not_none : (designation : Option Designation) → not (is_some designation) ≡ true → is_chained designation ≡ true → ⊥
not_none None one other = true≢false (sym other)
not_none (Some one) none other = true≢false (sym none)

tabled_on : (file : FileLine) (device : Device) → file.device ≡ device → is_in_table file ≡ true → is_in_table_on device file ≡ true
tabled_on file device is tabled = subst (λ (d : Device). is_in_table_on d file ≡ true) is tabled

-- a chained file of the table
chained_on_disk : (file : FileLine) → is_in_table file ≡ true → is_chained file.designation ≡ true → is_disk file.device ≡ true
chained_on_disk file tabled chained =
    on_disk file.device
    (λ is. not_both file.designation (and_parts _ _ (and_parts _ _ (tabled_on file CardReader is tabled)).0).1 chained)
    (λ is. not_none file.designation (and_parts _ _ (and_parts _ _ (tabled_on file Printer is tabled)).0).1 chained)

-- one that the cycle reads
read_on_disk : (file : FileLine) → is_in_table file ≡ true → is_input file ≡ true → is_card_reader file.device ≡ false → is_disk file.device ≡ true
read_on_disk file tabled input no_cards =
    on_disk file.device (λ is. true≢false (sym (ap is_card_reader is) ∙ no_cards))
    (λ is. by file.designation refl (and_parts _ _ (and_parts _ _ (tabled_on file Printer is tabled)).0).1)
  where
    by : (designation : Option Designation) → file.designation ≡ designation → not (is_some file.designation) ≡ true → ⊥
    by None is none = true≢false (sym (subst (λ (d : Option Designation). is_input (record file { designation = d }) ≡ true) is input))
    by (Some one) is none = true≢false (sym (ap (λ (d : Option Designation). not (is_some d)) (sym is) ∙ none))

-- one to which records are put out
put_on_disk : (file : FileLine) (is_addition : Bool) → is_in_table file ≡ true → allows_output file is_addition ≡ true → is_printer file.device ≡ false → is_disk file.device ≡ true
put_on_disk file is_addition tabled allows no_printer =
    on_disk file.device
    (λ is.
    let cards = and_parts _ _ (tabled_on file CardReader is tabled) in
    by file.usage file.has_additions (and_parts _ _ cards.0).0 (and_parts _ _ cards.1).1
    (subst (λ (b : Bool). (if b then is_addition_allowed file.usage file.has_additions is_addition else not (is_input_use file.usage)) ≡ true) tabled allows))
    (λ is. true≢false (sym (ap is_printer is) ∙ no_printer))
  where
    by : (usage : FileUse) (has_additions : Bool) → is_input_use usage ≡ true → not has_additions ≡ true → is_addition_allowed usage has_additions is_addition ≡ true → ⊥
    by InputUse false input none allows = true≢false (sym allows)
    by InputUse true input none allows = true≢false (sym none)
    by OutputUse has_additions input none allows = true≢false (sym input)
    by UpdateUse has_additions input none allows = true≢false (sym input)

-- ---- C lines: CHAIN has a chained file
abbrev IsFit : Meanings → CalculationLine Name → Type 0
IsFit meanings line = (is_cut : Bool) × (calculation_unfit is_cut (meant_calculation meanings line) ≡ false)

calculations_fit : (known : Known) (at : Standing) (lines : List Line) → diagnostics_from known at lines ≡ [] → Each (IsFit known.meanings) (filter_map calculation_line lines)
calculations_fit known at [] none = tt
calculations_fit known at (line ∷ lines) none =
    let clear = off known at line lines none in
    step line.card line.sheet clear.here (calculations_fit known (behind at (meant_line known.meanings line.sheet)) lines clear.later)
  where
    step : (card : ℕ) (one : SheetLine) → IsOff (line_holds known at lines (meant_line known.meanings one)) → Each (IsFit known.meanings) (filter_map calculation_line lines)
        → Each (IsFit known.meanings) (filter_map calculation_line (record { card = card; sheet = one } ∷ lines))
    step card (sheet.Calculation calculation) clear later = ((_, clear.1.1.1.0), later)
    step card (sheet.Header name) clear later = later
    step card (sheet.File file) clear later = later
    step card (sheet.Input input) clear later = later
    step card (sheet.Output output) clear later = later

chain_fits : (meanings : Meanings) (line : CalculationLine Name) (is_cut : Bool) → line.operation ≡ Some op.Chain → calculation_unfit is_cut (meant_calculation meanings line) ≡ false
    → factor_fits operand.ChainedFile (option_map (map_factor (meanings kind.File)) line.factor2) ≡ true
chain_fits meanings line is_cut is fit =
    let at : calculation_unfit is_cut (meant_calculation meanings (record line { operation = Some op.Chain })) ≡ false =
    subst (λ (o : Option Operation). calculation_unfit is_cut (meant_calculation meanings (record line { operation = o })) ≡ false) is fit in
    let whole = not-false _ at in
    (and_parts _ _ (and_parts _ _ (and_parts _ _ (and_parts _ _ (and_parts _ _ (and_parts _ _ whole).0).0).0).0).0).1

module _ (lines : List Line) (tabled : Each (Tabled (filter_map file_line lines)) (filter_map file_line lines)) (ranged : Each RangedFile (filter_map file_line lines)) where
  in_table : (name : Name) (file : FileLine) → file_named (source_of lines) name ≡ Some file → is_in_table file ≡ true
  in_table name file is = (found_one (Tabled (filter_map file_line lines)) (λ (other : FileLine). same_name other.name name) (filter_map file_line lines) file tabled is).0.tabled

  chained_disk : (factor2 : Option (Factor Name)) (file : FileLine) → factor_fits operand.ChainedFile (option_map (map_factor (meanings_of lines kind.File)) factor2) ≡ true
      → file_named (source_of lines) (name_in factor2) ≡ Some file → is_disk file.device ≡ true
  chained_disk None file fits is = absurd (true≢false (sym fits))
  chained_disk (Some (Number literal)) file fits is = absurd (true≢false (sym fits))
  chained_disk (Some (Text literal)) file fits is = absurd (true≢false (sym fits))
  chained_disk (Some (Named name)) file fits is =
      let means : meanings_of lines kind.File name ≡ a.File file = file_meaning lines name ∙ ap (or_undefined (λ (one : FileLine). a.File one)) is in
      chained_on_disk file (in_table name file is) (subst (λ (m : Meaning). factor_fits operand.ChainedFile (Some (Named m)) ≡ true) means fits)

  fits_line : (line : CalculationLine Name) → MarksNone line → IsFit (meanings_of lines) line → (c : Calculation) → c.line ≡ line → FitsLine (source_of lines) c
  fits_line line marks fit c same = subst (λ (l : CalculationLine Name). FitsLine (source_of lines) (record c { line = l })) (sym same) (record {
    marks = marks;
    chains = λ file is named. chained_disk line.factor2 file (chain_fits (meanings_of lines) line fit.0 is fit.1) named;
  })

  abbrev Both : CalculationLine Name → Type 0
  Both line = MarksNone line × IsFit (meanings_of lines) line

  each_calculation : (time : CalculationTime) (groups : List (List Condition)) (cs : List (CalculationLine Name)) → Each Both cs → Each (FitsLine (source_of lines)) (calculations_from time groups cs)
  each_calculation time groups [] each = tt
  each_calculation time groups (line ∷ cs) each = by (is_some line.operation) (λ time' groups'. each_calculation time' groups' cs each.1)
    where
      own : CalculationTime
      own = group_time time line.time

      conditions : List (List Condition)
      conditions = group_conditions groups line.time (entries line.conditions)

      by : (whole : Bool) → ((time' : CalculationTime) (groups' : List (List Condition)) → Each (FitsLine (source_of lines)) (calculations_from time' groups' cs))
          → Each (FitsLine (source_of lines)) (if whole then record { time = own; groups = conditions; line = line } ∷ calculations_from own (if whole then [] else conditions) cs
          else calculations_from own (if whole then [] else conditions) cs)
      by true later = (fits_line line each.0.0 each.0.1 (record { time = own; groups = conditions; line = line }) refl, later own [])
      by false later = later own conditions

  -- ---- O lines
  -- the entry of the file that a line goes on with
  abbrev Follows : Option Meaning → Name → Type 0
  Follows None last = last ≡ no_name
  Follows (Some meaning) last = meaning ≡ meanings_of lines kind.File last

  follows_on : (entry : Option Name) (at : Option Meaning) (last : Name) → Follows at last → Follows (option_or (option_map (meanings_of lines kind.File) entry) at) (unwrap_or entry last)
  follows_on None at last follows = follows
  follows_on (Some name) at last follows = refl

  puts_out : (card : OutputCard Meaning) (entry : Option Meaning) (name : Name) → Follows entry name → refuses_line card entry ≡ false → (file : FileLine) → file_named (source_of lines) name ≡ Some file
      → is_printer file.device ≡ false → is_disk file.device ≡ true
  puts_out card None name follows fits file is no_printer =
      let found = found_one RangedFile (λ (other : FileLine). same_name other.name name) (filter_map file_line lines) file ranged is in
      absurd (true≢false (sym found.1 ∙ ap (same_name file.name) follows ∙ found.0.named))
  puts_out card (Some meaning) name follows fits file is no_printer =
      let means : meaning ≡ a.File file = follows ∙ file_meaning lines name ∙ ap (or_undefined (λ (one : FileLine). a.File one)) is in
      let at : refuses_line card (Some (a.File file)) ≡ false = subst (λ (m : Meaning). refuses_line card (Some m) ≡ false) means fits in
      put_on_disk file card.is_addition (in_table name file is) (not-false _ (or_parts _ _ at).0) no_printer

  outputs_put : (known : Known) (at : Standing) (some : List Line) (last : Name) → known.meanings ≡ meanings_of lines → Follows at.outputs.file last → diagnostics_from known at some ≡ []
      → Each (PutsOut (source_of lines)) (outputs_from last (filter_map output_line some))
  outputs_put known at [] last same follows none = tt
  outputs_put known at (line ∷ some) last same follows none =
      let clear = off known at line some none in
      step line.card line.sheet clear.here (λ next follows'. outputs_put known (behind at (meant_line known.meanings line.sheet)) some next same follows' clear.later)
    where
      step : (card : ℕ) (one : SheetLine) → IsOff (line_holds known at some (meant_line known.meanings one))
          → ((next : Name) → Follows (behind at (meant_line known.meanings one)).outputs.file next → Each (PutsOut (source_of lines)) (outputs_from next (filter_map output_line some)))
          → Each (PutsOut (source_of lines)) (outputs_from last (filter_map output_line (record { card = card; sheet = one } ∷ some)))
      step card (sheet.Output (LineCard output)) clear later =
          let entry : Option Meaning = option_or (option_map (known.meanings kind.File) output.file) at.outputs.file in
          let name : Name = unwrap_or output.file last in
          let follows' : Follows entry name =
          subst (λ (meanings : Meanings). Follows (option_or (option_map (meanings kind.File) output.file) at.outputs.file) name) (sym same) (follows_on output.file at.outputs.file last follows) in
          (puts_out (map_card (known.meanings kind.File) output) entry name follows' clear.1.1.1.1.1.1.1.0, later name follows')
      step card (sheet.Output (AndCard conditions)) clear later = later last follows
      step card (sheet.Output (OrCard conditions)) clear later = later last follows
      step card (sheet.Output (FieldCard field)) clear later = later last follows
      step card (sheet.Header name) clear later = later last follows
      step card (sheet.File file) clear later = later last follows
      step card (sheet.Input input) clear later = later last follows
      step card (sheet.Calculation calculation) clear later = later last follows

-- ---- the whole
first_none : (xs ys : List Diagnostic) → first_else xs ys ≡ [] → (xs ≡ []) × (ys ≡ [])
first_none [] ys none = (refl, none)
first_none (x ∷ xs) ys none = absurd cc

placed_none : (one : Bool) (found : List Diagnostic) (other : Diagnostic) → (if one then found else placed found other) ≡ [] → found ≡ []
placed_none true found other none = none
placed_none false found other none =
    let rest = none_joined (filter (λ (d : Diagnostic). precedes d other) found) (other ∷ filter (λ (d : Diagnostic). precedes other d) found) none in
    absurd (nothing (filter (λ (d : Diagnostic). precedes other d) found) rest.1)
  where
    nothing : (later : List Diagnostic) → other ∷ later ≡ [] → ⊥
    nothing later wrong = cc

lines_none : (run_card : ℕ) (lines : List Line) → compile_diagnostics run_card lines ≡ [] → diagnostics_from (known_of lines) first_standing lines ≡ []
unfolding compile_diagnostics
lines_none run_card lines none = placed_none (has_one_primary lines) (diagnostics_from (known_of lines) first_standing lines) (diagnostic_of run_card 12) none

lines_ranged : (from : ℕ) (cards : List (List ℕ)) → sheet_diagnostics from cards ≡ [] → Each InRange (lines_of from cards)
unfolding sheet_diagnostics lines_of are_read
lines_ranged from cards none =
    let read : are_read (lines_of from cards) ≡ true = all_read from cards (length cards) (omega arith) (none_mapped (diagnostic from) (filter (holds cards) (pairs (length cards))) none) in
    each_of_all (λ (line : Line). in_range line.sheet) (lines_of from cards) (and_parts _ _ (and_parts _ _ read).0).1

right_lines : (lines : List Line) → Each InRange lines → diagnostics_from (known_of lines) first_standing lines ≡ [] → IsRight (source_of lines)
right_lines lines range none =
    let tabled : Each (Tabled (filter_map file_line lines)) (filter_map file_line lines) = files_tabled (known_of lines) first_standing lines (filter_map file_line lines) [] refl refl refl none in
    let ranged : Each RangedFile (filter_map file_line lines) = files_ranged lines range in
    record {
      files = each_other (Tabled (filter_map file_line lines)) (FitsFile (source_of lines)) (filter_map file_line lines) tabled
          (λ file is. record { first = is.first; read = read_on_disk file is.tabled });
      overflow = overflow_none (filter_map file_line lines) ranged;
      types = types_none no_name (filter_map input_line lines) (inputs_ranged lines range);
      calculations = each_calculation lines tabled ranged _ [] (filter_map calculation_line lines)
          (each_both MarksNone (IsFit (meanings_of lines)) (filter_map calculation_line lines) (calculations_ranged lines range) (calculations_fit (known_of lines) first_standing lines none));
      outputs = outputs_put lines tabled ranged (known_of lines) first_standing lines no_name refl refl none;
    }

-- a source without diagnostics
pub accepted_right : (run_card from : ℕ) (cards : List (List ℕ)) → diagnostics_of run_card from cards ≡ [] → IsRight (source_of (lines_of from cards))
accepted_right run_card from cards none =
    let parts = first_none (sheet_diagnostics from cards) (compile_diagnostics run_card (lines_of from cards)) none in
    right_lines (lines_of from cards) (lines_ranged from cards parts.0) (lines_none run_card (lines_of from cards) parts.1)
