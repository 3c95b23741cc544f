-- Card by card, positions on lines of cards without a diagnostic lie within their records.
use Rattle.std.proofs.Common.{◌≡◌, ℕ, zero, suc, ◌+◌, ◌≤◌, List, [], ◌∷◌, ◌++◌, Bool, true, false, refl, sym, ◌∙◌, ap, arith, subst, inl, inr, length, lit<, append-nil}
use Rattle.std.specs.Prelude.{Option, Some, None, is_some, nat_eq, ◌&&◌, ◌||◌, filter, if◌then◌else◌}
use Rattle.std.specs.Cmp.Lexicographic.{pointwise}
use Rattle.std.specs.Map.{lookup}
use Rattle.std.specs.Option.{option_to_list, option_or}
use Rattle.std.proofs.lemmas.Bool.{cases_Bool, eqb-true}
use Rattle.std.proofs.lemmas.Bool.Decides.{nat_tests}
use Rattle.s3_cards.specs.declared.name.Name.{Name}
use Rattle.s3_cards.specs.Names.{name_of, same_name}
use Rattle.s3_entries.specs.declared.input.TheConstants as input
use Rattle.s3_entries.specs.declared.output.TheConstants as output
use Rattle.s3_entries.specs.declared.shared.TheConstants as shared
use Rattle.s3_lines.specs.Inner.Ranges.{in_order_behind, record_length_in, is_within, codes_within, all_within, are_read}
use Rattle.s3_lines.specs.declared.sheet.FileLine.{FileLine}
use Rattle.s3_lines.specs.declared.sheet.SheetLine.TheVariants as sheet
use Rattle.s3_lines.specs.declared.sheet.Line.{Line}
use Rattle.s3_sheets.specs.Columns.{are_blank, columns, number_of, number_between}
use Rattle.s3_sheets.specs.Kinds.{kind_of, is_record, is_output_line}
use Rattle.s3_sheets.specs.Lines.{card_at, sheet_line, line_at, line_of, lines_below, three_codes, file_line, field_line, output_card, output_field}
use Rattle.s3_sheets.specs.Rules.{rule_faults, broken_by}
use Rattle.s3_sheets.specs.Tables.{rules_of, field_rules, output_field_rules, blank}
use Rattle.s3_sheets.specs.Sheets.{before, faults_of, has_fault, is_at_fault, holds, pairs, exceeds, has_code_past, new_file, file_of, record_length_of, length_behind, line_length, length_for, names_position_past}
use Rattle.s3_sheets.specs.Inner.Progress.{Kept, is_misplaced_behind, is_at_fault_behind, is_outside_behind, files_with, length_named, kept_behind}
use Rattle.s3_sheets.specs.declared.kind.CardKind.{CardKind}
use Rattle.s3_sheets.specs.declared.kind.CardKind.TheVariants.{Comment, Unknown, Header, File, Record, RecordAnd, RecordOr, Field, Calculation, OutputLine, OutputAnd, OutputOr, OutputField}
use Rattle.s3_sheets.specs.Combinations.{combined_faults}
use Rattle.s3_sheets.specs.declared.faults.Faults.{Faults}
use Rattle.s3_sheets.proofs.HeldLemmas.{last_sheet, IsFree, IsHeld, before_free, all_held, kept_at, is_kept_at}
use Rattle.s3_sheets.proofs.ProgressLemmas.{IsKept, misplaced_same, outside_same, fault_same}
use Rattle.s3_sheets.proofs.LineLemmas.{NoFaults, none_at, number_allowed, neither}
use Rattle.s3_sheets.proofs.PositionLemmas.{codes_inside, position_inside, inputs_behind, outputs_behind, within_append, inputs_append, outputs_append, lengths_append, early, AreBefore}
use Rattle.s3_sheets.proofs.RangeLemmas.{both}

-- ---- names
same_codes_equal : (a b : List ℕ) → pointwise nat_eq a b ≡ true → a ≡ b
same_codes_equal [] [] e = refl
same_codes_equal [] (y ∷ ys) e = absurd cc
same_codes_equal (x ∷ xs) [] e = absurd cc
same_codes_equal (x ∷ xs) (y ∷ ys) e = elim (cases_Bool (nat_eq x y)) [
  | inl good ↦ (let f : pointwise nat_eq xs ys ≡ true = rw good at e in λ i. eqb-true x y good i ∷ same_codes_equal xs ys f i)
  | inr bad ↦ absurd (let f = rw bad at e in cc)
]

same_both_ways : (a b : List ℕ) → pointwise nat_eq a b ≡ pointwise nat_eq b a
same_both_ways [] [] = refl
same_both_ways [] (y ∷ ys) = refl
same_both_ways (x ∷ xs) [] = refl
same_both_ways (x ∷ xs) (y ∷ ys) = λ i. one x y i && same_both_ways xs ys i
  where
    one : (x y : ℕ) → nat_eq x y ≡ nat_eq y x
    one x y = grind (arith, nat_tests)

-- ---- the lengths of files
lookup_append : (test : Name → Bool) (xs ys : List (Name × ℕ)) → lookup test (xs ++ ys) ≡ option_or (lookup test xs) (lookup test ys)
lookup_append test [] ys = refl
lookup_append test (x ∷ xs) ys = elim (cases_Bool (test x.0)) [ inl good ↦ rw good refl | inr bad ↦ rw bad (lookup_append test xs ys) ]

or_none : (o : Option ℕ) → option_or o None ≡ o
or_none None = refl
or_none (Some x) = refl

is_there : (o p : Option ℕ) → is_some o ≡ true → option_or o p ≡ o
is_there None p some = absurd cc
is_there (Some x) p some = refl

file_known : (files : List (Name × ℕ)) (other name : Name) (size : ℕ) → is_some (lookup (same_name other) files) ≡ true
    → option_or (lookup (same_name name) files) (option_or (if same_name other name then Some size else None) None) ≡ lookup (same_name name) files
file_known files other name size known = elim (cases_Bool (same_name other name)) [
  | inl same ↦
      let e : other.codes ≡ name.codes = same_codes_equal other.codes name.codes same in
      let n : other ≡ name = λ i. record { codes = e i } in
      is_there (lookup (same_name name) files) _ (subst (λ (m : Name). is_some (lookup (same_name m) files) ≡ true) n known)
  | inr differs ↦ rw differs (or_none (lookup (same_name name) files))
]

file_added : (files : List (Name × ℕ)) (other name : Name) (size : ℕ)
    → option_or (lookup (same_name name) files) (option_or (if same_name other name then Some size else None) None)
    ≡ lookup (same_name name) (files ++ (other, size) ∷ [])
file_added files other name size =
    ap (option_or (lookup (same_name name) files))
    (or_none (if same_name other name then Some size else None) ∙ ap (λ b. if b then Some size else None) (same_both_ways other.codes name.codes))
    ∙ sym (lookup_append (same_name name) files ((other, size) ∷ []))

pub file_next : (files : List (Name × ℕ)) (other name : Name) (size : ℕ)
    → option_or (lookup (same_name name) files) (option_or (if same_name other name then Some size else None) None)
    ≡ lookup (same_name name) (files ++ option_to_list (new_file files (Some (other, size))))
file_next files other name size = elim (cases_Bool (is_some (record_length_of files other))) [
  | inl known ↦ rw known (file_known files other name size known ∙ ap (lookup (same_name name)) (sym (append-nil files)))
  | inr free ↦ rw free (file_added files other name size)
]

-- ---- lines and the state kept of them
pub record IsInside (lines : List Line) (files : List (Name × ℕ)) (input output : Option ℕ) : Type 0 where
  pub lengths : (name : Name) → record_length_in lines name ≡ record_length_of files name
  pub within : all_within (record_length_in lines) None None lines ≡ true
  pub inputs : inputs_behind (record_length_in lines) None lines ≡ input
  pub outputs : outputs_behind (record_length_in lines) None lines ≡ output

-- lines that define no file
plain : (lines more : List Line) (files : List (Name × ℕ)) (i o i' o' : Option ℕ) → IsInside lines files i o
    → ((name : Name) → record_length_in more name ≡ None)
    → all_within (record_length_in lines) i o more ≡ true → inputs_behind (record_length_in lines) i more ≡ i' → outputs_behind (record_length_in lines) o more ≡ o'
    → IsInside (lines ++ more) (files ++ []) i' o'
plain lines more files i o i' o' held none within inputs outputs =
    let old = record_length_in lines in
    let same : record_length_in (lines ++ more) ≡ record_length_in lines =
    λ j. λ name. (lengths_append lines more name ∙ (ap (option_or (record_length_in lines name)) (none name) ∙ or_none (record_length_in lines name))) j in
    record {
      lengths = λ name. ap (λ f. f name) same ∙ (held.lengths name ∙ ap (λ fs. record_length_of fs name) (sym (append-nil files)));
      within =
          ap (λ f. all_within f None None (lines ++ more)) same
          ∙ (within_append old None None lines more
          ∙ both held.within
          (ap (λ j. all_within old j (outputs_behind old None lines) more) held.inputs ∙ (ap (λ j. all_within old i j more) held.outputs ∙ within)));
      inputs =
          ap (λ f. inputs_behind f None (lines ++ more)) same
          ∙ (inputs_append old None lines more ∙ (ap (λ j. inputs_behind old j more) held.inputs ∙ inputs));
      outputs =
          ap (λ f. outputs_behind f None (lines ++ more)) same
          ∙ (outputs_append old None lines more ∙ (ap (λ j. outputs_behind old j more) held.outputs ∙ outputs));
    }

-- a file line, which comes before all lines with positions
filed : (lines : List Line) (number : ℕ) (file : FileLine) (files : List (Name × ℕ)) (i o : Option ℕ) → IsInside lines files i o
    → in_order_behind 0 lines ≡ true → last_sheet 0 lines ≤ 2
    → IsInside (lines ++ record { card = number; sheet = sheet.File file } ∷ []) (files ++ option_to_list (new_file files (Some (file.name, file.record_length)))) i o
unfolding all_within record_length_in
filed lines number file files i o held ordered few =
    let more : List Line = record { card = number; sheet = sheet.File file } ∷ [] in
    let new = record_length_in (lines ++ more) in
    let now : AreBefore new None None lines = early new None None 0 lines ordered few in
    let then' : AreBefore (record_length_in lines) None None lines = early (record_length_in lines) None None 0 lines ordered few in
    record {
      lengths = λ name.
          lengths_append lines more name
          ∙ (ap (λ x. option_or x (record_length_in more name)) (held.lengths name) ∙ file_next files file.name name file.record_length);
      within = within_append new None None lines more ∙ both now.within refl;
      inputs = inputs_append new None lines more ∙ (now.inputs ∙ (sym then'.inputs ∙ held.inputs));
      outputs = outputs_append new None lines more ∙ (now.outputs ∙ (sym then'.outputs ∙ held.outputs));
    }

-- ---- one more line, by its kind
abbrev input_after : CardKind → List ℕ → Kept → Option ℕ
input_after kind card kept = length_behind (is_record kind) (has_code_past card (length_named kept card)) (length_named kept card) kept.input_length

abbrev output_after : CardKind → List ℕ → Kept → Option ℕ
output_after kind card kept =
    length_behind (is_output_line kind) false (line_length (are_blank (columns card shared.FILENAME)) (length_named kept card) kept.output_length) kept.output_length

abbrev more_of : CardKind → List ℕ → ℕ → List Line
more_of kind card number = option_to_list (line_at number (sheet_line kind card))

abbrev IsInsideNext : CardKind → List ℕ → ℕ → List Line → Kept → Type 0
IsInsideNext kind card number lines kept =
    IsInside (lines ++ more_of kind card number) (kept.files ++ option_to_list (new_file kept.files (file_of kind false card))) (input_after kind card kept) (output_after kind card kept)

field_inside : (card : List ℕ) (size : Option ℕ) → NoFaults (broken_by field_rules card) → exceeds (number_of (columns card input.TO)) size ≡ false
    → is_within size (field_line card).to ≡ true
unfolding field_rules rule_faults field_line number_between
field_inside card size broken inside =
    position_inside (number_of (columns card input.TO)) size
    (number_allowed _ (none_at (λ rule. (rule_faults card rule).number) field_rules 3 (blank 1 1) broken.number (lit< tt))) inside

put_inside : (card : List ℕ) (size : Option ℕ) → NoFaults (broken_by output_field_rules card) → exceeds (number_of (columns card output.END_POSITION)) size ≡ false
    → is_within size (output_field card).«end» ≡ true
unfolding output_field_rules rule_faults output_field number_between
put_inside card size broken inside =
    position_inside (number_of (columns card output.END_POSITION)) size
    (number_allowed _ (none_at (λ rule. (rule_faults card rule).number) output_field_rules 7 (blank 1 1) broken.number (lit< tt))) inside

file_inside : (card : List ℕ) (number : ℕ) (lines : List Line) (files : List (Name × ℕ)) (i o : Option ℕ) → IsInside lines files i o
    → in_order_behind 0 lines ≡ true → last_sheet 0 lines ≤ 2
    → IsInside (lines ++ more_of File card number) (files ++ option_to_list (new_file files (file_of File false card))) i o
unfolding file_line
file_inside card number lines files i o held ordered few = filed lines number (file_line card) files i o held ordered few

not_later : (latest : ℕ) → is_misplaced_behind File latest ≡ false → latest ≤ 2
not_later latest placed = grind (arith, nat_tests)

line_outputs : (lengths : Name → Option ℕ) (o named : Option ℕ) (card : List ℕ) (number : ℕ) → lengths (name_of (columns card shared.FILENAME)) ≡ named
    → outputs_behind lengths o (more_of OutputLine card number) ≡ line_length (are_blank (columns card shared.FILENAME)) named o
unfolding output_card
line_outputs lengths o named card number e = elim (cases_Bool (are_blank (columns card shared.FILENAME))) [ inl is ↦ rw is refl | inr named' ↦ rw named' e ]

inside_next : (kind : CardKind) (card : List ℕ) (number : ℕ) (lines : List Line) (kept : Kept)
    → IsInside lines kept.files kept.input_length kept.output_length → in_order_behind 0 lines ≡ true → last_sheet 0 lines ≡ kept.latest_sheet
    → is_misplaced_behind kind kept.latest_sheet ≡ false → NoFaults (broken_by (rules_of kind) card)
    → names_position_past kind card (length_for kind (length_named kept card) kept.input_length kept.output_length) ≡ false
    → IsInsideNext kind card number lines kept
unfolding all_within record_length_in
inside_next Comment card number lines kept held ordered latest placed free inside =
    plain lines (more_of Comment card number) kept.files kept.input_length kept.output_length kept.input_length kept.output_length held (λ name. refl) refl refl refl
inside_next Unknown card number lines kept held ordered latest placed free inside = absurd cc
inside_next Header card number lines kept held ordered latest placed free inside =
    plain lines (more_of Header card number) kept.files kept.input_length kept.output_length kept.input_length kept.output_length held (λ name. refl) refl refl refl
inside_next File card number lines kept held ordered latest placed free inside =
    file_inside card number lines kept.files kept.input_length kept.output_length held ordered (omega (arith, latest, not_later kept.latest_sheet placed))
inside_next Record card number lines kept held ordered latest placed free inside =
    plain lines (more_of Record card number) kept.files kept.input_length kept.output_length (input_after Record card kept) kept.output_length held (λ name. refl)
    (both (ap (λ size. codes_within size (three_codes card)) (held.lengths (name_of (columns card shared.FILENAME))) ∙ codes_inside card (length_named kept card) inside) refl)
    (rw inside (held.lengths (name_of (columns card shared.FILENAME)))) refl
inside_next RecordAnd card number lines kept held ordered latest placed free inside =
    plain lines (more_of RecordAnd card number) kept.files kept.input_length kept.output_length kept.input_length kept.output_length held (λ name. refl)
    (both (codes_inside card kept.input_length inside) refl) refl refl
inside_next RecordOr card number lines kept held ordered latest placed free inside =
    plain lines (more_of RecordOr card number) kept.files kept.input_length kept.output_length kept.input_length kept.output_length held (λ name. refl)
    (both (codes_inside card kept.input_length inside) refl) refl refl
inside_next Field card number lines kept held ordered latest placed free inside =
    plain lines (more_of Field card number) kept.files kept.input_length kept.output_length kept.input_length kept.output_length held (λ name. refl)
    (both (field_inside card kept.input_length free inside) refl) refl refl
inside_next Calculation card number lines kept held ordered latest placed free inside =
    plain lines (more_of Calculation card number) kept.files kept.input_length kept.output_length kept.input_length kept.output_length held (λ name. refl) refl refl refl
inside_next OutputLine card number lines kept held ordered latest placed free inside =
    plain lines (more_of OutputLine card number) kept.files kept.input_length kept.output_length kept.input_length (output_after OutputLine card kept) held (λ name. refl) refl refl
    (line_outputs (record_length_in lines) kept.output_length (length_named kept card) card number (held.lengths (name_of (columns card shared.FILENAME))))
inside_next OutputAnd card number lines kept held ordered latest placed free inside =
    plain lines (more_of OutputAnd card number) kept.files kept.input_length kept.output_length kept.input_length kept.output_length held (λ name. refl) refl refl refl
inside_next OutputOr card number lines kept held ordered latest placed free inside =
    plain lines (more_of OutputOr card number) kept.files kept.input_length kept.output_length kept.input_length kept.output_length held (λ name. refl) refl refl refl
inside_next OutputField card number lines kept held ordered latest placed free inside =
    plain lines (more_of OutputField card number) kept.files kept.input_length kept.output_length kept.input_length kept.output_length held (λ name. refl)
    (both (put_inside card kept.output_length free inside) refl) refl refl

-- ---- all lines
not_at_fault : (cards : List (List ℕ)) (n : ℕ) → IsFree cards n → is_at_fault cards n ≡ false
unfolding is_at_fault
not_at_fault cards n free = rw (free.placed, free.filed, free.faultless) refl

free_rules : (card : List ℕ) → has_fault (faults_of card) ≡ false → NoFaults (broken_by (rules_of (kind_of card)) card)
unfolding faults_of
free_rules card free =
    let b : Faults = broken_by (rules_of (kind_of card)) card in
    let c : Faults = combined_faults (kind_of card) card in
    let two = neither ((b.entry || c.entry) || (b.name || c.name)) (b.number || c.number) free in
    let one = neither (b.entry || c.entry) (b.name || c.name) two.0 in
    record { entry = (neither b.entry c.entry one.0).0; name = (neither b.name c.name one.1).0; number = (neither b.number c.number two.1).0 }

one_inside : (from : ℕ) (cards : List (List ℕ)) (n : ℕ) (lines : List Line) (kept : Kept) → IsInside lines kept.files kept.input_length kept.output_length
    → IsHeld from n lines kept → IsKept cards n kept → IsFree cards n
    → IsInside (lines ++ option_to_list (line_of (from + n + 1) (card_at cards n))) (kept_behind kept (card_at cards n)).files
    (kept_behind kept (card_at cards n)).input_length (kept_behind kept (card_at cards n)).output_length
unfolding line_of kept_behind files_with is_outside_behind
one_inside from cards n lines kept inside held is free =
    let card : List ℕ = card_at cards n in
    let kind : CardKind = kind_of card in
    let named : Option ℕ = length_named kept card in
    let placed : is_misplaced_behind kind kept.latest_sheet ≡ false = misplaced_same kind (before cards n) kept.latest_sheet is.latest ∙ free.placed in
    let within : is_outside_behind kept kind card ≡ false = outside_same cards n kept is ∙ free.inside in
    let right : is_at_fault_behind kept card ≡ false = fault_same cards n kept is ∙ not_at_fault cards n free in
    subst (λ (wrong : Bool). IsInside (lines ++ more_of kind card (from + n + 1)) (kept.files ++ option_to_list (new_file kept.files (file_of kind wrong card)))
    (length_behind (is_record kind) (wrong || has_code_past card named) named kept.input_length)
    (length_behind (is_output_line kind) wrong (line_length (are_blank (columns card shared.FILENAME)) named kept.output_length) kept.output_length))
    (sym right)
    (inside_next kind card (from + n + 1) lines kept inside held.ordered held.latest placed (free_rules card free.faultless) within)

none_inside : IsInside [] [] None None
unfolding all_within record_length_in
none_inside = record { lengths = λ name. refl; within = refl; inputs = refl; outputs = refl }

all_inside : (from : ℕ) (cards : List (List ℕ)) (n : ℕ) → n ≤ length cards → filter (holds cards) (pairs n) ≡ []
    → IsInside (lines_below from cards n) (kept_at cards n).files (kept_at cards n).input_length (kept_at cards n).output_length
all_inside from cards zero few none = none_inside
all_inside from cards (suc n) few none =
    let b = before_free cards n none in
    one_inside from cards n (lines_below from cards n) (kept_at cards n) (all_inside from cards n (omega arith) b.0) (all_held from cards n (omega arith) b.0)
    (is_kept_at cards n (omega arith)) b.1

pub all_read : (from : ℕ) (cards : List (List ℕ)) (n : ℕ) → n ≤ length cards → filter (holds cards) (pairs n) ≡ [] → are_read (lines_below from cards n) ≡ true
unfolding are_read
all_read from cards n few none =
    let held = all_held from cards n few none in
    both (both held.ordered held.ranged) (all_inside from cards n few none).within
