-- Lines without diagnostics: no condition holds for any of them.
use Rattle.std.proofs.Common.{◌≡◌, ℕ, ◌+◌, ◌==◌, List, [], ◌∷◌, ◌++◌, Bool, true, false, cond, not, ◌||◌, refl, sym, ◌∙◌, ap, subst}
use Rattle.std.specs.Prelude.{map, filter, filter_map}
use Rattle.std.specs.List.{list_any, count_by}
use Rattle.std.proofs.lemmas.List.Sums.{sum_by-cons}
use Rattle.s3_lines.specs.declared.diagnostic.Diagnostic.{Diagnostic}
use Rattle.s3_lines.specs.declared.sheet.Designation.TheVariants.{Primary}
use Rattle.s3_lines.specs.declared.sheet.FileLine.{FileLine}
use Rattle.s3_lines.specs.Files.{is_designated}
use Rattle.s3_lines.specs.declared.sheet.CalculationLine.{CalculationLine}
use Rattle.s3_lines.specs.declared.sheet.SheetLine.{SheetLine}
use Rattle.s3_lines.specs.declared.sheet.SheetLine.TheVariants as sheet
use Rattle.s3_lines.specs.declared.sheet.Line.{Line}
use Rattle.s3_cards.specs.declared.name.Name.{Name}
use Rattle.s3_meaning.specs.Source.{file_line, input_line, calculation_line, output_line}
use Rattle.s3_program.specs.declared.definitions.Definitions.{Definitions}
use Rattle.s3_program.specs.Tables.{meaning_of}
use Rattle.s3_program.specs.Inner.Translation.{tables_in, known_lines}
use Rattle.s3_program.specs.Places.{Verb}
use Rattle.s3_program.specs.Conditions.{numbers, verb_of, calculation_holds}
use Rattle.s3_program.specs.Inner.Conditions.{is_clear, files_clear, inputs_clear, calculations_clear, outputs_clear, are_clear}
use Rattle.s3_program.specs.Inner.Uses.{has_one_primary as has_one_primary_file}
use Rattle.s3_program.proofs.SoundLemmas.{both}
use Rattle.s3_diagnose.specs.declared.standing.Standing.{Standing}
use Rattle.s3_diagnose.specs.Known.{Meanings, meant_input, meant_calculation, meant_output, meant_line, first_standing, behind}
use Rattle.s3_diagnose.specs.Lookups.{Known, known_of, meanings_of}
use Rattle.s3_diagnose.specs.Diagnostics.{line_holds, found_on, diagnostic_of, diagnostics_from, precedes, placed, is_primary_line, has_one_primary, compile_diagnostics}

-- ---- empty lists
none_mapped : {A B : Type 0} (f : A → B) (xs : List A) → map f xs ≡ [] → xs ≡ []
none_mapped f [] none = refl
none_mapped f (x ∷ xs) none = cc

none_first : {A : Type 0} (xs ys : List A) → xs ++ ys ≡ [] → xs ≡ []
none_first [] ys none = refl
none_first (x ∷ xs) ys none = cc

none_second : {A : Type 0} (xs ys : List A) → xs ++ ys ≡ [] → ys ≡ []
none_second [] ys none = none
none_second (x ∷ xs) ys none = cc

none_kept : (test : ℕ → Bool) (xs : List ℕ) → filter test xs ≡ [] → list_any test xs ≡ false
none_kept test [] none = refl
none_kept test (x ∷ xs) none = step (test x) none (none_kept test xs)
  where
    step : (b : Bool) → cond b (x ∷ filter test xs) (filter test xs) ≡ [] → (filter test xs ≡ [] → list_any test xs ≡ false) → (b || list_any test xs) ≡ false
    step true none later = cc
    step false none later = later none

-- ---- a line
clear_line : (holds : ℕ → Bool) (card : ℕ) (among : List ℕ) → map (diagnostic_of card) (filter holds among) ≡ [] → not (list_any holds among) ≡ true
clear_line holds card among none = ap not (none_kept holds among (none_mapped (diagnostic_of card) (filter holds among) none))

-- the meanings of names don't change the entries that decide a line's place
same_verbs : (meanings : Meanings) (lines : List (CalculationLine Name)) → map verb_of (map (meant_calculation meanings) lines) ≡ map verb_of lines
same_verbs meanings [] = refl
same_verbs meanings (line ∷ lines) = ap (λ (verbs : List Verb). verb_of line ∷ verbs) (same_verbs meanings lines)

-- ---- all lines, by kind of specification
record AreClear (known : Known) (at : Standing) (lines : List Line) : Type 0 where
  files : files_clear known.first_file at.files (filter_map file_line lines) ≡ true
  inputs : inputs_clear known.marks at.inputs (map (meant_input known.meanings) (filter_map input_line lines)) ≡ true
  calculations : calculations_clear known.forbidden at.calculations (map (meant_calculation known.meanings) (filter_map calculation_line lines)) ≡ true
  outputs : outputs_clear at.outputs (map (meant_output known.meanings) (filter_map output_line lines)) ≡ true

one_more : (known : Known) (at : Standing) (card : ℕ) (sheet : SheetLine) (lines : List Line) → is_clear (line_holds known at lines (meant_line known.meanings sheet)) ≡ true
    → AreClear known (behind at (meant_line known.meanings sheet)) lines → AreClear known at (record { card = card; sheet = sheet } ∷ lines)
one_more known at card (sheet.Header name) lines here later =
    record { files = later.files; inputs = later.inputs; calculations = later.calculations; outputs = later.outputs }
one_more known at card (sheet.File file) lines here later =
    record { files = both _ _ here later.files; inputs = later.inputs; calculations = later.calculations; outputs = later.outputs }
one_more known at card (sheet.Input line) lines here later =
    record { files = later.files; inputs = both _ _ here later.inputs; calculations = later.calculations; outputs = later.outputs }
one_more known at card (sheet.Calculation line) lines here later =
    let meant = meant_calculation known.meanings line in
    let holds : List Verb → ℕ → Bool = λ verbs. calculation_holds known.forbidden at.calculations verbs meant in
    let same = sym (same_verbs known.meanings (filter_map calculation_line lines)) in
    record {
      files = later.files;
      inputs = later.inputs;
      calculations = both _ _ (subst (λ (verbs : List Verb). is_clear (holds verbs) ≡ true) same here) later.calculations;
      outputs = later.outputs;
    }
one_more known at card (sheet.Output line) lines here later =
    record { files = later.files; inputs = later.inputs; calculations = later.calculations; outputs = both _ _ here later.outputs }

all_clear : (known : Known) (at : Standing) (lines : List Line) → diagnostics_from known at lines ≡ [] → AreClear known at lines
all_clear known at [] none = record { files = refl; inputs = refl; calculations = refl; outputs = refl }
all_clear known at (line ∷ lines) none =
    let meant = meant_line known.meanings line.sheet in
    let here = found_on known at lines line.card meant numbers in
    let later = diagnostics_from known (behind at meant) lines in
    one_more known at line.card line.sheet lines (clear_line (line_holds known at lines meant) line.card numbers (none_first here later none))
    (all_clear known (behind at meant) lines (none_second here later none))

-- ---- the primary file
abbrev is_primary_file : FileLine → Bool
is_primary_file file = is_designated Primary file

primaries : (lines : List Line) → count_by is_primary_line lines ≡ count_by is_primary_file (filter_map file_line lines)
primaries [] = refl
primaries (line ∷ lines) = step line.card line.sheet (primaries lines)
  where
    step : (card : ℕ) (sheet : SheetLine) → count_by is_primary_line lines ≡ count_by is_primary_file (filter_map file_line lines)
        → count_by is_primary_line (record { card = card; sheet = sheet } ∷ lines) ≡ count_by is_primary_file (filter_map file_line (record { card = card; sheet = sheet } ∷ lines))
    step card (sheet.Header name) later = later
    step card (sheet.File file) later =
        sum_by-cons (λ (l : Line). cond (is_primary_line l) 1 0) (record { card = card; sheet = sheet.File file }) lines
        ∙ (ap (λ (n : ℕ). cond (is_primary_file file) 1 0 + n) later
        ∙ sym (sum_by-cons (λ (f : FileLine). cond (is_primary_file f) 1 0) file (filter_map file_line lines)))
    step card (sheet.Input input) later = later
    step card (sheet.Calculation calculation) later = later
    step card (sheet.Output output) later = later

-- a list into which a diagnostic is inserted isn't empty
nothing_placed : (one_primary : Bool) (found : List Diagnostic) (diagnostic : Diagnostic) → cond one_primary found (placed found diagnostic) ≡ [] → (one_primary ≡ true) × (found ≡ [])
nothing_placed true found diagnostic none = (refl, none)
nothing_placed false found diagnostic none =
    let rest = none_second (filter (λ (other : Diagnostic). precedes other diagnostic) found) (diagnostic ∷ filter (λ (other : Diagnostic). precedes diagnostic other) found) none in cc

meant_clear : (run_card : ℕ) (lines : List Line) → compile_diagnostics run_card lines ≡ []
    → are_clear (filter_map file_line lines) (map (meant_input (meanings_of lines)) (filter_map input_line lines)) (map (meant_calculation (meanings_of lines)) (filter_map calculation_line lines)) (map (meant_output (meanings_of lines)) (filter_map output_line lines)) ≡ true
unfolding compile_diagnostics are_clear
meant_clear run_card lines none =
    let known = known_of lines in
    let parts = nothing_placed (has_one_primary lines) (diagnostics_from known first_standing lines) (diagnostic_of run_card 12) none in
    let clear = all_clear known first_standing lines parts.1 in
    let one : has_one_primary_file (filter_map file_line lines) ≡ true = ap (λ (n : ℕ). n == 1) (sym (primaries lines)) ∙ parts.0 in
    both _ _ (both _ _ (both _ _ (both _ _ one clear.files) clear.inputs) clear.calculations) clear.outputs

-- for lines without diagnostics no condition holds, given tables with the meanings of the lines
pub clear_of_none : (run_card : ℕ) (known : Definitions) (lines : List Line) → meaning_of (tables_in known) ≡ meanings_of lines → compile_diagnostics run_card lines ≡ []
    → are_clear (filter_map file_line lines) (known_lines (tables_in known) lines).inputs (known_lines (tables_in known) lines).calculations (known_lines (tables_in known) lines).outputs ≡ true
clear_of_none run_card known lines same none =
    subst (λ (meanings : Meanings). are_clear (filter_map file_line lines) (map (meant_input meanings) (filter_map input_line lines)) (map (meant_calculation meanings) (filter_map calculation_line lines)) (map (meant_output meanings) (filter_map output_line lines)) ≡ true)
    (sym same) (meant_clear run_card lines none)
