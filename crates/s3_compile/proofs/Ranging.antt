-- Lines of cards without errors of their own have fields with lengths in range.
use Rattle.std.proofs.Common.{◌≡◌, List, [], ◌∷◌, refl, ◌∙◌, ap}
use Rattle.std.specs.Prelude.{IsTrue, map, filter_map, option_map}
use Rattle.std.specs.List.{list_all, cons_option}
use Rattle.s3_cards.specs.declared.name.Name.{Name}
use Rattle.s3_lines.specs.declared.sheet.FieldLine.{FieldLine}
use Rattle.s3_lines.specs.declared.sheet.InputLine.{InputLine}
use Rattle.s3_lines.specs.declared.sheet.InputLine.TheVariants.{Record, And as AndCodes, Or as OrCodes, Field as FieldOfRecord}
use Rattle.s3_lines.specs.declared.sheet.SheetLine.{SheetLine}
use Rattle.s3_lines.specs.declared.sheet.SheetLine.TheVariants as sheet
use Rattle.s3_lines.specs.declared.sheet.Line.{Line}
use Rattle.s3_lines.specs.Inner.Ranges.{in_range, are_read, field_in_range}
use Rattle.s3_meaning.specs.Source.{input_line}
use Rattle.s3_program.proofs.LineLemmas.{all_taken}
use Rattle.s3_program.proofs.SoundLemmas.{both}
use Rattle.s3_program.specs.declared.program.Meaning.{Meaning}
use Rattle.s3_diagnose.specs.Inner.Ranged.{is_ranged, is_ranged_input, is_ranged_field, are_ranged}
use Rattle.s3_diagnose.specs.Known.{Meanings, meant_input}
use Rattle.s3_diagnose.proofs.Walks.{both_first, both_second}

field_ranged : {N : Type 0} (field : FieldLine N) → IsTrue (field_in_range field) → IsTrue (is_ranged_field field)
field_ranged field h = both_second _ _ (both_first _ _ (both_first _ _ (both_first _ _ (both_first _ _ h))))

line_ranged : (line : SheetLine) → IsTrue (in_range line) → IsTrue (is_ranged line)
unfolding in_range
line_ranged (sheet.Header name) h = refl
line_ranged (sheet.File file) h = refl
line_ranged (sheet.Input (Record file indicator codes)) h = refl
line_ranged (sheet.Input (AndCodes codes)) h = refl
line_ranged (sheet.Input (OrCodes indicator codes)) h = refl
line_ranged (sheet.Input (FieldOfRecord field)) h = field_ranged field h
line_ranged (sheet.Calculation line) h = refl
line_ranged (sheet.Output line) h = refl

all_ranged : (lines : List Line) → IsTrue (list_all (λ line. in_range line.sheet) lines) → IsTrue (are_ranged lines)
all_ranged [] h = refl
all_ranged (line ∷ lines) h =
    both _ _ (line_ranged line.sheet (both_first (in_range line.sheet) _ h)) (all_ranged lines (both_second (in_range line.sheet) _ h))

pub ranged_of_read : (lines : List Line) → IsTrue (are_read lines) → IsTrue (are_ranged lines)
unfolding are_read
ranged_of_read lines read = all_ranged lines (both_second _ _ (both_first _ _ read))

-- the input lines with meanings are in range too
ranged_inputs : (meanings : Meanings) (lines : List Line) → IsTrue (are_ranged lines) → IsTrue (list_all is_ranged_input (map (meant_input meanings) (filter_map input_line lines)))
ranged_inputs meanings [] h = refl
ranged_inputs meanings (line ∷ lines) h =
    step line.sheet (both_first (is_ranged line.sheet) (are_ranged lines) h) (filter_map input_line lines) (ranged_inputs meanings lines (both_second (is_ranged line.sheet) (are_ranged lines) h))
  where
    step : (sheet : SheetLine) → IsTrue (is_ranged sheet) → (rest : List (InputLine Name)) → IsTrue (list_all is_ranged_input (map (meant_input meanings) rest))
        → IsTrue (list_all is_ranged_input (map (meant_input meanings) (cons_option (input_line (record { card = line.card; sheet = sheet })) rest)))
    step (sheet.Header name) h rest later = later
    step (sheet.File file) h rest later = later
    step (sheet.Input (Record file indicator codes)) h rest later = later
    step (sheet.Input (AndCodes codes)) h rest later = later
    step (sheet.Input (OrCodes indicator codes)) h rest later = later
    step (sheet.Input (FieldOfRecord field)) h rest later = both (is_ranged_field field) (list_all is_ranged_input (map (meant_input meanings) rest)) h later
    step (sheet.Calculation c) h rest later = later
    step (sheet.Output o) h rest later = later

pub ranged_meant_inputs : (meanings : Meanings) (lines : List Line) (inputs : List (InputLine Meaning)) → inputs ≡ filter_map (λ line. option_map (meant_input meanings) (input_line line)) lines
    → IsTrue (are_ranged lines) → IsTrue (list_all is_ranged_input inputs)
ranged_meant_inputs meanings lines inputs are ranged =
    ap (list_all is_ranged_input) (are ∙ all_taken (meant_input meanings) input_line lines) ∙ ranged_inputs meanings lines ranged
