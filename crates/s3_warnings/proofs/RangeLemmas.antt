-- Lines of cards without a fault of their own have fields with lengths in their ranges.
use Rattle.std.proofs.Common.{◌≡◌, List, [], ◌∷◌, refl}
use Rattle.std.specs.Prelude.{IsTrue}
use Rattle.std.specs.List.{list_all}
use Rattle.s3_lines.specs.declared.sheet.FieldLine.{FieldLine}
use Rattle.s3_lines.specs.declared.sheet.InputLine.TheVariants.{Record, And as AndCodes, Or as OrCodes, Field as FieldOfRecord}
use Rattle.s3_lines.specs.declared.sheet.SheetLine.{SheetLine}
use Rattle.s3_lines.specs.declared.sheet.SheetLine.TheVariants as sheet
use Rattle.s3_lines.specs.declared.sheet.Line.{Line}
use Rattle.s3_lines.specs.Inner.Ranges.{in_range, are_read, field_in_range}
use Rattle.s3_program.proofs.SoundLemmas.{both}
use Rattle.s3_diagnose.specs.Inner.Ranged.{is_ranged, is_ranged_field, are_ranged}
use Rattle.s3_diagnose.proofs.Walks.{both_first, both_second}

field_ranged : {N : Type 0} (field : FieldLine N) → IsTrue (field_in_range field) → IsTrue (is_ranged_field field)
field_ranged field h = both_second _ _ (both_first _ _ (both_first _ _ (both_first _ _ (both_first _ _ h))))

line_ranged : (line : SheetLine) → IsTrue (in_range line) → IsTrue (is_ranged line)
unfolding in_range
line_ranged (sheet.Header name) h = refl
line_ranged (sheet.File file) h = refl
line_ranged (sheet.Input (Record file indicator codes)) h = refl
line_ranged (sheet.Input (AndCodes codes)) h = refl
line_ranged (sheet.Input (OrCodes indicator codes)) h = refl
line_ranged (sheet.Input (FieldOfRecord field)) h = field_ranged field h
line_ranged (sheet.Calculation line) h = refl
line_ranged (sheet.Output line) h = refl

all_ranged : (lines : List Line) → IsTrue (list_all (λ line. in_range line.sheet) lines) → IsTrue (are_ranged lines)
all_ranged [] h = refl
all_ranged (line ∷ lines) h =
    both _ _ (line_ranged line.sheet (both_first (in_range line.sheet) _ h)) (all_ranged lines (both_second (in_range line.sheet) _ h))

pub ranged_of_read : (lines : List Line) → IsTrue (are_read lines) → IsTrue (are_ranged lines)
unfolding are_read
ranged_of_read lines read = all_ranged lines (both_second _ _ (both_first _ _ read))
