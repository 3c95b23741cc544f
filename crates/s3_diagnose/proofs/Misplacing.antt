-- Diagnostic 9 as the walk over the lines finds it is the condition on the whole source.
use Rattle.std.proofs.Common.{◌≡◌, ℕ, List, [], ◌∷◌, Bool, true, false, cond, refl, sym, ◌∙◌, ap, arith}
use Rattle.std.specs.Prelude.{◌==◌, nat_lt, nat_le, not, ◌&&◌, ◌||◌, Option, Some, None, is_some, is_none, map, filter, filter_map}
use Rattle.std.specs.List.{list_any}
use Rattle.std.proofs.lemmas.Bool.Decides.{nat_tests}
use Rattle.s3_cards.specs.declared.name.Name.{Name}
use Rattle.s3_lines.specs.declared.diagnostic.Diagnostic.{Diagnostic}
use Rattle.s3_lines.specs.declared.sheet.InputLine.{InputLine}
use Rattle.s3_lines.specs.declared.sheet.InputLine.TheVariants.{Record, And as AndCodes, Or as OrCodes, Field as FieldOfRecord}
use Rattle.s3_lines.specs.declared.sheet.Operation.{Operation}
use Rattle.s3_lines.specs.declared.sheet.Operation.TheVariants.{Divide, MoveRemainder, BeginSubroutine, EndSubroutine}
use Rattle.s3_lines.specs.declared.sheet.CalculationTime.{CalculationTime}
use Rattle.s3_lines.specs.declared.sheet.CalculationTime.TheVariants.{Detail, Total, Subroutine, And, Or}
use Rattle.s3_lines.specs.declared.sheet.CalculationLine.{CalculationLine}
use Rattle.s3_lines.specs.declared.sheet.OutputLine.{OutputLine}
use Rattle.s3_lines.specs.declared.sheet.OutputLine.TheVariants.{Line as LineCard, And as AndCard, Or as OrCard, Field as FieldCard}
use Rattle.s3_lines.specs.declared.sheet.SheetLine.{SheetLine}
use Rattle.s3_lines.specs.declared.sheet.SheetLine.TheVariants as sheet
use Rattle.s3_lines.specs.declared.sheet.Line.{Line}
use Rattle.s3_meaning.specs.Source.{input_line, calculation_line, output_line}
use Rattle.s3_program.specs.declared.standing.CalculationStanding.{CalculationStanding}
use Rattle.s3_program.specs.Standings.{goes_on, is_subroutine_time, time_on, part_on, section_on, division_on, division_behind, group_behind}
use Rattle.s3_program.specs.Places.{Verb, is_begin, is_finish, is_closed_by, is_late, is_division_of, is_astray, is_lost_remainder, ends_group, is_left_open, is_unknown, input_misplaced, output_misplaced, calculation_misplaced}
use Rattle.s3_program.specs.Conditions.{numbers, verb_of}
use Rattle.s3_diagnose.specs.Known.{Meanings, meant_line, meant_input, meant_output, first_standing}
use Rattle.s3_diagnose.specs.Lookups.{Known, known_of}
use Rattle.s3_diagnose.specs.Diagnostics.{line_holds, diagnostics_from}
use Rattle.s3_diagnose.specs.Inner.Whole.{on_those, those_of, level_of, begins, finishes, open_subroutine, section_of_last}
use Rattle.s3_diagnose.specs.Inner.Misplaced.{NineIsForLinesWithoutPlace, is_record, follows_record, input_has_no_place, is_line_card, follows_line_card, output_has_no_place, is_total_time, may_not_precede, is_out_of_order, is_finished_below, is_unpaired_at, is_unpaired, above_group, is_division, ends_with_division, is_remainder, lacks_division, calculation_has_no_place, has_no_place}
use Rattle.s3_diagnose.proofs.Told.{stands}
use Rattle.s3_diagnose.proofs.Wholes.{standing_below, input_below, calculation_below, output_below, inputs_below, calculations_below, outputs_below, level_below, subroutine_below, section_below, passed, met, whole, spot_of}

-- ---- Input and Output specifications
pub record_open : (meanings : Meanings) (above : List (InputLine Name)) → (input_below meanings above).is_open ≡ follows_record above
record_open meanings [] = refl
record_open meanings (Record file indicator codes ∷ above) = refl
record_open meanings (AndCodes codes ∷ above) = record_open meanings above
record_open meanings (OrCodes indicator codes ∷ above) = record_open meanings above
record_open meanings (FieldOfRecord field ∷ above) = refl

record_above : (meanings : Meanings) (above : List (InputLine Name)) → is_some (input_below meanings above).group ≡ list_any is_record above
record_above meanings [] = refl
record_above meanings (Record file indicator codes ∷ above) = refl
record_above meanings (AndCodes codes ∷ above) = record_above meanings above
record_above meanings (OrCodes indicator codes ∷ above) = record_above meanings above
record_above meanings (FieldOfRecord field ∷ above) = record_above meanings above

input_same : (meanings : Meanings) (above : List (InputLine Name)) (line : InputLine Name)
    → input_misplaced (input_below meanings above) (meant_input meanings line) ≡ input_has_no_place above line
input_same meanings above (Record file indicator codes) = refl
input_same meanings above (AndCodes codes) = ap not (record_open meanings above)
input_same meanings above (OrCodes indicator codes) = ap not (record_open meanings above)
input_same meanings above (FieldOfRecord field) = ap not (record_above meanings above)

card_open : (meanings : Meanings) (above : List (OutputLine Name)) → (output_below meanings above).is_open ≡ follows_line_card above
card_open meanings [] = refl
card_open meanings (LineCard card ∷ above) = refl
card_open meanings (AndCard conditions ∷ above) = card_open meanings above
card_open meanings (OrCard conditions ∷ above) = card_open meanings above
card_open meanings (FieldCard field ∷ above) = refl

card_above : (meanings : Meanings) (above : List (OutputLine Name)) → (output_below meanings above).has_line ≡ list_any is_line_card above
card_above meanings [] = refl
card_above meanings (LineCard card ∷ above) = refl
card_above meanings (AndCard conditions ∷ above) = card_above meanings above
card_above meanings (OrCard conditions ∷ above) = card_above meanings above
card_above meanings (FieldCard field ∷ above) = card_above meanings above

output_same : (meanings : Meanings) (above : List (OutputLine Name)) (line : OutputLine Name)
    → output_misplaced (output_below meanings above) (meant_output meanings line) ≡ output_has_no_place above line
output_same meanings above (LineCard card) = refl
output_same meanings above (AndCard conditions) = ap not (card_open meanings above)
output_same meanings above (OrCard conditions) = ap not (card_open meanings above)
output_same meanings above (FieldCard field) = ap not (card_above meanings above)

-- ---- Calculation specifications: the order of their parts
total_part : (part : ℕ) → nat_lt 0 (cond (nat_le 1 part) part 1) ≡ true
total_part part = grind (arith, nat_tests)

total_keeps : (part : ℕ) → nat_lt 1 (cond (nat_le 1 part) part 1) ≡ nat_lt 1 part
total_keeps part = grind (arith, nat_tests)

some_step : (part : ℕ) (time : CalculationTime) → nat_lt 0 (part_on part time) ≡ ((is_total_time time || is_subroutine_time time) || nat_lt 0 part)
some_step part Detail = refl
some_step part (Total indicator) = total_part part
some_step part Subroutine = refl
some_step part And = refl
some_step part Or = refl

last_step : (part : ℕ) (time : CalculationTime) → nat_lt 1 (part_on part time) ≡ (is_subroutine_time time || nat_lt 1 part)
last_step part Detail = refl
last_step part (Total indicator) = total_keeps part
last_step part Subroutine = refl
last_step part And = refl
last_step part Or = refl

abbrev precedes_badly : CalculationTime → List (CalculationLine Name) → Bool
precedes_badly time above = list_any (λ (other : CalculationLine Name). may_not_precede time other.time) above

some_part : (above : List (CalculationLine Name)) → nat_lt 0 (calculation_below above).part ≡ precedes_badly Detail above
some_part [] = refl
some_part (line ∷ above) =
    some_step (calculation_below above).part line.time
    ∙ ap (λ b. (is_total_time line.time || is_subroutine_time line.time) || b) (some_part above)

last_part : (indicator : _) (above : List (CalculationLine Name)) → nat_lt 1 (calculation_below above).part ≡ precedes_badly (Total indicator) above
last_part indicator [] = refl
last_part indicator (line ∷ above) =
    last_step (calculation_below above).part line.time ∙ ap (λ b. is_subroutine_time line.time || b) (last_part indicator above)

no_order : (above : List (CalculationLine Name)) → false ≡ list_any (λ (other : CalculationLine Name). false) above
no_order [] = refl
no_order (line ∷ above) = no_order above

late_below : (above : List (CalculationLine Name)) (time : CalculationTime) → is_late (calculation_below above).part time ≡ precedes_badly time above
late_below above Detail = some_part above
late_below above (Total indicator) = last_part indicator above
late_below above Subroutine = no_order above
late_below above And = no_order above
late_below above Or = no_order above

-- ---- BEGSR and ENDSR
finished_below : (above below : List (CalculationLine Name))
    → is_closed_by (calculation_below above).group (map verb_of below) ≡ is_finished_below above below
finished_below above [] = refl
finished_below above (line ∷ below) =
    ap (λ time. cond (is_begin time line.operation) false
    (cond (is_finish time line.operation) true (is_closed_by (group_behind time line.operation) (map verb_of below)))) (level_below above line)
    ∙ ap (λ b. cond (begins above line) false (cond (finishes above line) true b))
    (ap (λ time. is_closed_by (group_behind time line.operation) (map verb_of below)) (sym (level_below above line)) ∙ finished_below (line ∷ above) below)

astray_step : (at : CalculationStanding) (later : List Verb) (time : CalculationTime) (operation : Option Operation) (subroutine : Option ℕ) (finished : Bool)
    → at.subroutine ≡ subroutine → (operation ≡ Some BeginSubroutine → is_closed_by None later ≡ finished)
    → is_astray at later time operation ≡ is_unpaired_at time (is_some subroutine) finished operation
astray_step at later time None subroutine finished h closed = ap (λ s. is_subroutine_time time && is_none s) h
astray_step at later time (Some BeginSubroutine) subroutine finished h closed = ap (λ b. not (is_subroutine_time time && b)) (closed refl)
astray_step at later time (Some EndSubroutine) subroutine finished h closed = ap (λ s. is_none s || not (is_subroutine_time time)) h
astray_step at later time (Some _) subroutine finished h closed = ap (λ s. is_subroutine_time time && is_none s) h

astray_below : (above below : List (CalculationLine Name)) (line : CalculationLine Name)
    → is_astray (calculation_below above) (map verb_of below) (time_on (calculation_below above).group line.time) line.operation ≡ is_unpaired above below line
astray_below above below line =
    ap (λ time. is_astray (calculation_below above) (map verb_of below) time line.operation) (level_below above line)
    ∙ astray_step (calculation_below above) (map verb_of below) (level_of above line) line.operation (open_subroutine above)
    (is_finished_below (line ∷ above) below) (subroutine_below above)
    (λ begin. ap (λ group. is_closed_by group (map verb_of below)) (sym (ap (group_behind (time_on (calculation_below above).group line.time)) begin))
    ∙ finished_below (line ∷ above) below)

-- ---- MVR
chosen_group : (section : ℕ) (b : Bool) (one two : List (CalculationLine Name))
    → ends_with_division section (cond b one two) ≡ cond b (ends_with_division section one) (ends_with_division section two)
chosen_group section true one two = refl
chosen_group section false one two = refl

division_step : (wanted : ℕ) (more : Bool) (time : CalculationTime) (operation : Option Operation) (half : Bool) (section own : ℕ) (before : Option ℕ) (rest : Bool)
    → is_division_of wanted before ≡ rest → section ≡ own
    → is_division_of wanted (cond (is_some (group_behind time operation) && not more) None (division_behind before section operation half))
    ≡ cond (more && is_none operation) rest ((is_division operation && not half) && (own == wanted))
division_step wanted true time None half section own before rest h s = h
division_step wanted false time None half section own before rest h s = refl
division_step wanted true time (Some Divide) true section own before rest h s = refl
division_step wanted false time (Some Divide) true section own before rest h s = refl
division_step wanted true time (Some Divide) false section own before rest h s = ap (λ n. n == wanted) s
division_step wanted false time (Some Divide) false section own before rest h s = ap (λ n. n == wanted) s
division_step wanted true time (Some _) half section own before rest h s = refl
division_step wanted false time (Some _) half section own before rest h s = refl

division_below : (section : ℕ) (time : CalculationTime) (above : List (CalculationLine Name))
    → is_division_of section (division_on (calculation_below above) time) ≡ ends_with_division section (above_group time above)
division_below section time [] = refl
division_below section time (line ∷ above) =
    division_step section (goes_on time) (time_on (calculation_below above).group line.time) line.operation line.half_adjust
    (section_on (calculation_below above) (time_on (calculation_below above).group line.time) line.operation) (section_of_last (line ∷ above))
    (division_on (calculation_below above) line.time) (ends_with_division section (above_group line.time above))
    (division_below section line.time above) (section_below (line ∷ above))
    ∙ sym (chosen_group section (goes_on time && is_none line.operation) (above_group line.time above) (line ∷ above))

lost_step : (at : CalculationStanding) (time own : CalculationTime) (operation : Option Operation) (b : Bool)
    → is_division_of (section_on at time operation) (division_on at own) ≡ b
    → is_lost_remainder at time own operation ≡ (is_remainder operation && not b)
lost_step at time own None b h = refl
lost_step at time own (Some MoveRemainder) b h = ap not h
lost_step at time own (Some _) b h = refl

lost_below : (above : List (CalculationLine Name)) (line : CalculationLine Name)
    → is_lost_remainder (calculation_below above) (time_on (calculation_below above).group line.time) line.time line.operation ≡ lacks_division above line
lost_below above line =
    lost_step (calculation_below above) (time_on (calculation_below above).group line.time) line.time line.operation
    (ends_with_division (section_of_last (line ∷ above)) (above_group line.time above))
    (ap (λ section. is_division_of section (division_on (calculation_below above) line.time)) (section_below (line ∷ above))
    ∙ division_below (section_of_last (line ∷ above)) line.time above)

-- ---- a calculation line
five : (u a a' b b' c d e e' f f' : Bool) → a ≡ a' → b ≡ b' → e ≡ e' → f ≡ f'
    → (not u && (a || b || c || (d && e) || f)) ≡ (not u && (a' || b' || c || (d && e') || f'))
five u a a' b b' c d e e' f f' ha hb he hf =
    ap (λ x. not u && (x || b || c || (d && e) || f)) ha
    ∙ (ap (λ x. not u && (a' || x || c || (d && e) || f)) hb
    ∙ (ap (λ x. not u && (a' || b' || c || (d && x) || f)) he
    ∙ ap (λ x. not u && (a' || b' || c || (d && e') || x)) hf))

calculation_same : (above below : List (CalculationLine Name)) (line : CalculationLine Name)
    → calculation_misplaced (calculation_below above) (map verb_of below) line ≡ calculation_has_no_place above below line
calculation_same above below line =
    five (is_unknown line.operation)
    (is_late (calculation_below above).part line.time) (is_out_of_order above line)
    (goes_on (time_on (calculation_below above).group line.time)) (goes_on (level_of above line))
    (is_left_open (map verb_of below) line.operation)
    (ends_group (map verb_of below) line.operation)
    (is_astray (calculation_below above) (map verb_of below) (time_on (calculation_below above).group line.time) line.operation) (is_unpaired above below line)
    (is_lost_remainder (calculation_below above) (time_on (calculation_below above).group line.time) line.time line.operation) (lacks_division above line)
    (late_below above line.time) (ap goes_on (level_below above line)) (astray_below above below line) (lost_below above line)

-- ---- a line of any sheet
same : (known : Known) (above : List Line) (card : ℕ) (line : SheetLine) (below : List Line)
    → line_holds known (standing_below known.meanings above) below (meant_line known.meanings line) 9
    ≡ has_no_place (spot_of above (record { card = card; sheet = line }) below)
same known above card (sheet.Header name) below = refl
same known above card (sheet.File file) below = refl
same known above card (sheet.Input line) below =
    ap (λ at. input_misplaced at (meant_input known.meanings line)) (inputs_below known.meanings above)
    ∙ input_same known.meanings (filter_map input_line above) line
same known above card (sheet.Calculation line) below =
    ap (λ at. calculation_misplaced at (map verb_of (filter_map calculation_line below)) line) (calculations_below known.meanings above)
    ∙ calculation_same (filter_map calculation_line above) (filter_map calculation_line below) line
same known above card (sheet.Output line) below =
    ap (λ at. output_misplaced at (meant_output known.meanings line)) (outputs_below known.meanings above)
    ∙ output_same known.meanings (filter_map output_line above) line

abbrev on_card : ℕ → ℕ → Diagnostic
on_card card number = record { card = card; number = number }

nine_of : (holds : ℕ → Bool) (card : ℕ) → those_of 9 (map (on_card card) (filter holds numbers)) ≡ cond (holds 9) (on_card card 9 ∷ []) []
nine_of holds card =
    passed 9 card 5 (holds 5) (filter holds (6 ∷ 7 ∷ 8 ∷ 9 ∷ 10 ∷ 11 ∷ 12 ∷ [])) refl
    ∙ (passed 9 card 6 (holds 6) (filter holds (7 ∷ 8 ∷ 9 ∷ 10 ∷ 11 ∷ 12 ∷ [])) refl
    ∙ (passed 9 card 7 (holds 7) (filter holds (8 ∷ 9 ∷ 10 ∷ 11 ∷ 12 ∷ [])) refl
    ∙ (passed 9 card 8 (holds 8) (filter holds (9 ∷ 10 ∷ 11 ∷ 12 ∷ [])) refl
    ∙ met 9 card (holds 9) (filter holds (10 ∷ 11 ∷ 12 ∷ [])) refl
    (passed 9 card 10 (holds 10) (filter holds (11 ∷ 12 ∷ [])) refl
    ∙ (passed 9 card 11 (holds 11) (filter holds (12 ∷ [])) refl ∙ passed 9 card 12 (holds 12) [] refl)))))

nine_walked : (lines : List Line) → those_of 9 (diagnostics_from (known_of lines) first_standing lines) ≡ on_those 9 has_no_place lines
nine_walked lines =
    whole 9 (known_of lines) has_no_place
    (λ above line below.
    nine_of (line_holds (known_of lines) (standing_below (known_of lines).meanings above) below (meant_line (known_of lines).meanings line.sheet)) line.card
    ∙ ap (λ b. cond b (on_card line.card 9 ∷ []) []) (same (known_of lines) above line.card line.sheet below))
    [] lines

pub nine_is_for_lines_without_place : NineIsForLinesWithoutPlace
nine_is_for_lines_without_place = stands 9 refl (λ lines. has_no_place) nine_walked
