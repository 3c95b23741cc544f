-- Diagnostic 10 as a condition on a whole source: a GOTO to a tag of another section, recursive subroutine calls, and calls nested more
-- than 8 deep.
use Rattle.std.specs.Prelude.{ℕ, ◌==◌, Bool, true, false, not, ◌&&◌, ◌||◌, List, [], ◌∷◌, Option, Some, None, length, find, filter_map, option_map}
use Rattle.std.specs.Option.{option_and_then}
use Rattle.s3_cards.specs.declared.name.Name.{Name}
use Rattle.s3_cards.specs.Names.{same_name}
use Rattle.s3_lines.specs.declared.sheet.Factor.{Factor}
use Rattle.s3_lines.specs.declared.sheet.Operation.{Operation}
use Rattle.s3_lines.specs.declared.sheet.Operation.TheVariants.{GoTo, Tag, ExecuteSubroutine}
use Rattle.s3_lines.specs.declared.sheet.CalculationLine.{CalculationLine}
use Rattle.s3_lines.specs.declared.sheet.SheetLine.{SheetLine}
use Rattle.s3_lines.specs.declared.sheet.SheetLine.TheVariants as sheet
use Rattle.s3_lines.specs.declared.sheet.Line.{Line}
use Rattle.s3_meaning.specs.Source.{calculation_line}
use Rattle.s3_program.specs.declared.call.Call.{Call}
use Rattle.s3_program.specs.Standings.{begins_subroutine}
use Rattle.s3_program.specs.Jumps.{subroutine_of, is_forbidden}
use Rattle.s3_diagnose.specs.Lookups.{name_given}
use Rattle.s3_diagnose.specs.Inner.Whole.{Spot, StandsOnThose, section_of_last}

-- ---- each calculation line with the calculation lines before it, nearest first
abbrev pub Placed : Type 0
Placed = CalculationLine Name × List (CalculationLine Name)

abbrev pub placed_from : (above lines : List (CalculationLine Name)) → List Placed
placed_from above [] = []
placed_from above (line ∷ below) = (line, above) ∷ placed_from (line ∷ above) below

abbrev pub calculations_of : List Line → List Placed
calculations_of lines = placed_from [] (filter_map calculation_line lines)

abbrev pub place_of : Placed → ℕ
place_of placed = length placed.1

abbrev pub section_of : Placed → ℕ
section_of placed = section_of_last (placed.0 ∷ placed.1)

-- ---- the first TAG and the first BEGSR of a name
abbrev pub is_named : Name → Option Name → Bool
is_named name None = false
is_named name (Some other) = same_name name other

abbrev pub is_tag : Option Operation → Bool
is_tag (Some Tag) = true
is_tag _ = false

abbrev pub is_tag_of : Name → CalculationLine Name → Bool
is_tag_of name line = is_tag line.operation && is_named name (name_given line.factor1)

abbrev pub begins_the : Name → CalculationLine Name → Bool
begins_the name line = begins_subroutine line.operation && is_named name (name_given line.factor1)

abbrev pub the_tag : List Placed → Name → Option Placed
the_tag all name = find (λ (placed : Placed). is_tag_of name placed.0) all

abbrev pub the_subroutine : List Placed → Name → Option Placed
the_subroutine all name = find (λ (placed : Placed). begins_the name placed.0) all

-- ---- GOTO
abbrev pub named_by_jump : Option Operation → Option (Factor Name) → Option Name
named_by_jump (Some GoTo) factor = name_given factor
named_by_jump _ factor = None

-- the tag exists and is in another section than this
abbrev pub is_elsewhere : (section : ℕ) → Option Placed → Bool
is_elsewhere section None = false
is_elsewhere section (Some tag) = not (section_of tag == section)

abbrev pub jumps_out : List Placed → Placed → Bool
jumps_out all placed = is_elsewhere (section_of placed) (option_and_then (the_tag all) (named_by_jump placed.0.operation placed.0.factor2))

-- ---- EXSR: a call goes from its own subroutine, or from none, to the first subroutine of the called name
abbrev pub named_by_call : Option Operation → Option (Factor Name) → Option Name
named_by_call (Some ExecuteSubroutine) factor = name_given factor
named_by_call _ factor = None

abbrev pub call_to : Placed → Placed → Call
call_to placed subroutine = record { caller = subroutine_of (section_of placed); callee = place_of subroutine }

abbrev pub call_of : List Placed → Placed → Option Call
call_of all placed = option_map (call_to placed) (option_and_then (the_subroutine all) (named_by_call placed.0.operation placed.0.factor2))

abbrev pub calls_of : List Placed → List Call
calls_of all = filter_map (call_of all) all

abbrev pub is_bad : List Call → Option Call → Bool
is_bad calls None = false
is_bad calls (Some call) = is_forbidden calls call

-- ---- the whole condition
abbrev pub goes_astray : List Placed → Placed → Bool
goes_astray all placed = jumps_out all placed || is_bad (calls_of all) (call_of all placed)

abbrev pub strays_in : List Line → Spot → Bool
strays_in lines spot = on spot.line.sheet
  where
    on : SheetLine → Bool
    on (sheet.Header name) = false
    on (sheet.File file) = false
    on (sheet.Input line) = false
    on (sheet.Calculation line) = goes_astray (calculations_of lines) (line, filter_map calculation_line spot.above)
    on (sheet.Output line) = false

-- for any lines, exactly the lines of this condition get diagnostic 10
abbrev pub TenIsForLinesThatStray : Type 0
TenIsForLinesThatStray = StandsOnThose 10 strays_in
