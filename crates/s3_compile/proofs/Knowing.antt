-- The look-up tables of a source agree with its lines.
use Rattle.std.proofs.Common.{◌≡◌, List, ◌∙◌, ap}
use Rattle.std.specs.Prelude.{map, filter_map}
use Rattle.std.proofs.Math.Path.{fun_ext}
use Rattle.indexmap.specs.IndexMap.{get}
use Rattle.indexmap.specs.IndexSet.{contains}
use Rattle.s3_cards.specs.Names.{same_name}
use Rattle.s3_lines.specs.declared.sheet.Line.{Line}
use Rattle.s3_meaning.specs.Source.{file_line, input_line, calculation_line}
use Rattle.s3_program.specs.declared.call.Call.{Call}
use Rattle.s3_program.specs.Conditions.{file_places, first_file_of, forbidden_among}
use Rattle.s3_program.specs.Jumps.{calls_from, is_forbidden, same_call}
use Rattle.s3_program.specs.Matching.{marks_of}
use Rattle.s3_program.specs.Standings.{first_calculation}
use Rattle.s3_program.specs.Tables.{meaning_of}
use Rattle.s3_program.specs.Inner.Translation.{tables_in}
use Rattle.s3_program.proofs.LineLemmas.{all_taken}
use Rattle.s3_diagnose.specs.declared.tables.KnownTables.{KnownTables}
use Rattle.s3_diagnose.specs.Known.{Meanings, meant_input, meant_calculation}
use Rattle.s3_diagnose.specs.Lookups.{meanings_of, known_of}
use Rattle.s3_diagnose.specs.Inner.Shown.{known_shown, marks_shown}
use Rattle.s3_compile.specs.Inner.Defines.{Defines, inputs_known, calculations_known}
use Rattle.s3_compile.specs.Inner.Noted.{Finds}
use Rattle.s3_compile.proofs.Meanings.{meanings_shown}

pub known_found : (known : KnownTables) (lines : List Line) → Defines known.definitions lines
    → Finds same_name known.file_places (file_places 0 (filter_map file_line lines))
    → marks_shown known.marks ≡ marks_of (inputs_known known.definitions lines)
    → ((call : Call) → contains same_call known.forbidden call ≡ is_forbidden (calls_from first_calculation (calculations_known known.definitions lines)) call)
    → known_shown known ≡ known_of lines
unfolding forbidden_among
known_found known lines defines places marks forbidden =
    let one : meaning_of (tables_in known.definitions) ≡ meanings_of lines = meanings_shown known.definitions lines defines in
    let inputs : inputs_known known.definitions lines ≡ map (meant_input (meanings_of lines)) (filter_map input_line lines) =
    all_taken (meant_input (meaning_of (tables_in known.definitions))) input_line lines ∙ ap (λ (meanings : Meanings). map (meant_input meanings) (filter_map input_line lines)) one in
    let calculations : calculations_known known.definitions lines ≡ map (meant_calculation (meanings_of lines)) (filter_map calculation_line lines) =
    all_taken (meant_calculation (meaning_of (tables_in known.definitions))) calculation_line lines ∙ ap (λ (meanings : Meanings). map (meant_calculation meanings) (filter_map calculation_line lines)) one in
    let two : get same_name known.file_places ≡ first_file_of (filter_map file_line lines) = fun_ext places.at in
    let three : marks_shown known.marks ≡ marks_of (map (meant_input (meanings_of lines)) (filter_map input_line lines)) = marks ∙ ap marks_of inputs in
    let four : contains same_call known.forbidden ≡ forbidden_among (map (meant_calculation (meanings_of lines)) (filter_map calculation_line lines)) =
    fun_ext (λ call. forbidden call ∙ ap (λ (cs : List Call). is_forbidden cs call) (ap (calls_from first_calculation) calculations)) in
    λ i. record { meanings = one i; first_file = two i; marks = three i; forbidden = four i }
