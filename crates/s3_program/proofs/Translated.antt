-- The program made from accepted lines is valid, and a correct compilation of their source.
use Rattle.std.proofs.Common.{◌≡◌, ℕ, ◌+◌, ◌<◌, ◌++◌, length, take, get_or, List, [], ◌∷◌, Bool, true, ◌&&◌, IsTrue, refl, sym, ◌∙◌, ap}
use Rattle.std.specs.Prelude.{map, filter_map, option_map, Option, Some, None}
use Rattle.std.specs.Option.{option_to_list}
use Rattle.std.proofs.lemmas.List.{take_more}
use Rattle.std.proofs.lemmas.List.Elements.{filter_map-append}
use Rattle.std.specs.List.{list_all}
use Rattle.std.proofs.lemmas.Bool.{and_parts}
use Rattle.s3_cards.specs.declared.name.Name.{Name}
use Rattle.s3_lines.specs.declared.sheet.FileLine.{FileLine}
use Rattle.s3_lines.specs.declared.sheet.InputLine.{InputLine}
use Rattle.s3_lines.specs.declared.sheet.CalculationLine.{CalculationLine}
use Rattle.s3_lines.specs.declared.sheet.OutputLine.{OutputLine}
use Rattle.s3_lines.specs.declared.sheet.Line.{Line}
use Rattle.s3_meaning.specs.Source.{Source, source_of, source_from, file_line, input_line, calculation_line, output_line}
use Rattle.s3_program.specs.declared.definitions.Definitions.{Definitions}
use Rattle.s3_program.specs.Tables.{Tables}
use Rattle.s3_program.specs.Inner.Meant.{Meant, is_defined, input_passes, calculation_passes, output_passes, are_defined}
use Rattle.s3_program.proofs.SoundLemmas.{both, of_kinds, ranged, within}
use Rattle.s3_program.specs.Inner.Valid.{Parts, tables_of, entry_of, defined_of, named, named_input, named_calculation, named_output, is_valid, are_right, are_sound, meant_input, meant_calculation, meant_output}
use Rattle.s3_program.specs.Inner.Translation.{file_on, IsAccepted, tables_in, known_lines, slotted_input, slotted_calculation, slotted_output, known_input, known_calculation, known_output}
use Rattle.s3_program.proofs.PartsLemmas.{same_parts}
use Rattle.s3_program.proofs.LineLemmas.{input_meant, calculation_meant, output_meant, input_back, calculation_back, output_back, all_meant, all_back, all_taken}

-- the translated lines and tables
abbrev pub parts_from : Definitions → List FileLine → List (InputLine Name) → List (CalculationLine Name) → List (OutputLine Name) → Parts
parts_from known files inputs calculations outputs = record {
  files = files;
  fields = map defined_of known.fields.entries;
  tags = map defined_of known.tags.entries;
  subroutines = map defined_of known.subroutines.entries;
  inputs = map (slotted_input (tables_in known)) inputs;
  calculations = map (slotted_calculation (tables_in known)) calculations;
  outputs = map (slotted_output (tables_in known)) outputs;
}

abbrev pub parts_made : Definitions → List Line → Parts
parts_made known lines = parts_from known (filter_map file_line lines) (filter_map input_line lines) (filter_map calculation_line lines) (filter_map output_line lines)

entries_back : {X : Type 0} (entries : List (Name × X)) → map entry_of (map defined_of entries) ≡ entries
entries_back [] = refl
entries_back (e ∷ es) = ap (λ rest. e ∷ rest) (entries_back es)

-- the tables of the program are the tables of the definitions
tables_same : (known : Definitions) (lines : List Line) → IsAccepted known lines → tables_of (parts_made known lines) ≡ tables_in known
tables_same known lines a = λ i. record {
  files = sym a.files i;
  fields = entries_back known.fields.entries i;
  tags = entries_back known.tags.entries i;
  subroutines = entries_back known.subroutines.entries i;
}

-- the source of parts, named by other tables
abbrev named_by : Tables → Parts → Source
named_by tables parts = source_from parts.files (map (named_input tables) parts.inputs) (map (named_calculation tables) parts.calculations) (map (named_output tables) parts.outputs)

abbrev meant_by : Tables → Parts → Meant
meant_by tables parts = record {
  files = parts.files;
  inputs = map (meant_input tables) parts.inputs;
  calculations = map (meant_calculation tables) parts.calculations;
  outputs = map (meant_output tables) parts.outputs;
}

abbrev valid_by : Tables → Source → Meant → Bool
valid_by tables source lines = are_right source tables lines.calculations && are_sound lines

mapped : {A B : Type 0} (p : B → Bool) (k : A → B) (xs : List A) → list_all p (map k xs) ≡ true → list_all (λ x. p (k x)) xs ≡ true
mapped p k [] all = refl
mapped p k (x ∷ xs) all = let parts = and_parts (p (k x)) (list_all p (map k xs)) all in both _ _ parts.0 (mapped p k xs parts.1)

names_back : (known : Definitions) (lines : List Line) → IsAccepted known lines → named_by (tables_in known) (parts_made known lines) ≡ source_of lines
unfolding are_defined
names_back known lines a =
    let tables : Tables = tables_in known in
    let two = and_parts _ _ a.defined in
    let one = and_parts _ _ two.0 in
    let inputs = all_back (named_input tables) (slotted_input tables) (λ line. input_passes (λ kind meaning. is_defined meaning) (known_input tables line)) (input_back tables) (filter_map input_line lines)
    (mapped (input_passes (λ kind meaning. is_defined meaning)) (known_input tables) (filter_map input_line lines) one.0) in
    let calculations = all_back (named_calculation tables) (slotted_calculation tables) (λ line. calculation_passes (λ kind meaning. is_defined meaning) (known_calculation tables line)) (calculation_back tables) (filter_map calculation_line lines)
    (mapped (calculation_passes (λ kind meaning. is_defined meaning)) (known_calculation tables) (filter_map calculation_line lines) one.1) in
    let outputs = all_back (named_output tables) (slotted_output tables) (λ line. output_passes (λ kind meaning. is_defined meaning) (known_output tables line)) (output_back tables) (filter_map output_line lines)
    (mapped (output_passes (λ kind meaning. is_defined meaning)) (known_output tables) (filter_map output_line lines) two.1) in
    λ i. source_from (filter_map file_line lines) (inputs i) (calculations i) (outputs i)

pub made_named : (known : Definitions) (lines : List Line) → IsAccepted known lines → named (parts_made known lines) ≡ source_of lines
unfolding named
made_named known lines a =
    ap (λ (t : Tables). named_by t (parts_made known lines)) (tables_same known lines a) ∙ names_back known lines a

-- slots have the meanings of their names
made_meant : (known : Definitions) (lines : List Line) → meant_by (tables_in known) (parts_made known lines) ≡ known_lines (tables_in known) lines
made_meant known lines =
    let tables : Tables = tables_in known in
    let inputs = all_meant (meant_input tables) (slotted_input tables) (known_input tables) (input_meant tables) (filter_map input_line lines) in
    let calculations = all_meant (meant_calculation tables) (slotted_calculation tables) (known_calculation tables) (calculation_meant tables) (filter_map calculation_line lines) in
    let outputs = all_meant (meant_output tables) (slotted_output tables) (known_output tables) (output_meant tables) (filter_map output_line lines) in
    λ i. record { files = filter_map file_line lines; inputs = inputs i; calculations = calculations i; outputs = outputs i }

sound_known : (known : Definitions) (lines : List Line) → IsAccepted known lines → are_sound (known_lines (tables_in known) lines) ≡ true
sound_known known lines a =
    both _ _ (both _ _ (both _ _ (of_kinds (tables_in known) lines a.defined) (ranged (tables_in known) lines a.read)) (within (tables_in known) lines a.files a.read)) a.clear

pub made_valid : (known : Definitions) (lines : List Line) → IsAccepted known lines → is_valid (parts_made known lines) ≡ true
unfolding is_valid
made_valid known lines a =
    ap (λ (t : Tables). valid_by t (named (parts_made known lines)) (meant_by t (parts_made known lines))) (tables_same known lines a)
    ∙ (ap (λ (s : Source). valid_by (tables_in known) s (meant_by (tables_in known) (parts_made known lines))) (made_named known lines a)
    ∙ (ap (λ (m : Meant). valid_by (tables_in known) (source_of lines) m) (made_meant known lines)
    ∙ both _ _ a.right (sound_known known lines a)))

-- one more line
last_of : (file : Option FileLine) → filter_map {X = Option FileLine} (λ o. o) (file ∷ []) ≡ option_to_list file
last_of None = refl
last_of (Some file) = refl

pub file_more : (done next : List FileLine) (lines : List Line) (k : ℕ) (line : Line) → k < length lines → done ≡ filter_map file_on (take k lines)
    → next ≡ done ++ option_to_list (file_on (get_or lines k line)) → next ≡ filter_map file_on (take (k + 1) lines)
file_more done next lines k line within before more =
    more ∙ (ap (λ (fs : List FileLine). fs ++ option_to_list (file_on (get_or lines k line))) before
    ∙ (ap (λ (fs : List FileLine). filter_map file_on (take k lines) ++ fs) (sym (last_of (file_on (get_or lines k line))))
    ∙ (sym (filter_map-append file_on (take k lines) (get_or lines k line ∷ [])) ∙ ap (filter_map file_on) (sym (take_more lines k line within)))))

files_taken : (lines : List Line) → filter_map file_on lines ≡ filter_map file_line lines
unfolding file_on
files_taken lines = refl

-- a program with these lists is valid and a correct compilation
pub made : (known : Definitions) (lines : List Line) (parts : Parts) → parts.files ≡ filter_map file_on lines → parts.fields ≡ map defined_of known.fields.entries
    → parts.tags ≡ map defined_of known.tags.entries → parts.subroutines ≡ map defined_of known.subroutines.entries
    → parts.inputs ≡ filter_map (λ line. option_map (slotted_input (tables_in known)) (input_line line)) lines
    → parts.calculations ≡ filter_map (λ line. option_map (slotted_calculation (tables_in known)) (calculation_line line)) lines
    → parts.outputs ≡ filter_map (λ line. option_map (slotted_output (tables_in known)) (output_line line)) lines → parts ≡ parts_made known lines
made known lines parts files fields tags subroutines inputs calculations outputs =
    same_parts parts (parts_made known lines) (files ∙ files_taken lines) fields tags subroutines
    (inputs ∙ all_taken (slotted_input (tables_in known)) input_line lines)
    (calculations ∙ all_taken (slotted_calculation (tables_in known)) calculation_line lines)
    (outputs ∙ all_taken (slotted_output (tables_in known)) output_line lines)

pub stands : (known : Definitions) (lines : List Line) (parts : Parts) → IsAccepted known lines → parts ≡ parts_made known lines → named parts ≡ source_of lines
stands known lines parts a same = ap named same ∙ made_named known lines a

pub valid : (known : Definitions) (lines : List Line) (parts : Parts) → IsAccepted known lines → parts ≡ parts_made known lines → IsTrue (is_valid parts)
valid known lines parts a same = ap is_valid same ∙ made_valid known lines a
