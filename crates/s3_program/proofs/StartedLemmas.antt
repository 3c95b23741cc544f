-- The record types and output lines of a source are those that start at the places of the tables.
use Rattle.std.proofs.Common.{◌≡◌, ℕ, ◌+◌, ◌++◌, ◌≤◌, length, drop, List, [], ◌∷◌, true, false, refl, sym, ◌∙◌, ap, arith}
use Rattle.std.specs.Prelude.{Option, Some, None, map, filter_map, option_map, unwrap_or, slice_get}
use Rattle.std.specs.List.{list_all, cons_option}
use Rattle.std.proofs.lemmas.Bool.{and_parts, true≢false}
use Rattle.std.proofs.lemmas.List.{drop-drop, length-map}
use Rattle.std.proofs.lemmas.Option.{slice_get_past}
use Rattle.s3_cards.specs.declared.name.Name.{Name}
use Rattle.s3_cards.specs.Names.{no_name}
use Rattle.s3_lines.specs.declared.sheet.FileLine.{FileLine}
use Rattle.s3_lines.specs.declared.sheet.InputLine.{InputLine}
use Rattle.s3_lines.specs.declared.sheet.InputLine.TheVariants.{Record, And as AndCodes, Or as OrCodes, Field as InputField}
use Rattle.s3_lines.specs.declared.sheet.OutputLine.{OutputLine}
use Rattle.s3_lines.specs.declared.sheet.OutputLine.TheVariants.{Line as LineCard, And as AndCard, Or as OrCard, Field as FieldCard}
use Rattle.s3_meaning.specs.RecordTypes.{types_from, group_fields, further_codes}
use Rattle.s3_meaning.specs.Names.{entries}
use Rattle.s3_meaning.specs.OutputLines.{output_from, outputs_from}
use Rattle.s3_program.specs.declared.program.Kind.TheVariants as kind
use Rattle.s3_program.specs.declared.program.Reference.{Reference}
use Rattle.s3_program.specs.declared.program.Reference.TheVariants as slot
use Rattle.s3_program.specs.declared.program.Meaning.{Meaning}
use Rattle.s3_program.specs.declared.program.Meaning.TheVariants as meaning
use Rattle.s3_program.specs.Tables.{Tables, or_undefined}
use Rattle.s3_program.specs.Inner.Tables.{name_in, name_of, meaning_at, item_in}
use Rattle.s3_program.specs.Inner.Meant.{is_of, entry_passes, input_passes, output_passes}
use Rattle.s3_program.specs.Inner.Starts.{first_from, fields_begin, file_slot, type_starts, type_starts_from, output_slot, output_starts, output_starts_from}
use Rattle.s3_program.specs.declared.program.Program.{Program}
use Rattle.s3_program.specs.Inner.Stands.{parts_of, source_named}
use Rattle.s3_program.specs.Inner.Valid.{Parts, tables_of, named, named_input, named_output, meant_input, meant_output, is_valid}
use Rattle.s3_program.specs.FileEntries.{file_entry}
use Rattle.s3_program.specs.Lines.{map_card}
use Rattle.s3_program.specs.Inner.Meant.{are_of_kinds}
use Rattle.s3_program.proofs.SlotLemmas.{kept}
use Rattle.s3_program.specs.Inner.Started.{type_on, type_at, output_on, output_at}

-- ---- a slot with the kind of files is a file's slot
no_file : {X : Type 0} (known : X → Meaning) → ((x : X) → is_of kind.File (known x) ≡ false) → (o : Option X) → is_of kind.File (or_undefined known o) ≡ true → ⊥
no_file known never None of_file = true≢false (sym of_file)
no_file known never (Some x) of_file = true≢false (sym of_file ∙ never x)

file_named : (tables : Tables) (last : ℕ) (file : Reference) → is_of kind.File (meaning_at tables file) ≡ true → name_in tables.files (file_slot last file) ≡ name_of tables file
file_named tables last (slot.File k) of_file = refl
file_named tables last (slot.Field k) of_file = absurd (no_file (λ entry. meaning.Field (record { name = entry.0; meaning = entry.1 })) (λ entry. refl) (slice_get tables.fields k) of_file)
file_named tables last (slot.Tag k) of_file = absurd (no_file (λ x. meaning.Tag x) (λ x. refl) (item_in tables.tags k) of_file)
file_named tables last (slot.Subroutine k) of_file = absurd (no_file (λ x. meaning.Subroutine x) (λ x. refl) (item_in tables.subroutines k) of_file)

-- the lines after the first line
behind : {X : Type 0} (xs rest : List X) (k : ℕ) (x : X) → drop k xs ≡ x ∷ rest → drop (k + 1) xs ≡ rest
behind xs rest k x here = sym (drop-drop 1 k xs) ∙ ap (drop 1) here

-- ---- output lines
card_named : (tables : Tables) (last : ℕ) (file : Option Reference) → entry_passes (is_of kind.File) (option_map (meaning_at tables) file) ≡ true
    → name_in tables.files (output_slot last file) ≡ unwrap_or (option_map (name_of tables) file) (name_in tables.files last)
card_named tables last None of_file = refl
card_named tables last (Some file) of_file = file_named tables last file of_file

outputs_at : (tables : Tables) (all : List (OutputLine Reference)) (last k : ℕ) (lines : List (OutputLine Reference)) → drop k all ≡ lines
    → list_all (output_passes is_of) (map (meant_output tables) lines) ≡ true
    → filter_map (output_at tables all) (output_starts_from last k lines) ≡ outputs_from (name_in tables.files last) (map (named_output tables) lines)
unfolding output_starts_from
outputs_at tables all last k [] here kinds = refl
outputs_at tables all last k (LineCard card ∷ lines) here kinds =
    let parts = and_parts (output_passes is_of (meant_output tables (LineCard card))) (list_all (output_passes is_of) (map (meant_output tables) lines)) kinds in
    let name = card_named tables last card.file parts.0 in
    let later = outputs_at tables all (output_slot last card.file) (k + 1) lines (behind all lines k (LineCard card) here) parts.1 in
    (λ i. cons_option (output_on tables (record { file = output_slot last card.file; kind = card.kind; place = k }) (here i)) (later i))
    ∙ (λ i. output_from (name i) (map_card (name_of tables) card) (map (named_output tables) lines) ∷ outputs_from (name i) (map (named_output tables) lines))
outputs_at tables all last k (AndCard conditions ∷ lines) here kinds = outputs_at tables all last (k + 1) lines (behind all lines k (AndCard conditions) here) kinds
outputs_at tables all last k (OrCard conditions ∷ lines) here kinds = outputs_at tables all last (k + 1) lines (behind all lines k (OrCard conditions) here) kinds
outputs_at tables all last k (FieldCard field ∷ lines) here kinds =
    outputs_at tables all last (k + 1) lines (behind all lines k (FieldCard field) here)
    (and_parts (output_passes is_of (meant_output tables (FieldCard field))) (list_all (output_passes is_of) (map (meant_output tables) lines)) kinds).1

-- ---- record types
-- the fields of a group are those from their start on
fields_from : (tables : Tables) (all : List (InputLine Reference)) (k : ℕ) (lines : List (InputLine Reference)) → drop k all ≡ lines
    → group_fields (map (named_input tables) (drop (fields_begin k lines) all)) ≡ group_fields (map (named_input tables) lines)
unfolding first_from
fields_from tables all k [] here = ap (λ (xs : List (InputLine Reference)). group_fields (map (named_input tables) xs)) here
fields_from tables all k (Record file indicator codes ∷ lines) here = ap (λ (xs : List (InputLine Reference)). group_fields (map (named_input tables) xs)) here
fields_from tables all k (AndCodes codes ∷ lines) here = fields_from tables all (k + 1) lines (behind all lines k (AndCodes codes) here)
fields_from tables all k (OrCodes indicator codes ∷ lines) here = fields_from tables all (k + 1) lines (behind all lines k (OrCodes indicator codes) here)
fields_from tables all k (InputField field ∷ lines) here = ap (λ (xs : List (InputLine Reference)). group_fields (map (named_input tables) xs)) here

types_at : (tables : Tables) (all : List (InputLine Reference)) (last k : ℕ) (lines : List (InputLine Reference)) → drop k all ≡ lines
    → list_all (input_passes is_of) (map (meant_input tables) lines) ≡ true
    → filter_map (type_at tables all) (type_starts_from last k lines) ≡ types_from (name_in tables.files last) (map (named_input tables) lines)
unfolding type_starts_from
types_at tables all last k [] here kinds = refl
types_at tables all last k (Record file indicator codes ∷ lines) here kinds =
    let parts = and_parts (is_of kind.File (meaning_at tables file)) (list_all (input_passes is_of) (map (meant_input tables) lines)) kinds in
    let name = file_named tables last file parts.0 in
    let next = behind all lines k (Record file indicator codes) here in
    let later = types_at tables all (file_slot last file) (k + 1) lines next parts.1 in
    let fields = fields_from tables all (k + 1) lines next in
    (λ i. cons_option (type_on tables all (record { file = file_slot last file; place = k; fields = fields_begin (k + 1) lines }) (here i)) (later i))
    ∙ (λ i. record { file = name i; indicator = indicator; codes = entries codes ++ further_codes (map (named_input tables) lines); fields = fields i } ∷ types_from (name i) (map (named_input tables) lines))
types_at tables all last k (AndCodes codes ∷ lines) here kinds = types_at tables all last (k + 1) lines (behind all lines k (AndCodes codes) here) kinds
types_at tables all last k (OrCodes indicator codes ∷ lines) here kinds =
    let next = behind all lines k (OrCodes indicator codes) here in
    let later = types_at tables all last (k + 1) lines next kinds in
    let fields = fields_from tables all (k + 1) lines next in
    (λ i. cons_option (type_on tables all (record { file = last; place = k; fields = fields_begin (k + 1) lines }) (here i)) (later i))
    ∙ (λ i. record { file = name_in tables.files last; indicator = indicator; codes = entries codes ++ further_codes (map (named_input tables) lines); fields = fields i } ∷ types_from (name_in tables.files last) (map (named_input tables) lines))
types_at tables all last k (InputField field ∷ lines) here kinds =
    types_at tables all last (k + 1) lines (behind all lines k (InputField field) here)
    (and_parts (input_passes is_of (meant_input tables (InputField field))) (list_all (input_passes is_of) (map (meant_input tables) lines)) kinds).1

-- the slot after the last has no name
nameless : (files : List FileLine) → name_in (map file_entry files) (length files) ≡ no_name
nameless files =
    let past : length (map file_entry files) ≤ length files = grind (arith, length-map) in
    ap (λ o. unwrap_or (option_map (λ (entry : Name × FileLine). entry.0) o) no_name) (slice_get_past (map file_entry files) (length files) past)

types_valid : (parts : Parts) → is_valid parts ≡ true → filter_map (type_at (tables_of parts) parts.inputs) (type_starts parts.files parts.inputs) ≡ (named parts).types
unfolding named are_of_kinds
types_valid parts valid =
    let kinds = (and_parts _ _ (and_parts _ _ (kept parts valid).kinds).0).0 in
    types_at (tables_of parts) parts.inputs (length parts.files) 0 parts.inputs refl kinds
    ∙ ap (λ name. types_from name (map (named_input (tables_of parts)) parts.inputs)) (nameless parts.files)

outputs_valid : (parts : Parts) → is_valid parts ≡ true → filter_map (output_at (tables_of parts) parts.outputs) (output_starts parts.files parts.outputs) ≡ (named parts).outputs
unfolding named are_of_kinds
outputs_valid parts valid =
    let kinds = (and_parts _ _ (kept parts valid).kinds).1 in
    outputs_at (tables_of parts) parts.outputs (length parts.files) 0 parts.outputs refl kinds
    ∙ ap (λ name. outputs_from name (map (named_output (tables_of parts)) parts.outputs)) (nameless parts.files)

pub types_stand : (program : Program) → filter_map (type_at (tables_of (parts_of program)) program.inputs.items) (type_starts program.files.items program.inputs.items) ≡ (source_named program).types
types_stand program = types_valid (parts_of program) program.valid

pub outputs_stand : (program : Program) → filter_map (output_at (tables_of (parts_of program)) program.outputs.items) (output_starts program.files.items program.outputs.items) ≡ (source_named program).outputs
outputs_stand program = outputs_valid (parts_of program) program.valid
