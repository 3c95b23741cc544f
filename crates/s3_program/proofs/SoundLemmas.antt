-- Lines of cards without errors: with meanings they are in range, and positions are within their records.
use Rattle.std.proofs.Common.{◌≡◌, ℕ, List, [], ◌∷◌, Bool, true, false, ◌&&◌, refl, sym, ◌∙◌, ap}
use Rattle.std.specs.Prelude.{Option, Some, None, map, filter_map, option_map, if◌then◌else◌}
use Rattle.std.specs.List.{list_all, cons_option}
use Rattle.std.specs.Option.{option_or}
use Rattle.std.specs.Map.{lookup}
use Rattle.std.proofs.lemmas.Bool.{and_parts, true≢false}
use Rattle.s3_cards.specs.declared.name.Name.{Name}
use Rattle.s3_cards.specs.Names.{same_name}
use Rattle.s3_cards.proofs.NameLemmas.{same_name-equal, same_name-self}
use Rattle.s3_lines.specs.declared.sheet.FileLine.{FileLine}
use Rattle.s3_lines.specs.declared.sheet.InputLine.{InputLine}
use Rattle.s3_lines.specs.declared.sheet.InputLine.TheVariants.{Record, And, Or, Field}
use Rattle.s3_lines.specs.declared.sheet.Factor.{Factor}
use Rattle.s3_lines.specs.declared.sheet.Factor.TheVariants.{Named, Number, Text}
use Rattle.s3_lines.specs.declared.sheet.CalculationLine.{CalculationLine}
use Rattle.s3_lines.specs.declared.sheet.OutputContent.{OutputContent}
use Rattle.s3_lines.specs.declared.sheet.OutputContent.TheVariants.{Constant as ConstantContent, Field as FieldContent}
use Rattle.s3_lines.specs.declared.sheet.OutputLine.{OutputLine}
use Rattle.s3_lines.specs.declared.sheet.OutputLine.TheVariants.{Line as LineCard, And as AndCard, Or as OrCard, Field as FieldCard}
use Rattle.s3_lines.specs.declared.sheet.SheetLine.{SheetLine}
use Rattle.s3_lines.specs.declared.sheet.SheetLine.TheVariants.{Header, File, Input, Calculation, Output}
use Rattle.s3_lines.specs.declared.sheet.Line.{Line}
use Rattle.s3_lines.specs.Ranges.{if_given}
use Rattle.s3_lines.specs.Inner.Ranges.{factor_in_range, file_in_range, input_in_range, calculation_in_range, output_in_range, content_in_range, in_range, codes_within, positions_within, input_length_behind as input_length_on, output_length_behind as output_length_on, all_within, record_length_in, are_read}
use Rattle.s3_meaning.specs.Source.{file_line, input_line, calculation_line, output_line}
use Rattle.s3_program.specs.declared.program.Kind.{Kind}
use Rattle.s3_program.specs.declared.program.Kind.TheVariants as kind
use Rattle.s3_program.specs.declared.program.Meaning.{Meaning}
use Rattle.s3_program.specs.declared.program.Meaning.TheVariants as meaning
use Rattle.s3_program.specs.Tables.{Tables, meaning_of, or_undefined, found_in}
use Rattle.s3_program.specs.Lines.{map_factor, map_content}
use Rattle.s3_program.specs.Kinds.{first_kind, second_kind}
use Rattle.s3_program.specs.Inner.Meant.{is_defined, is_of, factor_passes, entry_passes, input_passes, calculation_passes, content_passes, output_passes, are_defined, are_of_kinds}
use Rattle.s3_program.specs.Inner.Positions.{record_length, inputs_within, outputs_within, are_within, are_in_range}
use Rattle.s3_program.specs.FileEntries.{file_entry}
use Rattle.s3_program.specs.Inner.Translation.{known_input, known_calculation, known_output, known_lines}

pub both : (a b : Bool) → a ≡ true → b ≡ true → (a && b) ≡ true
both a b pa pb = rw (pa, pb) refl

-- ---- a defined name has the kind of its look-up
of_kind : (tables : Tables) (k : Kind) (name : Name) → is_defined (meaning_of tables k name) ≡ true → is_of k (meaning_of tables k name) ≡ true
of_kind tables kind.File name defined = known (found_in tables.files name) defined
  where
    known : (o : Option FileLine) → is_defined (or_undefined (λ x. meaning.File x) o) ≡ true → is_of kind.File (or_undefined (λ x. meaning.File x) o) ≡ true
    known None defined = defined
    known (Some x) defined = refl
of_kind tables kind.Field name defined = known (found_in tables.fields name) defined
  where
    known : (o : Option _) → is_defined (or_undefined (λ x. meaning.Field (record { name = name; meaning = x })) o) ≡ true
        → is_of kind.Field (or_undefined (λ x. meaning.Field (record { name = name; meaning = x })) o) ≡ true
    known None defined = defined
    known (Some x) defined = refl
of_kind tables kind.Tag name defined = known (found_in tables.tags name) defined
  where
    known : (o : Option _) → is_defined (or_undefined (λ x. meaning.Tag x) o) ≡ true → is_of kind.Tag (or_undefined (λ x. meaning.Tag x) o) ≡ true
    known None defined = defined
    known (Some x) defined = refl
of_kind tables kind.Subroutine name defined = known (found_in tables.subroutines name) defined
  where
    known : (o : Option _) → is_defined (or_undefined (λ x. meaning.Subroutine x) o) ≡ true → is_of kind.Subroutine (or_undefined (λ x. meaning.Subroutine x) o) ≡ true
    known None defined = defined
    known (Some x) defined = refl

factor_of_kind : (tables : Tables) (k : Kind) (factor : Option (Factor Name)) → factor_passes is_defined (option_map (map_factor (meaning_of tables k)) factor) ≡ true
    → factor_passes (is_of k) (option_map (map_factor (meaning_of tables k)) factor) ≡ true
factor_of_kind tables k None defined = refl
factor_of_kind tables k (Some (Named name)) defined = of_kind tables k name defined
factor_of_kind tables k (Some (Number literal)) defined = refl
factor_of_kind tables k (Some (Text literal)) defined = refl

entry_of_kind : (tables : Tables) (k : Kind) (entry : Option Name) → entry_passes is_defined (option_map (meaning_of tables k) entry) ≡ true
    → entry_passes (is_of k) (option_map (meaning_of tables k) entry) ≡ true
entry_of_kind tables k None defined = refl
entry_of_kind tables k (Some name) defined = of_kind tables k name defined

input_of_kind : (tables : Tables) (line : InputLine Name) → input_passes (λ kind meaning. is_defined meaning) (known_input tables line) ≡ true
    → input_passes is_of (known_input tables line) ≡ true
input_of_kind tables (Record file indicator codes) defined = of_kind tables kind.File file defined
input_of_kind tables (And codes) defined = refl
input_of_kind tables (Or indicator codes) defined = refl
input_of_kind tables (Field line) defined = of_kind tables kind.Field line.name defined

calculation_of_kind : (tables : Tables) (line : CalculationLine Name) → calculation_passes (λ kind meaning. is_defined meaning) (known_calculation tables line) ≡ true
    → calculation_passes is_of (known_calculation tables line) ≡ true
calculation_of_kind tables line defined =
    let two = and_parts _ _ defined in
    let one = and_parts _ _ two.0 in
    both _ _ (both _ _ (factor_of_kind tables (first_kind line.operation) line.factor1 one.0) (factor_of_kind tables (second_kind line.operation) line.factor2 one.1))
    (entry_of_kind tables kind.Field line.result two.1)

content_of_kind : (tables : Tables) (content : OutputContent Name) → content_passes (λ kind meaning. is_defined meaning) (map_content (meaning_of tables kind.Field) content) ≡ true
    → content_passes is_of (map_content (meaning_of tables kind.Field) content) ≡ true
content_of_kind tables (ConstantContent constant) defined = refl
content_of_kind tables (FieldContent field) defined = of_kind tables kind.Field field.name defined

output_of_kind : (tables : Tables) (line : OutputLine Name) → output_passes (λ kind meaning. is_defined meaning) (known_output tables line) ≡ true
    → output_passes is_of (known_output tables line) ≡ true
output_of_kind tables (LineCard card) defined = entry_of_kind tables kind.File card.file defined
output_of_kind tables (AndCard conditions) defined = refl
output_of_kind tables (OrCard conditions) defined = refl
output_of_kind tables (FieldCard field) defined = content_of_kind tables field.content defined

all_so : {A B : Type 0} (k : A → B) (p q : B → Bool) → ((x : A) → p (k x) ≡ true → q (k x) ≡ true) → (xs : List A) → list_all p (map k xs) ≡ true → list_all q (map k xs) ≡ true
all_so k p q so [] all = refl
all_so k p q so (x ∷ xs) all = let parts = and_parts (p (k x)) (list_all p (map k xs)) all in both _ _ (so x parts.0) (all_so k p q so xs parts.1)

pub of_kinds : (tables : Tables) (lines : List Line) → are_defined (known_lines tables lines) ≡ true → are_of_kinds (known_lines tables lines) ≡ true
unfolding are_defined are_of_kinds
of_kinds tables lines defined =
    let two = and_parts _ _ defined in
    let one = and_parts _ _ two.0 in
    both _ _ (both _ _ (all_so (known_input tables) _ _ (input_of_kind tables) (filter_map input_line lines) one.0)
    (all_so (known_calculation tables) _ _ (calculation_of_kind tables) (filter_map calculation_line lines) one.1))
    (all_so (known_output tables) _ _ (output_of_kind tables) (filter_map output_line lines) two.1)

-- ---- ranges don't depend on meanings
input_ranged : (tables : Tables) (line : InputLine Name) → input_in_range (known_input tables line) ≡ input_in_range line
input_ranged tables (Record file indicator codes) = refl
input_ranged tables (And codes) = refl
input_ranged tables (Or indicator codes) = refl
input_ranged tables (Field line) = refl

factor_ranged : (f : Name → Meaning) (factor : Option (Factor Name)) → if_given factor_in_range (option_map (map_factor f) factor) ≡ if_given factor_in_range factor
factor_ranged f None = refl
factor_ranged f (Some (Named name)) = refl
factor_ranged f (Some (Number literal)) = refl
factor_ranged f (Some (Text literal)) = refl

calculation_ranged : (tables : Tables) (line : CalculationLine Name) → calculation_in_range (known_calculation tables line) ≡ calculation_in_range line
calculation_ranged tables line =
    rw (factor_ranged (meaning_of tables (first_kind line.operation)) line.factor1, factor_ranged (meaning_of tables (second_kind line.operation)) line.factor2) refl

content_ranged : (f : Name → Meaning) (content : OutputContent Name) (end : ℕ) → content_in_range (map_content f content) end ≡ content_in_range content end
content_ranged f (ConstantContent constant) end = refl
content_ranged f (FieldContent field) end = refl

output_ranged : (tables : Tables) (line : OutputLine Name) → output_in_range (known_output tables line) ≡ output_in_range line
output_ranged tables (LineCard card) = refl
output_ranged tables (AndCard conditions) = refl
output_ranged tables (OrCard conditions) = refl
output_ranged tables (FieldCard field) = rw (content_ranged (meaning_of tables kind.Field) field.content field.end) refl

all_ranged : {A B : Type 0} (k : A → B) (p : A → Bool) (q : B → Bool) → ((x : A) → q (k x) ≡ p x) → (xs : List A) → list_all p xs ≡ true → list_all q (map k xs) ≡ true
all_ranged k p q same [] all = refl
all_ranged k p q same (x ∷ xs) all = let parts = and_parts (p x) (list_all p xs) all in both _ _ (same x ∙ parts.0) (all_ranged k p q same xs parts.1)

-- the lines of one kind of specification
all_taken : {A : Type 0} (o : Line → Option A) (p : A → Bool) → ((line : Line) → in_range line.sheet ≡ true → if_given p (o line) ≡ true) → (lines : List Line)
    → list_all (λ line. in_range line.sheet) lines ≡ true → list_all p (filter_map o lines) ≡ true
all_taken o p so [] all = refl
all_taken {A} o p so (line ∷ lines) all =
    let parts = and_parts (in_range line.sheet) (list_all (λ line. in_range line.sheet) lines) all in
    step (o line) (so line parts.0) (all_taken o p so lines parts.1)
  where
    step : (found : Option A) → if_given p found ≡ true → list_all p (filter_map o lines) ≡ true → list_all p (cons_option found (filter_map o lines)) ≡ true
    step None here later = later
    step (Some x) here later = both _ _ here later

file_taken : (line : Line) → in_range line.sheet ≡ true → if_given file_in_range (file_line line) ≡ true
unfolding in_range
file_taken line ranged = on line.card line.sheet ranged
  where
    on : (card : ℕ) (sheet : SheetLine) → in_range sheet ≡ true → if_given file_in_range (file_line (record { card = card; sheet = sheet })) ≡ true
    on card (Header name) ranged = refl
    on card (File file) ranged = ranged
    on card (Input line) ranged = refl
    on card (Calculation line) ranged = refl
    on card (Output line) ranged = refl

input_taken : (line : Line) → in_range line.sheet ≡ true → if_given input_in_range (input_line line) ≡ true
unfolding in_range
input_taken line ranged = on line.card line.sheet ranged
  where
    on : (card : ℕ) (sheet : SheetLine) → in_range sheet ≡ true → if_given input_in_range (input_line (record { card = card; sheet = sheet })) ≡ true
    on card (Header name) ranged = refl
    on card (File file) ranged = refl
    on card (Input line) ranged = ranged
    on card (Calculation line) ranged = refl
    on card (Output line) ranged = refl

calculation_taken : (line : Line) → in_range line.sheet ≡ true → if_given calculation_in_range (calculation_line line) ≡ true
unfolding in_range
calculation_taken line ranged = on line.card line.sheet ranged
  where
    on : (card : ℕ) (sheet : SheetLine) → in_range sheet ≡ true → if_given calculation_in_range (calculation_line (record { card = card; sheet = sheet })) ≡ true
    on card (Header name) ranged = refl
    on card (File file) ranged = refl
    on card (Input line) ranged = refl
    on card (Calculation line) ranged = ranged
    on card (Output line) ranged = refl

output_taken : (line : Line) → in_range line.sheet ≡ true → if_given output_in_range (output_line line) ≡ true
unfolding in_range
output_taken line ranged = on line.card line.sheet ranged
  where
    on : (card : ℕ) (sheet : SheetLine) → in_range sheet ≡ true → if_given output_in_range (output_line (record { card = card; sheet = sheet })) ≡ true
    on card (Header name) ranged = refl
    on card (File file) ranged = refl
    on card (Input line) ranged = refl
    on card (Calculation line) ranged = refl
    on card (Output line) ranged = ranged

pub ranged : (tables : Tables) (lines : List Line) → are_read lines ≡ true → are_in_range (known_lines tables lines) ≡ true
unfolding are_read are_in_range
ranged tables lines read =
    let all : list_all (λ (line : Line). in_range line.sheet) lines ≡ true = (and_parts _ _ (and_parts _ _ read).0).1 in
    both _ _ (both _ _ (both _ _ (all_taken file_line file_in_range file_taken lines all)
    (all_ranged (known_input tables) input_in_range input_in_range (input_ranged tables) (filter_map input_line lines) (all_taken input_line input_in_range input_taken lines all)))
    (all_ranged (known_calculation tables) calculation_in_range calculation_in_range (calculation_ranged tables) (filter_map calculation_line lines) (all_taken calculation_line calculation_in_range calculation_taken lines all)))
    (all_ranged (known_output tables) output_in_range output_in_range (output_ranged tables) (filter_map output_line lines) (all_taken output_line output_in_range output_taken lines all))

-- ---- positions within records: the first line of a file gives its length
turned : (a b : Name) → same_name a b ≡ same_name b a
turned a b = on (same_name a b) (same_name b a) refl refl
  where
    on : (x y : Bool) → same_name a b ≡ x → same_name b a ≡ y → x ≡ y
    on true true one two = refl
    on false false one two = refl
    on true false one two = absurd (true≢false (sym (ap (λ n. same_name b n) (same_name-equal a b one) ∙ same_name-self b) ∙ two))
    on false true one two = absurd (true≢false (sym (ap (λ n. same_name a n) (same_name-equal b a two) ∙ same_name-self a) ∙ one))

known_length : List Line → Name → Option ℕ
known_length lines name = record_length (or_undefined (λ x. meaning.File x) (lookup (same_name name) (map file_entry (filter_map file_line lines))))

or_later : (file : FileLine) (rest : Option ℕ) (found : Option FileLine) (b : Bool) → rest ≡ record_length (or_undefined (λ x. meaning.File x) found)
    → option_or (if b then Some file.record_length else None) rest ≡ record_length (or_undefined (λ x. meaning.File x) (if b then Some file else found))
or_later file rest found true later = refl
or_later file rest found false later = later

lengths_known : (lines : List Line) (name : Name) → record_length_in lines name ≡ known_length lines name
unfolding record_length_in known_length
lengths_known [] name = refl
lengths_known (line ∷ lines) name = on line.card line.sheet (lengths_known lines name)
  where
    on : (card : ℕ) (sheet : SheetLine) → record_length_in lines name ≡ known_length lines name
        → record_length_in (record { card = card; sheet = sheet } ∷ lines) name ≡ known_length (record { card = card; sheet = sheet } ∷ lines) name
    on card (Header title) later = later
    on card (File file) later =
        ap (λ b. option_or (if b then Some file.record_length else None) (record_length_in lines name)) (turned file.name name)
        ∙ or_later file (record_length_in lines name) (lookup (same_name name) (map file_entry (filter_map file_line lines))) (same_name name file.name) later
    on card (Input line) later = later
    on card (Calculation line) later = later
    on card (Output line) later = later

-- the record lengths of a table with these files
AreLengths : Tables → (Name → Option ℕ) → Type 0
AreLengths tables lengths = (name : Name) → lengths name ≡ record_length (meaning_of tables kind.File name)

inputs_in : (tables : Tables) (lengths : Name → Option ℕ) → AreLengths tables lengths → (input output : Option ℕ) (lines : List Line) → all_within lengths input output lines ≡ true
    → inputs_within input (map (known_input tables) (filter_map input_line lines)) ≡ true
unfolding all_within inputs_within AreLengths
inputs_in tables lengths same input output [] within = refl
inputs_in tables lengths same input output (line ∷ lines) within =
    let parts = and_parts (positions_within lengths input output line.sheet) (all_within lengths (input_length_on lengths input line.sheet) (output_length_on lengths output line.sheet) lines) within in
    on line.card line.sheet parts.0 (inputs_in tables lengths same (input_length_on lengths input line.sheet) (output_length_on lengths output line.sheet) lines parts.1)
  where
    on : (card : ℕ) (sheet : SheetLine) → positions_within lengths input output sheet ≡ true
        → inputs_within (input_length_on lengths input sheet) (map (known_input tables) (filter_map input_line lines)) ≡ true
        → inputs_within input (map (known_input tables) (filter_map input_line (record { card = card; sheet = sheet } ∷ lines))) ≡ true
    on card (Header title) here later = later
    on card (File file) here later = later
    on card (Input (Record file indicator codes)) here later =
        both _ _ (ap (λ length. codes_within length codes) (sym (same file)) ∙ here)
        (ap (λ length. inputs_within length (map (known_input tables) (filter_map input_line lines))) (sym (same file)) ∙ later)
    on card (Input (And codes)) here later = both _ _ here later
    on card (Input (Or indicator codes)) here later = both _ _ here later
    on card (Input (Field line)) here later = both _ _ here later
    on card (Calculation line) here later = later
    on card (Output line) here later = later

outputs_in : (tables : Tables) (lengths : Name → Option ℕ) → AreLengths tables lengths → (input output : Option ℕ) (lines : List Line) → all_within lengths input output lines ≡ true
    → outputs_within output (map (known_output tables) (filter_map output_line lines)) ≡ true
unfolding all_within outputs_within AreLengths
outputs_in tables lengths same input output [] within = refl
outputs_in tables lengths same input output (line ∷ lines) within =
    let parts = and_parts (positions_within lengths input output line.sheet) (all_within lengths (input_length_on lengths input line.sheet) (output_length_on lengths output line.sheet) lines) within in
    on line.card line.sheet parts.0 (outputs_in tables lengths same (input_length_on lengths input line.sheet) (output_length_on lengths output line.sheet) lines parts.1)
  where
    on : (card : ℕ) (sheet : SheetLine) → positions_within lengths input output sheet ≡ true
        → outputs_within (output_length_on lengths output sheet) (map (known_output tables) (filter_map output_line lines)) ≡ true
        → outputs_within output (map (known_output tables) (filter_map output_line (record { card = card; sheet = sheet } ∷ lines))) ≡ true
    on card (Header title) here later = later
    on card (File file) here later = later
    on card (Input line) here later = later
    on card (Calculation line) here later = later
    on card (Output (LineCard line)) here later = named line.file later
      where
        named : (file : Option Name) → outputs_within (output_length_on lengths output (Output (LineCard (record line { file = file })))) (map (known_output tables) (filter_map output_line lines)) ≡ true
            → outputs_within output (map (known_output tables) (filter_map output_line (record { card = card; sheet = Output (LineCard (record line { file = file })) } ∷ lines))) ≡ true
        named None later = later
        named (Some name) later = ap (λ length. outputs_within length (map (known_output tables) (filter_map output_line lines))) (sym (same name)) ∙ later
    on card (Output (AndCard conditions)) here later = later
    on card (Output (OrCard conditions)) here later = later
    on card (Output (FieldCard field)) here later = both _ _ here later

pub within : (tables : Tables) (lines : List Line) → tables.files ≡ map file_entry (filter_map file_line lines) → are_read lines ≡ true → are_within (known_lines tables lines) ≡ true
unfolding are_read are_within known_length AreLengths
within tables lines files read =
    let positions = (and_parts _ _ read).1 in
    let same : AreLengths tables (record_length_in lines) = λ name. lengths_known lines name ∙ ap (λ table. record_length (or_undefined (λ x. meaning.File x) (lookup (same_name name) table))) (sym files) in
    both _ _ (inputs_in tables (record_length_in lines) same None None lines positions) (outputs_in tables (record_length_in lines) same None None lines positions)
