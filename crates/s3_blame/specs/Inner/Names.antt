-- What the lines of a source define, and which entries 5, 6 and 8 mark by it: names, definitions, and forms of fields that are put out.
use Rattle.std.specs.Prelude.{◌≡◌, ◌++◌, ◌==◌, IsTrue, ℕ, Bool, true, false, not, ◌&&◌, ◌||◌, List, [], ◌∷◌, Option, Some, None, is_some, filter_map, option_map}
use Rattle.s3_cards.specs.declared.name.Name.{Name}
use Rattle.s3_edit.specs.declared.code.EditCode.{EditCode}
use Rattle.s3_edit.specs.declared.code.EditCode.TheVariants.{Date}
use Rattle.s3_lines.specs.declared.sheet.CalculationLine.{CalculationLine}
use Rattle.s3_lines.specs.declared.sheet.Factor.{Factor}
use Rattle.s3_lines.specs.declared.sheet.Factor.TheVariants.{Named}
use Rattle.s3_lines.specs.declared.sheet.FieldLine.{FieldLine}
use Rattle.s3_lines.specs.declared.sheet.Line.{Line}
use Rattle.s3_lines.specs.declared.sheet.Operation.{Operation}
use Rattle.s3_lines.specs.declared.sheet.Operation.TheVariants as op
use Rattle.s3_lines.specs.declared.sheet.OutputContent.{OutputContent}
use Rattle.s3_lines.specs.declared.sheet.OutputContent.TheVariants.{Constant as ConstantContent, Field as FieldContent}
use Rattle.s3_lines.specs.declared.sheet.OutputField.{OutputField}
use Rattle.s3_lines.specs.declared.sheet.OutputForm.{OutputForm}
use Rattle.s3_lines.specs.declared.sheet.OutputForm.TheVariants.{Edited, Packed, Plain}
use Rattle.s3_lines.specs.declared.sheet.Shape.{Shape}
use Rattle.s3_lines.specs.declared.sheet.Shape.TheVariants.{Alphanumeric, Numeric}
use Rattle.s3_meaning.specs.Source.{reserved_shapes, calculation_line}
use Rattle.s3_program.specs.declared.program.Kind.{Kind}
use Rattle.s3_program.specs.declared.program.Kind.TheVariants as kind
use Rattle.s3_program.specs.declared.row.Operand.{Operand}
use Rattle.s3_program.specs.declared.row.Operand.TheVariants as operand
use Rattle.s3_program.specs.Inner.Given.{files_given, firsts}
use Rattle.s3_program.specs.Kinds.{first_kind, second_kind}
use Rattle.s3_program.specs.Redefined.{is_date, is_elsewhere, shape_of_field}
use Rattle.s3_program.specs.Rows.{row_of}
use Rattle.s3_program.specs.Standings.{first_calculation}
use Rattle.s3_program.specs.Tables.{found_in}
use Rattle.s3_program.specs.Undefined.{is_target, is_undefined, is_used}
use Rattle.s3_lines.specs.Inner.Ranges.{are_read}
use Rattle.s3_diagnose.specs.Lookups.{fields_given, meanings_of, name_given, result_given, subroutine_given, tag_given}
use Rattle.s3_blame.specs.declared.known.Known.{Known}

-- ---- names
-- what the lines of a source define
pub record Names : Type 0 where
  -- whether a name is that of a file, a field, a tag or a subroutine
  pub is_defined : Kind → Name → Bool
  -- the shape of a field, by its first definition
  pub field : Name → Option Shape
  -- the card of the first TAG, and of the first BEGSR, of a name
  pub tag : Name → Option ℕ
  pub subroutine : Name → Option ℕ

-- ---- what is known of lines
-- the name of a TAG, or of a BEGSR, with its card
abbrev pub tag_of : (card : ℕ) → Option (CalculationLine Name) → Option (Name × ℕ)
tag_of card None = None
tag_of card (Some line) = option_map (λ given. (given.0, card)) (tag_given first_calculation line)

abbrev pub subroutine_of : (card : ℕ) → Option (CalculationLine Name) → Option (Name × ℕ)
subroutine_of card None = None
subroutine_of card (Some line) = option_map (λ given. (given.0, card)) (subroutine_given first_calculation line)

abbrev pub tag_on : Line → Option (Name × ℕ)
tag_on line = tag_of line.card (calculation_line line)

abbrev pub subroutine_on : Line → Option (Name × ℕ)
subroutine_on line = subroutine_of line.card (calculation_line line)

-- what the lines of a source define
abbrev pub names_of : List Line → Names
names_of lines = record {
  is_defined = λ kind name. not (is_undefined (meanings_of lines kind name));
  field = found_in (reserved_shapes ++ fields_given lines);
  tag = found_in (filter_map tag_on lines);
  subroutine = found_in (filter_map subroutine_on lines);
}

abbrev pub is_known : Known → Kind → Name → Bool
is_known known kind.File name = is_some (found_in known.files.entries name)
is_known known kind.Field name = is_some (found_in known.fields.entries name)
is_known known kind.Tag name = is_some (found_in known.tags.entries name)
is_known known kind.Subroutine name = is_some (found_in known.subroutines.entries name)

-- .. by what is known of these lines
abbrev pub names_known : Known → Names
names_known known = record {
  is_defined = is_known known;
  field = found_in known.fields.entries;
  tag = found_in known.tags.entries;
  subroutine = found_in known.subroutines.entries;
}

-- the first definition of each name: the F line of a file, the shape of a field, the card of a TAG and of a BEGSR
pub record Knows (lines : List Line) (known : Known) : Type 0 where
  pub files : known.files.entries ≡ firsts (files_given lines)
  pub fields : IsTrue (are_read lines) → known.fields.entries ≡ firsts (reserved_shapes ++ fields_given lines)
  pub tags : known.tags.entries ≡ firsts (filter_map tag_on lines)
  pub subroutines : known.subroutines.entries ≡ firsts (filter_map subroutine_on lines)

-- ---- the names of a C line
-- a factor is a name that isn't defined so
abbrev pub is_unknown : Names → Kind → Option (Factor Name) → Bool
is_unknown names kind (Some (Named name)) = not (names.is_defined kind name)
is_unknown names kind _ = false

-- a result isn't defined
abbrev pub is_unknown_result : Names → Option Name → Bool
is_unknown_result names None = false
is_unknown_result names (Some name) = not (names.is_defined kind.Field name)

-- factor 1, factor 2 and the result: each that the operation uses, and that is a name without a definition
abbrev pub unknown_by : Names → Option Operation → (factor1 factor2 : Option (Factor Name)) → (result : Option Name) → List Bool
unknown_by names None factor1 factor2 result = false ∷ false ∷ false ∷ []
unknown_by names (Some operation) factor1 factor2 result =
    (is_used (row_of operation).factor1 && is_unknown names (first_kind (Some operation)) factor1)
    ∷ (is_used (row_of operation).factor2 && is_unknown names (second_kind (Some operation)) factor2)
    ∷ (is_target (row_of operation).result && is_unknown_result names result)
    ∷ []

abbrev pub unknown_in : Names → CalculationLine Name → List Bool
unknown_in names line = unknown_by names line.operation line.factor1 line.factor2 line.result

-- what an operation takes is the name of a file, a field, a tag or a subroutine
abbrev pub kind_named : Operand → Kind
kind_named operand.Tag = kind.Tag
kind_named operand.Subroutine = kind.Subroutine
kind_named operand.ChainedFile = kind.File
kind_named _ = kind.Field

-- ---- definitions that differ from the first one
-- digits or characters
abbrev pub length_of : Shape → ℕ
length_of (Numeric digits decimals) = digits
length_of (Alphanumeric length) = length

-- a text has none
abbrev pub decimals_of : Shape → Option ℕ
decimals_of (Numeric digits decimals) = Some decimals
decimals_of (Alphanumeric length) = None

abbrev pub length_differs : Shape → Shape → Bool
length_differs first shape = not (length_of first == length_of shape)

abbrev pub differ : Option ℕ → Option ℕ → Bool
differ None None = false
differ None (Some other) = true
differ (Some one) None = true
differ (Some one) (Some other) = not (one == other)

abbrev pub decimals_differ : Shape → Shape → Bool
decimals_differ first shape = differ (decimals_of first) (decimals_of shape)

-- a field that a line defines differs in this from its first definition; no line may define a date field, with whatever shape
abbrev pub is_otherwise : (Shape → Shape → Bool) → Names → Option (Name × Shape) → Bool
is_otherwise differs names None = false
is_otherwise differs names (Some (name, shape)) = by (is_date name) (names.field name)
  where
    by : (is_date : Bool) → Option Shape → Bool
    by false (Some first) = differs first shape
    by _ _ = false

-- a TAG, or a BEGSR, of a name that has its first one on another card
abbrev pub is_second : Names → (card : ℕ) → CalculationLine Name → Bool
is_second names card line = by line.operation (name_given line.factor1)
  where
    by : Option Operation → Option Name → Bool
    by (Some op.Tag) (Some name) = is_elsewhere card (names.tag name)
    by (Some op.BeginSubroutine) (Some name) = is_elsewhere card (names.subroutine name)
    by _ _ = false

-- a date field is the result of a line that defines it, or changes it
abbrev pub changes_date : CalculationLine Name → Bool
changes_date line = by line.operation line.result
  where
    by : Option Operation → Option Name → Bool
    by (Some operation) (Some name) = is_date name && (is_some line.definition || is_target (row_of operation).result)
    by _ _ = false

-- the positions and the decimals of a field of a record, if they differ, and its name
abbrev pub redefined_field : Names → FieldLine Name → List Bool
redefined_field names field =
    is_otherwise length_differs names (Some (field.name, shape_of_field field))
    ∷ is_otherwise decimals_differ names (Some (field.name, shape_of_field field))
    ∷ true
    ∷ []

-- factor 1 of a second TAG or BEGSR; the result that differs, or is a date; the length and the decimals that differ
abbrev pub redefined_in : Names → (card : ℕ) → CalculationLine Name → List Bool
redefined_in names card line =
    is_second names card line
    ∷ (is_otherwise length_differs names (result_given line) || is_otherwise decimals_differ names (result_given line) || changes_date line)
    ∷ is_otherwise length_differs names (result_given line)
    ∷ is_otherwise decimals_differ names (result_given line)
    ∷ []

-- ---- forms of fields that are put out
-- Y is for 6 digits without decimals
abbrev pub can_edit : EditCode → Shape → Bool
can_edit code (Alphanumeric length) = false
can_edit Date (Numeric digits decimals) = (digits == 6) && (decimals == 0)
can_edit code (Numeric digits decimals) = true

-- the edit code, the end position and P: a form that a field of this shape can't have, else the end position
abbrev pub unfit_form : OutputForm → Option Shape → List Bool
unfit_form form None = false ∷ false ∷ false ∷ []
unfit_form Plain (Some shape) = false ∷ true ∷ false ∷ []
unfit_form Packed (Some (Alphanumeric length)) = false ∷ false ∷ true ∷ []
unfit_form Packed (Some (Numeric digits decimals)) = false ∷ true ∷ false ∷ []
unfit_form (Edited code) (Some shape) = not (can_edit code shape) ∷ can_edit code shape ∷ false ∷ []

abbrev pub unfit_content : Names → OutputContent Name → List Bool
unfit_content names (ConstantContent constant) = false ∷ false ∷ false ∷ []
unfit_content names (FieldContent field) = unfit_form field.form (names.field field.name)

abbrev pub unfit_in : Names → OutputField Name → List Bool
unfit_in names field = unfit_content names field.content
