-- Record types by the place at which each starts among the I lines of a program.
use Rattle.std.specs.Prelude.{ℕ, ◌≡◌, ◌+◌, ◌==◌, IfSome, Bool, true, false, ◌&&◌, List, [], ◌∷◌, Option, Some, None, is_some, unwrap_or, find, drop}
use Rattle.std.specs.List.{list_all}
use Rattle.s3_cards.specs.declared.name.Name.{Name}
use Rattle.s3_cards.specs.Names.{no_name}
use Rattle.s3_lines.specs.declared.indicator.Indicator.TheVariants.{LastRecord}
use Rattle.s3_lines.specs.declared.sheet.RecordCode.{RecordCode}
use Rattle.s3_lines.specs.declared.sheet.InputLine.{InputLine}
use Rattle.s3_lines.specs.declared.sheet.InputLine.TheVariants.{Record, And as AndCodes, Or as OrCodes, Field as InputField}
use Rattle.s3_meaning.specs.RecordTypes.{RecordType}
use Rattle.s3_meaning.specs.Selection.{code_holds}
use Rattle.s3_program.specs.declared.program.Program.{Program}
use Rattle.s3_program.specs.declared.program.Reference.{Reference}
use Rattle.s3_program.specs.declared.starts.TypeStart.{TypeStart}
use Rattle.s3_program.specs.Inner.Stands.{parts_of}
use Rattle.s3_program.specs.Inner.Started.{type_at}
use Rattle.s3_program.specs.Inner.Starts.{fields_begin, types_of_file, type_starts}
use Rattle.s3_program.specs.Tables.{Tables}
use Rattle.s3_program.specs.Inner.Tables.{name_in}
use Rattle.s3_program.specs.Inner.Valid.{tables_of}

abbrev pub tables_in : Program → Tables
tables_in program = tables_of (parts_of program)

-- the name of the file of a slot
abbrev pub name_of_file : Program → ℕ → Name
name_of_file program file = name_in (tables_in program).files file

-- the record type for a place at which none starts
abbrev pub no_type : RecordType
no_type = record { file = no_name; indicator = LastRecord; codes = []; fields = [] }

-- a record type starts there, and its fields come after its AND and OR lines
abbrev pub is_type_start : Program → TypeStart → Bool
is_type_start program start =
    is_some (type_at (tables_in program) program.inputs.items start)
    && start.fields == fields_begin (start.place + 1) (drop (start.place + 1) program.inputs.items)

-- the record type that starts there
abbrev pub kind_at : Program → TypeStart → RecordType
kind_at program start = unwrap_or (type_at (tables_in program) program.inputs.items start) no_type

-- ---- record identification codes, on the lines of a program
abbrev pub entry_holds : List ℕ → Option RecordCode → Bool
entry_holds bytes (Some code) = code_holds bytes code
entry_holds bytes None = true

-- whether the codes of an AND line hold
abbrev pub further_codes_hold : List ℕ → InputLine Reference → Option Bool
further_codes_hold bytes (Record file indicator codes) = None
further_codes_hold bytes (AndCodes codes) = Some (list_all (entry_holds bytes) codes)
further_codes_hold bytes (OrCodes indicator codes) = None
further_codes_hold bytes (InputField field) = None

abbrev pub goes_on_by : Option Bool → Bool → Bool
goes_on_by None later = true
goes_on_by (Some here) later = here && later

unfoldable pub further_hold : List ℕ → List (InputLine Reference) → Bool
further_hold bytes [] = true
further_hold bytes (line ∷ lines) = goes_on_by (further_codes_hold bytes line) (further_hold bytes lines)

-- whether the codes of the line at which a type starts hold
abbrev pub first_codes_hold : List ℕ → InputLine Reference → Bool
first_codes_hold bytes (Record file indicator codes) = list_all (entry_holds bytes) codes
first_codes_hold bytes (AndCodes codes) = false
first_codes_hold bytes (OrCodes indicator codes) = list_all (entry_holds bytes) codes
first_codes_hold bytes (InputField field) = false

-- a type starts at the first of these lines, and all its codes hold
unfoldable pub type_holds : List ℕ → List (InputLine Reference) → Bool
type_holds bytes [] = false
type_holds bytes (line ∷ lines) = first_codes_hold bytes line && further_hold bytes lines

abbrev pub first_that_holds : List ℕ → List (InputLine Reference) → List TypeStart → Option TypeStart
first_that_holds bytes inputs starts = find (λ start. type_holds bytes (drop start.place inputs)) starts

-- the type that every record of a file has, whatever its bytes, if there is one
abbrev pub IsOnlyType : Program → (file : ℕ) → Option TypeStart → Type 0
IsOnlyType program file only =
    IfSome only (λ start. (bytes : List ℕ) → Some start ≡ first_that_holds bytes program.inputs.items (types_of_file (type_starts program.files.items program.inputs.items) file))
