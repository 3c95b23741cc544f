-- The contents of a job's statements.
use Rattle.std.specs.Prelude.{ℕ, ◌==◌, List, [], ◌∷◌, Bool, false, Option, Some, None, unwrap_or, find}
use Rattle.std.specs.List.{list_any, filter_map}
use Rattle.std.specs.Option.{option_map, option_or}
use Rattle.std.specs.Prelude.{option_and_then}
use Rattle.s3_cards.specs.declared.name.Name.{Name}
use Rattle.s3_ocl.specs.declared.parameters.Verb.{Verb}
use Rattle.s3_ocl.specs.declared.parameters.Parameter.{Parameter}
use Rattle.s3_ocl.specs.declared.parameters.Parameter.TheVariants as parameter
use Rattle.s3_ocl.specs.declared.parameters.Entry.{Entry}
use Rattle.s3_ocl.specs.declared.parameters.Entry.TheVariants.{Empty, Unknown, Surplus, Missing, Wrong, Right}
use Rattle.s3_ocl.specs.declared.values.Value.{Value}
use Rattle.s3_ocl.specs.declared.values.Value.TheVariants.{Named, Count, Kept, Dated, Set}
use Rattle.s3_cards.specs.declared.retention.Retention.{Retention}
use Rattle.s3_cards.specs.declared.retention.Retention.TheVariants.{Temporary}
use Rattle.s3_ocl.specs.declared.values.Switch.{Switch}
use Rattle.s3_ocl.specs.declared.statements.Piece.{Piece}
use Rattle.s3_ocl.specs.declared.contents.FileSize.{FileSize}
use Rattle.s3_ocl.specs.declared.contents.FileSize.TheVariants.{Records, Tracks}
use Rattle.s3_ocl.specs.declared.contents.FileStatement.{FileStatement}
use Rattle.s3_ocl.specs.Statements.{Statement, is_verb}

-- the number of each parameter
abbrev pub rank : Parameter → ℕ
rank parameter.Program = 0
rank parameter.Unit = 1
rank parameter.FileName = 2
rank parameter.Pack = 3
rank parameter.Label = 4
rank parameter.Records = 5
rank parameter.Tracks = 6
rank parameter.Retain = 7
rank parameter.Date = 8
rank parameter.Switches = 9

-- the parameter of an entry, if it has one
abbrev pub stands_at : Entry → Option Parameter
stands_at Empty = None
stands_at Unknown = None
stands_at Surplus = None
stands_at (Missing parameter) = Some parameter
stands_at (Wrong parameter) = Some parameter
stands_at (Right parameter value) = Some parameter

abbrev pub is_parameter : Parameter → Option Parameter → Bool
is_parameter parameter None = false
is_parameter parameter (Some other) = rank other == rank parameter

-- whether a piece is for this parameter
abbrev pub gives : Parameter → Piece → Bool
gives parameter piece = is_parameter parameter (stands_at piece.entry)

abbrev pub is_given : Parameter → List Piece → Bool
is_given parameter pieces = list_any (gives parameter) pieces

abbrev pub right_value : Entry → Option Value
right_value Empty = None
right_value Unknown = None
right_value Surplus = None
right_value (Missing parameter) = None
right_value (Wrong parameter) = None
right_value (Right parameter value) = Some value

-- the first value given for a parameter
abbrev pub value_in : Parameter → List Piece → Option Value
value_in parameter pieces = option_and_then (λ piece. right_value piece.entry) (find (gives parameter) pieces)

abbrev pub named : Value → Option Name
named (Named name) = Some name
named value = None

abbrev pub count : Value → Option ℕ
count (Count number) = Some number
count value = None

abbrev pub kept : Value → Option Retention
kept (Kept retention) = Some retention
kept value = None

abbrev pub dated : Value → Option (List ℕ)
dated (Dated digits) = Some digits
dated value = None

abbrev pub set : Value → Option (List Switch)
set (Set switches) = Some switches
set value = None

-- the name, date, count and so on that a parameter gives
abbrev pub name_in : Parameter → List Piece → Option Name
name_in parameter pieces = option_and_then named (value_in parameter pieces)

abbrev pub count_in : Parameter → List Piece → Option ℕ
count_in parameter pieces = option_and_then count (value_in parameter pieces)

abbrev pub retention_in : List Piece → Option Retention
retention_in pieces = option_and_then kept (value_in parameter.Retain pieces)

abbrev pub date_in : List Piece → Option (List ℕ)
date_in pieces = option_and_then dated (value_in parameter.Date pieces)

abbrev pub switches_in : List Piece → Option (List Switch)
switches_in pieces = option_and_then set (value_in parameter.Switches pieces)

-- the number of records if RECORDS is given, else the number of tracks; one track without RECORDS and TRACKS
abbrev pub size_of : Option ℕ → Option ℕ → FileSize
size_of (Some records) tracks = Records records
size_of None tracks = Tracks (unwrap_or tracks 1)

-- the file that a FILE statement describes under this name
abbrev pub file_with : List Piece → Name → FileStatement
file_with pieces name = record {
  name = name;
  label = unwrap_or (name_in parameter.Label pieces) name;
  size = size_of (count_in parameter.Records pieces) (count_in parameter.Tracks pieces);
  retention = unwrap_or (retention_in pieces) Temporary;
}

-- the file of a FILE statement
abbrev pub file_of : List Piece → Option FileStatement
file_of pieces = option_map (file_with pieces) (name_in parameter.FileName pieces)

-- the files of the FILE statements
abbrev pub files_of : List Statement → List FileStatement
files_of statements = filter_map (λ statement. file_of statement.pieces) statements

-- the value of the first statement that gives one
unfoldable pub first_in : {X : Type 0} → (Statement → Option X) → List Statement → Option X
first_in f [] = None
first_in f (statement ∷ statements) = option_or (f statement) (first_in f statements)

-- the program that LOAD names, the date that DATE gives, and the settings of switches that SWITCH gives
abbrev pub program_of : List Statement → Option Name
program_of statements = first_in (λ statement. name_in parameter.Program statement.pieces) statements

abbrev pub date_of : List Statement → Option (List ℕ)
date_of statements = first_in (λ statement. date_in statement.pieces) statements

abbrev pub switches_of : List Statement → Option (List Switch)
switches_of statements = first_in (λ statement. switches_in statement.pieces) statements

-- whether one of the statements has this verb
abbrev pub has : Verb → List Statement → Bool
has verb statements = list_any (λ statement. is_verb verb statement.verb) statements
