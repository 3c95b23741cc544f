-- The errors in a job's statements, each with its card.
use Rattle.std.specs.Prelude.{ℕ, ◌==◌, ◌&&◌, ◌||◌, not, List, [], ◌∷◌, ◌++◌, Bool, true, false, Option, Some, None, find, nat_lt, if◌then◌else◌}
use Rattle.std.specs.List.{list_any, after_first, flat_map}
use Rattle.s3_cards.specs.declared.name.Name.{Name}
use Rattle.s3_ocl.specs.declared.faults.JobFault.{JobFault}
use Rattle.s3_ocl.specs.declared.faults.JobFault.TheVariants as fault
use Rattle.s3_ocl.specs.declared.faults.Mark.{Mark}
use Rattle.s3_ocl.specs.declared.parameters.Verb.{Verb}
use Rattle.s3_ocl.specs.declared.parameters.Verb.TheVariants as verb
use Rattle.s3_ocl.specs.declared.parameters.Parameter.{Parameter}
use Rattle.s3_ocl.specs.declared.parameters.Parameter.TheVariants as parameter
use Rattle.s3_ocl.specs.declared.parameters.Entry.{Entry}
use Rattle.s3_ocl.specs.declared.parameters.Entry.TheVariants.{Empty, Unknown, Surplus, Missing, Wrong, Right}
use Rattle.s3_ocl.specs.declared.statements.Piece.{Piece}
use Rattle.s3_ocl.specs.declared.contents.FileStatement.{FileStatement}
use Rattle.s3_cards.specs.Names.{same_name}
use Rattle.s3_ocl.specs.Statements.{Statement}
use Rattle.s3_ocl.specs.Contents.{files_of, gives, has, is_given, is_parameter, named}

-- the number of an error
abbrev pub fault_number : JobFault → ℕ
fault_number fault.NotOcl = 1
fault_number fault.Keyword = 2
fault_number fault.Value = 3
fault_number fault.NoRun = 4
fault_number fault.Twice = 5

-- order by card, and on one card by the number of the error
abbrev pub is_before : Mark → Mark → Bool
is_before a b = if a.card == b.card then nat_lt (fault_number a.fault) (fault_number b.fault) else nat_lt a.card b.card

abbrev pub earlier : Option Mark → Option Mark → Option Mark
earlier None b = b
earlier (Some a) None = Some a
earlier (Some a) (Some b) = if is_before b a then Some b else Some a

-- the first of these errors
unfoldable pub first_fault : List Mark → Option Mark
first_fault [] = None
first_fault (mark ∷ marks) = earlier (Some mark) (first_fault marks)

-- this error on this card, if the test holds
abbrev pub fault_if : Bool → ℕ → JobFault → List Mark
fault_if test number fault = if test then record { card = number; fault = fault } ∷ [] else []

-- whether a file has this name
abbrev pub is_taken : List FileStatement → Option Name → Bool
is_taken files None = false
is_taken files (Some name) = list_any (λ file. same_name file.name name) files

-- The errors of a parameter, after these files, in the statement that begins on card `number`.
-- A missing value is an error on that card. Other errors are on the parameter's own card: a parameter that the statement can't have,
-- a wrong or surplus value, and the name of an earlier file.
abbrev pub entry_faults : List FileStatement → ℕ → ℕ → Entry → List Mark
entry_faults files number card Empty = fault_if true number fault.Value
entry_faults files number card Unknown = fault_if true card fault.Keyword
entry_faults files number card Surplus = fault_if true card fault.Value
entry_faults files number card (Missing given) = fault_if true number fault.Value
entry_faults files number card (Wrong given) = fault_if true card fault.Value
entry_faults files number card (Right given value) =
    fault_if (is_parameter parameter.FileName (Some given) && is_taken files (named value)) card fault.Twice

abbrev pub piece_faults : List FileStatement → ℕ → Piece → List Mark
piece_faults files number piece = entry_faults files number piece.card piece.entry

-- a parameter given twice is an error on the second one's card
abbrev pub twice_on : Option Piece → List Mark
twice_on None = []
twice_on (Some piece) = fault_if true piece.card fault.Twice

abbrev pub again_faults : List Piece → Parameter → List Mark
again_faults pieces given = twice_on (find (gives given) (after_first (gives given) pieces))

-- the parameters of a FILE statement
abbrev pub file_parameters : List Parameter
file_parameters =
    parameter.FileName ∷ parameter.Unit ∷ parameter.Pack ∷ parameter.Label ∷ parameter.Records ∷ parameter.Tracks ∷ parameter.Retain ∷ []

-- whether a statement lacks a required parameter
abbrev pub lacks_needed : Verb → List Piece → Bool
lacks_needed verb.Load pieces = not (is_given parameter.Program pieces) || not (is_given parameter.Unit pieces)
lacks_needed verb.File pieces = not (is_given parameter.FileName pieces)
lacks_needed verb.Date pieces = not (is_given parameter.Date pieces)
lacks_needed verb.Switch pieces = not (is_given parameter.Switches pieces)
lacks_needed verb.Run pieces = false

abbrev pub has_two_sizes : List Piece → Bool
has_two_sizes pieces = is_given parameter.Records pieces && is_given parameter.Tracks pieces

-- whether a statement lacks a required parameter, ends with a comma and nothing after it, or has both RECORDS and TRACKS
abbrev pub is_ill_formed : Verb → Statement → Bool
is_ill_formed verb statement =
    statement.is_open || lacks_needed verb statement.pieces || has_two_sizes statement.pieces

-- whether an earlier statement has the same verb; FILE may be repeated
abbrev pub is_again : Verb → List Statement → Bool
is_again verb.File before = false
is_again verb before = has verb before

-- whether this is a RUN without an earlier LOAD
abbrev pub lacks_load : Verb → List Statement → Bool
lacks_load verb.Run before = not (has verb.Load before)
lacks_load verb before = false

abbrev pub verb_faults : List Statement → Statement → Option Verb → List Mark
verb_faults before statement None = fault_if true statement.number fault.Keyword
verb_faults before statement (Some verb) =
    (((flat_map (piece_faults (files_of before) statement.number) statement.pieces
    ++ flat_map (again_faults statement.pieces) file_parameters)
    ++ fault_if (is_ill_formed verb statement) statement.number fault.Value)
    ++ fault_if (lacks_load verb before) statement.number fault.NoRun)
    ++ fault_if (is_again verb before) statement.number fault.Twice

-- the errors of a statement, after these earlier ones
unfoldable pub statement_faults : List Statement → Statement → List Mark
statement_faults before statement = verb_faults before statement statement.verb

-- the errors of statements, after these earlier ones
unfoldable pub faults_behind : List Statement → List Statement → List Mark
faults_behind before [] = []
faults_behind before (statement ∷ statements) =
    statement_faults before statement ++ faults_behind (before ++ statement ∷ []) statements
