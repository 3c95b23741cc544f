-- Steps of the reader. They don't define what a job is: other files do, and proofs connect the two.
use Rattle.std.specs.Prelude.{◌≡◌, ℕ, ◌||◌, List, [], ◌∷◌, ◌++◌, Bool, false, Option, Some, None, length, nat_lt, if◌then◌else◌}
use Rattle.std.specs.Option.{option_or, option_to_list}
use Rattle.s3_cards.specs.declared.name.Name.{Name}
use Rattle.s3_ocl.specs.declared.faults.JobFault.TheVariants.{NoRun}
use Rattle.s3_ocl.specs.declared.faults.Mark.{Mark}
use Rattle.s3_ocl.specs.declared.parameters.Parameter.{Parameter}
use Rattle.s3_ocl.specs.declared.parameters.Parameter.TheVariants.{Program}
use Rattle.s3_ocl.specs.declared.parameters.Verb.{Verb}
use Rattle.s3_ocl.specs.declared.parameters.Verb.TheVariants as verb
use Rattle.s3_ocl.specs.declared.statements.Piece.{Piece}
use Rattle.s3_ocl.specs.declared.values.Switch.{Switch}
use Rattle.s3_ocl.specs.declared.contents.FileStatement.{FileStatement}
use Rattle.s3_ocl.specs.Contents.{date_in, date_of, file_of, files_of, has, is_given, name_in, program_of, stands_at, switches_in, switches_of}
use Rattle.s3_ocl.specs.Faults.{earlier}
use Rattle.s3_ocl.specs.Parameters.{parts_of}
use Rattle.s3_ocl.specs.Statements.{Statement, is_verb, pieces_in}

-- the parameters in one more text of a statement that already has these
abbrev pub pieces_more : Option Verb → ℕ → List Piece → List ℕ → List Piece
pieces_more None number pieces text = []
pieces_more (Some verb) number pieces text = pieces_in verb number (length pieces) (parts_of text)

-- whether one of these parameters is the one given, if there is one
abbrev pub is_given_in : List Piece → Option Parameter → Bool
is_given_in pieces None = false
is_given_in pieces (Some given) = is_given given pieces

-- whether a parameter is given twice
abbrev pub gives_twice : List Piece → Bool
gives_twice [] = false
gives_twice (piece ∷ pieces) = is_given_in pieces (stands_at piece.entry) || gives_twice pieces

-- the data that the reader keeps of the statements read so far
pub record Contents : Type 0 where
  pub program : Option Name
  pub date : Option (List ℕ)
  pub switches : Option (List Switch)
  pub files : List FileStatement
  pub is_loaded : Bool
  pub is_dated : Bool
  pub is_switched : Bool

abbrev pub contents_of : List Statement → Contents
contents_of statements = record {
  program = program_of statements;
  date = date_of statements;
  switches = switches_of statements;
  files = files_of statements;
  is_loaded = has verb.Load statements;
  is_dated = has verb.Date statements;
  is_switched = has verb.Switch statements;
}

-- the data kept after one more statement
abbrev pub contents_with : Contents → Statement → Contents
contents_with contents statement = record {
  program = option_or contents.program (name_in Program statement.pieces);
  date = option_or contents.date (date_in statement.pieces);
  switches = option_or contents.switches (switches_in statement.pieces);
  files = contents.files ++ option_to_list (file_of statement.pieces);
  is_loaded = contents.is_loaded || is_verb verb.Load statement.verb;
  is_dated = contents.is_dated || is_verb verb.Date statement.verb;
  is_switched = contents.is_switched || is_verb verb.Switch statement.verb;
}

-- P holds for all statements of which the reader keeps these data
abbrev pub KeptOf : Contents → (List Statement → Type 0) → Type 0
KeptOf contents P = (statements : List Statement) → contents ≡ contents_of statements → P statements

-- P holds for all earlier statements without RUN of which the reader keeps these data
abbrev pub Behind : Contents → (List Statement → Type 0) → Type 0
Behind contents P = (before : List Statement) → contents ≡ contents_of before → has verb.Run before ≡ false → P before

-- the reader keeps these data of some statements without RUN
abbrev pub IsKept : Contents → Type 0
IsKept contents = (before : List Statement) × (contents ≡ contents_of before) × (has verb.Run before ≡ false)

-- the error at the end of the deck, if the last statement there isn't RUN
abbrev pub last_fault : List (List ℕ) → Option Verb → ℕ → Option Mark
last_fault cards named end =
    if is_verb verb.Run named || nat_lt end (length cards) then None else Some (record { card = length cards; fault = NoRun })

-- the earlier of a statement's error and the error at the end of the deck; none if the statement has no error
abbrev pub with_last : Option Mark → Option Mark → Option Mark
with_last None last = None
with_last (Some mark) last = earlier (Some mark) last
