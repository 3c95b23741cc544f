-- The statements on cards.
use Rattle.std.specs.Prelude.{ℕ, zero, suc, ◌+◌, ◌&&◌, List, [], ◌∷◌, ◌++◌, Bool, true, false, Option, Some, None, length, drop, unwrap_or, if◌then◌else◌}
use Rattle.std.specs.List.{last_or}
use Rattle.s3_ocl.specs.declared.parameters.Verb.{Verb}
use Rattle.s3_ocl.specs.declared.parameters.Verb.TheVariants.{Load, File, Date, Switch, Run}
use Rattle.s3_ocl.specs.declared.statements.Piece.{Piece}
use Rattle.s3_ocl.specs.Cards.{is_statement, is_continuation, first_word, second_word}
use Rattle.s3_ocl.specs.Parameters.{verb_of, entry_of, goes_on, parts_of}

-- A statement: the number of its first card, its keyword's verb, its parameters with their card numbers, and how many cards it has.
-- `is_open` means that it ends with a comma and nothing after it.
pub record Statement : Type 0 where
  pub number : ℕ
  pub verb : Option Verb
  pub pieces : List Piece
  pub cards : ℕ
  pub is_open : Bool

-- the parameter texts on the continuation cards after a card with this text
unfoldable pub texts_behind : List ℕ → List (List ℕ) → List (List ℕ)
texts_behind text [] = []
texts_behind text (card ∷ cards) =
    if goes_on text && is_continuation card then first_word card ∷ texts_behind (first_word card) cards else []

-- the parameter texts of the statement that begins on a card
abbrev pub texts_of : List ℕ → List (List ℕ) → List (List ℕ)
texts_of card cards = second_word card ∷ texts_behind (second_word card) cards

-- a text as the parameter at a place of a statement
abbrev pub piece_of : Verb → ℕ → ℕ → List ℕ → Piece
piece_of verb number place text = record { card = number; entry = entry_of verb place text }

-- the parameters in these parts, the first of them at this place of the statement
unfoldable pub pieces_in : Verb → ℕ → ℕ → List (List ℕ) → List Piece
pieces_in verb number place [] = []
pieces_in verb number place (part ∷ parts) =
    piece_of verb number place part ∷ pieces_in verb number (place + 1) parts

-- the parameters in the texts of a statement; `number` is the card of the first text
unfoldable pub pieces_from : Verb → ℕ → ℕ → List (List ℕ) → List Piece
pieces_from verb number place [] = []
pieces_from verb number place (text ∷ texts) =
    pieces_in verb number place (parts_of text) ++ pieces_from verb (number + 1) (place + length (parts_of text)) texts

-- the parameters of an unknown statement can't be read
abbrev pub pieces_of : Option Verb → ℕ → List (List ℕ) → List Piece
pieces_of None number texts = []
pieces_of (Some verb) number texts = pieces_from verb number 0 texts

-- the statement that begins on the card of this number
unfoldable pub statement_at : ℕ → List ℕ → List (List ℕ) → Statement
statement_at number card cards =
    let texts : List (List ℕ) = texts_of card cards in
    record {
      number = number;
      verb = verb_of (first_word card);
      pieces = pieces_of (verb_of (first_word card)) number texts;
      cards = length texts;
      is_open = goes_on (unwrap_or (last_or None texts) []);
    }

abbrev pub is_verb : Verb → Option Verb → Bool
is_verb Load (Some Load) = true
is_verb File (Some File) = true
is_verb Date (Some Date) = true
is_verb Switch (Some Switch) = true
is_verb Run (Some Run) = true
is_verb verb other = false

-- The statements of a job whose first card has this number, up to its RUN or the first card that isn't a statement.
-- `turns` limits their number.
unfoldable pub statements_within : ℕ → ℕ → List (List ℕ) → List Statement
statements_within zero number cards = []
statements_within (suc turns) number [] = []
statements_within (suc turns) number (card ∷ cards) =
    let statement : Statement = statement_at number card cards in
    if is_statement card
    then statement ∷ (if is_verb Run statement.verb then [] else statements_within turns (number + statement.cards) (drop statement.cards (card ∷ cards)))
    else []

abbrev pub statements : ℕ → List (List ℕ) → List Statement
statements number cards = statements_within (length cards) number cards
