-- The card that a line of a text becomes.
use Rattle.std.specs.Prelude.{ℕ, ◌+◌, ◌-◌, ◌==◌, ◌&&◌, ◌||◌, not, List, [], ◌∷◌, ◌++◌, Bool, false, Option, Some, None, drop, length, map, min, nat_le, nat_lt, position, replicate, slice_index, take, if◌then◌else◌}
use Rattle.std.specs.List.{fold, list_all, list_any, slice_split}
use Rattle.std.specs.Option.{option_and_then, option_map}
use Rattle.s3_cards.specs.Inner.Numbers.{spelled_number}
use Rattle.s3_punch.specs.Inner.Characters.{is_tab, shown}
use Rattle.s3_punch.specs.Inner.Parts.{is_data, is_mark, is_source}
use Rattle.s3_punch.specs.Inner.Stops.{tabbed}
use Rattle.s3_punch.specs.declared.part.Part.{Part}
use Rattle.s3_punch.specs.declared.form.LineForm.{LineForm}
use Rattle.s3_punch.specs.declared.form.LineForm.TheVariants.{InPieces, Plain}

-- ---- how a line has its card
abbrev pub is_empty : ℕ → Bool
is_empty character = character == 32 || is_tab character

-- in data each line is a card; elsewhere blank lines and those that begin with # are none, and % begins a card in pieces
abbrev pub form_of : Bool → List ℕ → Option LineForm
form_of is_in_data characters =
    if is_in_data then Some Plain
    else if list_all is_empty characters || slice_index characters 0 == 35 then None
    else if slice_index characters 0 == 37 then Some InPieces
    else Some Plain

-- ---- a plain line
-- a card with one more character of its line
abbrev pub with_character : Bool → List ℕ → ℕ → List ℕ
with_character is_of_source card character =
    if is_tab character then tabbed is_of_source card else card ++ shown character ∷ []

-- the card of a line of characters
abbrev pub laid_out : Bool → List ℕ → List ℕ
laid_out is_of_source characters = fold (with_character is_of_source) [] characters

-- ---- a card in pieces
-- a character of a card in pieces; a tab is a blank
abbrev pub piece_character : ℕ → ℕ
piece_character character = if is_tab character then 32 else shown character

-- a text with 0 for each blank that is outside of apostrophes
abbrev pub parted : Bool → List ℕ → List ℕ
parted is_quoted [] = []
parted is_quoted (byte ∷ bytes) =
    (if byte == 32 && not is_quoted then 0 else byte) ∷ parted (if byte == 39 then not is_quoted else is_quoted) bytes

abbrev pub is_zero : ℕ → Bool
is_zero byte = byte == 0

abbrev pub is_colon : ℕ → Bool
is_colon byte = byte == 58

-- a column of a card, 1 to 96, as one or two digits spell it
abbrev pub column_within : ℕ → Option ℕ
column_within number = if nat_le 1 number && nat_le number 96 then Some number else None

abbrev pub column_of : List ℕ → Option ℕ
column_of digits =
    if nat_le 1 (length digits) && nat_le (length digits) 2 then option_and_then column_within (spelled_number 48 digits) else None

-- a piece: the column in which it begins, a colon, and its text
abbrev pub piece_at : List ℕ → Option ℕ → Option (ℕ × List ℕ)
piece_at part None = None
piece_at part (Some colon) = option_map (λ column. (column, drop (colon + 1) part)) (column_of (take colon part))

abbrev pub piece_of : List ℕ → Option (ℕ × List ℕ)
piece_of part = piece_at part (position is_colon part)

-- a card with a text from a column on; 0 is in columns that no piece has filled yet
abbrev pub with_text : List ℕ → ℕ → List ℕ → List ℕ
with_text card column text =
    let wide : List ℕ = card ++ replicate (column - 1 + length text - length card) 0 in
    take (column - 1) wide ++ text ++ drop (column - 1 + length text) wide

abbrev pub with_piece : List ℕ → Option (ℕ × List ℕ) → List ℕ
with_piece card None = card
with_piece card (Some piece) = with_text card piece.0 piece.1

abbrev pub or_blank : ℕ → ℕ
or_blank byte = if is_zero byte then 32 else byte

-- the card of pieces, each of them laid into its columns
abbrev pub of_parts : List (List ℕ) → List ℕ
of_parts parts = map or_blank (fold (λ card part. with_piece card (piece_of part)) [] parts)

-- a card without a piece has a blank
abbrev pub at_least_blank : List ℕ → List ℕ
at_least_blank card = if length card == 0 then 32 ∷ [] else card

-- the text of a line that begins with %, after that, with 0 where it is parted
abbrev pub part_text : List ℕ → List ℕ
part_text characters = parted false (map piece_character (drop 1 characters))

abbrev pub pieced : List ℕ → List ℕ
pieced characters = at_least_blank (of_parts (slice_split is_zero (part_text characters)))

-- ---- the remark of a C card
-- whether a byte is at a place
abbrev pub is_at : List ℕ → ℕ → ℕ → Bool
is_at card place byte = nat_lt place (length card) && slice_index card place == byte

-- a C card, no comment, with something in columns 60 to 74
abbrev pub has_remark : List ℕ → Bool
has_remark card = ((nat_le 59 (length card) && is_at card 5 67) && not (is_at card 6 42)) && list_any is_mark (take 15 (drop 59 card))

-- a card with blanks in columns 60 to 74, as far as it has them
abbrev pub without_remark : List ℕ → List ℕ
without_remark card =
    take 59 card ++ replicate (min 74 (length card) - length (take 59 card)) 32 ++ drop (min 74 (length card)) card

abbrev pub finished : Bool → List ℕ → List ℕ
finished blanks_remarks card = if blanks_remarks && has_remark card then without_remark card else card

-- ---- the card of a line, if it becomes one
abbrev pub written : LineForm → Bool → List ℕ → List ℕ
written InPieces is_of_source characters = pieced characters
written Plain is_of_source characters = laid_out is_of_source characters

abbrev pub card_by : Bool → Bool → List ℕ → LineForm → List ℕ
card_by blanks_remarks is_of_source characters form = finished (blanks_remarks && is_of_source) (written form is_of_source characters)

unfoldable pub card_of_line : Bool → Part → List ℕ → Option (List ℕ)
card_of_line blanks_remarks part characters =
    option_map (card_by blanks_remarks (is_source part) characters) (form_of (is_data part) characters)
