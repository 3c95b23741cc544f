-- How cells may differ from plain ones: another mark before the decimals, marks between thousands, an apostrophe before what a
-- spreadsheet would take for a formula, small letters.
use Rattle.std.specs.Prelude.{ℕ, ◌+◌, ◌-◌, ◌%◌, ◌==◌, ◌&&◌, ◌||◌, nat_le, not, Bool, true, false, List, [], ◌∷◌, length, map, filter, Option, Some, None, if◌then◌else◌}
use Rattle.std.specs.List.{list_all, before_first, after_first}
use Rattle.s3_cells.specs.Inner.Numbers.{is_point, without_sign}
use Rattle.s3_cells.specs.Inner.Texts.{trimmed}
use Rattle.s3_cells.specs.declared.marks.DecimalMark.{DecimalMark}
use Rattle.s3_cells.specs.declared.marks.DecimalMark.TheVariants.{Point, Comma}
use Rattle.s3_cells.specs.declared.marks.Thousands.{Thousands}
use Rattle.s3_cells.specs.declared.marks.Thousands.TheVariants.{Nothing, OtherMark, Blank, Apostrophe}
use Rattle.s3_cells.specs.declared.marks.NumberCells.{NumberCells}
use Rattle.s3_cells.specs.declared.marks.TextCells.{TextCells}

-- ---- numbers
abbrev pub mark_of : DecimalMark → ℕ
mark_of Point = 46
mark_of Comma = 44

-- point and comma exchanged, if a comma comes before the decimals
abbrev pub swapped : DecimalMark → ℕ → ℕ
swapped Point character = character
swapped Comma character = if character == 46 then 44 else (if character == 44 then 46 else character)

-- the mark between thousands, if a point comes before the decimals
abbrev pub mark_in : Thousands → Option ℕ
mark_in Nothing = None
mark_in OtherMark = Some 44
mark_in Blank = Some 32
mark_in Apostrophe = Some 39

abbrev pub begins_with : (mark : ℕ) → List ℕ → Bool
begins_with mark [] = false
begins_with mark (first ∷ rest) = first == mark

-- a mark is here if it has to be
abbrev pub is_due : (due here : Bool) → Bool
is_due true here = here
is_due false here = not here

-- a mark is before each three digits that end the text, and nowhere else: at each fourth place from the end
unfoldable pub are_in_place : (mark : ℕ) → List ℕ → Bool
are_in_place mark [] = true
are_in_place mark (first ∷ rest) = is_due ((length rest + 1) % 4 == 0) (first == mark) && are_in_place mark rest

-- the whole part of a number has such marks, and its decimals have none
abbrev pub is_grouped : (mark : ℕ) → List ℕ → Bool
is_grouped mark text =
    not (begins_with mark (before_first is_point (without_sign text))) && are_in_place mark (before_first is_point (without_sign text))
    && list_all (λ character. not (character == mark)) (after_first is_point (without_sign text))

abbrev pub ungrouped : (mark : ℕ) → List ℕ → List ℕ
ungrouped mark text = if is_grouped mark text then filter (λ character. not (character == mark)) text else text

abbrev pub ungrouped_by : Option ℕ → List ℕ → List ℕ
ungrouped_by None text = text
ungrouped_by (Some mark) text = ungrouped mark text

-- a number as it is written
abbrev pub marked : NumberCells → List ℕ → List ℕ
marked cells text = map (swapped cells.decimal) text

-- and as it is read: the number with a point before its decimals, and without marks between thousands where each is in its place
abbrev pub plain_number : NumberCells → List ℕ → List ℕ
plain_number cells cell = ungrouped_by (mark_in cells.thousands) (map (swapped cells.decimal) cell)

-- ---- texts
abbrev pub is_apostrophe : ℕ → Bool
is_apostrophe character = character == 39

abbrev pub is_formula_start : ℕ → Bool
is_formula_start character = (character == 61) || (character == 43) || (character == 45) || (character == 64)

-- the first character that is no apostrophe begins a formula
unfoldable pub is_risky : List ℕ → Bool
is_risky [] = false
is_risky (first ∷ rest) = if is_apostrophe first then is_risky rest else is_formula_start first

-- a text as it is written, and as it is read
abbrev pub guarded : TextCells → List ℕ → List ℕ
guarded cells text = if cells.safe && is_risky text then 39 ∷ text else text

abbrev pub unguarded : TextCells → List ℕ → List ℕ
unguarded cells [] = []
unguarded cells (first ∷ rest) = if cells.safe && is_apostrophe first && is_risky rest then rest else first ∷ rest

abbrev pub is_small : ℕ → Bool
is_small character = nat_le 97 character && nat_le character 122

abbrev pub capital : ℕ → ℕ
capital character = if is_small character then character - 32 else character

abbrev pub cased : TextCells → List ℕ → List ℕ
cased cells text = if cells.capitals then map capital text else text

abbrev pub text_read : TextCells → List ℕ → List ℕ
text_read cells cell = trimmed (cased cells (unguarded cells cell))
