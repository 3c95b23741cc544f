-- Reading a constant code by code.
use Rattle.std.specs.Prelude.{◌≡◌, ◌≢◌, ℕ, ◌+◌, Bool, true, false, ◌==◌, ◌&&◌, not, Option, Some, None, option_map, nat_le, slice_set, List, [], ◌∷◌, ◌++◌, replicate, if◌then◌else◌}
use Rattle.s3_cards.specs.declared.ebcdic.TheConstants.{APOSTROPHE, BLANK}
use Rattle.s3_lines.specs.declared.sheet.Constant.{Constant}

-- a constant with one more character; none if 24 are there
abbrev pub with_code : Constant → ℕ → Option Constant
with_code constant code =
    if nat_le 24 constant.length then None
    else Some (record { codes = slice_set constant.codes constant.length code; length = constant.length + 1 })

-- a text whose closing apostrophe hasn't been read
abbrev pub unended : Constant → Constant × Bool
unended text = (text, false)

-- a text after one more code, and whether that code may be its closing apostrophe
abbrev pub with_next_code : Constant → Bool → ℕ → Option (Constant × Bool)
with_next_code text ended code =
    if code == APOSTROPHE && not ended then Some (text, true) else option_map unended (with_code text code)

-- whether a code is after the closing apostrophe
abbrev pub is_behind_end : Bool → ℕ → Bool
is_behind_end ended code = ended && not (code == APOSTROPHE)

-- a text with each apostrophe written twice
abbrev pub doubled : List ℕ → List ℕ
doubled [] = []
doubled (code ∷ text) = (if code == APOSTROPHE then code ∷ code ∷ [] else code ∷ []) ++ doubled text

-- a constant as it is written, followed by this many blanks
abbrev pub written : List ℕ → ℕ → List ℕ
written text blanks = APOSTROPHE ∷ (doubled text ++ APOSTROPHE ∷ replicate blanks BLANK)

-- whether these columns are a constant of this text
abbrev pub IsConstant : List ℕ → List ℕ → Type 0
IsConstant columns text = (text ≢ []) × ((blanks : ℕ) × (columns ≡ written text blanks))
