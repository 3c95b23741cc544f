-- The cards of a text, from its end on.
use Rattle.std.proofs.Common.{◌≡◌, ℕ, List, [], ◌∷◌, ◌++◌, refl, ap, take, drop, length, ◌-◌, take-append-drop, sym, ◌∙◌}
use Rattle.s3_journal.specs.Inner.Decks.{before_end, cards_of}

-- the bytes of a text before a rest without ends of lines
abbrev pub cards_onto : List ℕ → List ℕ → List ℕ
cards_onto [] rest = rest
cards_onto (byte ∷ bytes) rest = before_end byte (cards_onto bytes rest)

pub onto_nothing : (text : List ℕ) → cards_onto text [] ≡ cards_of text
onto_nothing [] = refl
onto_nothing (byte ∷ bytes) = ap (before_end byte) (onto_nothing bytes)

pub onto_last : (front : List ℕ) (last : ℕ) (rest : List ℕ) → cards_onto (front ++ last ∷ []) rest ≡ cards_onto front (before_end last rest)
onto_last [] last rest = refl
onto_last (byte ∷ bytes) last rest = ap (before_end byte) (onto_last bytes last rest)
