-- Names that the language has itself.
use Rattle.std.specs.Prelude.{Bool, List, [], ◌∷◌}
use Rattle.std.specs.List.{list_any}
use Rattle.s3_cards.specs.declared.ebcdic.TheConstants.{BLANK, LETTER_A, LETTER_B, LETTER_D, LETTER_E, LETTER_G, LETTER_H, LETTER_J, LETTER_M, LETTER_N, LETTER_O, LETTER_P, LETTER_R, LETTER_T, LETTER_U, LETTER_Y}
use Rattle.s3_cards.specs.declared.name.Name.{Name}
use Rattle.s3_cards.specs.Names.{same_name}

abbrev pub page : Name
page = record { codes = LETTER_P ∷ LETTER_A ∷ LETTER_G ∷ LETTER_E ∷ BLANK ∷ BLANK ∷ BLANK ∷ BLANK ∷ [] }

abbrev pub udate : Name
udate = record { codes = LETTER_U ∷ LETTER_D ∷ LETTER_A ∷ LETTER_T ∷ LETTER_E ∷ BLANK ∷ BLANK ∷ BLANK ∷ [] }

abbrev pub umonth : Name
umonth = record { codes = LETTER_U ∷ LETTER_M ∷ LETTER_O ∷ LETTER_N ∷ LETTER_T ∷ LETTER_H ∷ BLANK ∷ BLANK ∷ [] }

abbrev pub uday : Name
uday = record { codes = LETTER_U ∷ LETTER_D ∷ LETTER_A ∷ LETTER_Y ∷ BLANK ∷ BLANK ∷ BLANK ∷ BLANK ∷ [] }

abbrev pub uyear : Name
uyear = record { codes = LETTER_U ∷ LETTER_Y ∷ LETTER_E ∷ LETTER_A ∷ LETTER_R ∷ BLANK ∷ BLANK ∷ BLANK ∷ [] }

-- RPGOBJ, the name of a program whose H line has none
abbrev pub rpgobj : Name
rpgobj = record { codes = LETTER_R ∷ LETTER_P ∷ LETTER_G ∷ LETTER_O ∷ LETTER_B ∷ LETTER_J ∷ BLANK ∷ BLANK ∷ [] }

-- the fields that no sheet defines
unfoldable pub reserved_names : List Name
reserved_names = udate ∷ umonth ∷ uday ∷ uyear ∷ page ∷ []

abbrev pub is_reserved : Name → Bool
is_reserved name = list_any (λ other. same_name other name) reserved_names
