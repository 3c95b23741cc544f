-- Cards with diagnostic 4, and the columns of their entries in error, worked by hand.
use Rattle.std.specs.Prelude.{◌≡◌, ℕ, List, [], ◌∷◌, ◌++◌, ◌==◌, length, map, filter, codes}
use Rattle.s3_sheets.specs.declared.parts.FaultyEntry.{FaultyEntry}
use Rattle.s3_sheets.specs.Inner.Parts.{entries_of, parts_at}
use Rattle.s3_sheets.specs.Inner.Samples.{punched, disk_file, indexed_file, record_card, field_card, add_card}

-- a card, the cards before it, and the columns in error
pub record MarkRow : Type 0 where
  pub before : List (List ℕ)
  pub card : List ℕ
  pub marks : List (ℕ × ℕ)

abbrev pub marks_found : MarkRow → List (ℕ × ℕ)
marks_found row =
    map (λ (entry : FaultyEntry). (entry.from, entry.to))
    (filter (λ (entry : FaultyEntry). entry.number == 4) (entries_of 0 (parts_at (row.before ++ row.card ∷ []) (length row.before))))

abbrev pub marks_wanted : MarkRow → List (ℕ × ℕ)
marks_wanted row = row.marks

abbrev pub AreMarked : List MarkRow → Type 0
AreMarked rows = map marks_found rows ≡ map marks_wanted rows

-- an indexed file with record length 100 and a key of 10 bytes from position 1, with some entries replaced
abbrev pub keyed : List (ℕ × List ℕ) → List (ℕ × ℕ) → MarkRow
keyed pieces marks = record { before = []; card = punched indexed_file pieces; marks = marks }

unfoldable pub file_marks : List MarkRow
file_marks =
    keyed ((29, codes "  ") ∷ []) ((29, 30) ∷ [])
    ∷ keyed ((38, codes " ") ∷ []) ((35, 38) ∷ [])
    ∷ keyed ((29, codes "  ") ∷ (38, codes " ") ∷ []) ((29, 30) ∷ (35, 38) ∷ [])
    ∷ keyed ((37, codes "92") ∷ []) ((29, 30) ∷ (35, 38) ∷ [])
    ∷ keyed ((25, codes "   ") ∷ []) ((24, 27) ∷ [])
    ∷ keyed ((25, codes "  0") ∷ []) ((24, 27) ∷ [])
    ∷ keyed ((26, codes "1X") ∷ []) ((24, 27) ∷ [])
    ∷ keyed ((24, codes "1025") ∷ []) ((24, 27) ∷ [])
    ∷ keyed ((25, codes "   ") ∷ (38, codes " ") ∷ []) ((24, 27) ∷ (35, 38) ∷ [])
    ∷ []

-- a field in positions 1 to 3 of a record of 100, with some entries replaced
abbrev pub lying : List (ℕ × List ℕ) → List (ℕ × ℕ) → MarkRow
lying pieces marks = record {
  before = disk_file ∷ punched record_card ((7, codes "DATA ") ∷ []) ∷ [];
  card = punched field_card pieces;
  marks = marks;
}

unfoldable pub field_marks : List MarkRow
field_marks =
    lying ((52, codes "4") ∷ []) ((44, 51) ∷ (52, 52) ∷ [])
    ∷ lying ((43, codes "P") ∷ (51, codes "2") ∷ (52, codes "4") ∷ []) ((44, 51) ∷ (52, 52) ∷ [])
    ∷ lying ((50, codes "16") ∷ (52, codes "0") ∷ []) ((44, 51) ∷ [])
    ∷ lying ((52, codes "X") ∷ []) ((52, 52) ∷ [])
    ∷ lying ((47, codes "4") ∷ []) ((44, 51) ∷ [])
    ∷ lying ((45, codes "101") ∷ (49, codes "102") ∷ []) ((44, 47) ∷ (48, 51) ∷ [])
    ∷ lying ((45, codes "101") ∷ []) ((44, 51) ∷ (44, 47) ∷ [])
    ∷ lying ((49, codes "101") ∷ []) ((48, 51) ∷ [])
    ∷ lying ((47, codes "2") ∷ (51, codes " ") ∷ []) ((48, 51) ∷ [])
    ∷ lying ((51, codes "X") ∷ (52, codes "3") ∷ []) ((48, 51) ∷ [])
    ∷ lying ((47, codes "0") ∷ (50, codes "60") ∷ (52, codes "2") ∷ []) ((44, 47) ∷ [])
    ∷ []

-- a calculation card that defines its result, with some entries replaced
abbrev pub defining : List (ℕ × List ℕ) → List (ℕ × ℕ) → MarkRow
defining pieces marks = record { before = []; card = punched add_card pieces; marks = marks }

unfoldable pub calculation_marks : List MarkRow
calculation_marks =
    defining ((51, codes "0") ∷ []) ((49, 51) ∷ [])
    ∷ defining ((49, codes "257") ∷ []) ((49, 51) ∷ [])
    ∷ defining ((50, codes "5") ∷ []) ((49, 51) ∷ [])
    ∷ defining ((50, codes "5") ∷ (52, codes "2") ∷ []) ((49, 51) ∷ [])
    ∷ defining ((52, codes "2") ∷ []) ((49, 51) ∷ [])
    ∷ defining ((50, codes "16") ∷ (52, codes "0") ∷ []) ((49, 51) ∷ [])
    ∷ defining ((51, codes "1") ∷ (52, codes "2") ∷ []) ((49, 51) ∷ (52, 52) ∷ [])
    ∷ defining ((51, codes "4") ∷ (52, codes "X") ∷ []) ((52, 52) ∷ [])
    ∷ []
