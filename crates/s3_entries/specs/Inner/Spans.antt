-- The columns of the entries of each kind of card.
use Rattle.std.specs.Prelude.{ℕ, List, [], ◌∷◌, ◌++◌}
use Rattle.s3_entries.specs.declared.entry.Entry.{Entry}
use Rattle.s3_entries.specs.declared.form.CardForm.{CardForm}
use Rattle.s3_entries.specs.declared.form.CardForm.TheVariants.{Header, File, Record, RecordGroup, Field, Calculation, Line, LineGroup, OutputField}

-- the first and the last column of an entry
abbrev pub span : Entry → ℕ × ℕ
span entry = (entry.columns.from, entry.columns.to)

-- the three codes of an input line: position, N, part and character
abbrev pub codes : List (ℕ × ℕ)
codes =
    (21, 24) ∷ (25, 25) ∷ (26, 26) ∷ (27, 27)
    ∷ (28, 31) ∷ (32, 32) ∷ (33, 33) ∷ (34, 34)
    ∷ (35, 38) ∷ (39, 39) ∷ (40, 40) ∷ (41, 41)
    ∷ []

-- the three indicators of an output card
abbrev pub output_indicators : List (ℕ × ℕ)
output_indicators = (23, 25) ∷ (26, 28) ∷ (29, 31) ∷ []

abbrev pub spans_of : CardForm → List (ℕ × ℕ)
spans_of Header = (7, 7) ∷ (75, 80) ∷ []
spans_of File =
    (7, 14) ∷ (15, 15) ∷ (16, 16) ∷ (17, 17) ∷ (18, 18) ∷ (19, 19) ∷ (20, 23) ∷ (24, 27) ∷ (28, 28)
    ∷ (29, 30) ∷ (31, 31) ∷ (32, 32) ∷ (33, 34) ∷ (35, 38) ∷ (40, 46) ∷ (66, 66) ∷ (71, 72)
    ∷ []
spans_of Record = (7, 14) ∷ (15, 16) ∷ (19, 20) ∷ codes
spans_of RecordGroup = (14, 16) ∷ (19, 20) ∷ codes
spans_of Field =
    (43, 43) ∷ (44, 47) ∷ (48, 51) ∷ (52, 52) ∷ (53, 58) ∷ (59, 60) ∷ (61, 62) ∷ (63, 64) ∷ (65, 66) ∷ (67, 68) ∷ (69, 70) ∷ []
spans_of Calculation =
    (7, 8) ∷ (9, 11) ∷ (12, 14) ∷ (15, 17) ∷ (18, 27) ∷ (28, 32) ∷ (33, 42) ∷ (43, 48) ∷ (49, 51) ∷ (52, 52) ∷ (53, 53)
    ∷ (54, 55) ∷ (56, 57) ∷ (58, 59) ∷ (60, 74)
    ∷ []
spans_of Line = (7, 14) ∷ (15, 15) ∷ (16, 18) ∷ (17, 17) ∷ (18, 18) ∷ (19, 20) ∷ (21, 22) ∷ output_indicators
spans_of LineGroup = (14, 16) ∷ output_indicators
spans_of OutputField = output_indicators ++ (32, 37) ∷ (38, 38) ∷ (39, 39) ∷ (40, 43) ∷ (44, 44) ∷ (45, 70) ∷ []
