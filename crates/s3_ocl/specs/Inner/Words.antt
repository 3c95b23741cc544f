-- The words of all statements: as constants, and as punched.
use Rattle.std.specs.Prelude.{ℕ, List, [], ◌∷◌, codes}
use Rattle.s3_cards.specs.Codes.{ebcdic}
use Rattle.s3_ocl.specs.declared.words.TheConstants.{LOAD, FILE, DATE, SWITCH, RUN, NAME, UNIT, PACK, LABEL, RECORDS, TRACKS, RETAIN, R1, R2, F1, F2, COMPILER}

-- the words as constants of the definitions
abbrev pub words : List (List ℕ)
words = LOAD ∷ FILE ∷ DATE ∷ SWITCH ∷ RUN ∷ NAME ∷ UNIT ∷ PACK ∷ LABEL ∷ RECORDS ∷ TRACKS ∷ RETAIN ∷ R1 ∷ R2 ∷ F1 ∷ F2 ∷ COMPILER ∷ []

-- the words as punched
abbrev pub punched_words : List (List ℕ)
punched_words =
    ebcdic (codes "LOAD") ∷ ebcdic (codes "FILE") ∷ ebcdic (codes "DATE") ∷ ebcdic (codes "SWITCH") ∷ ebcdic (codes "RUN") ∷ ebcdic (codes "NAME") ∷ ebcdic (codes "UNIT") ∷ ebcdic (codes "PACK") ∷ ebcdic (codes "LABEL") ∷ ebcdic (codes "RECORDS") ∷ ebcdic (codes "TRACKS") ∷ ebcdic (codes "RETAIN") ∷ ebcdic (codes "R1") ∷ ebcdic (codes "R2") ∷ ebcdic (codes "F1") ∷ ebcdic (codes "F2") ∷ ebcdic (codes "$RPG    ") ∷ []
