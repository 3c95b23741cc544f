-- The table of replies, by codes and digits.
use Rattle.std.specs.Prelude.{ℕ, Bool, true, false, List, [], ◌∷◌}
use Rattle.s3_operator.specs.declared.halt_code.HaltCode.{HaltCode}
use Rattle.s3_operator.specs.declared.halt_code.HaltCode.TheVariants.{HaltIndicator, UnidentifiedRecord, ZeroDivisor, BadDigit, NoRecordFound, DuplicateKey, OutOfSequence, KeyChanged, NothingToUpdate, FileFull, KeyNotAscending, FaultyJob, NoProgram, FaultySource, NoLabel, DamagedLabel, MasterForUpdate, NoSpace, RetainedFile, DuplicateLabel, LabelMismatch, BadIndex}

abbrev pub digits : List ℕ
digits = 0 ∷ 1 ∷ 2 ∷ 3 ∷ 4 ∷ 5 ∷ 6 ∷ 7 ∷ 8 ∷ 9 ∷ []

-- 0, 2 and 3
abbrev pub going_on : List Bool
going_on = true ∷ false ∷ true ∷ true ∷ false ∷ false ∷ false ∷ false ∷ false ∷ false ∷ []

-- 2 and 3
abbrev pub ending : List Bool
ending = false ∷ false ∷ true ∷ true ∷ false ∷ false ∷ false ∷ false ∷ false ∷ false ∷ []

abbrev pub going_codes : List HaltCode
going_codes =
    HaltIndicator 1 ∷ HaltIndicator 9 ∷ UnidentifiedRecord ∷ ZeroDivisor ∷ BadDigit ∷ NoRecordFound ∷ DuplicateKey ∷ OutOfSequence ∷ KeyChanged ∷ NothingToUpdate ∷ []

abbrev pub ending_codes : List HaltCode
ending_codes =
    FileFull ∷ KeyNotAscending ∷ FaultyJob ∷ NoProgram ∷ FaultySource ∷ NoLabel ∷ DamagedLabel ∷ MasterForUpdate ∷ NoSpace ∷ RetainedFile ∷ DuplicateLabel ∷ LabelMismatch ∷ BadIndex ∷ []
