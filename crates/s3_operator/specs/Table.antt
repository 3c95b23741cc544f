-- The letters of each halt, and at which point of a job it comes.
use Rattle.std.specs.Prelude.{ℕ, List, [], ◌∷◌, ◌+◌, ◌%◌, codes}
use Rattle.s3_operator.specs.declared.halt_code.HaltCode.{HaltCode}
use Rattle.s3_operator.specs.declared.halt_code.HaltCode.TheVariants.{HaltIndicator, UnidentifiedRecord, ZeroDivisor, BadDigit, NoRecordFound, DuplicateKey, OutOfSequence, KeyChanged, NothingToUpdate, FileFull, KeyNotAscending, FaultyJob, NoProgram, FaultySource, NoLabel, DamagedLabel, MasterForUpdate, NoSpace, RetainedFile, DuplicateLabel, LabelMismatch, BadIndex}
use Rattle.s3_operator.specs.declared.halt_kind.HaltKind.{HaltKind}
use Rattle.s3_operator.specs.declared.halt_kind.HaltKind.TheVariants.{GoesOn, Ends, NotStarted}

-- H1 to H9 have a letter and a digit
abbrev pub row_of : HaltCode → List ℕ × HaltKind
row_of (HaltIndicator n) = (0x48 ∷ (0x30 + n % 10) ∷ [], GoesOn)
row_of UnidentifiedRecord = (codes "UR", GoesOn)
row_of ZeroDivisor = (codes "DZ", GoesOn)
row_of BadDigit = (codes "DE", GoesOn)
row_of NoRecordFound = (codes "NF", GoesOn)
row_of DuplicateKey = (codes "DK", GoesOn)
row_of OutOfSequence = (codes "SQ", GoesOn)
row_of KeyChanged = (codes "KC", GoesOn)
row_of NothingToUpdate = (codes "NU", GoesOn)
row_of FileFull = (codes "EX", Ends)
row_of KeyNotAscending = (codes "KA", Ends)
row_of FaultyJob = (codes "OC", NotStarted)
row_of NoProgram = (codes "PG", NotStarted)
row_of FaultySource = (codes "CE", NotStarted)
row_of NoLabel = (codes "LB", NotStarted)
row_of DamagedLabel = (codes "LD", NotStarted)
row_of MasterForUpdate = (codes "MU", NotStarted)
row_of NoSpace = (codes "NS", NotStarted)
row_of RetainedFile = (codes "RT", NotStarted)
row_of DuplicateLabel = (codes "DU", NotStarted)
row_of LabelMismatch = (codes "LN", NotStarted)
row_of BadIndex = (codes "IX", NotStarted)

abbrev pub letters_of : HaltCode → List ℕ
letters_of code = (row_of code).0

abbrev pub kind_of : HaltCode → HaltKind
kind_of code = (row_of code).1
