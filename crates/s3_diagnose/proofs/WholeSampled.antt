-- The samples of the conditions on whole sources, computed.
use Rattle.std.proofs.Common.{refl}
use Rattle.s3_lines.specs.Reserved.{reserved_names}
use Rattle.s3_diagnose.specs.Lookups.{tables_given}
use Rattle.s3_diagnose.specs.Inner.WholeSamples.{LinesWithoutPlaceAreAsWorked, LinesThatStrayAreAsWorked, MismatchedLinesAreAsWorked}

pub displaced_rows : LinesWithoutPlaceAreAsWorked
displaced_rows = refl

pub straying_rows : LinesThatStrayAreAsWorked
straying_rows = (refl, refl)

pub disagreeing_rows : MismatchedLinesAreAsWorked
unfolding reserved_names tables_given
disagreeing_rows = (refl, refl)
