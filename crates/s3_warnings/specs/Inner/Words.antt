-- The number and the text of each kind of warning.
use Rattle.std.specs.Prelude.{ℕ, List, codes}
use Rattle.s3_warnings.specs.declared.kinds.WarningKind.{WarningKind}
use Rattle.s3_warnings.specs.declared.kinds.WarningKind.TheVariants.{NeverSet, NeverTested, Contradiction, NeverRead, NeverWritten, ShortResult, Overlap}

abbrev pub number_of : WarningKind → ℕ
number_of NeverSet = 1
number_of NeverTested = 2
number_of Contradiction = 3
number_of NeverRead = 4
number_of NeverWritten = 5
number_of ShortResult = 6
number_of Overlap = 7

abbrev pub words_of : WarningKind → List ℕ
words_of NeverSet = codes "an indicator that nothing turns on"
words_of NeverTested = codes "an indicator that nothing tests"
words_of Contradiction = codes "conditions that can't hold together"
words_of NeverRead = codes "a file that is never read"
words_of NeverWritten = codes "a file that is never written"
words_of ShortResult = codes "a result that is shorter than what is put into it"
words_of Overlap = codes "a field that covers another one of its line"
