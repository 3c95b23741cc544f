-- The files so far are written.
use Rattle.std.proofs.Common.{◌∷◌, take, map}
use Rattle.json.specs.Token.{begin_array}
use Rattle.s3_day_log.specs.Inner.Events.{file_of}
use Rattle.s3_day_log.specs.Inner.Written.{Appended}
use Rattle.s3_day_log.proofs.WritingLemmas.{files_tokens}
use Rattle.s3_day_log.proofs.writing.Line.files.Given as goal

abbrev pub invariant-loop-file : goal.invariant-loop-file
invariant-loop-file l = Appended l.fn.self.json l.self.json (begin_array ∷ files_tokens (map file_of (take l.file-index l.files)))
