-- The texts so far are written.
use Rattle.std.proofs.Common.{◌∷◌, take, map}
use Rattle.std.specs.String.{string_bytes}
use Rattle.json.specs.Token.{begin_array}
use Rattle.s3_day_log.specs.Inner.Written.{Appended}
use Rattle.s3_day_log.proofs.WritingLemmas.{texts_tokens}
use Rattle.s3_day_log.proofs.writing.Line.texts.Given as goal

abbrev pub invariant-loop-text : goal.invariant-loop-text
invariant-loop-text l = Appended l.fn.self.json l.self.json (begin_array ∷ texts_tokens (map string_bytes (take l.text-index l.texts)))
