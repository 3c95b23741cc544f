use Rattle.s3_dump.proofs.WriterLemmas.{CodesTo}
use Rattle.s3_dump.proofs.writing.push_codes.Given as goal

abbrev pub invariant-loop-code : goal.invariant-loop-code
invariant-loop-code l = CodesTo l.fn.text.items l.text.items l.bytes l.code-index
