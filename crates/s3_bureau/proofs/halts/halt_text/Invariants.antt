-- The text so far is the text of the halts so far.
use Rattle.std.proofs.Common.{◌≡◌, map, take, vec_items}
use Rattle.s3_operator.specs.Inner.Halts.{halt_of}
use Rattle.s3_bureau.specs.Texts.{halt_text_of}
use Rattle.s3_bureau.proofs.halts.halt_text.Given as goal

abbrev pub invariant-loop-halt : goal.invariant-loop-halt
invariant-loop-halt l = vec_items l.text ≡ halt_text_of l.fn.refusal (map halt_of (take l.halt-index l.halts))
