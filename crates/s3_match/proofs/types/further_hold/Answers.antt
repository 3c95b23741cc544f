use Rattle.std.proofs.Common.{◌∙◌, sym}
use Rattle.s3_match.proofs.types.further_hold.Goals as goal

pub returns-then-has_no_further : goal.returns-then-has_no_further
returns-then-has_no_further c = c.if-has_no_further.true ∙ sym (c.has_no_further.ensures c.args.bytes.now c.if-has_no_further.true)
