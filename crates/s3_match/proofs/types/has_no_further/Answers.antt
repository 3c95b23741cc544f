use Rattle.s3_match.proofs.CodeLemmas.{further_past, further_end}
use Rattle.s3_match.proofs.types.has_no_further.Goals as goal

pub returns-then-place-inputs : goal.returns-then-place-inputs
returns-then-place-inputs c = λ bytes none. further_past bytes c.args.inputs.now _ c.if-place-inputs.true

pub returns : goal.returns
returns c = λ bytes ends. further_end bytes c.args.inputs.now _ _ c.if-place-inputs.false (c.ends_codes.ensures bytes ends)
