use Rattle.s3_match.proofs.CodeLemmas.{any_holds}
use Rattle.s3_match.proofs.types.has_no_codes.Goals as goal

pub returns-then-starts_without_codes : goal.returns-then-starts_without_codes
returns-then-starts_without_codes c = λ bytes ends.
    any_holds bytes c.args.inputs.now _ _ c.if-place-inputs.false (c.starts_without_codes.ensures bytes c.if-starts_without_codes.true) (c.has_no_further.ensures bytes ends)
