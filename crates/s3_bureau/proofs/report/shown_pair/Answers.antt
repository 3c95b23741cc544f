use Rattle.std.proofs.Common.{◌∙◌, ap, rules}
use Rattle.std.specs.Prelude.{slice_index}
use Rattle.s3_bureau.proofs.Laying.{pair_shown}
use Rattle.s3_bureau.proofs.report.shown_pair.Goals as goal

pub returns : goal.returns
returns c =
    c.to_le_bytes.ensures
    ∙ pair_shown c.args.shown.now c.args.codes _ c.requires.shown (search rules) (λ i. search rules) (ap (slice_index c.args.shown.now) (c.from.ensures ∙ c.from_le_bytes.ensures))
