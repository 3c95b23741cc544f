use Rattle.s3_warnings.proofs.FactLemmas.{known_shown}
use Rattle.s3_warnings.proofs.warnings.fill.Goals as goal

pub returns : goal.returns
returns c =
    known_shown (record { set = c.in_ok-known.field-0; tested = c.in_ok-known-2.field-0; shapes = c.in_ok-known-3.field-0 }) c.args.lines.now
    c.in_ok-known.ensures c.in_ok-known-2.ensures c.in_ok-known-3.ensures
