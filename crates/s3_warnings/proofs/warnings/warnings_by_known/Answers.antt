use Rattle.s3_warnings.proofs.FactLemmas.{warnings_shown}
use Rattle.s3_warnings.proofs.warnings.warnings_by_known.Goals as goal

pub returns : goal.returns
returns c = warnings_shown c.args.known.now c.args.lines.now c.in_ok-found.found.items c.in_ok-found.ensures c.requires
