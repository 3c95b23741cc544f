use Rattle.s3_match.proofs.SelectLemmas.{met_end}
use Rattle.s3_match.proofs.selection.has_met_end.Goals as goal

pub returns : goal.returns
returns c = met_end c.args.program.now c.args.files.now _ _ c.some_ends-some_end.ensures c.some_delays-delayed.ensures
