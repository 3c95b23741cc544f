use Rattle.s3_sections.proofs.TotalLemmas.{totals_spot, totals_whole}
use Rattle.s3_sections.proofs.spot.Spot.totals.Goals as goal

pub returns-clause-spot : goal.returns-clause-spot
returns-clause-spot c = totals_spot c.args.program.now

pub returns-clause-whole : goal.returns-clause-whole
returns-clause-whole c = totals_whole c.args.program.now
