use Rattle.std.proofs.Common.{refl}
use Rattle.s3_program.specs.Inner.Valid.{named}
use Rattle.s3_sections.proofs.SpotLemmas.{begins_first}
use Rattle.s3_sections.proofs.spot.Spot.detail.Goals as goal

pub returns-clause-spot : goal.returns-clause-spot
returns-clause-spot c = record { first = record { apart = begins_first c.args.program.now; continues = refl }; here = record { apart = begins_first c.args.program.now; continues = refl } }

pub returns-clause-whole : goal.returns-clause-whole
unfolding named
returns-clause-whole c = refl
