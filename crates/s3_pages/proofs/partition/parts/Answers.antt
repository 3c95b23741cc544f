use Rattle.std.proofs.Common.{arith}
use Rattle.std.proofs.lemmas.Grind.{common_steps}
use Rattle.s3_pages.proofs.PartLemmas.{whole_of}
use Rattle.s3_pages.proofs.partition.parts.Goals as goal

pub returns-clause-whole : goal.returns-clause-whole
returns-clause-whole c = whole_of (λ part. part.now) c.push-2.new.self.items c.args.counts.now c.args.lines.now (grind (arith, common_steps))
