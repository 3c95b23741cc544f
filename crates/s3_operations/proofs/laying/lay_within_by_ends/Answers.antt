use Rattle.s3_operations.proofs.LayingLemmas.{ends_till}
use Rattle.s3_operations.proofs.laying.lay_within_by_ends.Goals as goal

pub returns : goal.returns
returns g c =
    ends_till c.args.bytes.now c.lay_ends.new.target c.part-first.result c.part-last.result _ c.args.from c.args.end c.args.to c.args.till c.requires.target c.requires.source c.requires.source_within c.requires.target_within c.requires.reaches
    c.part-first.ensures c.part-last.ensures c.lay_ends.ensures
