use Rattle.s3_match.proofs.ComparedLemmas.{zoned_room}
use Rattle.s3_match.proofs.compared.push_zoned.Goals as goal

pub push-requires : goal.push-requires
push-requires c = zoned_room c.loop-byte.compared c.args.compared.now c.args.bytes.now _ 0 _ c.loop-byte-test.true c.loop-byte.invariant c.requires
