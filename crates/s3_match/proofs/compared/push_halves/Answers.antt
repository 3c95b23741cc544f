use Rattle.s3_match.proofs.ComparedLemmas.{halves_room, halves_room_behind}
use Rattle.s3_match.proofs.compared.push_halves.Goals as goal

pub push-requires : goal.push-requires
push-requires c = halves_room c.loop-byte.compared c.args.compared.now c.args.bytes.now _ 0 _ c.loop-byte-test.true c.loop-byte.invariant c.requires

pub push-requires-in-loop-byte : goal.push-requires-in-loop-byte
push-requires-in-loop-byte c = halves_room_behind c.loop-byte.compared _ c.args.compared.now c.args.bytes.now _ 0 _ c.loop-byte-test.true c.loop-byte.invariant c.requires c.push.ensures
