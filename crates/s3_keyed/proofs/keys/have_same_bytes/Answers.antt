use Rattle.std.proofs.Common.{arith}
use Rattle.std.proofs.lemmas.Grind.{same_number_lists}
use Rattle.s3_keyed.proofs.keys.have_same_bytes.Goals as goal

pub returns : goal.returns
returns c = λ is. same_number_lists c.args.one.now c.args.other.now c.requires (λ k h. c.loop-place.invariant k (omega (arith, h)))
