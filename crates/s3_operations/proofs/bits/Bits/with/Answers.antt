use Rattle.std.proofs.Common.{refl}
use Rattle.std.proofs.lemmas.Nat.{or_lt}
use Rattle.s3_operations.proofs.PlaceLemmas.{places_joined}
use Rattle.s3_operations.proofs.bits.Bits.with.Goals as goal

pub invariant_of-result : goal.invariant_of-result
invariant_of-result c = record {
  within = c.args.self.within;
  fits = or_lt 64 c.args.self.mask c.args.other.mask c.args.self.fits c.args.other.fits;
}

pub returns-clause-places : goal.returns-clause-places
returns-clause-places c = λ place. places_joined c.args.self c.args.other _ place c.requires refl refl
