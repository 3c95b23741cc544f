use Rattle.std.proofs.Common.{refl, get_or, length}
use Rattle.s3_decimal.proofs.PairLemmas.{pair_written}
use Rattle.s3_decimal.proofs.pairs.write_pair.Goals as goal

pub returns : goal.returns
returns c = λ written is. pair_written c.args.bytes.now (length c.args.bytes.now) c.args.place (get_or c.args.digits 0 0) (get_or c.args.digits 1 0) written refl c.requires is
