use Rattle.s3_decimal.proofs.Powers.{ten_le}
use Rattle.s3_decimal.proofs.scale.short_power_of_ten.Goals as goal

pub returns-clause-bound : goal.returns-clause-bound
returns-clause-bound c = rw (c.power_of_ten.ensures.value) (ten_le c.args.exponent 18 c.requires)
