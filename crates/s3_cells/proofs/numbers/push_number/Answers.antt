use Rattle.std.proofs.Common.{rules}
use Rattle.s3_cells.proofs.NumberLemmas.{number_marked}
use Rattle.s3_cells.proofs.numbers.push_number.Goals as goal

pub returns : goal.returns
returns c =
    number_marked c.args.decimal c.args.decimals c.args.value c.is_negative.result c.digits_of-zoned.result c.split_at.result.0.now c.split_at.result.1.now c.significant.result.now c.args.text.now.items c.push_sign.new.text.items c.push_digits.new.text.items c.push_decimals.new.text.items
    (search rules) (search rules) (search rules) (search rules) (search rules) (search rules) (search rules) (search rules)
