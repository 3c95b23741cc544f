use Rattle.std.proofs.Common.{arith}
use Rattle.s3_edit.proofs.ShortLemmas.{digits_joined}
use Rattle.s3_edit.proofs.short_amount.put_more_decimals.Goals as goal

pub returns-clause-digits : goal.returns-clause-digits
returns-clause-digits c =
    let more = c.requires.more in
    digits_joined c.args.number c.put_three-rest.result 3 c.args.count c.args.end c.put_three-rest.new.text c.put_few_decimals.new.text (omega (arith, more)) c.requires.begins
    c.put_three-rest.ensures.left c.put_three-rest.ensures.digits c.put_few_decimals.ensures.digits c.put_few_decimals.ensures.rest
