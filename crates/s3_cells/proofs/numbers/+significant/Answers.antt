use Rattle.std.proofs.Common.{◌≡◌, false, length, rules}
use Rattle.std.specs.Bool.{◌==◌}
use Rattle.std.proofs.lemmas.Bool.{ne_eqb}
use Rattle.s3_cells.proofs.NumberLemmas.{first_digit, zero_dropped}
use Rattle.s3_cells.proofs.numbers.+significant.Goals as goal

pub returns-in-Some : goal.returns-in-Some
returns-in-Some t c =
    let some : (length c.in-Some.rest.now == 0) ≡ false = search rules in
    zero_dropped c.args.zoned.now c.in-Some.rest.now c.significant.result.now c.in-Some.first.now c.in-Some.ensures.cases.0 c.if-first.true some c.significant.ensures

pub returns-in_default-2 : goal.returns-in_default-2
returns-in_default-2 t c = first_digit c.args.zoned.now c.in-Some.rest.now c.in-Some.first.now c.in-Some.ensures.cases.0 (ne_eqb c.in-Some.first.now 240 c.if-first.false)
