use Rattle.std.proofs.Common.{◌≤◌, ◌∙◌, arith}
use Rattle.s3_files.proofs.Stretched.{first_fits, first_is, later_within, later_small, later_is}
use Rattle.s3_files.proofs.file_sectors.+sector_in.Goals as goal

pub overflow_add-result : goal.overflow_add-result
overflow_add-result t c = omega (arith, first_fits c.args.runs.now c.in-Some.first.now c.in-Some.rest.now c.args.i c.in-Some.ensures.cases.0 (omega (arith, c.from-sectors.ensures, c.if-i-sectors.true)) c.requires.small)

pub sector_in-requires : goal.sector_in-requires
sector_in-requires t c =
    let past : c.in-Some.first.now.sectors ≤ c.args.i = omega (arith, c.from-sectors.ensures, c.if-i-sectors.false) in (
      omega (arith, c.in-Some.ensures.cases.1),
      (
        (let w = later_within c.args.runs.now c.in-Some.first.now c.in-Some.rest.now c.args.i c.in-Some.ensures.cases.0 past c.requires.within in omega (arith, w, c.from-sectors.ensures)),
        later_small c.args.runs.now c.in-Some.first.now c.in-Some.rest.now c.in-Some.ensures.cases.0 c.requires.small,
      ),
    )

pub returns-then-i-sectors : goal.returns-then-i-sectors
returns-then-i-sectors t c = first_is c.args.runs.now c.in-Some.first.now c.in-Some.rest.now c.args.i c.in-Some.ensures.cases.0 (omega (arith, c.from-sectors.ensures, c.if-i-sectors.true))

pub returns-else-i-sectors : goal.returns-else-i-sectors
returns-else-i-sectors t c =
    let past : c.in-Some.first.now.sectors ≤ c.args.i = omega (arith, c.from-sectors.ensures, c.if-i-sectors.false) in
    later_is c.args.runs.now c.in-Some.first.now c.in-Some.rest.now c.args.i c.in-Some.ensures.cases.0 past ∙ rw (← c.from-sectors.ensures) c.sector_in.ensures
