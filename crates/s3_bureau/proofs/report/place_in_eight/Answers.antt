use Rattle.std.proofs.Common.{◌/◌, ◌%◌, refl, arith}
use Rattle.s3_bureau.proofs.Digits.{four_by_pairs, two_by_pair}
use Rattle.s3_bureau.proofs.report.place_in_eight.Goals as goal

pub returns : goal.returns
returns c =
    rw (
      four_by_pairs c.args.page c.requires.page,
      two_by_pair c.args.line c.requires.line,
      c.requires.tables.tens (c.args.page / 100) (omega arith),
      c.requires.tables.ones (c.args.page / 100) (omega arith),
      c.requires.tables.tens (c.args.page % 100) (omega arith),
      c.requires.tables.ones (c.args.page % 100) (omega arith),
      c.requires.tables.tens c.args.line c.requires.line,
      c.requires.tables.ones c.args.line c.requires.line,
    ) refl
