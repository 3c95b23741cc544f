-- There are three areas.
use Rattle.std.proofs.Common.{arith}
use Rattle.std.specs.Prelude.{◌<◌}
use Rattle.s3_cards.specs.declared.levels.LevelId.TheVariants.{One, Two}
use Rattle.s3_labels.specs.Inner.AreaNumbers.{area_number}
use Rattle.s3_labels.specs.declared.area.Area.{Area}
use Rattle.s3_labels.specs.declared.area.Area.TheVariants.{Masters, Level}

pub area_few : (area : Area) → area_number area < 3
area_few Masters = omega arith
area_few (Level One) = omega arith
area_few (Level Two) = omega arith
