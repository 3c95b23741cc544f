-- The number of an area of a pack: its place in the format, and what other definitions name it by.
use Rattle.std.specs.Prelude.{ℕ}
use Rattle.s3_labels.specs.Areas.{area_of}
use Rattle.s3_labels.specs.declared.area.Area.{Area}
use Rattle.s3_labels.specs.declared.area.Area.TheVariants.{Masters, Level}

abbrev pub area_number : Area → ℕ
area_number Masters = 0
area_number (Level level) = area_of level
