-- The position of the carriage, in the terms of the semantics.
use Rattle.std.specs.Prelude.{◌≡◌, Bool, false}
use Rattle.s3_lines.specs.declared.sheet.Spacing.{Spacing}
use Rattle.s3_meaning.specs.Carriage.{Carriage as Place, after_print, to_print}
use Rattle.s3_output.specs.declared.carriage.Carriage.{Carriage}
use Rattle.s3_output.specs.declared.carriage.Moved.{Moved}
use Rattle.s3_output.specs.declared.carriage.Printed.{Printed}

abbrev pub place : Carriage → (overflow : Bool) → Place
place carriage overflow = record { page = carriage.page; line = carriage.line; overflow = overflow }

abbrev pub place_moved : Moved → Place
place_moved moved = place moved.carriage moved.overflow

-- the page and line where the line prints, and the carriage after it
pub record IsPrinted (spacing : Spacing) (carriage : Carriage) (printed : Printed) : Type 0 where
  pub there : place_moved printed.place ≡ to_print spacing (place carriage false)
  pub behind : place_moved printed.behind ≡ after_print spacing (place_moved printed.place)
