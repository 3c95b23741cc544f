-- The printed lines of a level that were drained from its queue.
use Rattle.std.specs.Prelude.{List, take}
use Rattle.s3_cards.specs.Printed.{Printed}
use Rattle.s3_solo.specs.Lines.{Lines}

-- the lines that were drained
abbrev pub drained_lines : Lines → List Printed
drained_lines lines = take lines.drained lines.printed
