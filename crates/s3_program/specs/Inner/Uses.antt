-- The program has exactly one primary file.
use Rattle.std.specs.Prelude.{Bool, List, ◌==◌}
use Rattle.std.specs.List.{count_by}
use Rattle.s3_lines.specs.declared.sheet.Designation.TheVariants.{Primary}
use Rattle.s3_lines.specs.declared.sheet.FileLine.{FileLine}
use Rattle.s3_lines.specs.Files.{is_designated}

-- exactly one file has designation P
abbrev pub has_one_primary : List FileLine → Bool
has_one_primary files = count_by (is_designated Primary) files == 1
