use Rattle.std.proofs.Common.{◌≡◌, take}
use Rattle.std.specs.List.{flat_map}
use Rattle.s3_layout.specs.Inner.Files.{disk_file}
use Rattle.s3_layout.proofs.choosing.disk_files.Given as goal

abbrev pub invariant-loop-line : goal.invariant-loop-line
invariant-loop-line l = l.files.items ≡ flat_map disk_file (take l.line-index l.lines)
