use Rattle.std.proofs.Common.{◌≡◌, drop}
use Rattle.s3_layout.specs.Inner.Files.{named_file}
use Rattle.s3_layout.proofs.choosing.named_file.Given as goal

abbrev pub invariant-loop-file : goal.invariant-loop-file
invariant-loop-file l = named_file l.name l.files ≡ named_file l.name (drop l.file-index l.files)
