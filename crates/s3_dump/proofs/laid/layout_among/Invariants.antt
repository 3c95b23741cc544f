use Rattle.std.proofs.Common.{◌≡◌, drop}
use Rattle.s3_dump.specs.Inner.Notes.{layout_for}
use Rattle.s3_dump.proofs.laid.layout_among.Given as goal

abbrev pub invariant-loop-file : goal.invariant-loop-file
invariant-loop-file l = layout_for l.area l.name l.bytes l.layouts ≡ layout_for l.area l.name l.bytes (drop l.file-index l.layouts)
