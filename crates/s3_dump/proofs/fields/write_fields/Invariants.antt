use Rattle.std.proofs.Common.{take}
use Rattle.s3_dump.specs.Inner.Notes.{AddsNotes, notes_text}
use Rattle.s3_dump.specs.Inner.Writing.{Keeps}
use Rattle.s3_dump.proofs.fields.write_fields.Given as goal

abbrev pub invariant-loop-field : goal.invariant-loop-field
invariant-loop-field l = record {
  keeps : Keeps l.initial.writer l.writer;
  notes : AddsNotes l.initial.writer l.writer (notes_text (take l.field-index l.fields) l.bytes);
}
