use Rattle.std.proofs.Common.{◌≡◌, ◌++◌, ◌∷◌, List, ℕ, take}
use Rattle.std.specs.Prelude.{filter}
use Rattle.s3_dump.specs.Inner.Notes.{is_noted}
use Rattle.s3_dump.specs.Inner.Writing.{reads}
use Rattle.s3_dump.specs.declared.reading.Mode.TheVariants.{Start, Note}
use Rattle.s3_dump.proofs.writing.push_note.Given as goal

abbrev pub invariant-loop-byte : goal.invariant-loop-byte
invariant-loop-byte l = record {
  read : (before : List ℕ) → reads l.fn.text.items Start before → reads l.text.items Note before;
  noted : l.text.items ≡ l.fn.text.items ++ (35 ∷ 32 ∷ filter is_noted (take l.byte-index l.note));
}
