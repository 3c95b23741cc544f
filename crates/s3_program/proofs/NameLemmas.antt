-- Each file of a program has a name, so the blank name finds no file.
use Rattle.std.proofs.Common.{◌≡◌, List, [], ◌∷◌, Bool, true, false, not, refl}
use Rattle.std.specs.Prelude.{None}
use Rattle.std.specs.List.{list_all, find}
use Rattle.std.proofs.lemmas.Bool.{and_parts}
use Rattle.s3_cards.specs.Names.{same_name, no_name}
use Rattle.s3_lines.specs.declared.sheet.FileLine.{FileLine}
use Rattle.s3_lines.specs.Inner.Ranges.{is_named, file_in_range}
use Rattle.s3_meaning.specs.Source.{file_named}
use Rattle.s3_program.specs.declared.program.Program.{Program}
use Rattle.s3_program.specs.Inner.Positions.{are_in_range}
use Rattle.s3_program.specs.Inner.Valid.{named}
use Rattle.s3_program.specs.Inner.Stands.{parts_of, source_named}
use Rattle.s3_program.proofs.SlotLemmas.{kept}

file_has_name : (file : FileLine) → file_in_range file ≡ true → is_named file.name ≡ true
file_has_name file ranged =
    let five = and_parts _ _ ranged in
    let four = and_parts _ _ five.0 in
    let three = and_parts _ _ four.0 in
    let two = and_parts _ _ three.0 in
    let one = and_parts _ _ two.0 in
    (and_parts _ _ one.0).0

none_blank : (files : List FileLine) → list_all file_in_range files ≡ true → find (λ file. same_name file.name no_name) files ≡ None
none_blank [] ranged = refl
none_blank (file ∷ files) ranged =
    let parts = and_parts (file_in_range file) (list_all file_in_range files) ranged in
    passed (same_name file.name no_name) refl (file_has_name file parts.0) (none_blank files parts.1)
  where
    passed : (b : Bool) → same_name file.name no_name ≡ b → not b ≡ true → find (λ file. same_name file.name no_name) files ≡ None → find (λ file. same_name file.name no_name) (file ∷ files) ≡ None
    passed false here named later = rw here later
    passed true here named later = absurd cc

pub no_nameless_file : (program : Program) → file_named (source_named program) no_name ≡ None
unfolding are_in_range named
no_nameless_file program =
    let ranged = (kept (parts_of program) program.valid).ranged in
    none_blank program.files.items (and_parts _ _ (and_parts _ _ (and_parts _ _ ranged).0).0).0
