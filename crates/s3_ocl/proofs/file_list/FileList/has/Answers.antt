use Rattle.std.proofs.Common.{List, ◌∙◌, sym, ap}
use Rattle.std.specs.Prelude.{Some, take}
use Rattle.s3_ocl.specs.declared.contents.FileStatement.{FileStatement}
use Rattle.s3_ocl.specs.Faults.{is_taken}
use Rattle.s3_ocl.proofs.FileLemmas.{taken_later}
use Rattle.s3_ocl.proofs.file_list.FileList.has.Goals as goal

pub returns-else-is_taken : goal.returns-else-is_taken
returns-else-is_taken c =
    c.contains.ensures
    ∙ (taken_later c.self.inside.files.items c.first_few.result.now _ c.args.name (c.first_few.ensures ∙ ap (take 8) c.deref.ensures.value) (sym c.is_taken.ensures ∙ c.if-is_taken.false) c.self.invariant
    ∙ ap (λ (files : List FileStatement). is_taken files (Some c.args.name)) c.self.view_is)
