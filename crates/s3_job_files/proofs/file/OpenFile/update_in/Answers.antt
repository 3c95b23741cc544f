use Rattle.std.proofs.Common.{ap, ◌∙◌}
use Rattle.s3_job_files.specs.Inner.Records.{changes_of}
use Rattle.s3_job_files.specs.Records.{overlaid}
use Rattle.s3_job_files.proofs.OneFile.{found_there, none_found, of_label_kept, updated_found, usable_kept}
use Rattle.s3_store.proofs.Calls.{changes_behind, changes_from, reads_ok}
use Rattle.s3_job_files.proofs.file.OpenFile.update_in.Goals as goal

pub put-requires-clause-usable : goal.put-requires-clause-usable
put-requires-clause-usable g c = usable_kept _ _ c.args.self.now.label c.args.self.now.records c.get.ensures.reads.keeps.contents c.requires.usable

pub put-requires-clause-there : goal.put-requires-clause-there
put-requires-clause-there g c =
    found_there c.args.self.now.records c.args.i c.in_ok-get.field-0 c.get.new.bytes _ _ c.if-not-branch.false c.in_ok-get.ensures.found c.get.ensures.reads.keeps.contents

pub returns-clause-puts : goal.returns-clause-puts
returns-clause-puts g c =
    updated_found c.args.self.now.label (changes_of c.args.codes.now c.args.marks.now) c.args.self.now.records c.args.i c.in_ok-get.field-0 c.get.new.bytes c.overlay.new.bytes _ _ _ c.put.result c.if-not-branch.false c.in_ok-get.ensures.found
    (c.overlay.ensures ∙ ap (overlaid (changes_of c.args.codes.now c.args.marks.now)) c.copy_from_slice.ensures.after) c.get.ensures.reads.keeps.contents c.put.ensures.puts

pub returns-clause-of_label : goal.returns-clause-of_label
returns-clause-of_label g c = c.put.ensures.of_label

pub returns-then-not-branch-clause-puts : goal.returns-then-not-branch-clause-puts
returns-then-not-branch-clause-puts g c =
    none_found c.args.self.now.label (changes_of c.args.codes.now c.args.marks.now) c.args.self.now.records c.args.i c.in_ok-get.field-0 c.get.new.bytes _ _ c.if-not-branch.true c.in_ok-get.ensures.found c.get.ensures.reads.keeps.contents

pub returns-then-not-branch-clause-of_label : goal.returns-then-not-branch-clause-of_label
returns-then-not-branch-clause-of_label g c = of_label_kept _ _ c.args.self.now.label c.args.self.now.records c.get.ensures.reads.keeps.contents c.requires.usable

pub returns-clause-changes : goal.returns-clause-changes
returns-clause-changes g c = changes_behind c.in_ok-get.ensures.reads c.put.ensures.changes

pub returns-then-not-branch-clause-changes : goal.returns-then-not-branch-clause-changes
returns-then-not-branch-clause-changes g c = changes_from (reads_ok _ c.in_ok-get.ensures.reads)
