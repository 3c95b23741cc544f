use Rattle.std.proofs.Common.{◌∙◌}
use Rattle.s3_job_files.specs.Inner.Records.{changes_of}
use Rattle.s3_job_files.proofs.OneFile.{nothing_to_update, of_label_kept, updated_after, usable_kept}
use Rattle.s3_store.proofs.Calls.{changes_behind, changes_from, reads_ok}
use Rattle.s3_job_files.proofs.file.OpenFile.update_current.Goals as goal

pub update_at-requires : goal.update_at-requires
update_at-requires g c = record { usable = usable_kept _ _ c.args.self.now.label c.args.self.now.records c.place_current.ensures.reads.keeps.contents c.requires.usable }

pub returns-in-None-clause-puts : goal.returns-in-None-clause-puts
returns-in-None-clause-puts g c =
    nothing_to_update c.args.self.now.label (changes_of c.args.codes.now c.args.marks.now) c.args.self.now.records _ _ _ (c.in_ok-place_current.ensures.place ∙ c.in-None.is) c.place_current.ensures.reads.keeps.contents

pub returns-in-None-clause-of_label : goal.returns-in-None-clause-of_label
returns-in-None-clause-of_label g c = of_label_kept _ _ c.args.self.now.label c.args.self.now.records c.place_current.ensures.reads.keeps.contents c.requires.usable

pub returns-in-Some-clause-puts : goal.returns-in-Some-clause-puts
returns-in-Some-clause-puts g c =
    updated_after c.args.self.now.label (changes_of c.args.codes.now c.args.marks.now) c.args.self.now.records _ c.in-Some.place _ _ _ c.update_at.result (c.in_ok-place_current.ensures.place ∙ c.in-Some.is) c.place_current.ensures.reads.keeps.contents
    c.update_at.ensures.puts

pub returns-in-Some-clause-of_label : goal.returns-in-Some-clause-of_label
returns-in-Some-clause-of_label g c = c.update_at.ensures.of_label

pub returns-in-None-clause-changes : goal.returns-in-None-clause-changes
returns-in-None-clause-changes g c = changes_from (reads_ok _ c.in_ok-place_current.ensures.reads)

pub returns-in-Some-clause-changes : goal.returns-in-Some-clause-changes
returns-in-Some-clause-changes g c = changes_behind c.in_ok-place_current.ensures.reads c.update_at.ensures.changes
