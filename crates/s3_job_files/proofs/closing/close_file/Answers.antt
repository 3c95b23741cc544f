use Rattle.std.proofs.Common.{sym, ◌∙◌}
use Rattle.s3_job_files.proofs.Closed.{closes_as_counted, closes_counted, closes_dropped, closes_master, room_for, usable_alone}
use Rattle.s3_job_files.proofs.Packs.{file_leaves, pack_err, pack_kept, pack_then}
use Rattle.s3_job_files.proofs.closing.close_file.Goals as goal

pub returns-then-file-clause-closes : goal.returns-then-file-clause-closes
returns-then-file-clause-closes g c = closes_master c.args.level c.args.file _ c.if-file.true

pub returns-then-file-clause-leaves : goal.returns-then-file-clause-leaves
returns-then-file-clause-leaves g c = pack_kept c.args.level c.args.pack.now.areas _ _ c.requires.ready

pub returns-then-goes_at_end-clause-closes : goal.returns-then-goes_at_end-clause-closes
returns-then-goes_at_end-clause-closes g c =
    closes_dropped c.args.level c.args.file c.args.pack.now.areas c.drop_label.new.pack.areas _ _ c.drop_label.result c.requires.ready c.requires.stands
    c.if-file.false (sym c.goes_at_end.ensures ∙ c.if-goes_at_end.true) c.drop_label.ensures.dropped c.drop_label.ensures.labels

pub returns-then-goes_at_end-clause-leaves : goal.returns-then-goes_at_end-clause-leaves
returns-then-goes_at_end-clause-leaves g c = c.drop_label.ensures.labels.leaves

pub close-requires : goal.close-requires
close-requires g c = record { usable = usable_alone c.args.level c.args.pack.now.areas _ c.args.file c.requires.ready c.requires.stands }

pub returns-in_err-close-clause-leaves : goal.returns-in_err-close-clause-leaves
returns-in_err-close-clause-leaves g c = pack_err _ c.from_residual.ensures.1 (file_leaves c.requires.ready c.requires.stands c.if-file.false c.in_err-close.ensures.changes)

pub set_count-requires-clause-room : goal.set_count-requires-clause-room
set_count-requires-clause-room g c = room_for c.args.level c.args.pack.now.areas _ c.args.file c.len-count.result c.requires.ready c.requires.stands c.if-file.false c.len-count.ensures

pub returns-then-is_label_right-clause-closes : goal.returns-then-is_label_right-clause-closes
returns-then-is_label_right-clause-closes g c =
    closes_as_counted c.args.level c.args.file c.args.pack.now.areas _ _ c.requires.ready c.requires.stands
    c.if-file.false (sym c.goes_at_end.ensures ∙ c.if-goes_at_end.false) (sym c.len-count.ensures ∙ c.if-is_label_right.true) c.in_ok-close.ensures.kept c.close.ensures.changes.within
    (file_leaves c.requires.ready c.requires.stands c.if-file.false c.in_ok-close.ensures.changes)

pub returns-then-is_label_right-clause-leaves : goal.returns-then-is_label_right-clause-leaves
returns-then-is_label_right-clause-leaves g c = file_leaves c.requires.ready c.requires.stands c.if-file.false c.in_ok-close.ensures.changes

pub returns-clause-closes : goal.returns-clause-closes
returns-clause-closes g c =
    closes_counted c.args.level c.args.file c.len-count.result c.args.pack.now.areas c.set_count.new.pack.areas _ _ _ c.set_count.result c.requires.ready c.requires.stands
    c.if-file.false (sym c.goes_at_end.ensures ∙ c.if-goes_at_end.false) c.len-count.ensures c.in_ok-close.ensures.kept c.close.ensures.changes.within
    c.set_count.ensures.counted c.set_count.ensures.labels

pub returns-clause-leaves : goal.returns-clause-leaves
returns-clause-leaves g c = pack_then (file_leaves c.requires.ready c.requires.stands c.if-file.false c.in_ok-close.ensures.changes) c.set_count.ensures.labels.leaves
