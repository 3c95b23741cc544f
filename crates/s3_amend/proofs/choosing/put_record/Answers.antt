use Rattle.s3_files.proofs.Rooms.{of_pack_room}
use Rattle.s3_amend.proofs.FileLemmas.{others_kept}
use Rattle.s3_amend.proofs.choosing.put_record.Goals as goal

pub of-file-requires : goal.of-file-requires
of-file-requires c = of_pack_room _ c.args.label.now c.requires.on_pack

pub returns-in-Ok-clause-others : goal.returns-in-Ok-clause-others
returns-in-Ok-clause-others c =
    others_kept c.args.label.now _ _ _ c.of-file.ensures.sectors c.of-file.ensures.record_length c.of-file.ensures.count c.args.store.now c.put.new.pool c.args.place c.in-Ok.ensures.others

pub returns-in-Err-clause-others : goal.returns-in-Err-clause-others
returns-in-Err-clause-others c =
    others_kept c.args.label.now _ _ _ c.of-file.ensures.sectors c.of-file.ensures.record_length c.of-file.ensures.count c.args.store.now c.put.new.pool c.args.place c.in-Err.ensures.others
