use Rattle.std.proofs.Common.{refl}
use Rattle.s3_job_files.proofs.Packs.{pack_err, pack_ok, pack_spent}
use Rattle.s3_opening.proofs.OneByOne.{starts_pushed}
use Rattle.s3_opening.proofs.starting.start_file.Goals as goal

pub file_of-requires-clause-right : goal.file_of-requires-clause-right
file_of-requires-clause-right g c = c.requires.can.right 0 c.args.start refl

pub returns-in_err-file-clause-leaves : goal.returns-in_err-file-clause-leaves
returns-in_err-file-clause-leaves g c = pack_err _ c.from_residual.ensures.1 c.in_err-file.ensures.leaves

pub returns-in_err-push-clause-leaves : goal.returns-in_err-push-clause-leaves
returns-in_err-push-clause-leaves g c = pack_spent _ c.from_residual-in_err-push.ensures.1 c.in_ok-file.ensures.leaves

pub returns-clause-starts : goal.returns-clause-starts
returns-clause-starts g c =
    starts_pushed c.args.level c.args.start c.in_ok-file.file c.args.files.now.items c.push.new.self.items _ _ c.in_ok-file.ensures.readies c.in_ok-push.ensures.items

pub returns-clause-leaves : goal.returns-clause-leaves
returns-clause-leaves g c = pack_ok _ c.in_ok-file.ensures.leaves
