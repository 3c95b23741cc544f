use Rattle.s3_opening.proofs.MadeFiles.{made_good}
use Rattle.s3_opening.proofs.OneByOne.{readies_if_made}
use Rattle.s3_job_files.proofs.Packs.{pack_err, pack_read, pack_then}
use Rattle.std.proofs.Common.{refl}
use Rattle.s3_opening.proofs.starting.make_file.Goals as goal

pub returns-in_err-label-clause-leaves : goal.returns-in_err-label-clause-leaves
returns-in_err-label-clause-leaves g c = pack_err _ c.from_residual.ensures.1 c.in_err-label.ensures.leaves

pub open_made-requires-clause-good : goal.open_made-requires-clause-good
open_made-requires-clause-good g c = made_good c.args.level c.args.new.now c.in_ok-label.label c.args.pack.now.areas c.make_label.new.pack.areas _ _ c.in_ok-label.ensures.made

pub returns-clause-readies : goal.returns-clause-readies
returns-clause-readies g c =
    readies_if_made c.args.level c.args.name c.args.new.now c.in_ok-label.label c.args.pack.now.areas c.make_label.new.pack.areas _ _ _ c.open_made.result
    c.in_ok-label.ensures.made c.open_made.ensures.reads c.open_made.ensures.opened

pub returns-clause-leaves : goal.returns-clause-leaves
returns-clause-leaves g c = pack_then c.in_ok-label.ensures.leaves (pack_read c.in_ok-label.ensures.made.ready refl c.open_made.ensures.reads)
