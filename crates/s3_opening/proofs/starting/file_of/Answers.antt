use Rattle.std.proofs.Common.{[], ◌∷◌, subst, sym}
use Rattle.std.specs.Prelude.{IfOk}
use Rattle.s3_job_files.specs.Inner.Holds.{seen}
use Rattle.s3_job_files.proofs.Packs.{pack_kept}
use Rattle.s3_opening.specs.Inner.Starting.{Readies}
use Rattle.s3_opening.specs.Inner.Starts.{IsPlanned, IsRight, step_in}
use Rattle.s3_opening.proofs.OneByOne.{make_planned, readies_open}
use Rattle.s3_opening.proofs.starting.file_of.Goals as goal

pub returns-in-Opened-clause-readies : goal.returns-in-Opened-clause-readies
returns-in-Opened-clause-readies g c = readies_open c.args.level c.args.start c.in-Opened.file _ c.in-Opened.is c.requires.right

pub returns-in-Opened-clause-leaves : goal.returns-in-Opened-clause-leaves
returns-in-Opened-clause-leaves g c = pack_kept c.args.level c.args.pack.now.areas _ _ c.requires.ready

pub make_file-requires-clause-proper : goal.make_file-requires-clause-proper
make_file-requires-clause-proper g c = subst (IsRight c.args.level (seen c.args.pack.now.areas (g.P.Sectors.state c.args.pack.now.pool).contents)) c.in-ToMake.is c.requires.right

pub make_file-requires-clause-planned : goal.make_file-requires-clause-planned
make_file-requires-clause-planned g c =
    make_planned c.args.level c.args.pack.now.areas c.in-ToMake.name c.in-ToMake.new
    (subst (λ start. IsPlanned c.args.level c.args.pack.now.areas (step_in start ∷ [])) c.in-ToMake.is c.requires.planned)

pub returns-in-ToMake-clause-readies : goal.returns-in-ToMake-clause-readies
returns-in-ToMake-clause-readies g c =
    subst (λ start. IfOk c.make_file.result (λ file. Readies c.args.level start file (seen c.args.pack.now.areas (g.P.Sectors.state c.args.pack.now.pool).contents)
    (seen c.make_file.new.pack.areas (g.P.Sectors.state c.make_file.new.pack.pool).contents))) (sym c.in-ToMake.is) c.make_file.ensures.readies
