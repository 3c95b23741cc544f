use Rattle.std.proofs.Common.{ap, refl}
use Rattle.std.proofs.lemmas.Option.{slice_get_read}
use Rattle.s3_job_files.specs.Inner.Holds.{opened_as}
use Rattle.s3_job_files.proofs.Held.{usable_at}
use Rattle.s3_job_files.proofs.Lists.{map_stays}
use Rattle.s3_job_files.proofs.Reading.{of_read, read_ready, read_serves}
use Rattle.s3_job_files.proofs.job_files.JobFiles.read_next.Goals as goal

pub read_next-requires-clause-usable : goal.read_next-requires-clause-usable
read_next-requires-clause-usable g c =
    usable_at c.args.self.now.level c.args.self.now.files.items _ c.args.place c.index_mut.result.now c.requires.ready
    (slice_get_read _ _ c.args.place c.index_mut.result.now refl c.requires.there c.index_mut.ensures.value)

pub read_next-requires-clause-long : goal.read_next-requires-clause-long
read_next-requires-clause-long g c = c.requires.long c.index_mut.result.now (slice_get_read _ _ c.args.place c.index_mut.result.now refl c.requires.there c.index_mut.ensures.value)

pub returns-clause-serves : goal.returns-clause-serves
returns-clause-serves g c =
    read_serves c.args.self.now.level c.args.self.now.files.items c.args.pack.now.areas _ _ c.args.place c.index_mut.result.now c.read_next.new.self c.read_next.new.bytes c.read_next.result
    c.requires.ready (slice_get_read _ _ c.args.place c.index_mut.result.now refl c.requires.there c.index_mut.ensures.value)
    c.read_next.ensures.alone c.read_next.ensures.reads.keeps.contents c.read_next.ensures.answer c.read_next.ensures.read

pub returns-clause-ready : goal.returns-clause-ready
returns-clause-ready g c =
    read_ready c.args.self.now.level c.args.self.now.files.items c.args.pack.now.areas _ _ c.args.place c.index_mut.result.now c.read_next.new.self
    c.requires.ready (slice_get_read _ _ c.args.place c.index_mut.result.now refl c.requires.there c.index_mut.ensures.value)
    (of_read c.index_mut.result.now c.read_next.new.self c.read_next.ensures.alone) c.read_next.ensures.reads.keeps.contents

pub returns-clause-opened : goal.returns-clause-opened
returns-clause-opened g c =
    map_stays opened_as c.args.self.now.files.items c.args.place c.index_mut.result.now c.read_next.new.self
    (slice_get_read _ _ c.args.place c.index_mut.result.now refl c.requires.there c.index_mut.ensures.value) (ap opened_as c.read_next.ensures.alone)
