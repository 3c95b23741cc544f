use Rattle.std.proofs.Common.{ap, refl}
use Rattle.std.proofs.lemmas.Option.{slice_get_read}
use Rattle.s3_job_files.specs.Records.{added}
use Rattle.s3_meaning.specs.Inner.Requests.{refuses_add}
use Rattle.s3_job_files.proofs.Fitting.{added_within, fits_puts}
use Rattle.s3_job_files.specs.Inner.Holds.{opened_as}
use Rattle.s3_job_files.proofs.Held.{usable_at}
use Rattle.s3_job_files.proofs.Lists.{map_stays}
use Rattle.s3_job_files.proofs.Putting.{file_spares, of_put, own_sound, put_ready_if, put_serves}
use Rattle.s3_job_files.proofs.Said.{own_says}
use Rattle.s3_job_files.proofs.job_files.JobFiles.add.Goals as goal

pub add-requires-clause-usable : goal.add-requires-clause-usable
add-requires-clause-usable g c =
    usable_at c.args.self.now.level c.args.self.now.files.items _ c.args.place c.index_mut.result.now c.requires.ready
    (slice_get_read _ _ c.args.place c.index_mut.result.now refl c.requires.there c.index_mut.ensures.value)

pub add-requires-clause-long : goal.add-requires-clause-long
add-requires-clause-long g c = (c.requires.takes c.index_mut.result.now (slice_get_read _ _ c.args.place c.index_mut.result.now refl c.requires.there c.index_mut.ensures.value)).long

pub returns-clause-serves : goal.returns-clause-serves
returns-clause-serves g c =
    put_serves c.args.self.now.level c.args.self.now.files.items c.args.pack.now.areas _ _ c.args.place c.index_mut.result.now c.add.new.self (λ at. added at.label c.args.bytes.now at.records) c.add.result
    c.requires.ready (slice_get_read _ _ c.args.place c.index_mut.result.now refl c.requires.there c.index_mut.ensures.value)
    (c.requires.takes c.index_mut.result.now (slice_get_read _ _ c.args.place c.index_mut.result.now refl c.requires.there c.index_mut.ensures.value)).own
    (of_put c.index_mut.result.now c.add.new.self c.add.ensures.alone) c.add.ensures.changes.within c.add.ensures.puts

pub returns-clause-ready : goal.returns-clause-ready
returns-clause-ready g c =
    put_ready_if c.args.self.now.level c.args.self.now.files.items c.args.pack.now.areas _ _ c.args.place c.index_mut.result.now c.add.new.self c.add.result
    c.requires.ready (slice_get_read _ _ c.args.place c.index_mut.result.now refl c.requires.there c.index_mut.ensures.value)
    (c.requires.takes c.index_mut.result.now (slice_get_read _ _ c.args.place c.index_mut.result.now refl c.requires.there c.index_mut.ensures.value)).own
    (of_put c.index_mut.result.now c.add.new.self c.add.ensures.alone) c.add.ensures.changes.within c.add.ensures.of_label

pub returns-clause-spares : goal.returns-clause-spares
returns-clause-spares g c =
    file_spares c.args.self.now.level c.args.pack.now.areas _ _ c.index_mut.result.now.label c.requires.ready.pack
    (own_sound c.args.self.now.level _ c.index_mut.result.now
    (c.requires.ready.files.stands c.args.place c.index_mut.result.now (slice_get_read _ _ c.args.place c.index_mut.result.now refl c.requires.there c.index_mut.ensures.value))
    (c.requires.takes c.index_mut.result.now (slice_get_read _ _ c.args.place c.index_mut.result.now refl c.requires.there c.index_mut.ensures.value)).own)
    c.add.ensures.changes.within

pub add-requires-clause-indexed : goal.add-requires-clause-indexed
add-requires-clause-indexed g c = c.requires.indexed c.index_mut.result.now (slice_get_read _ _ c.args.place c.index_mut.result.now refl c.requires.there c.index_mut.ensures.value)

pub returns-clause-fits : goal.returns-clause-fits
returns-clause-fits g c = fits_puts refuses_add _ _ _ c.add.result (added_within c.index_mut.result.now.label c.args.bytes.now _) c.add.ensures.puts

pub returns-clause-opened : goal.returns-clause-opened
returns-clause-opened g c =
    map_stays opened_as c.args.self.now.files.items c.args.place c.index_mut.result.now c.add.new.self
    (slice_get_read _ _ c.args.place c.index_mut.result.now refl c.requires.there c.index_mut.ensures.value) (ap opened_as c.add.ensures.alone)

pub returns-clause-says : goal.returns-clause-says
returns-clause-says g c =
    own_says c.args.self.now.level c.args.pack.now.areas (g.P.Sectors.state c.args.pack.now.pool) (g.P.Sectors.state c.add.new.pool) c.index_mut.result.now c.requires.ready.pack
    (c.requires.ready.files.stands c.args.place c.index_mut.result.now (slice_get_read _ _ c.args.place c.index_mut.result.now refl c.requires.there c.index_mut.ensures.value))
    (c.requires.takes c.index_mut.result.now (slice_get_read _ _ c.args.place c.index_mut.result.now refl c.requires.there c.index_mut.ensures.value)).own
    c.add.ensures.changes.within
