use Rattle.std.proofs.Common.{ap, refl}
use Rattle.std.proofs.lemmas.Option.{slice_get_read}
use Rattle.s3_job_files.specs.Inner.Records.{changes_of}
use Rattle.s3_job_files.specs.Records.{place_current, updated}
use Rattle.s3_job_files.specs.Inner.Holds.{opened_as, records_of}
use Rattle.s3_meaning.specs.Inner.Requests.{refuses_update}
use Rattle.s3_job_files.proofs.Fitting.{updated_within, fits_puts}
use Rattle.s3_job_files.proofs.Held.{usable_at}
use Rattle.s3_job_files.proofs.Lists.{map_stays}
use Rattle.s3_job_files.proofs.Putting.{file_spares, of_update, own_sound, put_ready_if, put_serves}
use Rattle.s3_job_files.proofs.Said.{own_says}
use Rattle.s3_job_files.proofs.job_files.JobFiles.update.Goals as goal

pub update-requires : goal.update-requires
update-requires g c = record {
  usable = usable_at c.args.self.now.level c.args.self.now.files.items _ c.args.place c.index_mut.result.now c.requires.ready
      (slice_get_read _ _ c.args.place c.index_mut.result.now refl c.requires.there c.index_mut.ensures.value);
}

pub returns-clause-serves : goal.returns-clause-serves
returns-clause-serves g c =
    put_serves c.args.self.now.level c.args.self.now.files.items c.args.pack.now.areas _ _ c.args.place c.index_mut.result.now c.update.new.self
    (λ at. updated at.label (changes_of c.args.codes.now c.args.marks.now) (place_current at.label at.records at.file.chained c.args.current) at.records) c.update.result
    c.requires.ready (slice_get_read _ _ c.args.place c.index_mut.result.now refl c.requires.there c.index_mut.ensures.value)
    (c.requires.own c.index_mut.result.now (slice_get_read _ _ c.args.place c.index_mut.result.now refl c.requires.there c.index_mut.ensures.value))
    (of_update c.index_mut.result.now c.update.new.self c.update.ensures.alone) c.update.ensures.changes.within c.update.ensures.puts

pub returns-clause-ready : goal.returns-clause-ready
returns-clause-ready g c =
    put_ready_if c.args.self.now.level c.args.self.now.files.items c.args.pack.now.areas _ _ c.args.place c.index_mut.result.now c.update.new.self c.update.result
    c.requires.ready (slice_get_read _ _ c.args.place c.index_mut.result.now refl c.requires.there c.index_mut.ensures.value)
    (c.requires.own c.index_mut.result.now (slice_get_read _ _ c.args.place c.index_mut.result.now refl c.requires.there c.index_mut.ensures.value))
    (of_update c.index_mut.result.now c.update.new.self c.update.ensures.alone) c.update.ensures.changes.within c.update.ensures.of_label

pub returns-clause-spares : goal.returns-clause-spares
returns-clause-spares g c =
    file_spares c.args.self.now.level c.args.pack.now.areas _ _ c.index_mut.result.now.label c.requires.ready.pack
    (own_sound c.args.self.now.level _ c.index_mut.result.now
    (c.requires.ready.files.stands c.args.place c.index_mut.result.now (slice_get_read _ _ c.args.place c.index_mut.result.now refl c.requires.there c.index_mut.ensures.value))
    (c.requires.own c.index_mut.result.now (slice_get_read _ _ c.args.place c.index_mut.result.now refl c.requires.there c.index_mut.ensures.value)))
    c.update.ensures.changes.within

pub returns-clause-fits : goal.returns-clause-fits
returns-clause-fits g c =
    fits_puts refuses_update _ (records_of c.index_mut.result.now.records (g.P.Sectors.state c.args.pack.now.pool).contents) (records_of c.update.new.self.records (g.P.Sectors.state c.update.new.pool).contents) c.update.result
    (updated_within c.index_mut.result.now.label (changes_of c.args.codes.now c.args.marks.now)
    (place_current c.index_mut.result.now.label (records_of c.index_mut.result.now.records (g.P.Sectors.state c.args.pack.now.pool).contents) c.index_mut.result.now.chained c.args.current)
    (records_of c.index_mut.result.now.records (g.P.Sectors.state c.args.pack.now.pool).contents))
    c.update.ensures.puts

pub returns-clause-says : goal.returns-clause-says
returns-clause-says g c =
    own_says c.args.self.now.level c.args.pack.now.areas (g.P.Sectors.state c.args.pack.now.pool) (g.P.Sectors.state c.update.new.pool) c.index_mut.result.now c.requires.ready.pack
    (c.requires.ready.files.stands c.args.place c.index_mut.result.now (slice_get_read _ _ c.args.place c.index_mut.result.now refl c.requires.there c.index_mut.ensures.value))
    (c.requires.own c.index_mut.result.now (slice_get_read _ _ c.args.place c.index_mut.result.now refl c.requires.there c.index_mut.ensures.value))
    c.update.ensures.changes.within

pub returns-clause-opened : goal.returns-clause-opened
returns-clause-opened g c =
    map_stays opened_as c.args.self.now.files.items c.args.place c.index_mut.result.now c.update.new.self
    (slice_get_read _ _ c.args.place c.index_mut.result.now refl c.requires.there c.index_mut.ensures.value) (ap opened_as c.update.ensures.alone)
