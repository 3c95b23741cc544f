use Rattle.std.proofs.Common.{ap, ◌≡◌, length, refl, subst, w64}
use Rattle.std.specs.Prelude.{IfOk, OnOk}
use Rattle.std.proofs.lemmas.Int.{to_z-of_z}
use Rattle.std.proofs.lemmas.Option.{slice_get_read}
use Rattle.s3_meaning.specs.Requests.{RecordNumber}
use Rattle.s3_job_files.specs.Records.{place_numbered}
use Rattle.s3_job_files.specs.Requests.{answer_at, with_chained}
use Rattle.s3_job_files.specs.Inner.Calls.{found_answer}
use Rattle.s3_job_files.specs.Inner.Holds.{job_file_of, records_of}
use Rattle.s3_job_files.specs.Inner.Holds.{opened_as}
use Rattle.s3_job_files.proofs.Held.{usable_at}
use Rattle.s3_job_files.proofs.Lists.{map_stays}
use Rattle.s3_job_files.proofs.Reading.{of_chained, read_ready, chain_serves}
use Rattle.s3_job_files.proofs.job_files.JobFiles.chain_number.Goals as goal

pub chain_number-requires-clause-usable : goal.chain_number-requires-clause-usable
chain_number-requires-clause-usable g c =
    usable_at c.args.self.now.level c.args.self.now.files.items _ c.args.place c.index_mut.result.now c.requires.ready
    (slice_get_read _ _ c.args.place c.index_mut.result.now refl c.requires.there c.index_mut.ensures.value)

pub chain_number-requires-clause-long : goal.chain_number-requires-clause-long
chain_number-requires-clause-long g c = c.requires.long c.index_mut.result.now (slice_get_read _ _ c.args.place c.index_mut.result.now refl c.requires.there c.index_mut.ensures.value)

pub returns-clause-serves : goal.returns-clause-serves
returns-clause-serves g c =
    chain_serves c.args.self.now.level c.args.self.now.files.items c.args.pack.now.areas _ _ c.args.place c.index_mut.result.now c.chain_number.new.self (RecordNumber c.args.number) c.chain_number.new.bytes c.chain_number.result
    c.requires.ready (slice_get_read _ _ c.args.place c.index_mut.result.now refl c.requires.there c.index_mut.ensures.value)
    c.chain_number.ensures.alone c.chain_number.ensures.reads.keeps.contents
    (subst (λ n. IfOk c.chain_number.result (λ found. found_answer found c.chain_number.new.bytes ≡ answer_at (records_of c.index_mut.result.now.records (g.P.Sectors.state c.args.pack.now.pool).contents)
    (place_numbered (length (records_of c.index_mut.result.now.records (g.P.Sectors.state c.args.pack.now.pool).contents)) n))) (to_z-of_z w64 c.args.number c.ranges.number) c.chain_number.ensures.answer)
    (subst (λ n. OnOk c.chain_number.result (job_file_of c.chain_number.new.self ≡ with_chained
    (place_numbered (length (records_of c.index_mut.result.now.records (g.P.Sectors.state c.args.pack.now.pool).contents)) n) (job_file_of c.index_mut.result.now))) (to_z-of_z w64 c.args.number c.ranges.number) c.chain_number.ensures.chained)

pub returns-clause-ready : goal.returns-clause-ready
returns-clause-ready g c =
    read_ready c.args.self.now.level c.args.self.now.files.items c.args.pack.now.areas _ _ c.args.place c.index_mut.result.now c.chain_number.new.self
    c.requires.ready (slice_get_read _ _ c.args.place c.index_mut.result.now refl c.requires.there c.index_mut.ensures.value)
    (of_chained c.index_mut.result.now c.chain_number.new.self c.chain_number.ensures.alone) c.chain_number.ensures.reads.keeps.contents

pub returns-clause-opened : goal.returns-clause-opened
returns-clause-opened g c =
    map_stays opened_as c.args.self.now.files.items c.args.place c.index_mut.result.now c.chain_number.new.self
    (slice_get_read _ _ c.args.place c.index_mut.result.now refl c.requires.there c.index_mut.ensures.value) (ap opened_as c.chain_number.ensures.alone)
