use Rattle.std.proofs.Common.{ap, refl}
use Rattle.std.proofs.lemmas.Option.{slice_get_read}
use Rattle.s3_meaning.specs.Requests.{Key}
use Rattle.s3_job_files.specs.Inner.Holds.{opened_as}
use Rattle.s3_job_files.proofs.Held.{usable_at}
use Rattle.s3_job_files.proofs.Lists.{map_stays}
use Rattle.s3_job_files.proofs.Reading.{of_chained, read_ready, chain_serves}
use Rattle.s3_job_files.proofs.job_files.JobFiles.chain_key.Goals as goal

pub chain_key-requires-clause-usable : goal.chain_key-requires-clause-usable
chain_key-requires-clause-usable g c =
    usable_at c.args.self.now.level c.args.self.now.files.items _ c.args.place c.index_mut.result.now c.requires.ready
    (slice_get_read _ _ c.args.place c.index_mut.result.now refl c.requires.there c.index_mut.ensures.value)

pub chain_key-requires-clause-long : goal.chain_key-requires-clause-long
chain_key-requires-clause-long g c = c.requires.long c.index_mut.result.now (slice_get_read _ _ c.args.place c.index_mut.result.now refl c.requires.there c.index_mut.ensures.value)

pub returns-clause-serves : goal.returns-clause-serves
returns-clause-serves g c =
    chain_serves c.args.self.now.level c.args.self.now.files.items c.args.pack.now.areas _ _ c.args.place c.index_mut.result.now c.chain_key.new.self (Key c.args.key.now) c.chain_key.new.bytes c.chain_key.result
    c.requires.ready (slice_get_read _ _ c.args.place c.index_mut.result.now refl c.requires.there c.index_mut.ensures.value)
    c.chain_key.ensures.alone c.chain_key.ensures.reads.keeps.contents c.chain_key.ensures.answer c.chain_key.ensures.chained

pub returns-clause-ready : goal.returns-clause-ready
returns-clause-ready g c =
    read_ready c.args.self.now.level c.args.self.now.files.items c.args.pack.now.areas _ _ c.args.place c.index_mut.result.now c.chain_key.new.self
    c.requires.ready (slice_get_read _ _ c.args.place c.index_mut.result.now refl c.requires.there c.index_mut.ensures.value)
    (of_chained c.index_mut.result.now c.chain_key.new.self c.chain_key.ensures.alone) c.chain_key.ensures.reads.keeps.contents

pub chain_key-requires-clause-indexed : goal.chain_key-requires-clause-indexed
chain_key-requires-clause-indexed g c = c.requires.indexed c.index_mut.result.now (slice_get_read _ _ c.args.place c.index_mut.result.now refl c.requires.there c.index_mut.ensures.value)

pub chain_key-requires-clause-key : goal.chain_key-requires-clause-key
chain_key-requires-clause-key g c = c.requires.key c.index_mut.result.now (slice_get_read _ _ c.args.place c.index_mut.result.now refl c.requires.there c.index_mut.ensures.value)

pub returns-clause-opened : goal.returns-clause-opened
returns-clause-opened g c =
    map_stays opened_as c.args.self.now.files.items c.args.place c.index_mut.result.now c.chain_key.new.self
    (slice_get_read _ _ c.args.place c.index_mut.result.now refl c.requires.there c.index_mut.ensures.value) (ap opened_as c.chain_key.ensures.alone)
