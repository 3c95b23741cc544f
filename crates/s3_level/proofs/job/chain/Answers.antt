use Rattle.std.proofs.Common.{ap, rules, sym, ◌∙◌, length}
use Rattle.s3_meaning.specs.Requests.{Key, RecordNumber}
use Rattle.s3_job_files.specs.Inner.Calls.{found_answer}
use Rattle.s3_job_files.proofs.Packs.{pack_read}
use Rattle.s3_cycle.specs.Inner.Requests.{sought_of}
use Rattle.s3_cycle.specs.declared.request.Sought.TheVariants as sought
use Rattle.s3_level.proofs.Requests.{chains_same, key_sought}
use Rattle.s3_level.proofs.job.chain.Goals as goal

pub chain_key-requires-clause-indexed : goal.chain_key-requires-clause-indexed
chain_key-requires-clause-indexed g c = λ file at. (key_sought c.args.job_files.now.files.items c.args.place c.args.sought.now (sought.Key c.in-Key.key) c.in-Key.is c.requires.suits file at).0

pub chain_key-requires-clause-key : goal.chain_key-requires-clause-key
chain_key-requires-clause-key g c = λ file at. ap length c.deref.ensures.0 ∙ (key_sought c.args.job_files.now.files.items c.args.place c.args.sought.now (sought.Key c.in-Key.key) c.in-Key.is c.requires.suits file at).1

pub returns-in-Key-clause-serves : goal.returns-in-Key-clause-serves
returns-in-Key-clause-serves g c =
    chains_same c.chain_key.result (Key c.deref.result.now) (sought_of c.args.sought.now) c.args.place (λ found. found_answer found c.chain_key.new.bytes) _ _
    (ap Key c.deref.ensures.0 ∙ sym (ap sought_of c.in-Key.is)) c.chain_key.ensures.serves

pub returns-in-RecordNumber-clause-serves : goal.returns-in-RecordNumber-clause-serves
returns-in-RecordNumber-clause-serves g c =
    chains_same c.chain_number.result (RecordNumber _) (sought_of c.args.sought.now) c.args.place (λ found. found_answer found c.chain_number.new.bytes) _ _
    (ap RecordNumber (search rules) ∙ sym (ap sought_of c.in-RecordNumber.is)) c.chain_number.ensures.serves

pub returns-in-Key-clause-pack : goal.returns-in-Key-clause-pack
returns-in-Key-clause-pack g c = pack_read c.requires.ready.pack c.chain_key.ensures.areas (record { keeps = c.chain_key.ensures.keeps; failures = c.chain_key.ensures.failures })

pub returns-in-RecordNumber-clause-pack : goal.returns-in-RecordNumber-clause-pack
returns-in-RecordNumber-clause-pack g c = pack_read c.requires.ready.pack c.chain_number.ensures.areas (record { keeps = c.chain_number.ensures.keeps; failures = c.chain_number.ensures.failures })
