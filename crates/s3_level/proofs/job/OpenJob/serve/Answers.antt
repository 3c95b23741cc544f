use Rattle.std.proofs.Common.{Bool, Ok, arith, refl, rules, ap, ◌∙◌}
use Rattle.s3_job_files.specs.Inner.Calls.{found_answer, put_answer}
use Rattle.s3_job_files.specs.declared.records.Put.{Put}
use Rattle.s3_job_files.specs.Requests.{record_read, record_chained, record_appended, record_added, record_updated}
use Rattle.s3_job_files.proofs.Packs.{pack_changed, pack_read}
use Rattle.s3_cycle.specs.Inner.Requests.{sought_of}
use Rattle.s3_level.proofs.OfLines.{add_indexed, add_takes, append_takes, called, called_within, chain_long, chain_suits, few_chained, few_read, read_long, update_own}
use Rattle.s3_level.proofs.Requests.{call_fits, file_failed, file_served, is_there, length_fits, not_in_use, resumes_meant}
use Rattle.s3_level.proofs.job.OpenJob.serve.Goals as goal

pub index-requires : goal.index-requires
index-requires g c =
    let within = called_within c.requires.can.job c.pending.ensures.request c.pending.ensures.file c.in-File.is in
    omega (arith, within, c.args.self.now.places.ok.0)

pub returns-in_default-index : goal.returns-in_default-index
returns-in_default-index g c =
    not_in_use (called c.requires.can.job c.pending.ensures.request c.pending.ensures.file c.in-File.is refl (c.index.result.now, c.index.ensures, c.in_default-index.is)) c.requires.can

pub read_next-requires-clause-there : goal.read_next-requires-clause-there
read_next-requires-clause-there g c =
    is_there (called c.requires.can.job c.pending.ensures.request c.pending.ensures.file c.in-File.is c.in-Read.is (c.index.result.now, c.index.ensures, c.in-Some.is))

pub slice_bounds-bytes-end : goal.slice_bounds-bytes-end
slice_bounds-bytes-end g c =
    let few = few_read (called c.requires.can.job c.pending.ensures.request c.pending.ensures.file c.in-File.is c.in-Read.is (c.index.result.now, c.index.ensures, c.in-Some.is)) in omega (arith, few, c.from.ensures)

pub read_next-requires-clause-long : goal.read_next-requires-clause-long
read_next-requires-clause-long g c =
    read_long _ (called c.requires.can.job c.pending.ensures.request c.pending.ensures.file c.in-File.is c.in-Read.is (c.index.result.now, c.index.ensures, c.in-Some.is)) (search rules)

pub returns-in_err-found-in-Read : goal.returns-in_err-found-in-Read
returns-in_err-found-in-Read g c =
    file_failed {T = Bool} c.from_residual.result c.from_residual.ensures.1 (called c.requires.can.job c.pending.ensures.request c.pending.ensures.file c.in-File.is c.in-Read.is (c.index.result.now, c.index.ensures, c.in-Some.is)) c.requires.can (record { number = refl; program = refl; next = refl; end = refl; level = c.read_next.ensures.level; stands = λ source stands. stands })
    (pack_read c.requires.can.files.pack c.read_next.ensures.areas (record { keeps = c.read_next.ensures.keeps; failures = c.in_err-found-in-Read.ensures.failures }))

pub resume-requires : goal.resume-requires
resume-requires g c =
    call_fits c.record_answer.result (found_answer c.in_ok-found-in-Read.found c.read_next.new.bytes) (called c.requires.can.job c.pending.ensures.request c.pending.ensures.file c.in-File.is c.in-Read.is (c.index.result.now, c.index.ensures, c.in-Some.is)) c.record_answer.ensures
    (length_fits c.in-Read.length c.in_ok-found-in-Read.found c.read_next.new.bytes (c.read_next.auto.bytes ∙ search rules))

pub returns-in_ok-found-in-Read : goal.returns-in_ok-found-in-Read
returns-in_ok-found-in-Read g c =
    file_served record_read (found_answer c.in_ok-found-in-Read.found c.read_next.new.bytes) (called c.requires.can.job c.pending.ensures.request c.pending.ensures.file c.in-File.is c.in-Read.is (c.index.result.now, c.index.ensures, c.in-Some.is)) refl c.requires.can c.in_ok-found-in-Read.ensures.serves c.read_next.ensures.ready (record { level = c.read_next.ensures.level; opened = c.read_next.ensures.opened }) refl
    (resumes_meant c.args.self.now.cycle c.resume.new.self c.record_answer.result (found_answer c.in_ok-found-in-Read.found c.read_next.new.bytes) c.record_answer.ensures c.resume.ensures) (record { number = refl; program = refl; next = refl; end = refl; level = c.read_next.ensures.level; stands = λ source stands. (c.resume.ensures source stands).0 })
    (pack_read {result = Ok c.in_ok-found-in-Read.found} c.requires.can.files.pack c.read_next.ensures.areas (record { keeps = c.read_next.ensures.keeps; failures = c.in_ok-found-in-Read.ensures.failures }))

pub chain-requires-clause-there : goal.chain-requires-clause-there
chain-requires-clause-there g c =
    is_there (called c.requires.can.job c.pending.ensures.request c.pending.ensures.file c.in-File.is c.in-Chain.is (c.index.result.now, c.index.ensures, c.in-Some.is))

pub slice_bounds-bytes-end-in-Chain : goal.slice_bounds-bytes-end-in-Chain
slice_bounds-bytes-end-in-Chain g c =
    let few = few_chained (called c.requires.can.job c.pending.ensures.request c.pending.ensures.file c.in-File.is c.in-Chain.is (c.index.result.now, c.index.ensures, c.in-Some.is)) in omega (arith, few, c.from-in-Chain.ensures)

pub chain-requires-clause-suits : goal.chain-requires-clause-suits
chain-requires-clause-suits g c =
    chain_suits (called c.requires.can.job c.pending.ensures.request c.pending.ensures.file c.in-File.is c.in-Chain.is (c.index.result.now, c.index.ensures, c.in-Some.is))

pub chain-requires-clause-long : goal.chain-requires-clause-long
chain-requires-clause-long g c =
    chain_long _ (called c.requires.can.job c.pending.ensures.request c.pending.ensures.file c.in-File.is c.in-Chain.is (c.index.result.now, c.index.ensures, c.in-Some.is)) (search rules)

pub returns-in_err-found-in-Chain : goal.returns-in_err-found-in-Chain
returns-in_err-found-in-Chain g c =
    file_failed {T = Bool} c.from_residual-in_err-found-in-Chain.result c.from_residual-in_err-found-in-Chain.ensures.1 (called c.requires.can.job c.pending.ensures.request c.pending.ensures.file c.in-File.is c.in-Chain.is (c.index.result.now, c.index.ensures, c.in-Some.is)) c.requires.can (record { number = refl; program = refl; next = refl; end = refl; level = c.chain.ensures.opened.level; stands = λ source stands. stands })
    c.in_err-found-in-Chain.ensures.pack

pub resume-requires-in-Chain : goal.resume-requires-in-Chain
resume-requires-in-Chain g c =
    call_fits c.record_answer-in-Chain.result (found_answer c.in_ok-found-in-Chain.found c.chain.new.bytes) (called c.requires.can.job c.pending.ensures.request c.pending.ensures.file c.in-File.is c.in-Chain.is (c.index.result.now, c.index.ensures, c.in-Some.is)) c.record_answer-in-Chain.ensures
    (length_fits c.in-Chain.length c.in_ok-found-in-Chain.found c.chain.new.bytes (c.chain.auto.bytes ∙ search rules))

pub returns-in_ok-found-in-Chain : goal.returns-in_ok-found-in-Chain
returns-in_ok-found-in-Chain g c =
    file_served (record_chained (sought_of c.in-Chain.sought)) (found_answer c.in_ok-found-in-Chain.found c.chain.new.bytes) (called c.requires.can.job c.pending.ensures.request c.pending.ensures.file c.in-File.is c.in-Chain.is (c.index.result.now, c.index.ensures, c.in-Some.is)) refl c.requires.can c.in_ok-found-in-Chain.ensures.serves c.chain.ensures.ready c.chain.ensures.opened refl
    (resumes_meant c.args.self.now.cycle c.resume-in-Chain.new.self c.record_answer-in-Chain.result (found_answer c.in_ok-found-in-Chain.found c.chain.new.bytes) c.record_answer-in-Chain.ensures c.resume-in-Chain.ensures) (record { number = refl; program = refl; next = refl; end = refl; level = c.chain.ensures.opened.level; stands = λ source stands. (c.resume-in-Chain.ensures source stands).0 })
    c.in_ok-found-in-Chain.ensures.pack

pub append-requires-clause-there : goal.append-requires-clause-there
append-requires-clause-there g c =
    is_there (called c.requires.can.job c.pending.ensures.request c.pending.ensures.file c.in-File.is c.in-Append.is (c.index.result.now, c.index.ensures, c.in-Some.is))

pub append-requires-clause-takes : goal.append-requires-clause-takes
append-requires-clause-takes g c =
    append_takes c.record.result.now (called c.requires.can.job c.pending.ensures.request c.pending.ensures.file c.in-File.is c.in-Append.is (c.index.result.now, c.index.ensures, c.in-Some.is)) c.record.ensures.value

pub returns-in_err-put-in-Append : goal.returns-in_err-put-in-Append
returns-in_err-put-in-Append g c =
    file_failed {T = Put} c.from_residual-in_err-put-in-Append.result c.from_residual-in_err-put-in-Append.ensures.1 (called c.requires.can.job c.pending.ensures.request c.pending.ensures.file c.in-File.is c.in-Append.is (c.index.result.now, c.index.ensures, c.in-Some.is)) c.requires.can (record { number = refl; program = refl; next = refl; end = refl; level = c.append.ensures.level; stands = λ source stands. stands })
    (pack_changed _ c.append.ensures.pack c.append.ensures.areas c.append.ensures.spares c.append.ensures.says c.in_err-put-in-Append.ensures.failures)

pub resume-requires-in-Append : goal.resume-requires-in-Append
resume-requires-in-Append g c =
    call_fits c.answer_of_put.result (put_answer c.in_ok-put-in-Append.put) (called c.requires.can.job c.pending.ensures.request c.pending.ensures.file c.in-File.is c.in-Append.is (c.index.result.now, c.index.ensures, c.in-Some.is)) c.answer_of_put.ensures c.in_ok-put-in-Append.ensures.fits

pub returns-in_ok-put-in-Append : goal.returns-in_ok-put-in-Append
returns-in_ok-put-in-Append g c =
    file_served (record_appended c.record.result.now) (put_answer c.in_ok-put-in-Append.put) (called c.requires.can.job c.pending.ensures.request c.pending.ensures.file c.in-File.is c.in-Append.is (c.index.result.now, c.index.ensures, c.in-Some.is)) (ap record_appended c.record.ensures.value) c.requires.can c.in_ok-put-in-Append.ensures.serves c.in_ok-put-in-Append.ensures.ready (record { level = c.append.ensures.level; opened = c.append.ensures.opened }) refl
    (resumes_meant c.args.self.now.cycle c.resume-in-Append.new.self c.answer_of_put.result (put_answer c.in_ok-put-in-Append.put) c.answer_of_put.ensures c.resume-in-Append.ensures) (record { number = refl; program = refl; next = refl; end = refl; level = c.append.ensures.level; stands = λ source stands. (c.resume-in-Append.ensures source stands).0 })
    (pack_changed (Ok c.in_ok-put-in-Append.put) c.append.ensures.pack c.append.ensures.areas c.append.ensures.spares c.append.ensures.says c.in_ok-put-in-Append.ensures.failures)

pub add-requires-clause-there : goal.add-requires-clause-there
add-requires-clause-there g c =
    is_there (called c.requires.can.job c.pending.ensures.request c.pending.ensures.file c.in-File.is c.in-Add.is (c.index.result.now, c.index.ensures, c.in-Some.is))

pub add-requires-clause-indexed : goal.add-requires-clause-indexed
add-requires-clause-indexed g c =
    add_indexed (called c.requires.can.job c.pending.ensures.request c.pending.ensures.file c.in-File.is c.in-Add.is (c.index.result.now, c.index.ensures, c.in-Some.is))

pub add-requires-clause-takes : goal.add-requires-clause-takes
add-requires-clause-takes g c =
    add_takes c.record-in-Add.result.now (called c.requires.can.job c.pending.ensures.request c.pending.ensures.file c.in-File.is c.in-Add.is (c.index.result.now, c.index.ensures, c.in-Some.is)) c.record-in-Add.ensures.value

pub returns-in_err-put-in-Add : goal.returns-in_err-put-in-Add
returns-in_err-put-in-Add g c =
    file_failed {T = Put} c.from_residual-in_err-put-in-Add.result c.from_residual-in_err-put-in-Add.ensures.1 (called c.requires.can.job c.pending.ensures.request c.pending.ensures.file c.in-File.is c.in-Add.is (c.index.result.now, c.index.ensures, c.in-Some.is)) c.requires.can (record { number = refl; program = refl; next = refl; end = refl; level = c.add.ensures.level; stands = λ source stands. stands })
    (pack_changed _ c.add.ensures.pack c.add.ensures.areas c.add.ensures.spares c.add.ensures.says c.in_err-put-in-Add.ensures.failures)

pub resume-requires-in-Add : goal.resume-requires-in-Add
resume-requires-in-Add g c =
    call_fits c.answer_of_put-in-Add.result (put_answer c.in_ok-put-in-Add.put) (called c.requires.can.job c.pending.ensures.request c.pending.ensures.file c.in-File.is c.in-Add.is (c.index.result.now, c.index.ensures, c.in-Some.is)) c.answer_of_put-in-Add.ensures c.in_ok-put-in-Add.ensures.fits

pub returns-in_ok-put-in-Add : goal.returns-in_ok-put-in-Add
returns-in_ok-put-in-Add g c =
    file_served (record_added c.record-in-Add.result.now) (put_answer c.in_ok-put-in-Add.put) (called c.requires.can.job c.pending.ensures.request c.pending.ensures.file c.in-File.is c.in-Add.is (c.index.result.now, c.index.ensures, c.in-Some.is)) (ap record_added c.record-in-Add.ensures.value) c.requires.can c.in_ok-put-in-Add.ensures.serves c.in_ok-put-in-Add.ensures.ready (record { level = c.add.ensures.level; opened = c.add.ensures.opened }) refl
    (resumes_meant c.args.self.now.cycle c.resume-in-Add.new.self c.answer_of_put-in-Add.result (put_answer c.in_ok-put-in-Add.put) c.answer_of_put-in-Add.ensures c.resume-in-Add.ensures) (record { number = refl; program = refl; next = refl; end = refl; level = c.add.ensures.level; stands = λ source stands. (c.resume-in-Add.ensures source stands).0 })
    (pack_changed (Ok c.in_ok-put-in-Add.put) c.add.ensures.pack c.add.ensures.areas c.add.ensures.spares c.add.ensures.says c.in_ok-put-in-Add.ensures.failures)

pub change-requires-clause-there : goal.change-requires-clause-there
change-requires-clause-there g c =
    is_there (called c.requires.can.job c.pending.ensures.request c.pending.ensures.file c.in-File.is c.in-Update.is (c.index.result.now, c.index.ensures, c.in-Some.is))

pub change-requires-clause-own : goal.change-requires-clause-own
change-requires-clause-own g c =
    update_own (called c.requires.can.job c.pending.ensures.request c.pending.ensures.file c.in-File.is c.in-Update.is (c.index.result.now, c.index.ensures, c.in-Some.is))

pub returns-in_err-put-in-Update : goal.returns-in_err-put-in-Update
returns-in_err-put-in-Update g c =
    file_failed {T = Put} c.from_residual-in_err-put-in-Update.result c.from_residual-in_err-put-in-Update.ensures.1 (called c.requires.can.job c.pending.ensures.request c.pending.ensures.file c.in-File.is c.in-Update.is (c.index.result.now, c.index.ensures, c.in-Some.is)) c.requires.can (record { number = refl; program = refl; next = refl; end = refl; level = c.change.ensures.opened.level; stands = λ source stands. stands })
    c.in_err-put-in-Update.ensures.pack

pub resume-requires-in-Update : goal.resume-requires-in-Update
resume-requires-in-Update g c =
    call_fits c.answer_of_put-in-Update.result (put_answer c.in_ok-put-in-Update.put) (called c.requires.can.job c.pending.ensures.request c.pending.ensures.file c.in-File.is c.in-Update.is (c.index.result.now, c.index.ensures, c.in-Some.is)) c.answer_of_put-in-Update.ensures c.in_ok-put-in-Update.ensures.fits

pub returns-in_ok-put-in-Update : goal.returns-in_ok-put-in-Update
returns-in_ok-put-in-Update g c =
    file_served (record_updated c.in-Update.current c.changes.result.now) (put_answer c.in_ok-put-in-Update.put) (called c.requires.can.job c.pending.ensures.request c.pending.ensures.file c.in-File.is c.in-Update.is (c.index.result.now, c.index.ensures, c.in-Some.is)) (ap (record_updated c.in-Update.current) c.changes.ensures) c.requires.can c.in_ok-put-in-Update.ensures.serves c.in_ok-put-in-Update.ensures.ready c.change.ensures.opened refl
    (resumes_meant c.args.self.now.cycle c.resume-in-Update.new.self c.answer_of_put-in-Update.result (put_answer c.in_ok-put-in-Update.put) c.answer_of_put-in-Update.ensures c.resume-in-Update.ensures) (record { number = refl; program = refl; next = refl; end = refl; level = c.change.ensures.opened.level; stands = λ source stands. (c.resume-in-Update.ensures source stands).0 })
    c.in_ok-put-in-Update.ensures.pack
