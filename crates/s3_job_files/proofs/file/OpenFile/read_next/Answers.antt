use Rattle.std.proofs.Common.{ap, sym, ◌∙◌}
use Rattle.s3_job_files.specs.Requests.{answer_at, with_read}
use Rattle.s3_job_files.specs.Inner.Holds.{job_file_of, records_of}
use Rattle.s3_job_files.proofs.OneFile.{answer_found, usable_kept}
use Rattle.s3_store.proofs.Calls.{reads_then}
use Rattle.s3_job_files.proofs.file.OpenFile.read_next.Goals as goal

pub get-requires-clause-usable : goal.get-requires-clause-usable
get-requires-clause-usable g c = usable_kept _ _ c.args.self.now.label c.args.self.now.records c.place_read.ensures.reads.keeps.contents c.requires.usable

pub returns-clause-answer : goal.returns-clause-answer
returns-clause-answer g c =
    answer_found c.args.self.now.records _ c.in-Some.place c.in_ok-found.found c.get.new.bytes _ _ (c.in_ok-place.ensures.place ∙ c.in-Some.is) c.place_read.ensures.reads.keeps.contents c.in_ok-found.ensures.found

pub returns-clause-read : goal.returns-clause-read
returns-clause-read g c = ap (λ place. with_read place (job_file_of c.args.self.now)) (sym (c.in_ok-place.ensures.place ∙ c.in-Some.is))

pub returns-in_default-clause-answer : goal.returns-in_default-clause-answer
returns-in_default-clause-answer g c =
    ap (answer_at (records_of c.args.self.now.records (g.P.Sectors.state c.args.pool.now).contents)) (sym (c.in_ok-place.ensures.place ∙ c.in_default.is))

pub returns-in_default-clause-read : goal.returns-in_default-clause-read
returns-in_default-clause-read g c = ap (λ place. with_read place (job_file_of c.args.self.now)) (sym (c.in_ok-place.ensures.place ∙ c.in_default.is))

pub returns-clause-reads : goal.returns-clause-reads
returns-clause-reads g c = reads_then c.in_ok-place.ensures.reads c.in_ok-found.ensures.reads
