use Rattle.s3_ocl.proofs.StreamLemmas.{one_stream}
use Rattle.s3_ocl.proofs.jobs.jobs_of_cards.Goals as goal

pub returns : goal.returns
returns c = one_stream
