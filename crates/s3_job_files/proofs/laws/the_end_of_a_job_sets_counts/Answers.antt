use Rattle.std.proofs.Common.{refl}
use Rattle.s3_keyed.specs.KeyOrder.{number_of}
use Rattle.s3_keyed.specs.Index.{keys_of}
use Rattle.s3_keyed.specs.Calls.{with_added}
use Rattle.s3_slots.specs.Slots.{standing}
use Rattle.s3_slots.specs.Making.{counted, dropped}
use Rattle.s3_job_files.specs.Requests.{served}
use Rattle.s3_job_files.specs.Closing.{files_closed}
use Rattle.s3_job_files.proofs.laws.the_end_of_a_job_sets_counts.Goals as goal

pub returns-clause-added : goal.returns-clause-added
unfolding number_of keys_of with_added standing counted dropped served files_closed
returns-clause-added c = refl

pub returns-clause-made : goal.returns-clause-made
unfolding number_of keys_of with_added standing counted dropped served files_closed
returns-clause-made c = refl

pub returns-clause-scratch : goal.returns-clause-scratch
unfolding number_of keys_of with_added standing counted dropped served files_closed
returns-clause-scratch c = refl

pub returns-clause-untouched : goal.returns-clause-untouched
unfolding number_of keys_of with_added standing counted dropped served files_closed
returns-clause-untouched c = refl
