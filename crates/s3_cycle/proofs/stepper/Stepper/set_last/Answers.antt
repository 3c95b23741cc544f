use Rattle.s3_meaning.specs.Cycle.{again, last_time}
use Rattle.s3_meaning.specs.Environment.{with_last_record}
use Rattle.s3_cycle.proofs.GoingLemmas.{changed_running, goes_changed}
use Rattle.s3_cycle.proofs.stepper.Stepper.set_last.Goals as goal

pub total_last-requires : goal.total_last-requires
total_last-requires c = changed_running c.args.self.now c.turn_last_record_on.new.self _ c.turn_last_record_on.ensures c.requires

pub returns : goal.returns
returns c = goes_changed c.args.self.now c.turn_last_record_on.new.self _ (λ source. with_last_record) (λ source program progress. last_time source (again source)) c.turn_last_record_on.ensures c.total_last.ensures
