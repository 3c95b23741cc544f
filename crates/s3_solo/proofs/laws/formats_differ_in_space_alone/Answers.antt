use Rattle.s3_solo.proofs.SecondSteps.{answers_same, end_same, run_same}
use Rattle.s3_solo.proofs.laws.formats_differ_in_space_alone.Goals as goal

pub returns-clause-run : goal.returns-clause-run
returns-clause-run c = run_same

pub returns-clause-answers : goal.returns-clause-answers
returns-clause-answers c = answers_same

pub returns-clause-end : goal.returns-clause-end
returns-clause-end c = end_same
