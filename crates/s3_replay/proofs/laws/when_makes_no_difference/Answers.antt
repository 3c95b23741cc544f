use Rattle.s3_replay.proofs.Alike.{runs_alike, texts_alike, worlds_alike}
use Rattle.s3_replay.proofs.laws.when_makes_no_difference.Goals as goal

pub returns-clause-worlds : goal.returns-clause-worlds
returns-clause-worlds c = worlds_alike

pub returns-clause-texts : goal.returns-clause-texts
returns-clause-texts c = texts_alike

pub returns-clause-runs : goal.returns-clause-runs
returns-clause-runs c = runs_alike
