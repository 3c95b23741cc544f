use Rattle.s3_time.proofs.Resting.{idle_and_empty, idle_with_room, over_rests, rest_is_idle, waiting_rests}
use Rattle.s3_time.proofs.RestsSo.{reached_drains, reached_rests}
use Rattle.s3_time.proofs.laws.answers_say_rest.Goals as goal

pub returns-clause-room : goal.returns-clause-room
returns-clause-room c = idle_with_room

pub returns-clause-empty : goal.returns-clause-empty
returns-clause-empty c = idle_and_empty

pub returns-clause-idle : goal.returns-clause-idle
returns-clause-idle c = rest_is_idle

pub returns-clause-waits : goal.returns-clause-waits
returns-clause-waits c = waiting_rests

pub returns-clause-over : goal.returns-clause-over
returns-clause-over c = over_rests

pub returns-clause-drains : goal.returns-clause-drains
returns-clause-drains c = reached_drains

pub returns-clause-nothing_else : goal.returns-clause-nothing_else
returns-clause-nothing_else c = reached_rests
