-- The reference model: one level's entries alone, over its own world.
use Rattle.std.specs.Prelude.{ℕ, List, [], ◌∷◌, Option, Some, None, Result, Ok, Err, if◌then◌else◌}
use Rattle.s3_solo.specs.declared.action.Action.{Action}
use Rattle.s3_solo.specs.declared.action.Action.TheVariants.{Turn, Drain}
use Rattle.s3_solo.specs.declared.action.Action.TheVariants as action
use Rattle.s3_meaning.specs.Requests.{Reply}
use Rattle.s3_solo.specs.declared.action.Did.TheVariants.{Refused}
use Rattle.s3_solo.specs.Lines.{is_queued, with_drained, all_drained}
use Rattle.s3_operator.specs.declared.reply_fault.ReplyFault.{ReplyFault}
use Rattle.s3_operator.specs.Halts.{answer_to, fault_number, is_waiting, waiting, with_reply}
use Rattle.s3_solo.specs.World.{World, JobAtWork}
use Rattle.s3_solo.specs.Serving.{Outcome, idle, acted, answered, pending, served, begun, job_ended}

abbrev pub refused : ℕ → World → Outcome
refused number w = record { did = Refused number; world = w }

-- the pending request of the running job is served, or the next job begins
abbrev pub gone_on : Option JobAtWork → World → Outcome
gone_on (Some job) w = served (pending job w) job w
gone_on None w = begun w.deck.jobs w

-- a turn; nothing happens while a halt waits
abbrev pub turned : World → Outcome
turned w = if is_waiting w.halts then idle w else gone_on w.job w

-- the running job, if there is one, continues with the reply
abbrev pub resumed : (digit : ℕ) → Option JobAtWork → World → World
resumed digit None w = w
resumed digit (Some job) w = answered (Reply digit) job w

-- The waiting halt gets its reply, unless the reply is refused. If the job couldn't be started, the reply passes the job over, and the next
-- turn begins the next job. A running job continues with the reply.
abbrev pub reply_given : (digit : ℕ) → Result (Unit {0}) ReplyFault → World → Outcome
reply_given digit (Err fault) w = refused (fault_number fault) w
reply_given digit (Ok allowed) w = acted (resumed digit w.job (record w { halts = with_reply digit w.halts }))

abbrev pub replied : (digit : ℕ) → World → Outcome
replied digit w = reply_given digit (answer_to digit (waiting w.halts)) w

-- the first queued line is drained
abbrev pub drained : World → Outcome
drained w = if is_queued w.lines then acted (record w { lines = with_drained w.lines }) else refused 3 w

-- one entry of the level
abbrev pub step_of : World → Action → Outcome
step_of w Turn = turned w
step_of w (action.Reply digit) = replied digit w
step_of w Drain = drained w

-- the level's entries, in order
abbrev pub solo : World → List Action → World
solo w [] = w
solo w (action ∷ actions) = solo (step_of w action).world actions

-- the running job ends and its pending request isn't served; a waiting halt has no reply; all lines are drained
abbrev pub closed : World → World
closed w = record (job_ended w) { lines = all_drained w.lines }
