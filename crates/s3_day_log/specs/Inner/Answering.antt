-- Which halt a reply of a log answers when its day is done again.
use Rattle.std.specs.Prelude.{ℕ, ◌==◌, nat_eq, Bool, true, false, ◌&&◌, Option, Some, None, if◌then◌else◌}
use Rattle.std.specs.Cmp.Lexicographic.{pointwise}
use Rattle.s3_operator.specs.Replies.{is_allowed}
use Rattle.s3_operator.specs.Table.{letters_of}
use Rattle.s3_day_log.specs.declared.event.AnsweredHalt.{AnsweredHalt}
use Rattle.s3_day_log.specs.declared.event.LoggedHalt.{LoggedHalt}
use Rattle.s3_day_log.specs.declared.event.LoggedReply.{LoggedReply}

-- two halts are about the same card, or both about none
abbrev pub is_same_card : Option ℕ → Option ℕ → Bool
is_same_card (Some card) (Some other) = card == other
is_same_card None None = true
is_same_card _ _ = false

-- a halt is of the job and the card that the log has; if the log has no halt, any halt is
abbrev pub is_where : (logged : Option LoggedHalt) → LoggedHalt → Bool
is_where None halt = true
is_where (Some logged) halt = (logged.job == halt.job) && is_same_card logged.card halt.card

-- a reply is one to these letters, and the halt allows it
abbrev pub fits : LoggedReply → LoggedHalt → Bool
fits reply halt = pointwise nat_eq (letters_of reply.code) (letters_of halt.code) && is_allowed halt.code reply.digit

-- a reply answers the halts of its letters that allow it, and no halt of another job or card than the log's halt
abbrev pub answers : AnsweredHalt → LoggedHalt → Bool
answers answered halt = fits answered.reply halt && is_where answered.halt halt

-- the digit with which a log answers a halt
abbrev pub answer_in : Option AnsweredHalt → LoggedHalt → Option ℕ
answer_in None halt = None
answer_in (Some answered) halt = if answers answered halt then Some answered.reply.digit else None
