use Rattle.std.proofs.Common.{List, ◌++◌}
use Rattle.s3_cards.specs.Printed.{Printed}
use Rattle.s3_reports.proofs.Reaching.{all_of_one}
use Rattle.s3_reports.proofs.reports.Reports.follow.Goals as goal

pub returns-clause-moves : goal.returns-clause-moves
returns-clause-moves g c = λ later_one later_two halts over before so_far.
    let one : List Printed = c.args.one.now ++ later_one in
    let two : List Printed = c.args.two.now ++ later_two in
    c.print_two.ensures.moves one later_two halts before
    (c.pass.ensures.moves one two halts (λ is. (all_of_one c.print_one.new.self.place c.args.one.now later_one (over is).0 c.print_one.ensures.all, (over is).1)) before
    (c.print_one.ensures.moves later_one two halts before so_far))
