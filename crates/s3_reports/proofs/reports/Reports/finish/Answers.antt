use Rattle.std.proofs.Common.{ℕ, List}
use Rattle.s3_cards.specs.Printed.{Printed}
use Rattle.s3_reports.proofs.Reaching.{whole_end, whole_last, whole_one, whole_two}
use Rattle.s3_reports.proofs.reports.Reports.finish.Goals as goal

pub returns-clause-wrote : goal.returns-clause-wrote
returns-clause-wrote g c = λ before so_far.
    let one : List Printed = c.args.run.now.one.lines.items in
    let two : List Printed = c.args.run.now.two.lines.items in
    let halts1 : List ℕ = c.args.run.now.one.halts.items in
    let halts2 : List ℕ = c.args.run.now.two.halts.items in
    whole_last (g.W.Write.contents c.print_two.new.self.output.writer) (g.W.Write.contents c.end_two.new.self.output.writer) c.print_two.new.self.output.has_failed c.end_two.new.self.output.has_failed c.print_two.new.self.place
    c.deref-3.result.now one two halts1 c.deref-4.result.now halts2 c.deref-3.ensures.value c.deref-4.ensures.value (c.print_two.ensures.all c.end_one.ensures.passed) c.end_two.ensures before
    (whole_two (g.W.Write.contents c.end_one.new.self.output.writer) (g.W.Write.contents c.print_two.new.self.output.writer) c.end_one.new.self.output.has_failed c.print_two.new.self.output.has_failed c.end_one.new.self.place c.print_two.new.self.place
    c.deref-3.result.now one two halts1 c.deref-3.ensures.value c.print_two.ensures.moves before
    (whole_end (g.W.Write.contents c.print_one.new.self.output.writer) (g.W.Write.contents c.end_one.new.self.output.writer) c.print_one.new.self.output.has_failed c.end_one.new.self.output.has_failed c.print_one.new.self.place c.end_one.new.self.place
    c.deref.result.now one two c.deref-2.result.now halts1 c.deref.ensures.value c.deref-2.ensures.value c.print_one.ensures.all c.end_one.ensures.moves before
    (whole_one (g.W.Write.contents c.args.self.now.output.writer) (g.W.Write.contents c.print_one.new.self.output.writer) c.args.self.now.output.has_failed c.print_one.new.self.output.has_failed c.args.self.now.place c.print_one.new.self.place
    c.deref.result.now one two halts1 c.deref.ensures.value c.print_one.ensures.moves before so_far)))
