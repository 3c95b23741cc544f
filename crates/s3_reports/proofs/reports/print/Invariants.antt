-- What was written since the start is the front of the report: the report of the lines that are left is the rest.
use Rattle.std.proofs.Common.{◌≡◌, ◌++◌, ℕ, List, length}
use Rattle.s3_bureau.specs.Texts.{report_of}
use Rattle.s3_reports.specs.Inner.Written.{Adds}
use Rattle.s3_reports.proofs.reports.print.Given as goal

abbrev pub invariant-loop-rest : goal.invariant-loop-rest
invariant-loop-rest g l =
    (front : List ℕ) × (Adds (g.W.Write.contents l.initial.output.writer) (g.W.Write.contents l.output.writer) l.initial.output.has_failed l.output.has_failed front × (front ++ report_of l.rest ≡ report_of l.lines))

abbrev pub decreases-loop-rest : goal.decreases-loop-rest
decreases-loop-rest g l = length l.rest
