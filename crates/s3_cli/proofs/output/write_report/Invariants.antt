-- What was written since the heading is the front of the report: the report of the lines that are left is the rest.
use Rattle.std.proofs.Common.{◌≡◌, ◌++◌, ℕ, List, length}
use Rattle.std.specs.Io.KnownBytes.{Appends}
use Rattle.s3_bureau.specs.Texts.{report_of}
use Rattle.s3_cli.proofs.output.write_report.Given as goal

abbrev pub invariant-loop-rest : goal.invariant-loop-rest
invariant-loop-rest g l =
    ((front : List ℕ) × (Appends (g.W.Sink.contents l.initial.writer) (g.W.Sink.contents l.writer) front × (front ++ report_of l.rest ≡ report_of l.lines)))
    × (g.W.Sink.has_failed l.writer ≡ g.W.Sink.has_failed l.initial.writer)

abbrev pub decreases-loop-rest : goal.decreases-loop-rest
decreases-loop-rest g l = length l.rest
