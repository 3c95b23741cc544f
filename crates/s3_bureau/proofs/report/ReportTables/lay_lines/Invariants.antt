-- What is laid out, with the report of the lines that are left, is the report of all.
use Rattle.std.proofs.Common.{◌≡◌, ◌<◌, ◌≤◌, ◌++◌, take, length}
use Rattle.s3_bureau.specs.Texts.{report_of}
use Rattle.s3_bureau.proofs.report.ReportTables.lay_lines.Given as goal

abbrev pub invariant-loop-line : goal.invariant-loop-line
invariant-loop-line l =
    (take l.end l.room ++ report_of l.rest ≡ report_of l.lines) × ((l.end ≤ 2048) × ((length l.rest ≤ length l.lines) × (1 ≤ l.end → length l.rest < length l.lines)))

abbrev pub decreases-loop-line : goal.decreases-loop-line
decreases-loop-line l = length l.rest
