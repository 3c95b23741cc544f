use Rattle.s3_opening.specs.Inner.Starts.{settings_of}
use Rattle.s3_opening.proofs.Lines.{IsTesting}
use Rattle.s3_opening.proofs.testing.test_lines.Given as goal

abbrev pub invariant-loop-line : goal.invariant-loop-line
invariant-loop-line g l =
    IsTesting l.fn.level (settings_of l.settings) l.lines l.fn.pack.areas l.pack.areas (g.P.Sectors.state l.fn.pack.pool) (g.P.Sectors.state l.pack.pool) l.fn.starts.items l.starts.items l.line-index
