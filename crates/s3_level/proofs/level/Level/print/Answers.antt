use Rattle.std.proofs.Common.{sym, ◌∙◌, true≢false}
use Rattle.std.proofs.Math.Arith.{lt_of_le-ne}
use Rattle.s3_level.proofs.Printing.{line_fails}
use Rattle.s3_level.specs.Inner.Holds.{HoldsParts, around, shown}
use Rattle.s3_level.proofs.Leaving.{all_err, all_ok, all_same}
use Rattle.s3_level.proofs.level.Level.print.Goals as goal

pub print_line-requires-clause-room : goal.print_line-requires-clause-room
print_line-requires-clause-room g c = lt_of_le-ne c.is_full.ensures.within (λ same. true≢false (sym (c.is_full.ensures.full.1 same) ∙ c.if-is_full.false))

pub returns-in_err-print_line-clause-served : goal.returns-in_err-print_line-clause-served
returns-in_err-print_line-clause-served g c = λ text waits'.
    line_fails c.from_residual.result c.args.page c.args.line text c.args.self.now c.args.pack.now.areas (g.P.Sectors.state c.args.pack.now.pool) c.args.spool.now
    (HoldsParts c.print_line.new.self (shown c.args.self.now.id (around c.print_line.new.pack.areas (g.P.Sectors.state c.print_line.new.pack.pool) c.print_line.new.spool))) c.from_residual.ensures.0
    (lt_of_le-ne c.is_full.ensures.within (λ same. true≢false (sym (c.is_full.ensures.full.1 same) ∙ c.if-is_full.false)))

pub returns-clause-served : goal.returns-clause-served
returns-clause-served g c = λ text waits'. c.in_ok-print_line.ensures.served text waits'

pub returns-then-is_full-clause-leaves : goal.returns-then-is_full-clause-leaves
returns-then-is_full-clause-leaves g c = all_same _ c.requires.ready c.requires.blocks

pub returns-in_err-print_line-clause-leaves : goal.returns-in_err-print_line-clause-leaves
returns-in_err-print_line-clause-leaves g c = all_err c.from_residual.result c.from_residual.ensures.1 c.in_err-print_line.ensures.leaves

pub returns-clause-leaves : goal.returns-clause-leaves
returns-clause-leaves g c = all_ok _ c.in_ok-print_line.ensures.leaves
