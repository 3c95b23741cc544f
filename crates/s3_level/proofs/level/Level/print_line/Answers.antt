use Rattle.std.proofs.Common.{arith}
use Rattle.s3_cycle.specs.Inner.Requests.{answer_of}
use Rattle.s3_level.proofs.Fitting.{line_done}
use Rattle.s3_level.proofs.Printing.{line_then}
use Rattle.s3_level.proofs.Leaving.{all_err, all_files, all_ok, all_then}
use Rattle.s3_level.proofs.level.Level.print_line.Goals as goal

pub put_line-requires-clause-room : goal.put_line-requires-clause-room
put_line-requires-clause-room g c = λ same. omega (arith, same, c.requires.room)

pub resume-requires-clause-fits : goal.resume-requires-clause-fits
resume-requires-clause-fits g c = line_done c.args.self.now.job c.args.page c.args.line c.requires.asks

pub returns-clause-served : goal.returns-clause-served
unfolding answer_of
returns-clause-served g c = λ text waits'.
    line_then c.args.page c.args.line text c.args.self.now c.resume.new.self c.args.pack.now.areas c.put_line.new.pack.areas c.resume.new.pack.areas (g.P.Sectors.state c.args.pack.now.pool) (g.P.Sectors.state c.put_line.new.pack.pool) (g.P.Sectors.state c.resume.new.pack.pool) c.args.spool.now c.put_line.new.spool
    c.requires.room c.put_line.ensures.leaves.spares.pack c.put_line.ensures.leaves.spares.blocks c.resume.ensures.leaves.pack.others
    (c.in_ok-put_line.ensures.world text waits') (λ k. c.in_ok-resume.ensures.world k)

pub returns-in_err-put_line-clause-leaves : goal.returns-in_err-put_line-clause-leaves
returns-in_err-put_line-clause-leaves g c = all_err c.from_residual.result c.from_residual.ensures.1 c.in_err-put_line.ensures.leaves

pub returns-in_err-resume-clause-leaves : goal.returns-in_err-resume-clause-leaves
returns-in_err-resume-clause-leaves g c =
    all_err c.from_residual-in_err-resume.result c.from_residual-in_err-resume.ensures.1 (all_then c.in_ok-put_line.ensures.leaves (all_files c.put_line.new.spool c.put_line.ensures.leaves.spares.pack c.put_line.ensures.leaves.spares.blocks c.in_err-resume.ensures.leaves))

pub returns-clause-leaves : goal.returns-clause-leaves
returns-clause-leaves g c = all_ok _ (all_then c.in_ok-put_line.ensures.leaves (all_files c.put_line.new.spool c.put_line.ensures.leaves.spares.pack c.put_line.ensures.leaves.spares.blocks c.in_ok-resume.ensures.leaves))
