use Rattle.std.proofs.Common.{◌∙◌, ap}
use Rattle.s3_diagnose.specs.Diagnostics.{compile_diagnostics, completed, diagnostics_from}
use Rattle.s3_diagnose.specs.Known.{first_standing}
use Rattle.s3_diagnose.proofs.diagnose.compile_diagnostics.Goals as goal

pub returns : goal.returns
unfolding compile_diagnostics
returns c =
    c.in_ok-all.ensures ∙ ap (completed c.args.run_card c.args.lines.now) (c.in_ok-found.ensures ∙ ap (λ known. diagnostics_from known first_standing c.args.lines.now) c.requires.shown)
