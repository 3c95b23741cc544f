use Rattle.s3_bureau.proofs.Running.{halts_told}
use Rattle.s3_bureau.proofs.runs.level_halts.Goals as goal

pub returns : goal.returns
returns g c = halts_told c.args.level c.args.bureau.now c.args.refusal _ c.halt_text.result (λ text. text.items) c.halt_text.ensures c.halts.ensures.world
