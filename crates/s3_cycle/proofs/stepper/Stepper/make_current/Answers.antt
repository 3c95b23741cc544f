use Rattle.std.proofs.Common.{refl, arith}
use Rattle.s3_cycle.proofs.CurrentLemmas.{current_put, current_within}
use Rattle.s3_cycle.proofs.stepper.Stepper.make_current.Goals as goal

pub index_mut-requires : goal.index_mut-requires
index_mut-requires c =
    omega (arith, current_within c.args.self.now c.args.selection c.index.result.now c.requires.running c.requires.taken c.index.ensures, c.args.self.now.state.current.ok.0)

pub returns : goal.returns
returns c = current_put c.args.self.now c.args.selection c.index.result.now _ c.requires.running c.requires.taken c.index.ensures refl
