use Rattle.std.proofs.Common.{refl, arith}
use Rattle.s3_cycle.proofs.ChainedLemmas.{chained_put}
use Rattle.s3_cycle.proofs.stepper.Stepper.make_chained_current.Goals as goal

pub index_mut-requires : goal.index_mut-requires
index_mut-requires c = omega (arith, c.requires.within, c.requires.running.state.current, c.args.self.now.state.current.ok.0)

pub returns : goal.returns
returns c = chained_put c.args.self.now c.args.file _ c.requires.running c.requires.within refl
