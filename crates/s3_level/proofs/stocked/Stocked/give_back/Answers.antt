use Rattle.std.proofs.Common.{sym, subst}
use Rattle.s3_program.specs.declared.program.Program.{Program}
use Rattle.s3_level.specs.Inner.Library.{IsFor}
use Rattle.s3_level.proofs.stocked.Stocked.give_back.Goals as goal

pub invariant_of-self : goal.invariant_of-self
invariant_of-self c = subst (λ (program : Program). IsFor program c.args.cycle) (sym c.self.view_is) c.requires
