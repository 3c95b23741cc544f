use Rattle.std.proofs.Common.{arith}
use Rattle.s3_operations.proofs.AgainLemmas.{first_cleared}
use Rattle.s3_operations.proofs.values.Values.zero_before.Goals as goal

pub returns-clause-zeros : goal.returns-clause-zeros
returns-clause-zeros c = first_cleared c.args.self.now.numbers c.deref_mut.result.now c.clear.new.numbers c.args.slot _ c.requires (omega arith) c.deref_mut.ensures.value c.clear.ensures
