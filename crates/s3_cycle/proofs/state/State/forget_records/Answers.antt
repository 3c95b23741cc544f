use Rattle.std.proofs.Common.{◌≡◌, length, arith}
use Rattle.s3_cycle.proofs.FirstLemmas.{all_forgotten}
use Rattle.s3_cycle.proofs.state.State.forget_records.Goals as goal

pub returns-clause-records : goal.returns-clause-records
returns-clause-records c =
    let count : c.len-count.result ≡ length c.args.self.now.current.items = grind (arith, c.len-count.ensures) in
    all_forgotten c.args.self.now.current c.deref_mut.result.now c.forget.new.current _ (omega (arith, count)) c.deref_mut.ensures.value c.forget.ensures
