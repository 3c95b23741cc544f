use Rattle.s3_cycle.proofs.PrintLemmas.{stores}
use Rattle.s3_cycle.proofs.stepper.Stepper.store.Goals as goal

pub returns : goal.returns
returns c = λ line asks.
    stores c.args.self.now _ line c.args.file c.record_call-call.result c.args.walk c.args.next c.requires.running c.requires.walk c.requires.past c.record_call-call.ensures.kind (c.record_call-call.ensures.request line asks) c.record_call-call.ensures.fits c.wait.ensures
