use Rattle.std.proofs.lemmas.Result.{on_ok_weaker}
use Rattle.s3_compile.proofs.CircleLemmas.{noted}
use Rattle.s3_compile.proofs.circles.note_circles.Goals as goal

pub returns : goal.returns
returns c = on_ok_weaker _ (λ more. noted c.args.calls.now c.args.caller c.in_ok-reaching.reaching c.args.circling.now c.note_leading_back.new.circling c.in_ok-reaching.ensures (record { at = more })) c.note_leading_back.ensures
