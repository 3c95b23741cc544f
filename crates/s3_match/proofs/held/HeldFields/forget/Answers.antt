use Rattle.s3_match.proofs.HeldLemmas.{all_forgotten, none_forgotten, one_forgotten}
use Rattle.s3_match.proofs.held.HeldFields.forget.Goals as goal

pub loop-index-init : goal.loop-index-init
loop-index-init c = none_forgotten c.self.inside.fields.items c.self.invariant

pub loop-index-preserved : goal.loop-index-preserved
loop-index-preserved c = one_forgotten c.loop-index.self-inside.fields.items c.loop-index.index c.forget.new.self c.forget.ensures c.loop-index.invariant

pub returns : goal.returns
returns c = all_forgotten c.loop-index.self-inside.fields.items c.loop-index.index c.loop-index-test.false c.loop-index.invariant
