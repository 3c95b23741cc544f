use Rattle.std.proofs.Common.{refl}
use Rattle.s3_level.proofs.Starting.{holds_fresh}
use Rattle.s3_level.proofs.level.Level.new.Goals as goal

pub returns-clause-world : goal.returns-clause-world
returns-clause-world c = λ beside fresh. holds_fresh _ c.args.id c.args.deck beside fresh refl refl refl c.first.ensures (rw c.new.ensures.empty (λ name. refl)) refl c.none.ensures refl c.new-2.ensures.items c.new-3.ensures
