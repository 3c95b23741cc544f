use Rattle.std.proofs.Common.{◌∙◌, ap, ℕ, [], ◌∷◌}
use Rattle.s3_level.proofs.Starting.{fault_shown}
use Rattle.s3_level.specs.Inner.Holds.{HoldsParts}
use Rattle.s3_level.proofs.level.Level.show_fault.Goals as goal

pub returns-clause-world : goal.returns-clause-world
returns-clause-world c = λ s.
    fault_shown c.show.result c.args.number c.args.faulty _ (HoldsParts c.args.self.now s) (HoldsParts c.show.new.self s)
    (c.in_ok-details.ensures ∙ ap (λ (n : ℕ). (c.args.faulty.card, n) ∷ []) c.number.ensures) (c.show.ensures.world s)
