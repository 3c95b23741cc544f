use Rattle.std.proofs.Common.{sym, ◌∙◌}
use Rattle.s3_match.specs.Inner.Controls.{held_in}
use Rattle.s3_match.proofs.HoldLemmas.{none_breaks, none_is_held}
use Rattle.s3_match.proofs.HoldingLemmas.{break_of_type, held_of_type}
use Rattle.s3_match.proofs.controls.Controls.hold.Goals as goal

pub returns-then-not-fields : goal.returns-then-not-fields
returns-then-not-fields c = λ program start is are. record {
  breaks = none_breaks program start c.args.bytes.now (held_in c.args.self.now.held) (sym are.any ∙ c.if-not-fields.true);
  held = none_is_held program start c.args.bytes.now (held_in c.args.self.now.held) (sym are.any ∙ c.if-not-fields.true);
}

pub returns : goal.returns
returns c = λ program start is are. record {
  breaks = break_of_type program start c.args.fields.now.fields c.args.bytes.now c.args.self.now.held c.hold_fields.new.held c.hold_fields.result are.by_level c.hold_fields.ensures;
  held = held_of_type program start c.args.fields.now.fields c.args.bytes.now c.args.self.now.held c.hold_fields.new.held c.hold_fields.result is are.by_level c.hold_fields.ensures;
}
