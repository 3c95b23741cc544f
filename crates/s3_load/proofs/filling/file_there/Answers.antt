use Rattle.std.proofs.Common.{◌∙◌, refl, sym}
use Rattle.s3_pack_care.proofs.Named.{present_named}
use Rattle.s3_load.proofs.filling.file_there.Goals as goal

pub returns-then-has_shape-clause-asked : goal.returns-then-has_shape-clause-asked
returns-then-has_shape-clause-asked c = record {
  named = present_named c.args.order.now.name c.slots.result.now c.in-Present.label (sym c.standing_of.ensures ∙ c.in-Present.is);
  long = c.if-has_shape.ensures.long refl;
  keyed = c.if-has_shape.ensures.key refl;
}
