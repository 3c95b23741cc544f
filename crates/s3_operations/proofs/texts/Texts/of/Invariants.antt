use Rattle.std.proofs.Common.{◌∷◌, ◌++◌, map, take}
use Rattle.s3_operations.specs.Inner.Constants.{zero_constant, factors_of}
use Rattle.s3_operations.specs.Inner.Texts.{blank_texts}
use Rattle.s3_operations.proofs.TextLemmas.{IsArea}
use Rattle.s3_operations.proofs.texts.Texts.of.Given as goal

abbrev pub invariant-loop-field : goal.invariant-loop-field
invariant-loop-field l = IsArea l.spans.items l.bytes.items (blank_texts (take l.field-index l.program.fields.items))

abbrev pub invariant-loop-card : goal.invariant-loop-card
invariant-loop-card l = IsArea l.spans.items l.bytes.items (blank_texts l.program.fields.items ++ map (λ constant. constant.text) (zero_constant ∷ factors_of (take l.card-index l.program.calculations.items)))
