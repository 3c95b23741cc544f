use Rattle.std.proofs.Common.{◌∙◌, sym}
use Rattle.s3_match.proofs.ChoiceLemmas.{alone_stands, selects_alone}
use Rattle.s3_match.proofs.choice.select.Goals as goal

pub returns-then-is_keyless_alone-clause-head : goal.returns-then-is_keyless_alone-clause-head
returns-then-is_keyless_alone-clause-head c = alone_stands c.args.files.now (sym c.is_keyless_alone.ensures ∙ c.if-is_keyless_alone.true)

pub returns-then-is_keyless_alone-clause-selected : goal.returns-then-is_keyless_alone-clause-selected
returns-then-is_keyless_alone-clause-selected c =
    selects_alone c.args.program.now c.args.files.now c.args.primary_key.now c.requires.sound (sym c.is_keyless_alone.ensures ∙ c.if-is_keyless_alone.true)
