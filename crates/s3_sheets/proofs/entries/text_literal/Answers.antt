use Rattle.std.proofs.Common.{◌∙◌, ap, take}
use Rattle.s3_lines.specs.declared.sheet.Constant.{Constant}
use Rattle.s3_sheets.proofs.EntryLemmas.{shortened}
use Rattle.s3_sheets.proofs.entries.text_literal.Goals as goal

pub returns : goal.returns
returns c = λ codes is short. λ i. record {
  codes = (c.copy_from_slice.ensures.after ∙ (ap (λ (text : Constant). take 8 text.codes) is ∙ shortened codes short)) i;
  length = ap (λ (text : Constant). text.length) is i;
}
