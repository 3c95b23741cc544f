use Rattle.std.proofs.Common.{◌≡◌, false, take}
use Rattle.std.specs.List.{list_any}
use Rattle.s3_sheets.specs.Columns.{same_codes}
use Rattle.s3_sheets.proofs.rules.is_one_of.Given as goal

abbrev pub invariant-loop-text : goal.invariant-loop-text
invariant-loop-text l = list_any (λ text. same_codes l.columns text.now) (take l.text-index l.texts) ≡ false
