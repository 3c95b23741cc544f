use Rattle.std.proofs.Common.{◌≡◌, refl, sym, subst}
use Rattle.std.specs.Prelude.{IfErr, IfOk, Some}
use Rattle.s3_cells.specs.Inner.Numbers.{number_read}
use Rattle.s3_cells.specs.Inner.Refusals.{IsNumberRefusal}
use Rattle.s3_cells.proofs.forms.read_cell.Goals as goal

pub returns-then-is_plain-clause-ok : goal.returns-then-is_plain-clause-ok
returns-then-is_plain-clause-ok c =
    subst (λ t. IfOk c.read_number.result (λ value. number_read c.args.decimals t ≡ Some value)) (sym (c.if-is_plain.ensures refl c.args.cell.now)) c.read_number.ensures.ok

pub returns-then-is_plain-clause-err : goal.returns-then-is_plain-clause-err
returns-then-is_plain-clause-err c =
    subst (λ t. IfErr c.read_number.result (IsNumberRefusal c.args.digits (number_read c.args.decimals t))) (sym (c.if-is_plain.ensures refl c.args.cell.now)) c.read_number.ensures.err
