use Rattle.std.proofs.Common.{◌∙◌, ap, length, unsigned_abs}
use Rattle.s3_decimal.specs.Exact.{is_negative}
use Rattle.s3_decimal.specs.Records.{zoned_bytes}
use Rattle.s3_cells.proofs.Cells.{got_zoned}
use Rattle.s3_cells.proofs.CellLaws.{zoned_form}
use Rattle.s3_cells.proofs.NumberLemmas.{passed_same}
use Rattle.s3_cells.proofs.forms.take_zoned.Goals as goal

pub returns-clause-ok : goal.returns-clause-ok
returns-clause-ok c =
    let form = zoned_form c.args.decimals (length c.args.bytes.now) c.args.cells c.requires in
    got_zoned c.args.decimals (length c.args.bytes.now) c.args.cells c.args.cell.now c.zoned_write.new.bytes c.in_ok-value.value c.in_ok-value.ensures.ok c.in_ok-value.ensures.fits
    (c.zoned_write.ensures.written ∙ ap (λ v. zoned_bytes (is_negative v) (length c.args.bytes.now) (unsigned_abs v)) (passed_same c.in_ok-value.value (length c.args.bytes.now) c.in_ok-value.ensures.fits form.few))
