use Rattle.std.proofs.Common.{◌≡◌, ◌+◌, ◌-◌, ◌*◌, ◌/◌, ◌≤◌, ◌∙◌, length, ap, arith, unsigned_abs}
use Rattle.s3_decimal.specs.Exact.{is_negative}
use Rattle.s3_decimal.specs.Records.{packed_bytes}
use Rattle.s3_cells.proofs.Cells.{got_packed}
use Rattle.s3_cells.proofs.CellLaws.{packed_form}
use Rattle.s3_cells.proofs.NumberLemmas.{passed_same}
use Rattle.s3_cells.proofs.forms.take_packed.Goals as goal

pub returns-clause-ok : goal.returns-clause-ok
returns-clause-ok c =
    let form = packed_form c.args.decimals (length c.args.bytes.now) c.args.cells c.requires in
    let whole : (2 * length c.args.bytes.now - 1) / 2 + 1 ≡ length c.args.bytes.now = omega (arith, form.some) in
    let few : 2 * length c.args.bytes.now - 1 ≤ 15 = omega (arith, form.few) in
    got_packed c.args.decimals (length c.args.bytes.now) c.args.cells c.args.cell.now c.packed_write.new.bytes c.in_ok-value.value c.in_ok-value.ensures.ok c.in_ok-value.ensures.fits
    (c.packed_write.ensures.written ∙ ap (λ v. packed_bytes (is_negative v) ((2 * length c.args.bytes.now - 1) / 2 + 1) (unsigned_abs v)) (passed_same c.in_ok-value.value (2 * length c.args.bytes.now - 1) c.in_ok-value.ensures.fits few)
    ∙ ap (λ n. packed_bytes (is_negative c.in_ok-value.value) n (unsigned_abs c.in_ok-value.value)) whole)
