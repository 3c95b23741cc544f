use Rattle.std.proofs.Common.{◌≡◌, false, get_or, arith, sym, length}
use Rattle.std.proofs.lemmas.Bool.{ne_eqb}
use Rattle.std.proofs.lemmas.List.Sums.{prefix_len_is}
use Rattle.s3_load.specs.Inner.Columns.{is_blank}
use Rattle.s3_load.proofs.columns.blanks_in_front.Goals as goal

pub returns-then-byte-ne32-clause-count : goal.returns-then-byte-ne32-clause-count
returns-then-byte-ne32-clause-count c =
    let other : is_blank (get_or c.args.cell.now c.loop-place.place 0) ≡ false = ne_eqb _ _ c.if-byte-ne32.true in
    sym (prefix_len_is is_blank c.args.cell.now c.loop-place.place 0 (omega arith) c.loop-place.invariant (λ h. other))

pub returns-clause-count : goal.returns-clause-count
returns-clause-count c =
    sym (prefix_len_is is_blank c.args.cell.now (length c.args.cell.now) 0 (omega arith) (λ k h. c.loop-place.invariant k (omega arith)) (λ h. absurd (omega arith)))
