use Rattle.std.proofs.Common.{◌≡◌, true, get_or, arith, sym, length, eq-eqb}
use Rattle.std.proofs.lemmas.List.Sums.{position_or_len_is}
use Rattle.s3_cells.specs.Inner.Numbers.{is_point}
use Rattle.s3_cells.proofs.numbers.point_in.Goals as goal

pub returns-then-byte-eq46-clause-value : goal.returns-then-byte-eq46-clause-value
returns-then-byte-eq46-clause-value c =
    let found : is_point (get_or c.args.text.now c.loop-place.place 0) ≡ true = eq-eqb _ _ c.if-byte-eq46.true in
    sym (position_or_len_is is_point c.args.text.now c.loop-place.place 0 (omega arith) c.loop-place.invariant (λ h. found))

pub returns-clause-value : goal.returns-clause-value
returns-clause-value c =
    sym (position_or_len_is is_point c.args.text.now (length c.args.text.now) 0 (omega arith) (λ k h. c.loop-place.invariant k (omega arith)) (λ h. absurd (omega arith)))
