use Rattle.std.proofs.Common.{arith, ◌≡◌, ◌≤◌, ◌^◌, ◌+◌, ◌-◌, ◌&&◌, nat_le, ◌+ℤ◌, ◌*ℤ◌, pos, ap, sym, ◌∙◌, to_z, of_z}
use Rattle.std.specs.Int.{w64, w128}
use Rattle.std.proofs.lemmas.Bool.{and_parts}
use Rattle.std.proofs.lemmas.Bool.Decides.{nat_tests}
use Rattle.std.proofs.lemmas.Int.{ints}
use Rattle.s3_decimal.specs.Exact.{exact, stored}
use Rattle.s3_decimal.proofs.Alignment.{stored_sum}
use Rattle.s3_decimal.proofs.arithmetic.add_aligned.Goals as goal

pub returns-clause-value : goal.returns-clause-value
returns-clause-value c =
    let d = c.max-decimals.result in
    let whole : to_z w128 (of_z w128 (to_z w128 (of_z w128 c.aligned.result) +ℤ to_z w128 (of_z w128 c.aligned-2.result)))
    ≡ (c.args.augend.value *ℤ pos (10 ^ (d - c.args.augend.decimals))) +ℤ (c.args.addend.value *ℤ pos (10 ^ (d - c.args.addend.decimals))) = omega (arith, ints) in
    c.store.ensures.value
    ∙ ap (λ z. stored c.args.rounding c.args.form.digits c.args.form.decimals (exact z d)) whole
    ∙ stored_sum c.args.rounding c.args.form.digits c.args.form.decimals c.args.augend.value c.args.addend.value c.args.augend.decimals c.args.addend.decimals d
    (omega arith) (omega arith)

pub returns-then-are_short_in-clause-value : goal.returns-then-are_short_in-clause-value
returns-then-are_short_in-clause-value c =
    let d = c.args.form.decimals in
    let v = c.args.augend in
    let w = c.args.addend in
    let both =
    and_parts (nat_le v.decimals d && nat_le (v.digits + d) (v.decimals + 17)) (nat_le w.decimals d && nat_le (w.digits + d) (w.decimals + 17))
    (sym c.are_short_in.ensures ∙ c.if-are_short_in.true) in
    let few = (and_parts (nat_le v.decimals d) (nat_le (v.digits + d) (v.decimals + 17)) both.0).0 in
    let few' = (and_parts (nat_le w.decimals d) (nat_le (w.digits + d) (w.decimals + 17)) both.1).0 in
    let first : v.decimals ≤ d = grind (arith, nat_tests, few) in
    let second : w.decimals ≤ d = grind (arith, nat_tests, few') in
    let whole : to_z w64 (of_z w64 (to_z w64 (of_z w64 c.short_aligned.result) +ℤ to_z w64 (of_z w64 c.short_aligned-then-are_short_in.result)))
    ≡ (v.value *ℤ pos (10 ^ (d - v.decimals))) +ℤ (w.value *ℤ pos (10 ^ (d - w.decimals))) = omega (arith, ints) in
    c.store_units.ensures.value c.args.rounding
    ∙ ap (λ z. stored c.args.rounding c.args.form.digits d (exact z d)) whole
    ∙ stored_sum c.args.rounding c.args.form.digits d v.value w.value v.decimals w.decimals d first second
