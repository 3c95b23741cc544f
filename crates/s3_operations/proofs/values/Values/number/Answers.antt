use Rattle.std.proofs.Common.{◌≡◌, ℤ, ◌<◌, ◌^◌, length, ap, sym, ◌∙◌, subst, arith, to_z, of_z, w64}
use Rattle.std.specs.Prelude.{Some, option_map, slice_get, unsigned_abs}
use Rattle.std.proofs.lemmas.Int.{ints}
use Rattle.s3_decimal.specs.declared.number.Form.{Form}
use Rattle.s3_operations.specs.Inner.Held.{digits_and_decimals, number_at}
use Rattle.s3_operations.proofs.ValueLemmas.{form_read, number_read}
use Rattle.s3_operations.proofs.values.Values.number.Goals as goal

pub invariant_of-result : goal.invariant_of-result
invariant_of-result c =
    let form : Form = c.index-form.result.now in
    let n : ℤ = c.index.result.now in
    let inside : c.args.slot < length c.args.self.now.forms.items = omega (arith, c.requires.within, c.requires.count) in
    let there : slice_get c.args.self.now.forms.items c.args.slot ≡ Some form = form_read c.args.self.now.forms.items c.args.slot form _ inside c.index-form.ensures in
    let back : to_z w64 (of_z w64 n) ≡ n = omega (arith, ints) in
    let value : number_at c.args.self.now.numbers.items c.args.slot ≡ to_z w64 (of_z w64 n) = number_read c.args.self.now.numbers.items c.args.slot n _ c.requires.within c.index.ensures ∙ sym back in
    let below : ℤ → Type 0 = λ z. unsigned_abs z < 10 ^ form.digits in
    record {
      has_digits = form.has_digits;
      within_longest = form.within_longest;
      few_decimals = form.few_decimals;
      decimals_within = form.decimals_within;
      within_digits = subst below value (c.requires.fit c.args.slot form there);
    }

pub returns-clause-value : goal.returns-clause-value
returns-clause-value c =
    let n : ℤ = c.index.result.now in
    let back : to_z w64 (of_z w64 n) ≡ n = omega (arith, ints) in
    back ∙ sym (number_read c.args.self.now.numbers.items c.args.slot n _ c.requires.within c.index.ensures)

pub returns-clause-form : goal.returns-clause-form
returns-clause-form c =
    let form : Form = c.index-form.result.now in
    let inside : c.args.slot < length c.args.self.now.forms.items = omega (arith, c.requires.within, c.requires.count) in
    ap (option_map digits_and_decimals) (form_read c.args.self.now.forms.items c.args.slot form _ inside c.index-form.ensures)
