use Rattle.std.proofs.Common.{◌≡◌, ap, refl, arith, to_z, of_z, w64}
use Rattle.std.specs.Prelude.{slice_set}
use Rattle.std.specs.Vec.{with_item}
use Rattle.std.proofs.lemmas.Int.{ints}
use Rattle.s3_operations.specs.declared.values.Values.{Values}
use Rattle.s3_operations.proofs.ValueLemmas.{field_number}
use Rattle.s3_operations.proofs.ChangeLemmas.{number_put_in, only_put}
use Rattle.s3_operations.proofs.values.Values.put_number.Goals as goal

pub returns-clause-change : goal.returns-clause-change
returns-clause-change c =
    let p = c.args.program.now in
    let s = c.args.self.now in
    let v = c.args.number.value in
    let back : to_z w64 (of_z w64 v) ≡ v = omega (arith, ints) in
    let new : Values = record s { numbers = with_item s.numbers c.args.slot (to_z w64 (of_z w64 v)) } in
    let f = field_number p c.args.slot c.requires.fits in
    only_put p s new _ v
    (number_put_in p s new c.args.slot f _ c.args.number f.field.named c.requires.sound c.requires.digits c.requires.decimals (ap (λ z. slice_set s.numbers.items c.args.slot z) back) refl refl)
    refl refl refl
