use Rattle.std.proofs.Common.{List, ℤ, None, refl, ap, subst, ◌∙◌}
use Rattle.s3_decimal.specs.declared.number.Form.{Form}
use Rattle.s3_lines.specs.declared.sheet.Shape.{Shape}
use Rattle.s3_program.specs.declared.program.Defined.{Defined}
use Rattle.s3_operations.specs.declared.values.Values.{Values}
use Rattle.s3_operations.specs.Inner.Beginning.{IsZeros, are_fields_in_range}
use Rattle.s3_operations.proofs.BeginLemmas.{AreFirst, begun, fields_in_range, first_sound}
use Rattle.s3_operations.proofs.values.Values.new.Goals as goal

pub zeros-requires : goal.zeros-requires
zeros-requires c = ap are_fields_in_range c.as_slice.ensures.value ∙ fields_in_range c.args.program.now

pub put_date-requires-clause-sound : goal.put_date-requires-clause-sound
put_date-requires-clause-sound c =
    let p = c.args.program.now in
    let s : Values = record { numbers = c.add_constants.new.numbers; forms = c.add_constants.new.forms; texts = c.in_ok-texts.texts; indicators = c.at_first.result; division = None } in
    let zeros : List ℤ = c.in_ok-numbers.numbers.items in
    let of : List Form = c.in_ok-numbers.forms.items in
    let are : List (Defined Shape) → Type 0 = λ fields. IsZeros fields zeros of in
    let first : AreFirst p c.args.switches s zeros of =
    record {
      zero = subst are c.as_slice.ensures.value c.in_ok-numbers.ensures;
      numbers = c.in_ok-add_constants.ensures.numbers;
      forms = c.in_ok-add_constants.ensures.forms;
      texts = c.in_ok-texts.ensures.texts;
      area = c.in_ok-texts.ensures.area;
      on = c.at_first.ensures;
      division = refl;
    } in
    first_sound p c.args.switches s zeros of first

pub returns : goal.returns
returns c =
    let p = c.args.program.now in
    let s : Values = record { numbers = c.add_constants.new.numbers; forms = c.add_constants.new.forms; texts = c.in_ok-texts.texts; indicators = c.at_first.result; division = None } in
    let zeros : List ℤ = c.in_ok-numbers.numbers.items in
    let of : List Form = c.in_ok-numbers.forms.items in
    let are : List (Defined Shape) → Type 0 = λ fields. IsZeros fields zeros of in
    let first : AreFirst p c.args.switches s zeros of =
    record {
      zero = subst are c.as_slice.ensures.value c.in_ok-numbers.ensures;
      numbers = c.in_ok-add_constants.ensures.numbers;
      forms = c.in_ok-add_constants.ensures.forms;
      texts = c.in_ok-texts.ensures.texts;
      area = c.in_ok-texts.ensures.area;
      on = c.at_first.ensures;
      division = refl;
    } in
    begun p c.args.switches c.args.date s c.put_date.new.self zeros of first c.put_date.ensures
