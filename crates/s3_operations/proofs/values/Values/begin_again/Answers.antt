use Rattle.std.proofs.Common.{◌≡◌, refl, ap, length, arith}
use Rattle.std.specs.Prelude.{None}
use Rattle.s3_operations.specs.declared.values.Values.{Values}
use Rattle.s3_operations.proofs.AgainLemmas.{cleared_first}
use Rattle.s3_operations.proofs.BeginLemmas.{begun, first_sound}
use Rattle.s3_operations.proofs.values.Values.begin_again.Goals as goal

pub put_date-requires-clause-sound : goal.put_date-requires-clause-sound
put_date-requires-clause-sound c =
    let p = c.args.program.now in
    let s : Values = record c.blank_before.new.self { indicators = c.at_first-self.result; division = None } in
    let count : c.len-fields.result ≡ length c.args.program.now.fields.items = grind (arith, c.len-fields.ensures) in
    first_sound p c.args.switches s _ _
    (cleared_first p c.args.switches c.args.self.now c.zero_before.new.self c.blank_before.new.self s c.len-fields.result c.requires.sound count c.zero_before.ensures.zeros (ap (λ (v : Values). v.forms.items) c.zero_before.ensures.alone) (ap (λ (v : Values). v.texts) c.zero_before.ensures.alone) c.blank_before.ensures.alone c.blank_before.ensures.blank refl refl refl c.at_first-self.ensures refl)

pub returns : goal.returns
returns c =
    let p = c.args.program.now in
    let s : Values = record c.blank_before.new.self { indicators = c.at_first-self.result; division = None } in
    let count : c.len-fields.result ≡ length c.args.program.now.fields.items = grind (arith, c.len-fields.ensures) in
    begun p c.args.switches c.args.date s c.put_date.new.self _ _
    (cleared_first p c.args.switches c.args.self.now c.zero_before.new.self c.blank_before.new.self s c.len-fields.result c.requires.sound count c.zero_before.ensures.zeros (ap (λ (v : Values). v.forms.items) c.zero_before.ensures.alone) (ap (λ (v : Values). v.texts) c.zero_before.ensures.alone) c.blank_before.ensures.alone c.blank_before.ensures.blank refl refl refl c.at_first-self.ensures refl)
    c.put_date.ensures
