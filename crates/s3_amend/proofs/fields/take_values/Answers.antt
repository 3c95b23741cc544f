use Rattle.std.proofs.Common.{arith, length, subst, sym}
use Rattle.s3_cells.specs.Inner.Fields.{LiesIn, Takes}
use Rattle.s3_load.proofs.RecordLemmas.{field_lies, one_more_taken}
use Rattle.s3_amend.specs.Inner.Settings.{values_of}
use Rattle.s3_amend.proofs.SettingLemmas.{value_get}
use Rattle.s3_amend.proofs.fields.take_values.Goals as goal

pub loop-place-preserved : goal.loop-place-preserved
loop-place-preserved c =
    let field = c.index-named-place.result in
    let place = c.loop-place.place in
    let lies : LiesIn (length c.args.bytes.now) field = field_lies c.args.named.now (length c.args.bytes.now) place field c.requires.within c.loop-place-test.true c.index-named-place.is in
    let here : LiesIn (length c.loop-place.bytes) field = subst (λ n. LiesIn n field) (sym c.loop-place.auto.bytes) lies in
    record {
      taken = λ none.
          one_more_taken c.args.named.now (values_of c.args.settings.now) c.args.bytes.now c.loop-place.bytes c.take_value.new.bytes place field c.loop-place-test.true c.index-named-place.is c.requires.apart here
          (c.loop-place.invariant.taken (c.in_ok-take_value.ensures.before none))
          (subst (λ cell. Takes field cell c.loop-place.bytes c.take_value.new.bytes) (value_get c.args.settings.now place _ (omega (arith, c.loop-place-test.true, c.requires.counted))) (c.in_ok-take_value.ensures.taken none));
      before = λ none. c.loop-place.invariant.before (c.in_ok-take_value.ensures.before none);
    }
