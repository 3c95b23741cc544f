use Rattle.std.proofs.Common.{◌≡◌, ◌<◌, ◌+◌, ◌++◌, ◌∙◌, ap, arith, length, sym, take}
use Rattle.std.specs.Prelude.{Some, slice_get}
use Rattle.std.specs.List.{list_all}
use Rattle.std.proofs.lemmas.List.{take_all}
use Rattle.s3_record_types.specs.Inner.Chosen.{chosen_of}
use Rattle.s3_unload.specs.Inner.Fixed.{fixed_text, is_fixed}
use Rattle.s3_unload.specs.Inner.Ordered.{ordered}
use Rattle.s3_unload.proofs.FixedLemmas.{record_added, record_fits}
use Rattle.s3_unload.proofs.Opening.{ordered_counted, place_counted}
use Rattle.s3_unload.proofs.RowLemmas.{counted_more}
use Rattle.s3_unload.proofs.fixed.push_each.Goals as goal

pub push_chosen-requires : goal.push_chosen-requires
push_chosen-requires c =
    let low = place_counted c.args.label.now c.loop-n.store c.in_ok-place.place c.read.new.bytes c.in_ok-place.ensures.place in
    omega arith

pub loop-n-preserved : goal.loop-n-preserved
loop-n-preserved c =
    let got : slice_get (ordered c.args.label.now c.args.store.now) c.loop-n.n ≡ Some c.read.new.bytes =
    sym (ap (λ s. slice_get (ordered c.args.label.now s) c.loop-n.n) c.loop-n.invariant.same) ∙ c.in_ok-place.ensures.ok in
    let there : c.loop-n.n < length (ordered c.args.label.now c.args.store.now) = omega (arith, ordered_counted c.args.label.now c.args.store.now) in
    record {
      same = c.read.ensures.keeps ∙ c.loop-n.invariant.same;
      text = record_added c.args.form c.args.chosen.now (ordered c.args.label.now c.args.store.now) c.loop-n.n c.read.new.bytes _ _ _ there got c.loop-n.invariant.text c.in_ok-others.ensures.text;
      fits = record_fits c.args.form c.args.chosen.now (ordered c.args.label.now c.args.store.now) c.loop-n.n c.read.new.bytes there got c.loop-n.invariant.fits c.in_ok-others.ensures.fits;
      counted = counted_more c.args.chosen.now (ordered c.args.label.now c.args.store.now) c.loop-n.n c.loop-n.others _ c.read.new.bytes there got c.loop-n.invariant.counted c.in_ok-others.ensures.other;
    }

pub returns-clause-text : goal.returns-clause-text
returns-clause-text c =
    let all : take c.loop-n.n (ordered c.args.label.now c.args.store.now) ≡ ordered c.args.label.now c.args.store.now =
    take_all c.loop-n.n (ordered c.args.label.now c.args.store.now) (omega (arith, ordered_counted c.args.label.now c.args.store.now)) in
    c.loop-n.invariant.text ∙ ap (λ rs. c.args.text.now.items ++ fixed_text c.args.form (chosen_of c.args.chosen.now rs)) all

pub returns-clause-fits : goal.returns-clause-fits
returns-clause-fits c =
    let all : take c.loop-n.n (ordered c.args.label.now c.args.store.now) ≡ ordered c.args.label.now c.args.store.now =
    take_all c.loop-n.n (ordered c.args.label.now c.args.store.now) (omega (arith, ordered_counted c.args.label.now c.args.store.now)) in
    ap (λ rs. list_all (is_fixed c.args.form) (chosen_of c.args.chosen.now rs)) (sym all) ∙ c.loop-n.invariant.fits

pub returns-clause-others : goal.returns-clause-others
returns-clause-others c =
    let counted : length (ordered c.args.label.now c.args.store.now) ≡ c.args.label.now.count = ordered_counted c.args.label.now c.args.store.now in
    let all : take c.loop-n.n (ordered c.args.label.now c.args.store.now) ≡ ordered c.args.label.now c.args.store.now =
    take_all c.loop-n.n (ordered c.args.label.now c.args.store.now) (omega arith) in
    let end : c.loop-n.n ≡ length (ordered c.args.label.now c.args.store.now) = omega arith in
    ap (λ rs. c.loop-n.others + length (chosen_of c.args.chosen.now rs)) (sym all) ∙ c.loop-n.invariant.counted ∙ end
