use Rattle.std.proofs.Common.{◌≡◌, ◌<◌, ◌+◌, ◌∙◌, ap, arith, length, subst, sym, take}
use Rattle.std.specs.List.{list_all}
use Rattle.std.specs.Prelude.{Some, slice_get}
use Rattle.std.proofs.lemmas.List.{take_all}
use Rattle.s3_record_types.specs.Inner.Chosen.{chosen_of}
use Rattle.s3_unload.specs.Inner.Ordered.{ordered}
use Rattle.s3_unload.specs.Inner.Tables.{AddsText, are_shown, rows_text}
use Rattle.s3_unload.proofs.Opening.{ordered_counted, place_counted}
use Rattle.s3_unload.proofs.RowLemmas.{adds_more, counted_more, rows_more, shown_more}
use Rattle.s3_unload.proofs.writing.write_rows.Goals as goal

pub add_chosen-requires-clause-number : goal.add_chosen-requires-clause-number
add_chosen-requires-clause-number c =
    let low = place_counted c.args.label.now c.loop-n.store c.in_ok-place.place c.read.new.bytes c.in_ok-place.ensures.place in
    omega arith

pub loop-n-preserved : goal.loop-n-preserved
loop-n-preserved c =
    let got : slice_get (ordered c.args.label.now c.args.store.now) c.loop-n.n ≡ Some c.read.new.bytes =
    sym (ap (λ s. slice_get (ordered c.args.label.now s) c.loop-n.n) c.loop-n.invariant.same) ∙ c.in_ok-place.ensures.ok in
    let there : c.loop-n.n < length (ordered c.args.label.now c.args.store.now) = omega (arith, ordered_counted c.args.label.now c.args.store.now) in
    record {
      same = c.read.ensures.keeps ∙ c.loop-n.invariant.same;
      text = λ d b.
          subst (λ t. AddsText d c.args.writer.now c.add_chosen.new.writer t) (rows_more d c.args.fields.now c.args.chosen.now (ordered c.args.label.now c.args.store.now) c.loop-n.n c.read.new.bytes there got)
          (adds_more d c.args.writer.now c.loop-n.writer c.add_chosen.new.writer _ _ (c.loop-n.invariant.text d b) (c.in_ok-others.ensures.text d (c.loop-n.invariant.text d b).between));
      shown = shown_more c.args.fields.now c.args.chosen.now (ordered c.args.label.now c.args.store.now) c.loop-n.n c.read.new.bytes there got c.loop-n.invariant.shown c.in_ok-others.ensures.shown;
      counted = counted_more c.args.chosen.now (ordered c.args.label.now c.args.store.now) c.loop-n.n c.loop-n.others _ c.read.new.bytes there got c.loop-n.invariant.counted c.in_ok-others.ensures.other;
    }

pub returns-clause-text : goal.returns-clause-text
returns-clause-text c =
    let all : take c.loop-n.n (ordered c.args.label.now c.args.store.now) ≡ ordered c.args.label.now c.args.store.now =
    take_all c.loop-n.n (ordered c.args.label.now c.args.store.now) (omega (arith, ordered_counted c.args.label.now c.args.store.now)) in
    λ d b. subst (λ rs. AddsText d c.args.writer.now c.loop-n.writer (rows_text d c.args.fields.now (chosen_of c.args.chosen.now rs))) all (c.loop-n.invariant.text d b)

pub returns-clause-shown : goal.returns-clause-shown
returns-clause-shown c =
    let all : take c.loop-n.n (ordered c.args.label.now c.args.store.now) ≡ ordered c.args.label.now c.args.store.now =
    take_all c.loop-n.n (ordered c.args.label.now c.args.store.now) (omega (arith, ordered_counted c.args.label.now c.args.store.now)) in
    ap (λ rs. list_all (are_shown c.args.fields.now) (chosen_of c.args.chosen.now rs)) (sym all) ∙ c.loop-n.invariant.shown

pub returns-clause-others : goal.returns-clause-others
returns-clause-others c =
    let counted : length (ordered c.args.label.now c.args.store.now) ≡ c.args.label.now.count = ordered_counted c.args.label.now c.args.store.now in
    let all : take c.loop-n.n (ordered c.args.label.now c.args.store.now) ≡ ordered c.args.label.now c.args.store.now =
    take_all c.loop-n.n (ordered c.args.label.now c.args.store.now) (omega arith) in
    let end : c.loop-n.n ≡ length (ordered c.args.label.now c.args.store.now) = omega arith in
    ap (λ rs. c.loop-n.others + length (chosen_of c.args.chosen.now rs)) (sym all) ∙ c.loop-n.invariant.counted ∙ end
