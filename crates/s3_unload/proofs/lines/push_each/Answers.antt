use Rattle.std.proofs.Common.{◌≡◌, ◌<◌, ◌++◌, ◌∙◌, ap, arith, length, sym, take}
use Rattle.std.specs.Prelude.{Some, slice_get}
use Rattle.std.specs.List.{list_all}
use Rattle.std.proofs.lemmas.List.{take_all}
use Rattle.s3_files.proofs.Rooms.{of_pack_room}
use Rattle.s3_unload.specs.Inner.Lines.{is_line, lines_text}
use Rattle.s3_unload.specs.Inner.Ordered.{in_order}
use Rattle.s3_unload.proofs.LineLemmas.{line_added, line_shown}
use Rattle.s3_unload.proofs.Opening.{in_order_counted}
use Rattle.s3_unload.proofs.lines.push_each.Goals as goal

pub of-file-requires : goal.of-file-requires
of-file-requires c = of_pack_room _ _ c.requires.on_pack

pub loop-n-preserved : goal.loop-n-preserved
loop-n-preserved c =
    let got : slice_get (in_order c.args.label.now c.args.store.now) c.loop-n.n ≡ Some c.read_in_order.new.bytes =
    sym (ap (λ s. slice_get (in_order c.args.label.now s) c.loop-n.n) c.loop-n.invariant.same) ∙ c.in_ok-read_in_order.ensures.ok in
    let there : c.loop-n.n < length (in_order c.args.label.now c.args.store.now) = omega (arith, in_order_counted c.args.label.now c.args.store.now) in
    record {
      same = c.read_in_order.ensures.keeps ∙ c.loop-n.invariant.same;
      text = line_added c.args.form (in_order c.args.label.now c.args.store.now) c.loop-n.n c.read_in_order.new.bytes _ _ _ there got c.loop-n.invariant.text c.in_ok-push_line.ensures.line;
      shown = line_shown c.args.form (in_order c.args.label.now c.args.store.now) c.loop-n.n c.read_in_order.new.bytes there got c.loop-n.invariant.shown c.in_ok-push_line.ensures.shown;
    }

pub returns-clause-text : goal.returns-clause-text
returns-clause-text c =
    let all : take c.loop-n.n (in_order c.args.label.now c.args.store.now) ≡ in_order c.args.label.now c.args.store.now =
    take_all c.loop-n.n (in_order c.args.label.now c.args.store.now) (omega (arith, in_order_counted c.args.label.now c.args.store.now)) in
    c.loop-n.invariant.text ∙ ap (λ rs. c.args.text.now.items ++ lines_text c.args.form rs) all

pub returns-clause-shown : goal.returns-clause-shown
returns-clause-shown c =
    let all : take c.loop-n.n (in_order c.args.label.now c.args.store.now) ≡ in_order c.args.label.now c.args.store.now =
    take_all c.loop-n.n (in_order c.args.label.now c.args.store.now) (omega (arith, in_order_counted c.args.label.now c.args.store.now)) in
    ap (list_all (is_line c.args.form)) (sym all) ∙ c.loop-n.invariant.shown
