use Rattle.std.proofs.Common.{◌∙◌, ◌++◌, ap}
use Rattle.s3_blame.specs.Inner.Names.{names_known}
use Rattle.s3_blame.specs.Inner.OwnMarks.{are_marks_on}
use Rattle.s3_blame.proofs.OwnLemmas.{one_more_so_far}
use Rattle.s3_blame.proofs.PartLemmas.{more_on_line}
use Rattle.s3_blame.proofs.lines.entries_of_card.Goals as goal

pub loop-diagnostic-preserved : goal.loop-diagnostic-preserved
loop-diagnostic-preserved c =
    let names = names_known c.args.known.now in
    let added = c.in_ok-extend_from_slice.ensures.items ∙ ap (λ more. c.loop-diagnostic.found.items ++ more) c.deref.ensures.value in
    record {
      only = ap (are_marks_on names c.args.line.now) added ∙ more_on_line names c.args.line.now _ c.loop-diagnostic.found.items _ c.loop-diagnostic.invariant.only c.in_ok-more.ensures.of c.in_ok-more.ensures.named;
      so_far = one_more_so_far names c.args.line.now c.args.told.now c.loop-diagnostic.diagnostic-index _ c.loop-diagnostic.found.items _ _ c.loop-diagnostic-test.true added c.in_ok-more.ensures.own c.loop-diagnostic.invariant.so_far;
    }
