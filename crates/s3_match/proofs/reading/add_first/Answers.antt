use Rattle.std.proofs.Common.{◌+◌, ◌∙◌, sym, ap, subst}
use Rattle.s3_meaning.specs.Source.{is_input}
use Rattle.s3_match.specs.Inner.Beginning.{AreFirst}
use Rattle.s3_match.proofs.BeginLemmas.{one_first, none_more_first}
use Rattle.s3_match.proofs.reading.add_first.Goals as goal

pub returns-in_ok-push : goal.returns-in_ok-push
returns-in_ok-push c =
    subst (AreFirst c.args.program.now c.args.switches (c.args.slot + 1)) (sym c.in_ok-push.ensures.items)
    (one_first c.args.program.now c.args.switches c.args.slot c.args.files.now.items c.in_ok-first_input.field-0 c.index.result.now c.requires.within
    (ap is_input (sym c.index.ensures) ∙ sym c.is_selected.ensures ∙ c.if-is_selected.true) c.in_ok-first_input.ensures c.requires.before)

pub returns-else-is_selected : goal.returns-else-is_selected
returns-else-is_selected c =
    none_more_first c.args.program.now c.args.switches c.args.slot c.args.files.now.items c.index.result.now c.requires.within
    (ap is_input (sym c.index.ensures) ∙ sym c.is_selected.ensures ∙ c.if-is_selected.false) c.requires.before
