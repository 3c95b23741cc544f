use Rattle.std.proofs.Common.{refl, ◌∙◌, ap}
use Rattle.std.specs.List.{list_all}
use Rattle.s3_program.proofs.TypeLemmas.{as_many, own_starts}
use Rattle.s3_match.specs.Inner.Types.{is_type_start}
use Rattle.s3_operations.specs.Inner.Indicators.{on_in}
use Rattle.s3_cycle.specs.Inner.Clearing.{shown_by, turned_off}
use Rattle.s3_match.proofs.TypeLemmas.{own_are_starts}
use Rattle.s3_cycle.proofs.FileTypeLemmas.{types_of_cleared}
use Rattle.s3_cycle.proofs.indicating.clear_types_of.Goals as goal

pub index-requires : goal.index-requires
index-requires c = as_many c.args.program.now c.args.file c.requires.file

pub turn_types_off-requires-clause-starts : goal.turn_types_off-requires-clause-starts
turn_types_off-requires-clause-starts c =
    let starts = c.deref.ensures.value ∙ ap (λ v. v.items) c.index.ensures ∙ own_starts c.args.program.now c.args.file _ c.requires.file in
    ap (list_all (is_type_start c.args.program.now)) starts ∙ own_are_starts c.args.program.now c.args.file

pub returns : goal.returns
returns c =
    let starts = c.deref.ensures.value ∙ ap (λ v. v.items) c.index.ensures ∙ own_starts c.args.program.now c.args.file _ c.requires.file in
    types_of_cleared c.args.program.now c.args.file c.args.values.now _ c.requires.sound c.requires.file refl refl refl refl
    (λ other. c.turn_types_off.ensures other ∙ (λ i. turned_off (shown_by c.args.program.now (starts i)) other (on_in c.args.values.now.indicators other)))
