use Rattle.std.proofs.Common.{rules, ◌≡◌, List, length, subst, sym}
use Rattle.std.specs.List.{All}
use Rattle.s3_cells.specs.Inner.Fields.{LiesIn}
use Rattle.s3_cells.specs.declared.field.Field.{Field}
use Rattle.s3_amend.proofs.SettingLemmas.{all_lie}
use Rattle.s3_amend.proofs.amending.amended_record.Goals as goal

pub change-requires-clause-within : goal.change-requires-clause-within
change-requires-clause-within c =
    let layout = c.args.amendment.now.layout.now in
    let wide : length c.deref_mut-2.result.now ≡ layout.record_length = search rules in
    subst (λ n. All (LiesIn n) c.deref-2.result.now) (sym wide)
    (subst (λ (xs : List Field). All (LiesIn layout.record_length) xs) (sym c.deref-2.ensures.value)
    (all_lie layout.fields.items c.args.label.now c.args.amendment.now.settings.now layout.record_length _ _ layout.within c.in_ok-named.ensures.named))
