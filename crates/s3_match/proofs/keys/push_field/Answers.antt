use Rattle.std.proofs.Common.{◌≤◌, ◌≡◌, ◌∙◌, List, ℕ, length, ap, sym, subst, true}
use Rattle.s3_lines.specs.Ranges.{if_given}
use Rattle.s3_meaning.specs.Selection.{compared}
use Rattle.s3_match.specs.Inner.LevelField.{is_ranged}
use Rattle.s3_match.proofs.ComparedLemmas.{compared_short, fits_behind, longer_by}
use Rattle.s3_match.proofs.keys.push_field.Goals as goal

pub push_compared-requires : goal.push_compared-requires
push_compared-requires c =
    let ranged : is_ranged c.in-Some.field ≡ true = ap (if_given is_ranged) (sym c.in-Some.is) ∙ c.at.ensures.ranged in
    fits_behind c.args.compared.now _ _ (subst (λ (xs : List ℕ). length (compared c.in-Some.field.form xs) ≤ 256) (sym c.field_bytes.ensures) (compared_short c.in-Some.field c.args.bytes.now ranged)) c.requires.room

pub returns-in-Some-clause-bound : goal.returns-in-Some-clause-bound
returns-in-Some-clause-bound c =
    let ranged : is_ranged c.in-Some.field ≡ true = ap (if_given is_ranged) (sym c.in-Some.is) ∙ c.at.ensures.ranged in
    longer_by c.args.compared.now _ _ (subst (λ (xs : List ℕ). length (compared c.in-Some.field.form xs) ≤ 256) (sym c.field_bytes.ensures) (compared_short c.in-Some.field c.args.bytes.now ranged)) c.push_compared.ensures
