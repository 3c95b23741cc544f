use Rattle.std.proofs.Common.{◌≤◌, ◌++◌, ◌∙◌, List, ℕ, length, sym, subst}
use Rattle.s3_meaning.specs.Selection.{compared}
use Rattle.s3_match.proofs.ComparedLemmas.{compared_short, fits_first}
use Rattle.s3_match.proofs.keys.RecordKey.read_field.Goals as goal

pub push_compared-requires : goal.push_compared-requires
push_compared-requires c =
    fits_first c.clear.new.self _ c.clear.ensures
    (subst (λ (xs : List ℕ). length (compared c.args.field.now.form xs) ≤ 256) (sym c.field_bytes.ensures)
    (compared_short c.args.field.now c.args.bytes.now c.requires))

pub returns-clause-short : goal.returns-clause-short
returns-clause-short c =
    subst (λ (xs : List ℕ). length xs ≤ 256) (sym (c.push_compared.ensures ∙ (λ i. c.clear.ensures i ++ compared c.args.field.now.form (c.field_bytes.ensures i))))
    (compared_short c.args.field.now c.args.bytes.now c.requires)
