use Rattle.std.proofs.Common.{◌≡◌, ◌∙◌, ℕ, List, false, length, take, sym, arith, subst, Bor}
use Rattle.std.specs.List.{list_any}
use Rattle.s3_sheets.specs.Columns.{same_codes}
use Rattle.s3_sheets.proofs.RuleLemmas.{found_at, none_found}
use Rattle.s3_sheets.proofs.rules.is_one_of.Goals as goal

pub returns-then-eq : goal.returns-then-eq
returns-then-eq c =
    sym (found_at (same_codes c.args.columns.now) (λ (text : Bor (List ℕ)). text.now) c.args.texts.now c.loop-text.text-index _ c.loop-text-test.true
    (sym c.eq.ensures ∙ c.if-eq.true))

pub returns : goal.returns
returns c =
    let whole : c.loop-text.text-index ≡ length c.args.texts.now = omega arith in
    sym (none_found (same_codes c.args.columns.now) (λ (text : Bor (List ℕ)). text.now) c.args.texts.now
    (subst (λ (i : ℕ). list_any (λ (text : Bor (List ℕ)). same_codes c.args.columns.now text.now) (take i c.args.texts.now) ≡ false) whole c.loop-text.invariant))
