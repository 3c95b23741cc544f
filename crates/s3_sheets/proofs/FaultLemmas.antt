-- Lemmas about the diagnostics of a card by its rules.
use Rattle.std.proofs.Common.{◌≡◌, ℕ, ◌+◌, ◌<◌, List, [], ◌∷◌, Bool, true, false, refl, sym, ◌∙◌, ap, arith, length, take, get_or}
use Rattle.std.specs.Prelude.{◌||◌, map}
use Rattle.std.specs.List.{list_any}
use Rattle.std.proofs.lemmas.List.{map-append, take_more, take_all}
use Rattle.std.proofs.lemmas.List.Folds.{list_any-append}
use Rattle.s3_sheets.specs.Rules.{rule_faults, both_faults, broken_by}
use Rattle.s3_sheets.specs.Rules as spec
use Rattle.s3_sheets.specs.Inner.RuleViews.{rule_view}
use Rattle.s3_sheets.specs.declared.faults.Faults.{Faults}
use Rattle.s3_sheets.specs.declared.rules.Rule.{Rule}

or_false : (a b : Bool) → (a || (b || false)) ≡ (a || b)
or_false a true = refl
or_false a false = refl

-- a search among one more element
any_more : {X Y : Type 0} (q : Y → Bool) (v : X → Y) (xs : List X) (i : ℕ) (d : X) → i < length xs
    → list_any q (map v (take (i + 1) xs)) ≡ (list_any q (map v (take i xs)) || q (v (get_or xs i d)))
any_more q v xs i d in' =
    ap (λ (ys : List _). list_any q (map v ys)) (take_more xs i d in')
    ∙ (ap (list_any q) (map-append v (take i xs) (get_or xs i d ∷ []))
    ∙ (list_any-append q (map v (take i xs)) (v (get_or xs i d) ∷ []) ∙ or_false (list_any q (map v (take i xs))) (q (v (get_or xs i d)))))

pub broken_next : (rules : List Rule) (card : List ℕ) (i : ℕ) (d : Rule) (old new more : Faults)
    → old ≡ broken_by (map rule_view (take i rules)) card → i < length rules → more ≡ rule_faults card (rule_view (get_or rules i d)) → new ≡ both_faults old more
    → new ≡ broken_by (map rule_view (take (i + 1) rules)) card
broken_next rules card i d old new more so_far in' by_rule both =
    both
    ∙ (ap (λ f. both_faults f more) so_far
    ∙ (ap (both_faults (broken_by (map rule_view (take i rules)) card)) by_rule
    ∙ λ j. record {
      entry = sym (any_more (λ (rule : spec.Rule). (rule_faults card rule).entry) rule_view rules i d in') j;
      name = sym (any_more (λ (rule : spec.Rule). (rule_faults card rule).name) rule_view rules i d in') j;
      number = sym (any_more (λ (rule : spec.Rule). (rule_faults card rule).number) rule_view rules i d in') j;
    }))

pub broken_whole : (rules : List Rule) (card : List ℕ) (i : ℕ) (faults : Faults) → faults ≡ broken_by (map rule_view (take i rules)) card → i ≡ length rules
    → faults ≡ broken_by (map rule_view rules) card
broken_whole rules card i faults so_far e =
    so_far ∙ ap (λ (ys : List Rule). broken_by (map rule_view ys) card) (take_all i rules (omega (arith, e)))
