-- Lists that are filled by a walk over lines.
use Rattle.std.proofs.Common.{◌≡◌, ℕ, ◌+◌, ◌<◌, ◌≤◌, ◌++◌, length, drop, get_or, suc, List, [], ◌∷◌, sym, ◌∙◌, ap, arith, drop-cons}
use Rattle.std.proofs.Math.ListN.{drop_of_length-le}
use Rattle.std.proofs.lemmas.List.{append_assoc, append-nil}

-- what a line gives is added
pub walk_next : {A L E : Type 0} (on : A → L → List E) (behind : A → L → A) (walk : A → List L → List E)
    → ((at : A) (line : L) (lines : List L) → walk at (line ∷ lines) ≡ on (behind at line) line ++ walk (behind at line) lines)
    → (all old new : List E) (at next : A) (lines : List L) (i : ℕ) (d : L) → i < length lines → next ≡ behind at (get_or lines i d)
    → new ≡ old ++ on next (get_or lines i d) → all ≡ old ++ walk at (drop i lines) → all ≡ new ++ walk next (drop (i + 1) lines)
walk_next on behind walk step all old new at next lines i d within is pushed kept =
    let here = get_or lines i d in
    let rest = drop (i + 1) lines in
    let further : suc i ≡ i + 1 = omega arith in
    let split : drop i lines ≡ here ∷ rest = drop-cons lines i d within ∙ ap (λ n. here ∷ drop n lines) further in
    let parted : walk at (drop i lines) ≡ on next here ++ walk next rest =
    ap (walk at) split ∙ (step at here rest ∙ ap (λ a. on a here ++ walk a rest) (sym is)) in
    kept ∙ (ap (λ r. old ++ r) parted ∙ (sym (append_assoc old (on next here) (walk next rest)) ∙ ap (λ n. n ++ walk next rest) (sym pushed)))

-- behind all lines all is there
pub walk_ended : {A L E : Type 0} (walk : A → List L → List E) → ((at : A) → walk at [] ≡ [])
    → (all old : List E) (at : A) (lines : List L) (i : ℕ) → length lines ≤ i → all ≡ old ++ walk at (drop i lines) → old ≡ all
walk_ended walk ends all old at lines i past kept =
    sym (kept ∙ (ap (λ r. old ++ walk at r) (drop_of_length-le lines past) ∙ (ap (λ r. old ++ r) (ends at) ∙ append-nil old)))
