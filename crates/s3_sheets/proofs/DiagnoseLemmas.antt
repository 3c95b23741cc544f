-- The diagnostics of a card, number by number.
use Rattle.std.proofs.Common.{◌≡◌, ℕ, ◌+◌, ◌<◌, ◌++◌, length, take, get_or, map, List, [], ◌∷◌, Bool, true, false, if◌then◌else◌, sym, ◌∙◌, ap}
use Rattle.std.specs.Prelude.{filter}
use Rattle.std.proofs.lemmas.List.{map-append, append_assoc}
use Rattle.std.proofs.lemmas.List.Elements.{filter_more}
use Rattle.s3_lines.specs.declared.diagnostic.Diagnostic.{Diagnostic}

more : (P : ℕ → Bool) (f : ℕ → Diagnostic) (xs : List ℕ) (i d : ℕ) → i < length xs → map f (filter P (take (i + 1) xs)) ≡ map f (filter P (take i xs)) ++ (if P (get_or xs i d) then f (get_or xs i d) ∷ [] else [])
more P f xs i d within = ap (map f) (filter_more P xs i d within) ∙ by (P (get_or xs i d))
  where
    kept : List ℕ
    kept = filter P (take i xs)

    n : ℕ
    n = get_or xs i d

    by : (b : Bool) → map f (kept ++ (if b then n ∷ [] else [])) ≡ map f kept ++ (if b then f n ∷ [] else [])
    by true = map-append f kept (n ∷ [])
    by false = map-append f kept []

-- one more number
pub one_more : (P : ℕ → Bool) (f : ℕ → Diagnostic) (xs : List ℕ) (i d : ℕ) (first before after : List Diagnostic) → i < length xs → before ≡ first ++ map f (filter P (take i xs))
    → after ≡ before ++ (if P (get_or xs i d) then f (get_or xs i d) ∷ [] else []) → after ≡ first ++ map f (filter P (take (i + 1) xs))
one_more P f xs i d first before after within so_far added =
    added ∙ ap (λ (l : List Diagnostic). l ++ (if P (get_or xs i d) then f (get_or xs i d) ∷ [] else [])) so_far
    ∙ append_assoc first (map f (filter P (take i xs))) (if P (get_or xs i d) then f (get_or xs i d) ∷ [] else [])
    ∙ ap (λ (l : List Diagnostic). first ++ l) (sym (more P f xs i d within))
