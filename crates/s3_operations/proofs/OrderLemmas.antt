-- The order of texts, code by code.
use Rattle.std.proofs.Common.{◌≡◌, ℕ, zero, suc, ◌+◌, ◌-◌, ◌<◌, ◌≤◌, List, [], ◌∷◌, ◌++◌, length, drop, get_or, replicate, true, false, refl, sym, ◌∙◌, ap, arith, max}
use Rattle.std.specs.declared.cmp.Ordering.{Ordering}
use Rattle.std.specs.declared.cmp.Ordering.TheVariants.{Less, Equal, Greater}
use Rattle.std.specs.Ordering.{nat_cmp, ordering_then, is_ne}
use Rattle.std.proofs.lemmas.Bool.{true≢false}
use Rattle.std.specs.Cmp.Lexicographic.{slice_cmp}
use Rattle.std.proofs.lemmas.List.{drop_more, drop_all, length-append, length-replicate}
use Rattle.s3_meaning.specs.Calculating.{padded}

blanks_at : (n i : ℕ) → ◌≡◌ {A = ℕ} (get_or (replicate n 0x40) i 0x40) 0x40
blanks_at zero i = refl
blanks_at (suc n) zero = refl
blanks_at (suc n) (suc i) = blanks_at n i

-- a text padded with blanks has the same codes
code_in : (text : List ℕ) (n i : ℕ) → get_or (text ++ replicate n 0x40) i 0x40 ≡ get_or text i 0x40
code_in [] n i = blanks_at n i
code_in (c ∷ cs) n zero = refl
code_in (c ∷ cs) n (suc i) = code_in cs n i

padded_length : (text : List ℕ) (n : ℕ) → length (padded n text) ≡ max (length text) n
padded_length text n = omega (arith, length-append text (replicate (n - length text) 0x40), length-replicate {A = ℕ} (n - length text) 0x40)

one_code : (xs ys : List ℕ) (i : ℕ) → i < length xs → i < length ys
    → slice_cmp nat_cmp (drop i xs) (drop i ys) ≡ ordering_then (nat_cmp (get_or xs i 0x40) (get_or ys i 0x40)) (slice_cmp nat_cmp (drop (i + 1) xs) (drop (i + 1) ys))
one_code xs ys i in_xs in_ys = λ j. slice_cmp nat_cmp (drop_more xs i 0x40 in_xs j) (drop_more ys i 0x40 in_ys j)

one_padded : (a b : List ℕ) (i : ℕ) → i < max (length a) (length b)
    → slice_cmp nat_cmp (drop i (padded (length b) a)) (drop i (padded (length a) b))
    ≡ ordering_then (nat_cmp (get_or a i 0x40) (get_or b i 0x40)) (slice_cmp nat_cmp (drop (i + 1) (padded (length b) a)) (drop (i + 1) (padded (length a) b)))
one_padded a b i within =
    one_code (padded (length b) a) (padded (length a) b) i (omega (arith, padded_length a (length b), within)) (omega (arith, padded_length b (length a), within))
    ∙ (λ j. ordering_then (nat_cmp (code_in a (length b - length a) i j) (code_in b (length a - length b) i j)) (slice_cmp nat_cmp (drop (i + 1) (padded (length b) a)) (drop (i + 1) (padded (length a) b))))

-- two texts with equal codes up to a place, that place included
pub order_more : (a b : List ℕ) (i : ℕ) (order whole : Ordering) → i < max (length a) (length b) → order ≡ nat_cmp (get_or a i 0x40) (get_or b i 0x40) → is_ne order ≡ false
    → slice_cmp nat_cmp (drop i (padded (length b) a)) (drop i (padded (length a) b)) ≡ whole
    → slice_cmp nat_cmp (drop (i + 1) (padded (length b) a)) (drop (i + 1) (padded (length a) b)) ≡ whole
order_more a b i order whole within is same before =
    ap (λ o. ordering_then o (slice_cmp nat_cmp (drop (i + 1) (padded (length b) a)) (drop (i + 1) (padded (length a) b)))) (sym (equal order same) ∙ is) ∙ (sym (one_padded a b i within) ∙ before)
  where
    equal : (o : Ordering) → is_ne o ≡ false → o ≡ Equal
    equal Less same = absurd (true≢false same)
    equal Equal same = refl
    equal Greater same = absurd (true≢false same)

-- two texts that differ at a place
pub order_found : (a b : List ℕ) (i : ℕ) (order whole : Ordering) → i < max (length a) (length b) → order ≡ nat_cmp (get_or a i 0x40) (get_or b i 0x40) → is_ne order ≡ true
    → slice_cmp nat_cmp (drop i (padded (length b) a)) (drop i (padded (length a) b)) ≡ whole → order ≡ whole
order_found a b i order whole within is differs before =
    decided order (slice_cmp nat_cmp (drop (i + 1) (padded (length b) a)) (drop (i + 1) (padded (length a) b))) differs
    ∙ (ap (λ o. ordering_then o (slice_cmp nat_cmp (drop (i + 1) (padded (length b) a)) (drop (i + 1) (padded (length a) b)))) is ∙ (sym (one_padded a b i within) ∙ before))
  where
    decided : (o rest : Ordering) → is_ne o ≡ true → o ≡ ordering_then o rest
    decided Less rest differs = refl
    decided Equal rest differs = absurd (true≢false (sym differs))
    decided Greater rest differs = refl

pub order_end : (a b : List ℕ) (i : ℕ) (whole : Ordering) → max (length a) (length b) ≤ i → slice_cmp nat_cmp (drop i (padded (length b) a)) (drop i (padded (length a) b)) ≡ whole → Equal ≡ whole
order_end a b i whole past before =
    sym (λ j. slice_cmp nat_cmp (drop_all i (padded (length b) a) (omega (arith, padded_length a (length b), past)) j) (drop_all i (padded (length a) b) (omega (arith, padded_length b (length a), past)) j)) ∙ before
