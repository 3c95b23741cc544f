-- The sectors of runs, one run after another.
use Rattle.std.proofs.Common.{◌≡◌, ℕ, zero, suc, ◌+◌, ◌-◌, ◌<◌, ◌≤◌, List, [], ◌∷◌, ◌++◌, length, slice_get, Some, refl, sym, ap, subst, ◌∙◌, arith, length-append}
use Rattle.std.specs.List.{All, range_with_len}
use Rattle.std.proofs.lemmas.List.{get_or-append-add}
use Rattle.std.proofs.lemmas.List.Elements.{All-contains}
use Rattle.std.proofs.lemmas.List.FromFn.{length-range_with_len}
use Rattle.s3_store.specs.declared.stretch.Stretch.{Stretch}
use Rattle.s3_store.specs.Stretches.{sectors_in}
use Rattle.s3_files.proofs.SectorLemmas.{contains-got}

slice_get-range : (a n i : ℕ) → i < n → slice_get (range_with_len a n) i ≡ Some (a + i)
slice_get-range a zero i h = absurd (omega arith)
slice_get-range a (suc n) zero h = ap Some (omega arith)
slice_get-range a (suc n) (suc i) h = slice_get-range (a + 1) n i (omega arith) ∙ ap Some (omega arith)

get-front : (xs ys : List ℕ) (i : ℕ) → i < length xs → slice_get (xs ++ ys) i ≡ slice_get xs i
get-front [] ys i h = absurd (omega arith)
get-front (x ∷ xs) ys zero h = refl
get-front (x ∷ xs) ys (suc i) h = get-front xs ys i (omega arith)

get-back : (xs ys : List ℕ) (i : ℕ) → length xs ≤ i → slice_get (xs ++ ys) i ≡ slice_get ys (i - length xs)
get-back [] ys i h = let same : i - 0 ≡ i = omega arith in ap (slice_get ys) (sym same)
get-back (x ∷ xs) ys zero h = absurd (omega arith)
get-back (x ∷ xs) ys (suc i) h = let same : suc i - suc (length xs) ≡ i - length xs = omega arith in get-back xs ys i (omega arith) ∙ ap (slice_get ys) (sym same)

-- a sector of the first run
pub in_first_run : (first : Stretch) (rest : List Stretch) (i : ℕ) → i < first.sectors → slice_get (sectors_in (first ∷ rest)) i ≡ Some (first.start + i)
in_first_run first rest i h =
    get-front (range_with_len first.start first.sectors) (sectors_in rest) i (omega (arith, length-range_with_len first.start first.sectors))
    ∙ slice_get-range first.start first.sectors i h

-- one of a later run
pub in_later_run : (first : Stretch) (rest : List Stretch) (i : ℕ) → first.sectors ≤ i → slice_get (sectors_in (first ∷ rest)) i ≡ slice_get (sectors_in rest) (i - first.sectors)
in_later_run first rest i h =
    get-back (range_with_len first.start first.sectors) (sectors_in rest) i (omega (arith, length-range_with_len first.start first.sectors))
    ∙ ap (λ n. slice_get (sectors_in rest) (i - n)) (length-range_with_len first.start first.sectors)

pub length-runs : (first : Stretch) (rest : List Stretch) → length (sectors_in (first ∷ rest)) ≡ first.sectors + length (sectors_in rest)
length-runs first rest = length-append (range_with_len first.start first.sectors) (sectors_in rest) ∙ ap (λ n. n + length (sectors_in rest)) (length-range_with_len first.start first.sectors)

pub got-small : (xs : List ℕ) (i n : ℕ) → slice_get xs i ≡ Some n → All (λ m. m < 65536) xs → n < 65536
got-small xs i n h all = All-contains (λ m. m < 65536) xs n all (contains-got xs i n h)

pub small-later : (first : Stretch) (rest : List Stretch) → All (λ n. n < 65536) (sectors_in (first ∷ rest)) → All (λ n. n < 65536) (sectors_in rest)
small-later first rest all k d below =
    let xs = range_with_len first.start first.sectors in
    subst (λ n. n < 65536) (get_or-append-add xs (sectors_in rest) k d) (all (length xs + k) d (omega (arith, length-append xs (sectors_in rest))))

-- ---- the first run, and the others after it

pub first_fits : (runs : List Stretch) (first : Stretch) (rest : List Stretch) (i : ℕ) → runs ≡ first ∷ rest → i < first.sectors → All (λ n. n < 65536) (sectors_in runs) → first.start + i < 65536
first_fits runs first rest i are h all = got-small (sectors_in runs) i (first.start + i) (ap (λ l. slice_get (sectors_in l) i) are ∙ in_first_run first rest i h) all

pub first_is : (runs : List Stretch) (first : Stretch) (rest : List Stretch) (i : ℕ) → runs ≡ first ∷ rest → i < first.sectors → slice_get (sectors_in runs) i ≡ Some (first.start + i)
first_is runs first rest i are h = ap (λ l. slice_get (sectors_in l) i) are ∙ in_first_run first rest i h

pub later_within : (runs : List Stretch) (first : Stretch) (rest : List Stretch) (i : ℕ) → runs ≡ first ∷ rest → first.sectors ≤ i → i < length (sectors_in runs) → i - first.sectors < length (sectors_in rest)
later_within runs first rest i are h within =
    let long : length (sectors_in runs) ≡ first.sectors + length (sectors_in rest) = ap (λ l. length (sectors_in l)) are ∙ length-runs first rest in
    omega (arith, long)

pub later_small : (runs : List Stretch) (first : Stretch) (rest : List Stretch) → runs ≡ first ∷ rest → All (λ n. n < 65536) (sectors_in runs) → All (λ n. n < 65536) (sectors_in rest)
later_small runs first rest are all = small-later first rest (subst (λ l. All (λ n. n < 65536) (sectors_in l)) are all)

pub later_is : (runs : List Stretch) (first : Stretch) (rest : List Stretch) (i : ℕ) → runs ≡ first ∷ rest → first.sectors ≤ i → slice_get (sectors_in runs) i ≡ slice_get (sectors_in rest) (i - first.sectors)
later_is runs first rest i are h = ap (λ l. slice_get (sectors_in l) i) are ∙ in_later_run first rest i h
