-- Changes laid over the bytes of a record, one byte after another.
use Rattle.std.proofs.Common.{◌≡◌, ◌≤◌, ◌<◌, ◌++◌, ◌+◌, ℕ, zero, suc, List, [], ◌∷◌, take, drop, length, slice_index_or, refl, ap, sym, ◌∙◌, add-one, arith, ◌⊎◌, inl, inr, min}
use Rattle.std.specs.Prelude.{Bool, true, false, Option, Some, None, if◌then◌else◌, slice_get, slice_set, unwrap_or, zip}
use Rattle.std.specs.Option.{option_flatten}
use Rattle.std.proofs.Math.Seq.{drop-nil}
use Rattle.std.proofs.lemmas.List.{drop_all, length-map, take-append-drop}
use Rattle.std.proofs.lemmas.Slice.Zip.{length-zip}
use Rattle.s3_job_files.specs.Inner.Records.{change_of, changes_of}
use Rattle.s3_job_files.specs.Records.{overlaid}

-- the bytes below a place are as they are to be, and the others are left
abbrev pub laid_to : List (Option ℕ) → List ℕ → (place : ℕ) → List ℕ
laid_to changes bytes place = take place bytes ++ overlaid (drop place changes) (drop place bytes)

laid_suc : (changes : List (Option ℕ)) (bytes : List ℕ) (i put : ℕ) → i < length bytes → put ≡ unwrap_or (option_flatten (slice_get changes i)) (slice_index_or bytes i 0)
    → laid_to changes (slice_set bytes i put) (suc i) ≡ laid_to changes bytes i
laid_suc changes [] i put within is = absurd (omega arith)
laid_suc [] (byte ∷ bytes) zero put within is = ap (λ b. b ∷ bytes) is
laid_suc (None ∷ changes) (byte ∷ bytes) zero put within is = ap (λ b. b ∷ overlaid changes bytes) is
laid_suc (Some change ∷ changes) (byte ∷ bytes) zero put within is = ap (λ b. b ∷ overlaid changes bytes) is
laid_suc [] (byte ∷ bytes) (suc i) put within is =
    ap (λ bs. byte ∷ bs) (laid_suc [] bytes i put (omega arith) is ∙ ap (λ changes. take i bytes ++ overlaid changes (drop i bytes)) (drop-nil i))
laid_suc (change ∷ changes) (byte ∷ bytes) (suc i) put within is = ap (λ bs. byte ∷ bs) (laid_suc changes bytes i put (omega arith) is)

-- what codes and marks say of a place
told_at : (codes : List ℕ) (put : List Bool) (i : ℕ) → i < length codes → i < length put → slice_get (changes_of codes put) i ≡ Some (change_of (slice_index_or codes i 0, slice_index_or put i false))
told_at [] put i coded marked = absurd (omega (arith, coded))
told_at (code ∷ codes) [] i coded marked = absurd (omega (arith, marked))
told_at (code ∷ codes) (mark ∷ put) zero coded marked = refl
told_at (code ∷ codes) (mark ∷ put) (suc i) coded marked = told_at codes put i (omega (arith, coded)) (omega (arith, marked))

changed_byte : (code : ℕ) (is_put : Bool) (old : ℕ) → unwrap_or (change_of (code, is_put)) old ≡ (if is_put then code else old)
changed_byte code true old = refl
changed_byte code false old = refl

-- one more of them is
pub laid_one : (codes : List ℕ) (put : List Bool) (bytes : List ℕ) (i changed : ℕ) → i < length codes → i < length put → i < length bytes
    → changed ≡ (if slice_index_or put i false then slice_index_or codes i 0 else slice_index_or bytes i 0)
    → laid_to (changes_of codes put) (slice_set bytes i changed) (i + 1) ≡ laid_to (changes_of codes put) bytes i
laid_one codes put bytes i changed coded marked within is =
    let old : ℕ = slice_index_or bytes i 0 in
    rw add-one (laid_suc (changes_of codes put) bytes i changed within
    (is ∙ sym (ap (λ found. unwrap_or (option_flatten found) old) (told_at codes put i coded marked) ∙ changed_byte (slice_index_or codes i 0) (slice_index_or put i false) old)))

-- all of them are
overlaid_none : (changes : List (Option ℕ)) → overlaid changes [] ≡ []
overlaid_none [] = refl
overlaid_none (change ∷ changes) = refl

pub laid_all : (changes : List (Option ℕ)) (bytes : List ℕ) (n : ℕ) → (length changes ≤ n) ⊎ (length bytes ≤ n) → laid_to changes bytes n ≡ bytes
laid_all changes bytes n (inl past) = ap (λ l. take n bytes ++ overlaid l (drop n bytes)) (drop_all n changes past) ∙ take-append-drop n bytes
laid_all changes bytes n (inr past) =
    ap (λ l. take n bytes ++ overlaid (drop n changes) l) (drop_all n bytes past)
    ∙ (ap (λ l. take n bytes ++ l) (overlaid_none (drop n changes) ∙ sym (drop_all n bytes past)) ∙ take-append-drop n bytes)

-- ---- as far as all go
-- a place that all of them have
pub record HaveAll (i codes put bytes : ℕ) : Type 0 where
  pub coded : i < codes
  pub marked : i < put
  pub within : i < bytes

pub have_all : (i count codes put old now : ℕ) → i < count → count ≡ min (min codes put) old → now ≡ old → HaveAll i codes put now
have_all i count codes put old now below is long = record {
  coded = omega (arith, below, is);
  marked = omega (arith, below, is);
  within = omega (arith, below, is, long);
}

either : (a b : ℕ) → (a ≤ b) ⊎ (b ≤ a)
either zero b = inl (omega arith)
either (suc a) zero = inr (omega arith)
either (suc a) (suc b) = elim (either a b) [
  | inl less ↦ inl (omega (arith, less))
  | inr more ↦ inr (omega (arith, more))
]

past_one : (i count changes old now : ℕ) → count ≤ i → count ≡ min changes old → now ≡ old → (changes ≤ i) ⊎ (now ≤ i)
past_one i count changes old now past is long = elim (either changes old) [
  | inl less ↦ inl (omega (arith, less, past, is, long))
  | inr more ↦ inr (omega (arith, more, past, is, long))
]

count_of_changes : (codes : List ℕ) (put : List Bool) → length (changes_of codes put) ≡ min (length codes) (length put)
count_of_changes codes put = length-map (zip codes put) change_of ∙ length-zip codes put

pub past_all : (codes : List ℕ) (put : List Bool) (i count old now : ℕ) → count ≤ i → count ≡ min (min (length codes) (length put)) old → now ≡ old → (length (changes_of codes put) ≤ i) ⊎ (now ≤ i)
past_all codes put i count old now past is long = past_one i count (length (changes_of codes put)) old now past (is ∙ ap (λ n. min n old) (sym (count_of_changes codes put))) long
