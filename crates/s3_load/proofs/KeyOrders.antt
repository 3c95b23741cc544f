-- Records in the order of their keys.
use Rattle.std.proofs.Common.{◌≡◌, ℕ, zero, suc, ◌+◌, ◌-◌, ◌*◌, ◌^◌, ◌<◌, ◌≤◌, ◌⊎◌, refl, arith, sym, ◌∙◌, ap, ap₂, subst, inl, inr, true, false, cond, List, [], ◌∷◌, ◌++◌, length, map, get_or, nat_le, nat_lt, drop, append-nil, append_assoc}
use Rattle.std.specs.Cmp.Lexicographic.{slice_cmp}
use Rattle.std.specs.List.{All, AllPairs}
use Rattle.std.specs.Ordering.{nat_cmp, ordering_then}
use Rattle.std.specs.declared.cmp.Ordering.{Ordering}
use Rattle.std.proofs.Math.Nat.{mul-le-mul_left}
use Rattle.std.proofs.lemmas.Bool.Decides.{nat_tests}
use Rattle.std.specs.declared.cmp.Ordering.TheVariants.{Less, Equal, Greater}
use Rattle.std.proofs.lemmas.List.{ext_get_or, get_or-map, length-map}
use Rattle.std.proofs.lemmas.Bool.{cases_order, leb-true}
use Rattle.s3_store.specs.Bytes.{part}
use Rattle.s3_files.proofs.PartLemmas.{length-part}
use Rattle.s3_keyed.specs.Index.{KeyPlace, key_of, keys_of}
use Rattle.s3_keyed.specs.KeyOrder.{Entry, entries_from, insert_entries, insert_entry, key_order, number_of}
use Rattle.s3_lines.specs.declared.sheet.KeyField.{KeyField}
use Rattle.s3_unload.specs.Inner.Ordered.{by_key}
use Rattle.s3_load.specs.Inner.KeyOrder.{key_in}
use Rattle.s3_load.proofs.Bytes.{AreBytes, bytes_dropped, bytes_taken, number_of_fits}

-- ---- keys that ascend
entries_counted : (n : ℕ) (keys : List ℕ) → length (entries_from n keys) ≡ length keys
entries_counted n [] = refl
entries_counted n (k ∷ keys) = ap suc (entries_counted (n + 1) keys)

abbrev pub Ascend : List ℕ → Type 0
Ascend keys = (i j : ℕ) → i < j → j < length keys → get_or keys i 0 < get_or keys j 0

-- no key of the entries is above this one
unfoldable AtMost : ℕ → List Entry → Type 0
AtMost k [] = Unit {0}
AtMost k (e ∷ es) = (e.key ≤ k) × AtMost k es

at_most_weaker : (m k : ℕ) (es : List Entry) → m ≤ k → AtMost m es → AtMost k es
unfolding AtMost
at_most_weaker m k [] le h = tt
at_most_weaker m k (e ∷ es) le h = (omega (arith, le, h.0), at_most_weaker m k es le h.1)

at_most_more : (k : ℕ) (es : List Entry) (e : Entry) → e.key ≤ k → AtMost k es → AtMost k (es ++ e ∷ [])
unfolding AtMost
at_most_more k [] e le h = (le, tt)
at_most_more k (f ∷ es) e le h = (h.0, at_most_more k es e le h.1)

insert_last : (e : Entry) (es : List Entry) → AtMost e.key es → insert_entry e es ≡ es ++ e ∷ []
unfolding AtMost
insert_last e [] h = refl
insert_last e (f ∷ es) h =
    let not_below : nat_lt e.key f.key ≡ false = grind (arith, h.0) in
    ap (λ b. cond b (e ∷ f ∷ es) (f ∷ insert_entry e es)) not_below ∙ ap (λ l. f ∷ l) (insert_last e es h.1)

-- from this one on, none of the keys is below the one before it
unfoldable Climb : ℕ → List ℕ → Type 0
Climb m [] = Unit {0}
Climb m (k ∷ keys) = (m ≤ k) × Climb k keys

climbs : (m : ℕ) (keys : List ℕ) → ((i : ℕ) → i < length keys → m ≤ get_or keys i 0) → Ascend keys → Climb m keys
unfolding Climb
climbs m [] low up = tt
climbs m (k ∷ keys) low up = (low 0 (omega arith), climbs k keys (λ i h. let less = up 0 (suc i) (omega arith) (omega (arith, h)) in omega (arith, less)) (λ i j less within. up (suc i) (suc j) (omega (arith, less)) (omega (arith, within))))

all_inserted : (m : ℕ) (es : List Entry) (n : ℕ) (keys : List ℕ) → AtMost m es → Climb m keys → insert_entries es (entries_from n keys) ≡ es ++ entries_from n keys
unfolding Climb
all_inserted m es n [] most climb = sym (append-nil es)
all_inserted m es n (k ∷ keys) most climb =
    let e : Entry = record { key = k; number = n } in
    let rest = entries_from (n + 1) keys in
    let below = at_most_weaker m k es climb.0 most in
    ap (λ l. insert_entries l rest) (insert_last e es below) ∙ all_inserted k (es ++ e ∷ []) (n + 1) keys (at_most_more k es e (omega arith) below) climb.1 ∙ append_assoc es (e ∷ []) rest

none_at_most : AtMost 0 []
unfolding AtMost
none_at_most = tt

ascending_order : (keys : List ℕ) → Ascend keys → key_order keys ≡ entries_from 1 keys
unfolding key_order
ascending_order keys up = all_inserted 0 [] 1 keys none_at_most (climbs 0 keys (λ i h. omega arith) up)

first_entry : Entry
first_entry = record { key = 0; number = 0 }

number_at : (n : ℕ) (keys : List ℕ) (i : ℕ) → i < length keys → (get_or (entries_from n keys) i first_entry).number ≡ n + i
number_at n [] i h = absurd (omega (arith, h))
number_at n (k ∷ keys) zero h = omega arith
number_at n (k ∷ keys) (suc i) h = let rest = number_at (n + 1) keys i (omega (arith, h)) in omega (arith, rest)

pub in_place : (place : KeyPlace) (records : List (List ℕ)) → Ascend (keys_of place records) → by_key place records ≡ records
unfolding by_key keys_of
in_place place records up =
    let keys = map (key_of place) records in
    let counted : length keys ≡ length records = length-map records (key_of place) in
    let taken : Entry → List ℕ = λ entry. get_or records (entry.number - 1) [] in
    let long : length (entries_from 1 keys) ≡ length records = entries_counted 1 keys ∙ counted in
    ap (map taken) (ascending_order keys up)
    ∙ ext_get_or [] (map taken (entries_from 1 keys)) records (length-map (entries_from 1 keys) taken ∙ long) (λ i low.
    let within : i < length (entries_from 1 keys) = omega (arith, low, length-map (entries_from 1 keys) taken) in
    let number = number_at 1 keys i (omega (arith, within, entries_counted 1 keys)) in
    let at : (get_or (entries_from 1 keys) i first_entry).number - 1 ≡ i = omega (arith, number) in
    get_or-map taken (entries_from 1 keys) i first_entry [] within ∙ ap (λ k. get_or records k []) at)

-- ---- keys as characters, and as numbers
leads : (x y p u v : ℕ) → x < y → u < p → x * p + u < y * p + v
leads x y p u v h fits = let up : x + 1 ≤ y = omega arith in omega (arith, mul-le-mul_left p up)

less_cases : (x y : ℕ) (rest : Ordering) → ordering_then (nat_cmp x y) rest ≡ Less → (x < y) ⊎ ((x ≡ y) × (rest ≡ Less))
less_cases x y rest h = elim (cases_order x y) [
  | inl same ↦ let e : nat_cmp x y ≡ Equal = grind (arith, nat_tests, same) in inr (same, (rw e at h))
  | inr apart ↦ elim apart [
    | inl less ↦ inl less
    | inr more ↦ let e : nat_cmp x y ≡ Greater = grind (arith, nat_tests, more) in let g : Greater ≡ Less = rw e at h in absurd cc
  ]
]

-- bytes of one length: the less by characters is the less as a number
less_number : (xs ys : List ℕ) → length xs ≡ length ys → AreBytes xs → AreBytes ys → slice_cmp nat_cmp xs ys ≡ Less → number_of xs < number_of ys
unfolding number_of AreBytes
less_number [] [] long h k less = absurd cc
less_number [] (y ∷ ys) long h k less = absurd (omega arith)
less_number (x ∷ xs) [] long h k less = absurd (omega arith)
less_number (x ∷ xs) (y ∷ ys) long h k less =
    let same : length xs ≡ length ys = omega (arith, long) in
    let fits = number_of_fits xs h.1 in
    subst (λ n. x * 256 ^ length xs + number_of xs < y * 256 ^ n + number_of ys) same
    (elim (less_cases x y (slice_cmp nat_cmp xs ys) less) [
      | inl low ↦ leads x y (256 ^ length xs) (number_of xs) (number_of ys) low fits
      | inr tied ↦ let rest = less_number xs ys same h.1 k.1 tied.1 in subst (λ z. x * 256 ^ length xs + number_of xs < z * 256 ^ length xs + number_of ys) tied.0 (omega (arith, rest))
    ])

part_bytes : (bytes : List ℕ) (at width : ℕ) → AreBytes bytes → AreBytes (part bytes at width)
part_bytes bytes at width h = bytes_taken width (drop at bytes) (bytes_dropped at bytes h)

pub key_below : (key : KeyField) (n : ℕ) (one other : List ℕ) → length one ≡ n → length other ≡ n → AreBytes one → AreBytes other → slice_cmp nat_cmp (key_in key one) (key_in key other) ≡ Less
    → number_of (part one (key.start - 1) key.length) < number_of (part other (key.start - 1) key.length)
key_below key n one other long long_too h k less =
    (elim (nat_le (key.start - 1 + key.length) n) as (λ b. nat_le (key.start - 1 + key.length) n ≡ b → slice_cmp nat_cmp (cond b (part one (key.start - 1) key.length) []) (cond b (part other (key.start - 1) key.length) []) ≡ Less → number_of (part one (key.start - 1) key.length) < number_of (part other (key.start - 1) key.length)) [
      | true ↦ λ fits now.
          let lies = leb-true (key.start - 1 + key.length) n fits in
          let a = length-part (key.start - 1) key.length one (omega (arith, lies, long)) in
          let b = length-part (key.start - 1) key.length other (omega (arith, lies, long_too)) in
          less_number (part one (key.start - 1) key.length) (part other (key.start - 1) key.length) (a ∙ sym b) (part_bytes one (key.start - 1) key.length h) (part_bytes other (key.start - 1) key.length k) now
      | false ↦ λ fits now. absurd cc
    ]) refl (subst (λ m. slice_cmp nat_cmp (cond (nat_le (key.start - 1 + key.length) n) (part one (key.start - 1) key.length) []) (cond (nat_le (key.start - 1 + key.length) m) (part other (key.start - 1) key.length) []) ≡ Less) long_too
    (subst (λ m. slice_cmp nat_cmp (cond (nat_le (key.start - 1 + key.length) m) (part one (key.start - 1) key.length) []) (key_in key other) ≡ Less) long less))

pub numbers_ascend : (key : KeyField) (place : KeyPlace) (n : ℕ) (records : List (List ℕ)) → place.start ≡ key.start → place.length ≡ key.length → All (λ bytes. length bytes ≡ n) records → All AreBytes records
    → AllPairs (λ one other. slice_cmp nat_cmp (key_in key one) (key_in key other) ≡ Less) records → Ascend (keys_of place records)
unfolding keys_of
numbers_ascend key place n records start width long bytes pairs = λ i j less within.
    let counted = length-map records (key_of place) in
    let low_j : j < length records = omega (arith, within, counted) in
    let low_i : i < length records = omega (arith, low_j, less) in
    let below = key_below key n (get_or records i []) (get_or records j []) (long i [] low_i) (long j [] low_j) (bytes i [] low_i) (bytes j [] low_j) (pairs i j [] less low_j) in
    let same : (x : List ℕ) → number_of (part x (key.start - 1) key.length) ≡ key_of place x = λ x. ap₂ (λ s w. number_of (part x (s - 1) w)) (sym start) (sym width) in
    let a = get_or-map (key_of place) records i [] 0 low_i in
    let b = get_or-map (key_of place) records j [] 0 low_j in
    subst (λ m. get_or (map (key_of place) records) i 0 < m) (sym b) (subst (λ m. m < key_of place (get_or records j [])) (sym a)
    (subst (λ m. key_of place (get_or records i []) < m) (same (get_or records j [])) (subst (λ m. m < number_of (part (get_or records j []) (key.start - 1) key.length)) (same (get_or records i [])) below)))
