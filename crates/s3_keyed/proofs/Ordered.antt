-- A file with keys that is open: its entries on the pack and in memory are its key order.
use Rattle.std.proofs.Common.{◌≡◌, ◌≢◌, ℕ, zero, suc, ◌+◌, ◌-◌, ◌<◌, ◌≤◌, ◌⊎◌, inl, inr, true, false, nat_eq, List, [], ◌∷◌, length, take, map, slice_get, Option, Some, None, MatchOption, refl, sym, ap, subst, ◌∙◌, arith}
use Rattle.std.proofs.lemmas.Bool.{eqb-true, eq-eqb}
use Rattle.std.proofs.lemmas.List.{take_all}
use Rattle.std.specs.List.{range_with_len, position_from}
use Rattle.s3_keyed.specs.KeyOrder.{Entry, key_order, ascends, keys_in, is_good_index}
use Rattle.s3_keyed.specs.Inner.KeyOrder.{IsAscending}
use Rattle.s3_keyed.specs.Index.{Layout, entry_at, index_in}
use Rattle.s3_keyed.specs.Calls.{place_of_key, place_in, nth_by_key}
use Rattle.s3_keyed.specs.Inner.Keyed.{IsOrdered}
use Rattle.s3_keyed.proofs.Order.{In, In-from_get, get_from_In, In-key_order, In-key_order_back, In-inserts_left, In-inserts_right, In-inserts_cases, length-key_order}
use Rattle.s3_keyed.proofs.Goodness.{to_ascends, from_ascends, ascends_get, one_entry, good_order, good_ascends}
use Rattle.s3_keyed.proofs.Checked.{get-listed, listed}

-- ---- as it was checked

ordered_empty : (count limit : ℕ) (index : List Entry) (keys : List ℕ) → length keys ≡ count → is_good_index index keys ≡ true → IsOrdered count count limit index index [] keys
ordered_empty count limit index keys long good =
    let order = good_order index keys good in
    let up = from_ascends (key_order keys) (good_ascends index keys good) in
    let all : take count keys ≡ keys = take_all count keys (omega arith) in
    record {
      begun = omega arith;
      counted = omega arith;
      first = order ∙ ap key_order (sym all);
      index = order ∙ ap key_order (sym all);
      order = order;
      distinct = up;
      index_ascends = subst (λ l. ascends (keys_in l) ≡ true) (sym order) up;
      added_ascends = refl;
      short = λ k d below. absurd (omega arith);
    }

pub ordered_start : (count limit : ℕ) (index added : List Entry) (keys : List ℕ) → added ≡ [] → length keys ≡ count → is_good_index index keys ≡ true → IsOrdered count count limit index index added keys
ordered_start count limit index added keys none long good = subst (λ l. IsOrdered count count limit index index l keys) (sym none) (ordered_empty count limit index keys long good)

-- ---- the index as a function

pub get_index : (layout : Layout) (n i : ℕ) (bytes : List ℕ) → i < n → slice_get (index_in layout n bytes) i ≡ Some (entry_at layout bytes i)
unfolding index_in
get_index layout n i bytes h = get-listed (entry_at layout bytes) n i h

pub in_index : (layout : Layout) (n : ℕ) (bytes : List ℕ) (e : Entry) → In e (index_in layout n bytes) → (i : ℕ) × (i < n) × (e ≡ entry_at layout bytes i)
unfolding index_in
in_index layout n bytes e on =
    let place = get_from_In (map (entry_at layout bytes) (range_with_len 0 n)) e on in
    let is = listed (entry_at layout bytes) n place.0 e place.1 in
    (place.0, is.0, is.1)

pub index_ascending : (layout : Layout) (n : ℕ) (bytes : List ℕ) → ascends (keys_in (index_in layout n bytes)) ≡ true → IsAscending (entry_at layout bytes) n
index_ascending layout n bytes up i j less below =
    ascends_get (index_in layout n bytes) (to_ascends (index_in layout n bytes) up) i j (entry_at layout bytes i) (entry_at layout bytes j) less (get_index layout n i bytes (omega arith)) (get_index layout n j bytes below)

-- ---- a key is found

-- the place of an entry that is in the key order
pub entry_place_is : (start stop limit : ℕ) (first index added : List Entry) (keys : List ℕ) (e : Entry) → IsOrdered start stop limit first index added keys → In e index ⊎ In e added → (1 ≤ e.number) × (slice_get keys (e.number - 1) ≡ Some e.key)
entry_place_is start stop limit first index added keys e o on = In-key_order_back keys e (subst (In e) o.order (elim on [ inl early ↦ In-inserts_left e index added early | inr later ↦ In-inserts_right e index added later ]))

position_is : (k n at : ℕ) (keys : List ℕ) → slice_get keys at ≡ Some k → ((i : ℕ) → i < at → slice_get keys i ≡ Some k → ⊥) → position_from (nat_eq k) n keys ≡ Some (n + at)
position_is k n at [] here before = absurd cc
position_is k n zero (x ∷ keys) here before = let same : x ≡ k = cc in let t = eq-eqb k x (sym same) in let z : n + 0 ≡ n = omega arith in rw (t, z) refl
position_is k n (suc at) (x ∷ keys) here before = (elim (nat_eq k x) as (λ b. nat_eq k x ≡ b → position_from (nat_eq k) n (x ∷ keys) ≡ Some (n + suc at)) [
  | true ↦ λ t. absurd (before zero (omega arith) (ap Some (sym (eqb-true k x t))))
  | false ↦ λ t. let step : n + 1 + at ≡ n + suc at = omega arith in rw t (position_is k (n + 1) at keys here (λ i less got. before (suc i) (omega arith) got) ∙ ap Some step)
]) refl

position_none : (k n : ℕ) (keys : List ℕ) → ((i : ℕ) → slice_get keys i ≡ Some k → ⊥) → position_from (nat_eq k) n keys ≡ None
position_none k n [] none = refl
position_none k n (x ∷ keys) none = (elim (nat_eq k x) as (λ b. nat_eq k x ≡ b → position_from (nat_eq k) n (x ∷ keys) ≡ None) [
  | true ↦ λ t. absurd (none zero (ap Some (sym (eqb-true k x t))))
  | false ↦ λ t. rw t (position_none k (n + 1) keys (λ i got. none (suc i) got))
]) refl

-- each key is at one place
pub place_is : (keys : List ℕ) (at k : ℕ) → ascends (keys_in (key_order keys)) ≡ true → slice_get keys at ≡ Some k → place_of_key k keys ≡ Some at
place_is keys at k up here =
    let z : 0 + at ≡ at = omega arith in
    position_is k 0 at keys here (λ i less got.
    let same = one_entry (key_order keys) (record { key = k; number = i + 1 }) (record { key = k; number = at + 1 }) (to_ascends (key_order keys) up) (In-key_order keys i k got) (In-key_order keys at k here) refl in
    let number : i + 1 ≡ at + 1 = ap (λ e. e.number) same in omega arith)
    ∙ ap Some z

pub found_place : (start stop limit : ℕ) (first index added : List Entry) (keys : List ℕ) (key number : ℕ) → IsOrdered start stop limit first index added keys → In (record { key = key; number = number }) index ⊎ In (record { key = key; number = number }) added → place_of_key key keys ≡ Some (number - 1)
found_place start stop limit first index added keys key number o on = place_is keys (number - 1) key o.distinct (entry_place_is start stop limit first index added keys (record { key = key; number = number }) o on).1

pub no_place : (start stop limit : ℕ) (first index added : List Entry) (keys : List ℕ) (key : ℕ) → IsOrdered start stop limit first index added keys → ((e : Entry) → In e index → e.key ≡ key → ⊥) → ((e : Entry) → In e added → e.key ≡ key → ⊥) → place_of_key key keys ≡ None
no_place start stop limit first index added keys key o not_there not_added = position_none key 0 keys (λ i got.
    let e : Entry = record { key = key; number = i + 1 } in
    elim (In-inserts_cases e index added (subst (In e) (sym o.order) (In-key_order keys i key got))) [
      | inl early ↦ not_there e early refl
      | inr later ↦ not_added e later refl
    ])

-- the same statement, in the form of the searches
pub index_has : (layout : Layout) (n i : ℕ) (bytes : List ℕ) (e : Entry) → i < n → entry_at layout bytes i ≡ e → In e (index_in layout n bytes)
index_has layout n i bytes e below is = In-from_get (index_in layout n bytes) i e (get_index layout n i bytes below ∙ ap Some is)

pub index_lacks : (layout : Layout) (n : ℕ) (bytes : List ℕ) (key : ℕ) → ((i : ℕ) → i < n → (entry_at layout bytes i).key ≡ key → ⊥) → (e : Entry) → In e (index_in layout n bytes) → e.key ≡ key → ⊥
index_lacks layout n bytes key none e on same = let at = in_index layout n bytes e on in none at.0 at.1 (ap (λ x. x.key) (sym at.2) ∙ same)

-- ---- the n-th by key

got_within : (es : List Entry) (n : ℕ) → length es ≤ n → slice_get es n ≡ None
got_within [] n h = refl
got_within (e ∷ es) zero h = absurd (omega arith)
got_within (e ∷ es) (suc n) h = got_within es n (omega arith)

pub nth_is : (keys : List ℕ) (first : List Entry) (n : ℕ) (e : Entry) → first ≡ key_order keys → slice_get first n ≡ Some e → nth_by_key keys n ≡ Some (e.number - 1)
unfolding nth_by_key
nth_is keys first n e is got = ap place_in (ap (λ l. slice_get l n) (sym is) ∙ got)

pub nth_none : (keys : List ℕ) (n : ℕ) → length keys ≤ n → nth_by_key keys n ≡ None
unfolding nth_by_key
nth_none keys n few = ap place_in (got_within (key_order keys) n (omega (arith, length-key_order keys)))

pub number_some : (keys : List ℕ) (first : List Entry) (n : ℕ) (e : Entry) → first ≡ key_order keys → slice_get first n ≡ Some e → 1 ≤ e.number
number_some keys first n e is got = (In-key_order_back keys e (subst (In e) is (In-from_get first n e got))).0

-- ---- what the searches answer

-- the index, halved
pub index_hit : (layout : Layout) (n key : ℕ) (bytes : List ℕ) (found : Option ℕ) (number : ℕ) → found ≡ Some number
    → MatchOption found ((i : ℕ) → i < n → (entry_at layout bytes i).key ≢ key) (λ number. (i : ℕ) × (i < n) × (entry_at layout bytes i ≡ record { key = key; number = number }))
    → In (record { key = key; number = number }) (index_in layout n bytes)
index_hit layout n key bytes None number is answer = absurd cc
index_hit layout n key bytes (Some other) number is answer =
    let same : other ≡ number = cc in
    let e : Entry = record { key = key; number = other } in
    subst (λ m. In (record { key = key; number = m }) (index_in layout n bytes)) same (index_has layout n answer.0 bytes e answer.1 answer.2)

pub index_miss : (layout : Layout) (n key : ℕ) (bytes : List ℕ) (found : Option ℕ) → found ≡ None
    → MatchOption found ((i : ℕ) → i < n → (entry_at layout bytes i).key ≢ key) (λ number. (i : ℕ) × (i < n) × (entry_at layout bytes i ≡ record { key = key; number = number }))
    → (e : Entry) → In e (index_in layout n bytes) → e.key ≡ key → ⊥
index_miss layout n key bytes None is answer = index_lacks layout n bytes key answer
index_miss layout n key bytes (Some number) is answer = absurd cc

-- the entries in memory
pub memory_hit : (es : List Entry) (key : ℕ) (found : Option ℕ) (number : ℕ) → found ≡ Some number
    → MatchOption found ((i : ℕ) (e : Entry) → slice_get es i ≡ Some e → e.key ≢ key) (λ number. (i : ℕ) × (slice_get es i ≡ Some (record { key = key; number = number })))
    → In (record { key = key; number = number }) es
memory_hit es key None number is answer = absurd cc
memory_hit es key (Some other) number is answer =
    let same : other ≡ number = cc in
    subst (λ m. In (record { key = key; number = m }) es) same (In-from_get es answer.0 (record { key = key; number = other }) answer.1)

pub memory_miss : (es : List Entry) (key : ℕ) (found : Option ℕ) → found ≡ None
    → MatchOption found ((i : ℕ) (e : Entry) → slice_get es i ≡ Some e → e.key ≢ key) (λ number. (i : ℕ) × (slice_get es i ≡ Some (record { key = key; number = number })))
    → (e : Entry) → In e es → e.key ≡ key → ⊥
memory_miss es key None is answer e on = let at = get_from_In es e on in answer at.0 e at.1
memory_miss es key (Some number) is answer e on = absurd cc

pub length_started : (started : ℕ) (keys : List ℕ) (n : ℕ) → started ≤ n → length (take started keys) ≤ n
length_started started keys n few = let short = shorter started keys in omega arith
  where
    shorter : (n : ℕ) (xs : List ℕ) → length (take n xs) ≤ n
    shorter zero xs = omega arith
    shorter (suc n) [] = omega arith
    shorter (suc n) (x ∷ xs) = let rest = shorter n xs in omega arith
