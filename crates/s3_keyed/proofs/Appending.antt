-- A record is appended: what is ordered stays so.
use Rattle.std.proofs.Common.{◌≡◌, ◌≢◌, ℕ, zero, suc, ◌+◌, ◌-◌, ◌*◌, ◌<◌, ◌≤◌, inl, inr, Bool, true, false, ◌&&◌, nat_lt, nat_eq, if◌then◌else◌, List, [], ◌∷◌, ◌++◌, length, map, slice_get, Option, Some, None, is_some, Ok, Err, refl, sym, ap, subst, ◌∙◌, arith, length-append}
use Rattle.std.proofs.lemmas.Bool.{ltb-true, eqb-true, eq-eqb}
use Rattle.std.proofs.lemmas.List.{take_all, take-append-le}
use Rattle.std.specs.List.{range_with_len, position_from, list_any, list_all, All}
use Rattle.s3_store.specs.Bytes.{part}
use Rattle.s3_store.specs.Inner.Bytes.{SameOutside}
use Rattle.s3_files.specs.Records.{records_in}
use Rattle.s3_files.proofs.RecordLemmas.{records_push}
use Rattle.s3_keyed.specs.declared.fault.KeyedFault.TheVariants.{Duplicate, Full, NotAscending}
use Rattle.s3_keyed.specs.KeyOrder.{Entry, key_order, insert_entry, insert_entries, ascends, keys_in}
use Rattle.s3_keyed.specs.Index.{KeyPlace, Layout, key_of, keys_of, entry_at, index_in}
use Rattle.s3_keyed.specs.Inner.Index.{keys_at}
use Rattle.s3_keyed.specs.Calls.{place_of_key, with_added, with_loaded}
use Rattle.s3_keyed.specs.Inner.Keyed.{IsOrdered}
use Rattle.s3_keyed.proofs.Order.{by_lt, below, at_most, In, In-insert_cases, In-key_order_back, In-inserts_right, In-from_get, length-insert_entry, key_order-append, inserts-added, insert-last, Lacks, Above, Ascends}
use Rattle.s3_keyed.proofs.CallLemmas.{ordered_same}
use Rattle.s3_keyed.proofs.Places.{length_keys, entries_stay, index_stays}
use Rattle.s3_keyed.proofs.Goodness.{to_ascends, from_ascends}

-- ---- a key that isn't there

absent_from : (k n : ℕ) (keys : List ℕ) → position_from (nat_eq k) n keys ≡ None → (i : ℕ) → slice_get keys i ≡ Some k → ⊥
absent_from k n [] none i got = absurd cc
absent_from k n (x ∷ keys) none zero got = let same : x ≡ k = cc in let t = eq-eqb k x (sym same) in let bad = rw t at none in absurd cc
absent_from k n (x ∷ keys) none (suc i) got = (elim (nat_eq k x) as (λ b. nat_eq k x ≡ b → ⊥) [
  | true ↦ λ t. let bad = rw t at none in absurd cc
  | false ↦ λ t. absent_from k (n + 1) keys (rw t at none) i got
]) refl

any_absent : (k n : ℕ) (keys : List ℕ) → position_from (nat_eq k) n keys ≡ None → list_any (nat_eq k) keys ≡ false
any_absent k n [] none = refl
any_absent k n (x ∷ keys) none = (elim (nat_eq k x) as (λ b. nat_eq k x ≡ b → list_any (nat_eq k) (x ∷ keys) ≡ false) [
  | true ↦ λ t. let bad = rw t at none in absurd cc
  | false ↦ λ t. rw t (any_absent k (n + 1) keys (rw t at none))
]) refl

any_present : (k n i : ℕ) (keys : List ℕ) → position_from (nat_eq k) n keys ≡ Some i → list_any (nat_eq k) keys ≡ true
any_present k n i [] some = absurd cc
any_present k n i (x ∷ keys) some = (elim (nat_eq k x) as (λ b. nat_eq k x ≡ b → list_any (nat_eq k) (x ∷ keys) ≡ true) [
  | true ↦ λ t. rw t refl
  | false ↦ λ t. rw t (any_present k (n + 1) i keys (rw t at some))
]) refl

pub is_none : (o : Option ℕ) → is_some o ≡ false → o ≡ None
is_none None h = refl
is_none (Some i) h = absurd cc

some_of : (o : Option ℕ) → is_some o ≡ true → (i : ℕ) × (o ≡ Some i)
some_of None h = absurd cc
some_of (Some i) h = (i, refl)

-- ---- what is answered

pub added_duplicate : (place : KeyPlace) (capacity : ℕ) (bytes : List ℕ) (records : List (List ℕ)) (key : ℕ) (o : Option ℕ) → key ≡ key_of place bytes → place_of_key key (keys_of place records) ≡ o → is_some o ≡ true → with_added place capacity bytes records ≡ Err Duplicate
unfolding with_added
added_duplicate place capacity bytes records key o key_is found some =
    let i = some_of o some in
    let t : list_any (nat_eq (key_of place bytes)) (keys_of place records) ≡ true = subst (λ k. list_any (nat_eq k) (keys_of place records) ≡ true) key_is (any_present key 0 i.0 (keys_of place records) (found ∙ i.1)) in
    rw t refl

pub added_full : (place : KeyPlace) (capacity : ℕ) (bytes : List ℕ) (records : List (List ℕ)) (key : ℕ) → key ≡ key_of place bytes → place_of_key key (keys_of place records) ≡ None → length records ≡ capacity → with_added place capacity bytes records ≡ Err Full
unfolding with_added
added_full place capacity bytes records key key_is none full =
    let t : list_any (nat_eq (key_of place bytes)) (keys_of place records) ≡ false = subst (λ k. list_any (nat_eq k) (keys_of place records) ≡ false) key_is (any_absent key 0 (keys_of place records) none) in
    let n = at_most (length records) capacity (omega arith) in
    rw (t, n) refl

pub added_made : (place : KeyPlace) (capacity : ℕ) (bytes : List ℕ) (records : List (List ℕ)) (key : ℕ) → key ≡ key_of place bytes → place_of_key key (keys_of place records) ≡ None → length records < capacity → with_added place capacity bytes records ≡ Ok (records ++ bytes ∷ [])
unfolding with_added
added_made place capacity bytes records key key_is none room =
    let t : list_any (nat_eq (key_of place bytes)) (keys_of place records) ≡ false = subst (λ k. list_any (nat_eq k) (keys_of place records) ≡ false) key_is (any_absent key 0 (keys_of place records) none) in
    let n = below (length records) capacity room in
    rw (t, n) refl

pub loaded_not_ascending : (place : KeyPlace) (capacity : ℕ) (bytes : List ℕ) (records : List (List ℕ)) (key : ℕ) → key ≡ key_of place bytes → list_all (λ other. nat_lt other key) (keys_of place records) ≡ false → with_loaded place capacity bytes records ≡ Err NotAscending
unfolding with_loaded
loaded_not_ascending place capacity bytes records key key_is not_above =
    let t = subst (λ k. list_all (λ other. nat_lt other k) (keys_of place records) ≡ false) key_is not_above in rw t refl

pub loaded_full : (place : KeyPlace) (capacity : ℕ) (bytes : List ℕ) (records : List (List ℕ)) (key : ℕ) → key ≡ key_of place bytes → list_all (λ other. nat_lt other key) (keys_of place records) ≡ true → length records ≡ capacity → with_loaded place capacity bytes records ≡ Err Full
unfolding with_loaded
loaded_full place capacity bytes records key key_is above full =
    let t = subst (λ k. list_all (λ other. nat_lt other k) (keys_of place records) ≡ true) key_is above in
    let n = at_most (length records) capacity (omega arith) in
    rw (t, n) refl

pub loaded_made : (place : KeyPlace) (capacity : ℕ) (bytes : List ℕ) (records : List (List ℕ)) (key : ℕ) → key ≡ key_of place bytes → list_all (λ other. nat_lt other key) (keys_of place records) ≡ true → length records < capacity → with_loaded place capacity bytes records ≡ Ok (records ++ bytes ∷ [])
unfolding with_loaded
loaded_made place capacity bytes records key key_is above room =
    let t = subst (λ k. list_all (λ other. nat_lt other k) (keys_of place records) ≡ true) key_is above in
    let n = below (length records) capacity room in
    rw (t, n) refl

pub keys_pushed : (place : KeyPlace) (records : List (List ℕ)) (bytes : List ℕ) → keys_of place (records ++ bytes ∷ []) ≡ keys_of place records ++ key_of place bytes ∷ []
unfolding keys_of
keys_pushed place [] bytes = refl
keys_pushed place (r ∷ records) bytes = ap (λ l. key_of place r ∷ l) (keys_pushed place records bytes)

-- ---- the order

above_insert : (k : ℕ) (e : Entry) (es : List Entry) → k < e.key → Above k es → Above k (insert_entry e es)
unfolding Above
above_insert k e [] less h = (less, tt)
above_insert k e (f ∷ es) less h = by_lt e.key f.key (λ t. Above k (if t then e ∷ (f ∷ es) else f ∷ insert_entry e es)) (λ lt. (less, h)) (λ le. (h.0, above_insert k e es less h.1))

above_lower : (k m : ℕ) (es : List Entry) → k < m → Above m es → Above k es
unfolding Above
above_lower k m [] less h = tt
above_lower k m (e ∷ es) less h = (omega (arith, h.0), above_lower k m es less h.1)

ascends_insert : (e : Entry) (es : List Entry) → Ascends es → ((f : Entry) → In f es → e.key ≡ f.key → ⊥) → Ascends (insert_entry e es)
unfolding Ascends Above In
ascends_insert e [] up apart = (tt, tt)
ascends_insert e (f ∷ es) up apart = by_lt e.key f.key (λ t. Ascends (if t then e ∷ (f ∷ es) else f ∷ insert_entry e es))
    (λ lt. ((lt, above_lower e.key f.key es lt up.0), up))
    (λ le. let other = apart f (inl refl) in (above_insert f.key e es (omega (arith, le, other)) up.0, ascends_insert e es up.1 (λ g on. apart g (inr on))))

lacks_from : (k : ℕ) (es : List Entry) → ((f : Entry) → In f es → k ≡ f.key → ⊥) → Lacks k es
unfolding Lacks In
lacks_from k [] h = tt
lacks_from k (e ∷ es) h = (h e (inl refl), lacks_from k es (λ f on. h f (inr on)))

all_from_in : (P : Entry → Type 0) (es : List Entry) → ((e : Entry) → In e es → P e) → All P es
unfolding In
all_from_in P [] h k d below = absurd (omega arith)
all_from_in P (e ∷ es) h zero d below = h e (inl refl)
all_from_in P (e ∷ es) h (suc k) d below = all_from_in P es (λ f on. h f (inr on)) k d (omega arith)

all_in : (P : Entry → Type 0) (es : List Entry) (e : Entry) → All P es → In e es → P e
unfolding In
all_in P [] e all on = absurd on
all_in P (f ∷ fs) e all on = elim on [
  | inl same ↦ subst P (sym same) (all zero f (omega arith))
  | inr later ↦ all_in P fs e (λ k d below. all (suc k) d (omega arith)) later
]

-- no entry of the key order has a key that no record has
pub order_lacks : (keys : List ℕ) (k : ℕ) → place_of_key k keys ≡ None → (f : Entry) → In f (key_order keys) → k ≡ f.key → ⊥
order_lacks keys k none f on same = absent_from k 0 keys none (f.number - 1) ((In-key_order_back keys f on).1 ∙ ap Some (sym same))

-- nor has one of those in memory
pub added_lacks : (start stop limit : ℕ) (first index added : List Entry) (keys : List ℕ) (k : ℕ) → IsOrdered start stop limit first index added keys → place_of_key k keys ≡ None → (i : ℕ) (e : Entry) → slice_get added i ≡ Some e → e.key ≡ k → ⊥
added_lacks start stop limit first index added keys k o none i e got same = order_lacks keys k none e (subst (In e) o.order (In-inserts_right e index added (In-from_get added i e got))) (sym same)

pub ordered_added : (start stop limit : ℕ) (first index added added' : List Entry) (keys keys' : List ℕ) (k : ℕ) → IsOrdered start stop limit first index added keys → place_of_key k keys ≡ None → k < limit → added' ≡ insert_entry (record { key = k; number = length keys + 1 }) added → keys' ≡ keys ++ k ∷ [] → IsOrdered start stop limit first index added' keys'
ordered_added start stop limit first index added added' keys keys' k o none short added_is keys_is =
    let e : Entry = record { key = k; number = length keys + 1 } in
    let number : 1 + length keys ≡ length keys + 1 = omega arith in
    let counted = o.counted in
    let begun = o.begun in
    let not_added : (f : Entry) → In f added → k ≡ f.key → ⊥ = λ f on. order_lacks keys k none f (subst (In f) o.order (In-inserts_right f index added on)) in
    let new_order : insert_entry e (key_order keys) ≡ key_order (keys ++ k ∷ []) = sym (key_order-append keys k ∙ ap (λ n. insert_entry (entry k n) (key_order keys)) number) in
    let order : insert_entries index (insert_entry e added) ≡ key_order (keys ++ k ∷ []) = inserts-added e index added (lacks_from k added not_added) ∙ ap (insert_entry e) o.order ∙ new_order in
    subst (λ l. IsOrdered start stop limit first index l keys') (sym added_is) (subst (IsOrdered start stop limit first index (insert_entry e added)) (sym keys_is) (record {
      begun = begun;
      counted = omega (arith, length-insert_entry e added, length-append keys (k ∷ []));
      first = o.first ∙ ap key_order (sym (take-append-le start keys (k ∷ []) (omega arith)));
      index = o.index ∙ ap key_order (sym (take-append-le stop keys (k ∷ []) (omega arith)));
      order = order;
      distinct = subst (λ l. ascends (keys_in l) ≡ true) new_order (from_ascends (insert_entry e (key_order keys)) (ascends_insert e (key_order keys) (to_ascends (key_order keys) o.distinct) (order_lacks keys k none)));
      index_ascends = o.index_ascends;
      added_ascends = from_ascends (insert_entry e added) (ascends_insert e added (to_ascends added o.added_ascends) not_added);
      short = all_from_in (λ f. f.key < limit) (insert_entry e added) (λ f on. elim (In-insert_cases f e added on) [
        | inl same ↦ subst (λ g. g.key < limit) (sym same) short
        | inr old ↦ all_in (λ g. g.key < limit) added f o.short old
      ]);
    }))
  where
    entry : ℕ → ℕ → Entry
    entry key number = record { key = key; number = number }

-- ---- the highest key

above_at : (k : ℕ) (keys : List ℕ) (i m : ℕ) → list_all (λ other. nat_lt other k) keys ≡ true → slice_get keys i ≡ Some m → m < k
above_at k [] i m all got = absurd cc
above_at k (x ∷ keys) zero m all got = let same : x ≡ m = cc in ltb-true m k (subst (λ y. nat_lt y k ≡ true) same (left (nat_lt x k) (list_all (λ other. nat_lt other k) keys) all))
  where
    left : (a b : Bool) → (a && b) ≡ true → a ≡ true
    left true b h = refl
    left false b h = absurd cc
above_at k (x ∷ keys) (suc i) m all got = above_at k keys i m (right (nat_lt x k) (list_all (λ other. nat_lt other k) keys) all) got
  where
    right : (a b : Bool) → (a && b) ≡ true → b ≡ true
    right true b h = h
    right false b h = absurd cc

pub above_is_new : (k n : ℕ) (keys : List ℕ) → list_all (λ other. nat_lt other k) keys ≡ true → position_from (nat_eq k) n keys ≡ None
above_is_new k n [] all = refl
above_is_new k n (x ∷ keys) all = (elim (nat_eq k x) as (λ b. nat_eq k x ≡ b → position_from (nat_eq k) n (x ∷ keys) ≡ None) [
  | true ↦ λ t. let same = eqb-true k x t in let less = above_at k (x ∷ keys) zero x all refl in absurd (omega arith)
  | false ↦ λ t. rw t (above_is_new k (n + 1) keys (right (nat_lt x k) (list_all (λ other. nat_lt other k) keys) all))
]) refl
  where
    right : (a b : Bool) → (a && b) ≡ true → b ≡ true
    right true b h = h
    right false b h = absurd cc

pub ordered_loaded : (start stop limit : ℕ) (first first' index index' added : List Entry) (keys keys' : List ℕ) (k : ℕ) → IsOrdered start stop limit first index added keys → added ≡ [] → list_all (λ other. nat_lt other k) keys ≡ true → first' ≡ first → index' ≡ index ++ record { key = k; number = length keys + 1 } ∷ [] → keys' ≡ keys ++ k ∷ []
    → IsOrdered start (stop + 1) limit first' index' added keys'
ordered_loaded start stop limit first first' index index' added keys keys' k o none above first_is index_is keys_is =
    let e : Entry = record { key = k; number = length keys + 1 } in
    let number : 1 + length keys ≡ length keys + 1 = omega arith in
    let begun = o.begun in
    let empty : length added ≡ 0 = ap length none in
    let counted = o.counted in
    let all_index : index ≡ key_order keys = ap (λ l. insert_entries index l) (sym none) ∙ o.order in
    let is_new = above_is_new k 0 keys above in
    let new_order : key_order (keys ++ k ∷ []) ≡ insert_entry e (key_order keys) = key_order-append keys k ∙ ap (λ n. insert_entry (entry k n) (key_order keys)) number in
    let last : insert_entry e (key_order keys) ≡ key_order keys ++ e ∷ [] = insert-last e (key_order keys) (λ z on. let less = above_at k keys (z.number - 1) z.key above (In-key_order_back keys z on).1 in omega arith) in
    let whole : index' ≡ key_order (keys ++ k ∷ []) = index_is ∙ ap (λ l. l ++ e ∷ []) all_index ∙ sym last ∙ sym new_order in
    let up : ascends (keys_in (key_order (keys ++ k ∷ []))) ≡ true = subst (λ l. ascends (keys_in l) ≡ true) (sym new_order) (from_ascends (insert_entry e (key_order keys)) (ascends_insert e (key_order keys) (to_ascends (key_order keys) o.distinct) (order_lacks keys k is_new))) in
    let long : length (keys ++ k ∷ []) ≡ length keys + 1 = length-append keys (k ∷ []) in
    subst (λ f. IsOrdered start (stop + 1) limit f index' added keys') (sym first_is) (subst (λ l. IsOrdered start (stop + 1) limit first index' l keys') (sym none) (subst (IsOrdered start (stop + 1) limit first index' []) (sym keys_is) (record {
      begun = omega arith;
      counted = omega arith;
      first = o.first ∙ ap key_order (sym (take-append-le start keys (k ∷ []) (omega arith)));
      index = whole ∙ ap key_order (sym (take_all (stop + 1) (keys ++ k ∷ []) (omega arith)));
      order = whole;
      distinct = up;
      index_ascends = subst (λ l. ascends (keys_in l) ≡ true) (sym whole) up;
      added_ascends = refl;
      short = λ i d within. absurd (omega arith);
    })))
  where
    entry : ℕ → ℕ → Entry
    entry key number = record { key = key; number = number }

-- ---- an entry after the last one of the index

mapped_more : (f g : ℕ → Entry) (a n : ℕ) (e : Entry) → ((i : ℕ) → a ≤ i → i < a + n → g i ≡ f i) → g (a + n) ≡ e → map g (range_with_len a (n + 1)) ≡ map f (range_with_len a n) ++ e ∷ []
mapped_more f g a zero e same is = let one : zero + 1 ≡ suc zero = refl in let at : a ≡ a + zero = omega arith in ap (λ x. x ∷ []) (ap g at ∙ is)
mapped_more f g a (suc n) e same is =
    let one_more : suc n + 1 ≡ suc (n + 1) = omega arith in
    let at : a + 1 + n ≡ a + suc n = omega arith in
    let head = same a (omega arith) (omega arith) in
    let tail = mapped_more f g (a + 1) n e (λ i low high. same i (omega arith) (omega arith)) (ap g at ∙ is) in
    rw one_more (ap (λ x. x ∷ map g (range_with_len (a + 1) (n + 1))) head ∙ ap (λ l. f a ∷ l) tail)

mapped_same : (f g : ℕ → Entry) (a n : ℕ) → ((i : ℕ) → a ≤ i → i < a + n → g i ≡ f i) → map g (range_with_len a n) ≡ map f (range_with_len a n)
mapped_same f g a zero same = refl
mapped_same f g a (suc n) same = let head = same a (omega arith) (omega arith) in let tail = mapped_same f g (a + 1) n (λ i low high. same i (omega arith) (omega arith)) in cc

pub index_more : (layout : Layout) (n : ℕ) (s t : List ℕ) (e : Entry) → ((i : ℕ) → i < n → entry_at layout t i ≡ entry_at layout s i) → entry_at layout t n ≡ e → index_in layout (n + 1) t ≡ index_in layout n s ++ e ∷ []
unfolding index_in
index_more layout n s t e same is = let at : 0 + n ≡ n = omega arith in mapped_more (entry_at layout s) (entry_at layout t) 0 n e (λ i low high. same i (omega arith)) (ap (entry_at layout t) at ∙ is)

pub index_kept : (layout : Layout) (n m : ℕ) (s t : List ℕ) → m ≤ n → ((i : ℕ) → i < n → entry_at layout t i ≡ entry_at layout s i) → index_in layout m t ≡ index_in layout m s
unfolding index_in
index_kept layout n m s t few same = mapped_same (entry_at layout s) (entry_at layout t) 0 m (λ i low high. same i (omega arith))

-- ---- a record is written after the last one

length_keys_is : (layout : Layout) (count k : ℕ) (s : List ℕ) (es : List Entry) → insert_entry (record { key = k; number = length (keys_at layout count s) + 1 }) es ≡ insert_entry (record { key = k; number = count + 1 }) es
length_keys_is layout count k s es = ap (λ n. insert_entry (entry k (n + 1)) es) (length_keys layout count s)
  where
    entry : ℕ → ℕ → Entry
    entry key number = record { key = key; number = number }

keys_after : (layout : Layout) (count k : ℕ) (r t bytes : List ℕ) → records_in layout.record_length (count + 1) t ≡ records_in layout.record_length count r ++ bytes ∷ [] → k ≡ key_of layout.key bytes → keys_at layout (count + 1) t ≡ keys_at layout count r ++ k ∷ []
keys_after layout count k r t bytes pushed is =
    ap (keys_of layout.key) pushed ∙ keys_pushed layout.key (records_in layout.record_length count r) bytes ∙ ap (λ x. keys_at layout count r ++ x ∷ []) (sym is)

-- its entry is in memory
pub appended_added : (layout : Layout) (started indexed count limit k : ℕ) (s t : List ℕ) (added added' : List Entry) (bytes : List ℕ)
    → IsOrdered started indexed limit (index_in layout started s) (index_in layout indexed s) added (keys_at layout count s)
    → SameOutside (count * layout.record_length) layout.record_length s t → part t (count * layout.record_length) layout.record_length ≡ bytes → count * layout.record_length + layout.record_length ≤ layout.capacity * layout.record_length
    → k ≡ key_of layout.key bytes → place_of_key k (keys_at layout count s) ≡ None → k < limit → added' ≡ insert_entry (record { key = k; number = count + 1 }) added
    → IsOrdered started indexed limit (index_in layout started t) (index_in layout indexed t) added' (keys_at layout (count + 1) t)
appended_added layout started indexed count limit k s t added added' bytes o outside written inside key_is none short added_is =
    let pushed = records_push layout.record_length count s t bytes outside written in
    let o' = ordered_added started indexed limit (index_in layout started s) (index_in layout indexed s) added added' (keys_at layout count s) (keys_at layout (count + 1) t) k o none short
    (added_is ∙ sym (length_keys_is layout count k s added)) (keys_after layout count k s t bytes pushed key_is) in
    ordered_same started indexed limit (index_in layout started s) (index_in layout started t) (index_in layout indexed s) (index_in layout indexed t) added' (keys_at layout (count + 1) t) (keys_at layout (count + 1) t) o'
    (index_stays layout s t (count * layout.record_length) layout.record_length started inside outside)
    (index_stays layout s t (count * layout.record_length) layout.record_length indexed inside outside) refl

-- its entry comes after the last one on the pack
pub appended_indexed : (layout : Layout) (started indexed count limit k : ℕ) (r s t : List ℕ) (added : List Entry) (bytes : List ℕ)
    → IsOrdered started indexed limit (index_in layout started r) (index_in layout indexed r) added (keys_at layout count r) → added ≡ [] → list_all (λ other. nat_lt other k) (keys_at layout count r) ≡ true
    → entry_at layout s indexed ≡ record { key = k; number = count + 1 } → ((i : ℕ) → i ≢ indexed → entry_at layout s i ≡ entry_at layout r i) → records_in layout.record_length count s ≡ records_in layout.record_length count r
    → SameOutside (count * layout.record_length) layout.record_length s t → part t (count * layout.record_length) layout.record_length ≡ bytes → count * layout.record_length + layout.record_length ≤ layout.capacity * layout.record_length → k ≡ key_of layout.key bytes
    → IsOrdered started (indexed + 1) limit (index_in layout started t) (index_in layout (indexed + 1) t) added (keys_at layout (count + 1) t)
appended_indexed layout started indexed count limit k r s t added bytes o none above entry_is others same outside written inside key_is =
    let pushed = records_push layout.record_length count s t bytes outside written ∙ ap (λ l. l ++ bytes ∷ []) same in
    let stays = λ (i : ℕ). entries_stay layout s t (count * layout.record_length) layout.record_length i inside outside in
    let kept : (i : ℕ) → i < indexed → entry_at layout t i ≡ entry_at layout r i = λ i below. stays i ∙ others i (λ e. omega arith) in
    ordered_loaded started indexed limit (index_in layout started r) (index_in layout started t) (index_in layout indexed r) (index_in layout (indexed + 1) t) added (keys_at layout count r) (keys_at layout (count + 1) t) k o none above
    (index_kept layout indexed started r t o.begun kept)
    (index_more layout indexed r t (record { key = k; number = count + 1 }) kept (stays indexed ∙ entry_is) ∙ ap (λ n. index_in layout indexed r ++ entry k (n + 1) ∷ []) (sym (length_keys layout count r)))
    (keys_after layout count k r t bytes pushed key_is)
  where
    entry : ℕ → ℕ → Entry
    entry key number = record { key = key; number = number }
