-- The merge of added entries into an index, in place, from the highest down.
use Rattle.std.proofs.Common.{◌≡◌, ℕ, zero, suc, ◌+◌, ◌-◌, ◌<◌, ◌≤◌, List, [], ◌∷◌, ◌++◌, length, map, refl, sym, ap, ◌∙◌, arith, length-append, append_assoc, append-nil}
use Rattle.std.specs.List.{range_with_len}
use Rattle.s3_keyed.specs.KeyOrder.{Entry, insert_entries}
use Rattle.s3_keyed.proofs.Order.{In, Below, merge-index, merge-added}

same_range : (f g : ℕ → Entry) (a n : ℕ) → ((i : ℕ) → a ≤ i → g i ≡ f i) → map g (range_with_len a n) ≡ map f (range_with_len a n)
same_range f g a zero h = refl
same_range f g a (suc n) h = let head = h a (omega arith) in let tail = same_range f g (a + 1) n (λ i low. h i (omega arith)) in cc

range-more : (f : ℕ → Entry) (a n : ℕ) → map f (range_with_len a (suc n)) ≡ map f (range_with_len a n) ++ f (a + n) ∷ []
range-more f a zero = let same : a ≡ a + zero = omega arith in ap (λ k. f k ∷ []) same
range-more f a (suc n) = let last : a + 1 + n ≡ a + suc n = omega arith in ap (λ l. f a ∷ l) (range-more f (a + 1) n ∙ ap (λ k. map f (range_with_len (a + 1) n) ++ f k ∷ []) last)

-- The entries of the index that are left and the added ones that are left, merged, and then the entries above them, are the whole.
pub record IsMerging (old now : ℕ → Entry) (left : ℕ) (added : List Entry) (total : ℕ) (whole : List Entry) : Type 0 where
  pub room : left + length added ≤ total
  pub kept : (i : ℕ) → i < left → now i ≡ old i
  pub merged : insert_entries (map old (range_with_len 0 left)) added ++ map now (range_with_len (left + length added) (total - (left + length added))) ≡ whole

pub merge-start : (old : ℕ → Entry) (indexed : ℕ) (added : List Entry) → IsMerging old old indexed added (indexed + length added) (insert_entries (map old (range_with_len 0 indexed)) added)
merge-start old indexed added =
    let none : indexed + length added - (indexed + length added) ≡ 0 = omega arith in
    record {
      room = omega arith;
      kept = λ i below. refl;
      merged = ap (λ n. insert_entries (map old (range_with_len 0 indexed)) added ++ map old (range_with_len (indexed + length added) n)) none ∙ append-nil (insert_entries (map old (range_with_len 0 indexed)) added);
    }

-- the entries above, when one more is written below them
tail-more : (now new : ℕ → Entry) (k total : ℕ) (e : Entry) → k < total → new k ≡ e → ((i : ℕ) → (i ≡ k → ⊥) → new i ≡ now i) → map new (range_with_len k (total - k)) ≡ e ∷ map now (range_with_len (k + 1) (total - (k + 1)))
tail-more now new k total e below is others =
    let more : total - k ≡ suc (total - (k + 1)) = omega arith in
    ap (λ n. map new (range_with_len k n)) more
    ∙ ap (λ x. x ∷ map new (range_with_len (k + 1) (total - (k + 1)))) is
    ∙ ap (λ l. e ∷ l) (same_range now new (k + 1) (total - (k + 1)) (λ i low. others i (λ same. omega arith)))

joined : (xs ys : List Entry) (e : Entry) → xs ++ (e ∷ ys) ≡ (xs ++ e ∷ []) ++ ys
joined xs ys e = sym (append_assoc xs (e ∷ []) ys)

-- the highest entry is the last of the index: it moves up
pub merge-moved : (old now new : ℕ → Entry) (left : ℕ) (added : List Entry) (total : ℕ) (whole : List Entry) → IsMerging old now (suc left) added total whole → Below (old left).key added → new (left + length added) ≡ old left → ((i : ℕ) → (i ≡ left + length added → ⊥) → new i ≡ now i) → IsMerging old new left added total whole
merge-moved old now new left added total whole m high is others =
    let room = m.room in
    let es = map old (range_with_len 0 left) in
    let k = left + length added in
    let next : k + 1 ≡ suc left + length added = omega arith in
    let at : 0 + left ≡ left = omega arith in
    let more : map old (range_with_len 0 (suc left)) ≡ es ++ old left ∷ [] = range-more old 0 left ∙ ap (λ n. es ++ old n ∷ []) at in
    record {
      room = omega arith;
      kept = λ i below. others i (λ same. omega arith) ∙ m.kept i (omega arith);
      merged = ap (λ l. insert_entries es added ++ l) (tail-more now new k total (old left) (omega arith) is others)
          ∙ joined (insert_entries es added) (map now (range_with_len (k + 1) (total - (k + 1)))) (old left)
          ∙ ap (λ l. l ++ map now (range_with_len (k + 1) (total - (k + 1)))) (sym (merge-index es (old left) added high) ∙ ap (λ l. insert_entries l added) (sym more))
          ∙ ap (λ n. insert_entries (map old (range_with_len 0 (suc left))) added ++ map now (range_with_len n (total - n))) next
          ∙ m.merged;
    }

-- the highest entry is an added one
pub merge-placed : (old now new : ℕ → Entry) (left : ℕ) (added : List Entry) (y : Entry) (total : ℕ) (whole : List Entry) → IsMerging old now left (added ++ y ∷ []) total whole → ((z : Entry) → In z (map old (range_with_len 0 left)) → z.key ≤ y.key) → ((z : Entry) → In z added → z.key ≤ y.key) → new (left + length added) ≡ y → ((i : ℕ) → (i ≡ left + length added → ⊥) → new i ≡ now i) → IsMerging old new left added total whole
merge-placed old now new left added y total whole m high higher is others =
    let room = m.room in
    let es = map old (range_with_len 0 left) in
    let k = left + length added in
    let long : length (added ++ y ∷ []) ≡ length added + 1 = length-append added (y ∷ []) in
    let next : k + 1 ≡ left + length (added ++ y ∷ []) = omega arith in
    record {
      room = omega arith;
      kept = λ i below. others i (λ same. omega arith) ∙ m.kept i below;
      merged = ap (λ l. insert_entries es added ++ l) (tail-more now new k total y (omega arith) is others)
          ∙ joined (insert_entries es added) (map now (range_with_len (k + 1) (total - (k + 1)))) y
          ∙ ap (λ l. l ++ map now (range_with_len (k + 1) (total - (k + 1)))) (sym (merge-added es added y high higher))
          ∙ ap (λ n. insert_entries es (added ++ y ∷ []) ++ map now (range_with_len n (total - n))) next
          ∙ m.merged;
    }

pub merge-end : (old now : ℕ → Entry) (left total : ℕ) (whole : List Entry) → IsMerging old now left [] total whole → map now (range_with_len 0 total) ≡ whole
merge-end old now left total whole m =
    let room = m.room in
    let at : left + 0 ≡ left = omega arith in
    let same : 0 + left ≡ left = omega arith in
    let sum : left + (total - left) ≡ total = omega arith in
    ap (λ n. map now (range_with_len 0 n)) (sym sum)
    ∙ split now 0 left (total - left)
    ∙ ap (λ l. l ++ map now (range_with_len (0 + left) (total - left))) (same_below old now 0 left (λ i low below. m.kept i (omega arith)))
    ∙ ap (λ n. map old (range_with_len 0 left) ++ map now (range_with_len n (total - left))) same
    ∙ ap (λ n. map old (range_with_len 0 left) ++ map now (range_with_len n (total - n))) (sym at)
    ∙ m.merged
  where
    split : (f : ℕ → Entry) (a n k : ℕ) → map f (range_with_len a (n + k)) ≡ map f (range_with_len a n) ++ map f (range_with_len (a + n) k)
    split f a zero k = let z : zero + k ≡ k = omega arith in let s : a ≡ a + zero = omega arith in rw z (ap (λ b. map f (range_with_len b k)) s)
    split f a (suc n) k = let z : suc n + k ≡ suc (n + k) = omega arith in let s : a + 1 + n ≡ a + suc n = omega arith in rw z (ap (λ l. f a ∷ l) (split f (a + 1) n k ∙ ap (λ b. map f (range_with_len (a + 1) n) ++ map f (range_with_len b k)) s))

    same_below : (f g : ℕ → Entry) (a n : ℕ) → ((i : ℕ) → a ≤ i → i < a + n → g i ≡ f i) → map g (range_with_len a n) ≡ map f (range_with_len a n)
    same_below f g a zero h = refl
    same_below f g a (suc n) h = let head = h a (omega arith) (omega arith) in let tail = same_below f g (a + 1) n (λ i low below. h i (omega arith) (omega arith)) in cc
