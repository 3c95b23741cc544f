-- Texts are ordered like the numbers of their codes, and like their two ends.
use Rattle.std.proofs.Common.{◌≡◌, ℕ, zero, suc, ◌+◌, ◌-◌, ◌*◌, ◌^◌, ◌<◌, ◌≤◌, List, [], ◌∷◌, ◌++◌, length, take, drop, get_or, replicate, true, false, refl, sym, ◌∙◌, ap, arith, subst, mul_comm, zero-mul, pow-suc, min, ◌⊎◌, inl, inr, ⊎_elim, true≢false, take-append-drop, append-nil}
use Rattle.std.specs.declared.cmp.Ordering.{Ordering}
use Rattle.std.specs.declared.cmp.Ordering.TheVariants.{Less, Equal, Greater}
use Rattle.std.specs.Ordering.{nat_cmp, ordering_then, ordering_reverse, is_ne, MatchOrdering}
use Rattle.std.specs.Cmp.{nat_cmp_is, ranked, IsTotalOrder}
use Rattle.std.specs.Cmp.Lexicographic.{slice_cmp, nat_list_cmp_total}
use Rattle.std.specs.Int.{w64, from_be_bytes}
use Rattle.std.proofs.lemmas.Nat.{mul-add-lt}
use Rattle.std.proofs.lemmas.List.{length-append, length-replicate, length-drop, length-take-le, take_all, take-append-le, take-replicate, drop-replicate}
use Rattle.std.proofs.lemmas.Bool.{cases_lt}
use Rattle.s3_meaning.specs.Calculating.{padded, text_order}
use Rattle.s3_operations.specs.Inner.Words.{number_of}

number_below : (codes : List ℕ) → ((i : ℕ) → get_or codes i 0 < 256) → number_of codes < 256 ^ length codes
number_below [] small = omega arith
number_below (x ∷ xs) small = subst (λ k. x * 256 ^ length xs + number_of xs < k) (sym (pow-suc 256 (length xs))) (mul-add-lt x (256 ^ length xs) (number_of xs) 256 (small 0) (number_below xs (λ i. small (suc i))))

-- two numbers of two digits each
two_digits : (x y p v w : ℕ) → v < p → w < p → nat_cmp (x * p + v) (y * p + w) ≡ ordering_then (nat_cmp x y) (nat_cmp v w)
two_digits x y p v w fits_v fits_w = sym (nat_cmp_is (x * p + v) (y * p + w) (ordering_then (nat_cmp x y) (nat_cmp v w)) (first (nat_cmp x y) (nat_cmp v w) (ranked x y (nat_cmp x y) refl) (ranked v w (nat_cmp v w) refl)))
  where
    less : (a b s t : ℕ) → s < p → a < b → a * p + s < b * p + t
    less a b s t fits below = omega (arith, mul-add-lt a p s b below fits, mul_comm p b)

    first : (r s : Ordering) → MatchOrdering r (x < y) (x ≡ y) (y < x) → MatchOrdering s (v < w) (v ≡ w) (w < v)
        → MatchOrdering (ordering_then r s) (x * p + v < y * p + w) (x * p + v ≡ y * p + w) (y * p + w < x * p + v)
    first Less s m n = less x y v w fits_v m
    first Greater s m n = less y x w v fits_w m
    first Equal Less m n = omega (arith, n, ap (λ k. k * p) m)
    first Equal Equal m n = λ i. m i * p + n i
    first Equal Greater m n = omega (arith, n, ap (λ k. k * p) m)

pub number_order : (a b : List ℕ) → length a ≡ length b → ((i : ℕ) → get_or a i 0 < 256) → ((i : ℕ) → get_or b i 0 < 256) → nat_cmp (number_of a) (number_of b) ≡ slice_cmp nat_cmp a b
number_order [] [] same small_a small_b = refl
number_order [] (y ∷ ys) same small_a small_b = absurd (omega (arith, same))
number_order (x ∷ xs) [] same small_a small_b = absurd (omega (arith, same))
number_order (x ∷ xs) (y ∷ ys) same small_a small_b =
    let long : length xs ≡ length ys = omega (arith, same) in
    ap (λ k. nat_cmp (x * 256 ^ length xs + number_of xs) (y * 256 ^ k + number_of ys)) (sym long)
    ∙ two_digits x y (256 ^ length xs) (number_of xs) (number_of ys) (number_below xs (λ i. small_a (suc i))) (subst (λ k. number_of ys < 256 ^ k) (sym long) (number_below ys (λ i. small_b (suc i))))
    ∙ ap (ordering_then (nat_cmp x y)) (number_order xs ys long (λ i. small_a (suc i)) (λ i. small_b (suc i)))

-- leading zeros don't change a number
zeros_before : (n : ℕ) (codes : List ℕ) → number_of (replicate n 0 ++ codes) ≡ number_of codes
zeros_before zero codes = refl
zeros_before (suc n) codes = omega (arith, zero-mul (256 ^ length (replicate {A = ℕ} n 0 ++ codes))) ∙ zeros_before n codes

eight : (bs : List ℕ) → length bs ≡ 8 → from_be_bytes w64 bs ≡ number_of bs
eight [] l = absurd (omega (arith, l))
eight (a ∷ []) l = absurd (omega (arith, l))
eight (a ∷ b ∷ []) l = absurd (omega (arith, l))
eight (a ∷ b ∷ c ∷ []) l = absurd (omega (arith, l))
eight (a ∷ b ∷ c ∷ d ∷ []) l = absurd (omega (arith, l))
eight (a ∷ b ∷ c ∷ d ∷ e ∷ []) l = absurd (omega (arith, l))
eight (a ∷ b ∷ c ∷ d ∷ e ∷ f ∷ []) l = absurd (omega (arith, l))
eight (a ∷ b ∷ c ∷ d ∷ e ∷ f ∷ g ∷ []) l = absurd (omega (arith, l))
eight (a ∷ b ∷ c ∷ d ∷ e ∷ f ∷ g ∷ h ∷ []) l = omega arith
eight (a ∷ b ∷ c ∷ d ∷ e ∷ f ∷ g ∷ h ∷ x ∷ bs) l = absurd (omega (arith, l))

pub widened_number : (n : ℕ) (codes bs : List ℕ) → n ≤ 8 → length codes ≡ n → bs ≡ replicate (8 - n) 0 ++ codes → from_be_bytes w64 bs ≡ number_of codes
widened_number n codes bs few long is =
    ap (from_be_bytes w64) is
    ∙ eight (replicate (8 - n) 0 ++ codes) (length-append (replicate (8 - n) 0) codes ∙ omega (arith, few, long, length-replicate {A = ℕ} (8 - n) 0))
    ∙ zeros_before (8 - n) codes

-- texts are ordered by their first n codes, then by the codes after the first k
pub by_ends : (k n : ℕ) (a b : List ℕ) → k ≤ n → ordering_then (slice_cmp nat_cmp (take n a) (take n b)) (slice_cmp nat_cmp (drop k a) (drop k b)) ≡ slice_cmp nat_cmp a b
by_ends zero n a b reach = whole n a b
  where
    again : (o p : Ordering) → ordering_then o (ordering_then o p) ≡ ordering_then o p
    again Less p = refl
    again Equal p = refl
    again Greater p = refl

    chained : (o p q : Ordering) → ordering_then (ordering_then o p) (ordering_then o q) ≡ ordering_then o (ordering_then p q)
    chained Less p q = refl
    chained Equal p q = refl
    chained Greater p q = refl

    whole : (n : ℕ) (a b : List ℕ) → ordering_then (slice_cmp nat_cmp (take n a) (take n b)) (slice_cmp nat_cmp a b) ≡ slice_cmp nat_cmp a b
    whole zero a b = refl
    whole (suc n) [] [] = refl
    whole (suc n) [] (y ∷ ys) = refl
    whole (suc n) (x ∷ xs) [] = refl
    whole (suc n) (x ∷ xs) (y ∷ ys) = chained (nat_cmp x y) (slice_cmp nat_cmp (take n xs) (take n ys)) (slice_cmp nat_cmp xs ys) ∙ ap (ordering_then (nat_cmp x y)) (whole n xs ys)
by_ends (suc k) zero a b reach = absurd (omega (arith, reach))
by_ends (suc k) (suc n) [] [] reach = refl
by_ends (suc k) (suc n) [] (y ∷ ys) reach = refl
by_ends (suc k) (suc n) (x ∷ xs) [] reach = refl
by_ends (suc k) (suc n) (x ∷ xs) (y ∷ ys) reach =
    chain (nat_cmp x y) (slice_cmp nat_cmp (take n xs) (take n ys)) (slice_cmp nat_cmp (drop k xs) (drop k ys)) ∙ ap (ordering_then (nat_cmp x y)) (by_ends k n xs ys (omega (arith, reach)))
  where
    chain : (o p q : Ordering) → ordering_then (ordering_then o p) q ≡ ordering_then o (ordering_then p q)
    chain Less p q = refl
    chain Equal p q = refl
    chain Greater p q = refl

decided : (o rest : Ordering) → is_ne o ≡ true → o ≡ ordering_then o rest
decided Less rest differs = refl
decided Equal rest differs = absurd (true≢false (sym differs))
decided Greater rest differs = refl

equal : (o : Ordering) → is_ne o ≡ false → o ≡ Equal
equal Less same = absurd (true≢false same)
equal Equal same = refl
equal Greater same = absurd (true≢false same)

-- the order of two texts whose first codes differ
pub ends_found : (n : ℕ) (a b : List ℕ) (order : Ordering) → order ≡ slice_cmp nat_cmp (take n a) (take n b) → is_ne order ≡ true → order ≡ slice_cmp nat_cmp a b
ends_found n a b order is differs =
    decided order (slice_cmp nat_cmp a b) differs ∙ ap (λ o. ordering_then o (slice_cmp nat_cmp a b)) is ∙ by_ends 0 n a b (omega arith)

-- the order of two texts whose first codes are equal
pub ends_rest : (k n : ℕ) (a b : List ℕ) (order : Ordering) → k ≤ n → order ≡ slice_cmp nat_cmp (take n a) (take n b) → is_ne order ≡ false → slice_cmp nat_cmp (drop k a) (drop k b) ≡ slice_cmp nat_cmp a b
ends_rest k n a b order reach is same =
    ap (λ o. ordering_then o (slice_cmp nat_cmp (drop k a) (drop k b))) (sym (equal order same) ∙ is) ∙ by_ends k n a b reach

-- the slice from a place on
behind : (n : ℕ) (a : List ℕ) → take (length a - n) (drop n a) ≡ drop n a
behind n a = take_all (length a - n) (drop n a) (omega (arith, length-drop n a))

pub ends_last : (n : ℕ) (a b : List ℕ) (order rest : Ordering) → length a ≡ length b → n ≤ length a → length a ≤ 2 * n
    → order ≡ slice_cmp nat_cmp (take n a) (take n b) → is_ne order ≡ false
    → rest ≡ slice_cmp nat_cmp (take n (take (length a - (length a - n)) (drop (length a - n) a))) (take n (take (length b - (length a - n)) (drop (length a - n) b)))
    → rest ≡ slice_cmp nat_cmp a b
ends_last n a b order rest same reaches covers is tied rest_is =
    rest_is
    ∙ (λ i. slice_cmp nat_cmp (take n (behind (length a - n) a i)) (take n (behind (length a - n) b i)))
    ∙ (λ i. slice_cmp nat_cmp (take_all n (drop (length a - n) a) (omega (arith, length-drop (length a - n) a, reaches)) i) (take_all n (drop (length a - n) b) (omega (arith, length-drop (length a - n) b, reaches, same)) i))
    ∙ ends_rest (length a - n) n a b order (omega (arith, covers)) is tied

pub next_eight : (a b : List ℕ) (order whole : Ordering) → order ≡ slice_cmp nat_cmp (take 8 a) (take 8 b) → is_ne order ≡ false → slice_cmp nat_cmp a b ≡ whole
    → slice_cmp nat_cmp (take (length a - 8) (drop 8 a)) (take (length b - 8) (drop 8 b)) ≡ whole
next_eight a b order whole is same before = (λ i. slice_cmp nat_cmp (behind 8 a i) (behind 8 b i)) ∙ ends_rest 8 8 a b order (omega arith) is same ∙ before

pub as_long : (a b : List ℕ) → length a ≡ length b → length (take (length a - 8) (drop 8 a)) ≡ length (take (length b - 8) (drop 8 b))
as_long a b same = ap length (behind 8 a) ∙ length-drop 8 a ∙ ap (λ n. n - 8) same ∙ sym (length-drop 8 b) ∙ sym (ap length (behind 8 b))

small_take : (n : ℕ) (codes : List ℕ) → ((i : ℕ) → get_or codes i 0 < 256) → (i : ℕ) → get_or (take n codes) i 0 < 256
small_take zero codes small i = omega arith
small_take (suc n) [] small i = omega arith
small_take (suc n) (x ∷ xs) small zero = small 0
small_take (suc n) (x ∷ xs) small (suc i) = small_take n xs (λ j. small (suc j)) i

pub first_codes : (n p q : ℕ) (a b : List ℕ) (order : Ordering) → n ≤ length a → n ≤ length b → ((i : ℕ) → get_or a i 0 < 256) → ((i : ℕ) → get_or b i 0 < 256)
    → p ≡ number_of (take n a) → q ≡ number_of (take n b) → order ≡ nat_cmp p q → order ≡ slice_cmp nat_cmp (take n a) (take n b)
first_codes n p q a b order in_a in_b small_a small_b p_is q_is is =
    is ∙ (λ i. nat_cmp (p_is i) (q_is i)) ∙ number_order (take n a) (take n b) (length-take-le n a in_a ∙ sym (length-take-le n b in_b)) (small_take n a small_a) (small_take n b small_b)

-- the order of two texts split at the same place
appended : (u v w z : List ℕ) → length u ≡ length v → slice_cmp nat_cmp (u ++ w) (v ++ z) ≡ ordering_then (slice_cmp nat_cmp u v) (slice_cmp nat_cmp w z)
appended [] [] w z same = refl
appended [] (y ∷ ys) w z same = absurd (omega (arith, same))
appended (x ∷ xs) [] w z same = absurd (omega (arith, same))
appended (x ∷ xs) (y ∷ ys) w z same = ap (ordering_then (nat_cmp x y)) (appended xs ys w z (omega (arith, same))) ∙ chained (nat_cmp x y) (slice_cmp nat_cmp xs ys) (slice_cmp nat_cmp w z)
  where
    chained : (o p q : Ordering) → ordering_then o (ordering_then p q) ≡ ordering_then (ordering_then o p) q
    chained Less p q = refl
    chained Equal p q = refl
    chained Greater p q = refl

-- padding doesn't change a text that is at least as long
unpadded : (a : List ℕ) (n : ℕ) → n ≤ length a → padded n a ≡ a
unpadded a n within = ap (λ k. a ++ replicate k 0x40) none ∙ append-nil a
  where
    none : n - length a ≡ 0
    none = omega (arith, within)

-- texts of the same length are compared without padding
pub as_they_are : (a b : List ℕ) (order : Ordering) → length a ≡ length b → order ≡ slice_cmp nat_cmp a b → order ≡ text_order a b
as_they_are a b order same is = is ∙ (λ i. slice_cmp nat_cmp (sym (unpadded a (length b) (omega (arith, same))) i) (sym (unpadded b (length a) (omega (arith, same))) i))

pub left_shorter : (a b : List ℕ) (n : ℕ) → n ≡ min (length a) (length b) → length a ≤ n
    → text_order a b ≡ ordering_then (slice_cmp nat_cmp (take n a) (take n b)) (slice_cmp nat_cmp (replicate (length (drop n b)) 0x40) (drop n b))
left_shorter a b n is least =
    let few : length a ≤ length b = omega (arith, is, least) in
    let size : n ≡ length a = omega (arith, is, least) in
    let all : take n a ≡ a = take_all n a (omega (arith, least)) in
    let rest : length b - length a ≡ length (drop n b) = omega (arith, length-drop n b, size) in
    ap (slice_cmp nat_cmp (padded (length b) a)) (unpadded b (length a) few ∙ sym (take-append-drop n b))
    ∙ (λ i. slice_cmp nat_cmp (sym all i ++ replicate (rest i) 0x40) (take n b ++ drop n b))
    ∙ appended (take n a) (take n b) (replicate (length (drop n b)) 0x40) (drop n b) (length-take-le n a (omega (arith, size)) ∙ sym (length-take-le n b (omega (arith, size, few))))

pub right_shorter : (a b : List ℕ) (n : ℕ) → n ≡ min (length a) (length b) → length b ≤ n
    → text_order a b ≡ ordering_then (slice_cmp nat_cmp (take n a) (take n b)) (slice_cmp nat_cmp (drop n a) (replicate (length (drop n a)) 0x40))
right_shorter a b n is least =
    let few : length b ≤ length a = omega (arith, is, least) in
    let size : n ≡ length b = omega (arith, is, least) in
    let all : take n b ≡ b = take_all n b (omega (arith, least)) in
    let rest : length a - length b ≡ length (drop n a) = omega (arith, length-drop n a, size) in
    ap (λ text. slice_cmp nat_cmp text (padded (length a) b)) (unpadded a (length b) few ∙ sym (take-append-drop n a))
    ∙ (λ i. slice_cmp nat_cmp (take n a ++ drop n a) (sym all i ++ replicate (rest i) 0x40))
    ∙ appended (take n a) (take n b) (drop n a) (replicate (length (drop n a)) 0x40) (length-take-le n a (omega (arith, size, few)) ∙ sym (length-take-le n b (omega (arith, size))))

pub texts_differ : (a b : List ℕ) (n : ℕ) (order : Ordering) → n ≡ min (length a) (length b) → order ≡ slice_cmp nat_cmp (take n a) (take n b) → is_ne order ≡ true → order ≡ text_order a b
texts_differ a b n order is order_is differs = by (cases_le (length a) (length b))
  where
    cases_le : (k m : ℕ) → (k ≤ m) ⊎ (m < k)
    cases_le k m = ⊎_elim inr inl (cases_lt m k)

    by : (length a ≤ length b) ⊎ (length b < length a) → order ≡ text_order a b
    by (inl p) = decided order (slice_cmp nat_cmp (replicate (length (drop n b)) 0x40) (drop n b)) differs ∙ ap (λ o. ordering_then o (slice_cmp nat_cmp (replicate (length (drop n b)) 0x40) (drop n b))) order_is ∙ sym (left_shorter a b n is (omega (arith, is, p)))
    by (inr p) = decided order (slice_cmp nat_cmp (drop n a) (replicate (length (drop n a)) 0x40)) differs ∙ ap (λ o. ordering_then o (slice_cmp nat_cmp (drop n a) (replicate (length (drop n a)) 0x40))) order_is ∙ sym (right_shorter a b n is (omega (arith, is, p)))

pub first_differs : (a b : List ℕ) (order : Ordering) → 1 ≤ length a → 1 ≤ length b → order ≡ slice_cmp nat_cmp (take 1 a) (take 1 b) → is_ne order ≡ true → order ≡ text_order a b
first_differs a b order some_a some_b is differs =
    ends_found 1 (padded (length b) a) (padded (length a) b) order
    (is ∙ (λ i. slice_cmp nat_cmp (sym (take-append-le 1 a (replicate (length b - length a) 0x40) some_a) i) (sym (take-append-le 1 b (replicate (length a - length b) 0x40) some_b) i))) differs

pub left_ends : (a b : List ℕ) (n : ℕ) (order rest : Ordering) → n ≡ min (length a) (length b) → length a ≤ n → order ≡ slice_cmp nat_cmp (take n a) (take n b) → is_ne order ≡ false
    → rest ≡ slice_cmp nat_cmp (replicate (length (take (length b - n) (drop n b))) 0x40) (take (length b - n) (drop n b)) → rest ≡ text_order a b
left_ends a b n order rest is least order_is same rest_is =
    rest_is ∙ ap (λ text. slice_cmp nat_cmp (replicate (length text) 0x40) text) (behind n b) ∙ ap (λ o. ordering_then o (slice_cmp nat_cmp (replicate (length (drop n b)) 0x40) (drop n b))) (sym (equal order same) ∙ order_is) ∙ sym (left_shorter a b n is least)

pub right_ends : (a b : List ℕ) (n : ℕ) (order rest : Ordering) → n ≡ min (length a) (length b) → n < length a → order ≡ slice_cmp nat_cmp (take n a) (take n b) → is_ne order ≡ false
    → rest ≡ slice_cmp nat_cmp (replicate (length (take (length a - n) (drop n a))) 0x40) (take (length a - n) (drop n a)) → ordering_reverse rest ≡ text_order a b
right_ends a b n order rest is more order_is same rest_is =
    ap ordering_reverse (rest_is ∙ ap (λ text. slice_cmp nat_cmp (replicate (length text) 0x40) text) (behind n a)) ∙ sym (IsTotalOrder.antisymm nat_list_cmp_total (drop n a) (replicate (length (drop n a)) 0x40))
    ∙ ap (λ o. ordering_then o (slice_cmp nat_cmp (drop n a) (replicate (length (drop n a)) 0x40))) (sym (equal order same) ∙ order_is) ∙ sym (right_shorter a b n is (omega (arith, is, more)))

-- blanks compared with a long text, by its first codes
pub blanks_found : (text : List ℕ) (order : Ordering) → 16 < length text → order ≡ slice_cmp nat_cmp (take 8 (replicate 16 0x40)) (take 8 text) → is_ne order ≡ true → order ≡ slice_cmp nat_cmp (replicate (length text) 0x40) text
blanks_found text order long is differs = ends_found 8 (replicate (length text) 0x40) text order (is ∙ ap (λ l. slice_cmp nat_cmp l (take 8 text)) (sym (take-replicate 8 (length text) 0x40 (omega (arith, long))))) differs

pub blanks_rest : (text : List ℕ) (order whole : Ordering) → 16 < length text → order ≡ slice_cmp nat_cmp (take 8 (replicate 16 0x40)) (take 8 text) → is_ne order ≡ false
    → slice_cmp nat_cmp (replicate (length text) 0x40) text ≡ whole
    → slice_cmp nat_cmp (replicate (length (take (length text - 8) (drop 8 text))) 0x40) (take (length text - 8) (drop 8 text)) ≡ whole
blanks_rest text order whole long is same before =
    ap (λ rest. slice_cmp nat_cmp (replicate (length rest) 0x40) rest) (behind 8 text)
    ∙ (λ i. slice_cmp nat_cmp (front i) (drop 8 text))
    ∙ ends_rest 8 8 (replicate (length text) 0x40) text order (omega arith) (is ∙ ap (λ l. slice_cmp nat_cmp l (take 8 text)) (sym (take-replicate 8 (length text) 0x40 (omega (arith, long))))) same
    ∙ before
  where
    front : replicate {A = ℕ} (length (drop 8 text)) 0x40 ≡ drop 8 (replicate (length text) 0x40)
    front = ap (λ k. replicate {A = ℕ} k 0x40) (length-drop 8 text) ∙ sym (drop-replicate 8 (length text) 0x40)

pub blanks_last : (text : List ℕ) (order whole : Ordering) → length text ≤ 16 → order ≡ slice_cmp nat_cmp (take (length text) (replicate 16 0x40)) text
    → slice_cmp nat_cmp (replicate (length text) 0x40) text ≡ whole → order ≡ whole
blanks_last text order whole few is before = is ∙ ap (λ blanks. slice_cmp nat_cmp blanks text) (take-replicate (length text) 16 0x40 few) ∙ before
