-- Digits read one after another.
use Rattle.std.proofs.Common.{◌≡◌, ℕ, ◌+◌, ◌-◌, ◌*◌, ◌/◌, ◌%◌, ◌^◌, ◌<◌, ◌≤◌, refl, arith, sym, ◌∙◌, ap, Bool, true, false, ◌||◌, suc, List, [], ◌∷◌, ◌++◌, map, length, take, get_or, length-append, append_assoc, subst}
use Rattle.std.proofs.lemmas.List.{take_more, map-append, length-take-le}
use Rattle.std.proofs.lemmas.List.Folds.{list_any-append}
use Rattle.std.proofs.lemmas.Nat.{mul-le}
use Rattle.std.specs.Bool.{nat_lt}
use Rattle.s3_decimal.specs.Records.{number_of, cleaned, has_bad_digit, zoned_digits, halves, packed_digits}
use Rattle.s3_decimal.proofs.Powers.{ten_suc, ten_suc'}

pub number_push : (ds : List ℕ) (d : ℕ) → number_of (ds ++ d ∷ []) ≡ number_of ds * 10 + d
number_push [] d = omega arith
number_push (x ∷ ds) d =
    let l : 10 ^ length (ds ++ d ∷ []) ≡ 10 ^ length ds * 10 = ap (λ k. 10 ^ k) (length-append ds (d ∷ [])) ∙ ten_suc (length ds) in
    omega (arith, number_push ds d, ap (λ t. x * t) l)

pub cleaned_below : (d : ℕ) → cleaned d < 10
cleaned_below d = grind arith

pub length-cleaned : (ds : List ℕ) → length (map cleaned ds) ≡ length ds
length-cleaned [] = refl
length-cleaned (d ∷ ds) = ap suc (length-cleaned ds)

pub length-zoned_digits : (bs : List ℕ) → length (zoned_digits bs) ≡ length bs
length-zoned_digits [] = refl
length-zoned_digits (b ∷ bs) = ap suc (length-zoned_digits bs)

pub number_below : (ds : List ℕ) → number_of (map cleaned ds) < 10 ^ length ds
number_below [] = omega arith
number_below (d ∷ ds) =
    let l : 10 ^ suc (length ds) ≡ 10 ^ length ds * 10 = ten_suc' (length ds) in
    let m : 10 ^ length (map cleaned ds) ≡ 10 ^ length ds = ap (λ k. 10 ^ k) (length-cleaned ds) in
    let p : (cleaned d + 1) * 10 ^ length ds ≤ 10 * 10 ^ length ds = mul-le (cleaned d + 1) (10 ^ length ds) 10 (10 ^ length ds) (omega (arith, cleaned_below d)) (omega arith) in
    omega (arith, number_below ds, ap (λ t. cleaned d * t) m)

pub number_read : (ds : List ℕ) (d m : ℕ) → m ≡ number_of (map cleaned ds) → m * 10 + cleaned d ≡ number_of (map cleaned (ds ++ d ∷ []))
number_read ds d m h =
    ap (λ t. t * 10 + cleaned d) h ∙ sym (number_push (map cleaned ds) (cleaned d)) ∙ ap number_of (sym (map-append cleaned ds (d ∷ [])))

or-false : (b : Bool) → (b || false) ≡ b
or-false true = refl
or-false false = refl

pub bad_read : (ds : List ℕ) (d : ℕ) (b : Bool) → b ≡ has_bad_digit ds → (b || nat_lt 9 d) ≡ has_bad_digit (ds ++ d ∷ [])
bad_read ds d b h =
    ap (λ t. t || nat_lt 9 d) h ∙ ap (λ t. has_bad_digit ds || t) (sym (or-false (nat_lt 9 d))) ∙ sym (list_any-append (λ x. nat_lt 9 x) ds (d ∷ []))

pub zoned_more : (bs : List ℕ) (i : ℕ) → i < length bs → zoned_digits (take (i + 1) bs) ≡ zoned_digits (take i bs) ++ get_or bs i 0 % 16 ∷ []
zoned_more bs i h = ap zoned_digits (take_more bs i 0 h) ∙ map-append (λ b. b % 16) (take i bs) (get_or bs i 0 ∷ [])

halves-append : (bs cs : List ℕ) → halves (bs ++ cs) ≡ halves bs ++ halves cs
halves-append [] cs = refl
halves-append (b ∷ bs) cs = ap (λ t. b / 16 ∷ b % 16 ∷ t) (halves-append bs cs)

pub halves_more : (bs : List ℕ) (i : ℕ) → i < length bs → halves (take (i + 1) bs) ≡ (halves (take i bs) ++ get_or bs i 0 / 16 ∷ []) ++ get_or bs i 0 % 16 ∷ []
halves_more bs i h =
    ap halves (take_more bs i 0 h) ∙ halves-append (take i bs) (get_or bs i 0 ∷ []) ∙ sym (append_assoc (halves (take i bs)) (get_or bs i 0 / 16 ∷ []) (get_or bs i 0 % 16 ∷ []))

pub length-halves : (bs : List ℕ) → length (halves bs) ≡ 2 * length bs
length-halves [] = refl
length-halves (b ∷ bs) = omega (arith, length-halves bs)

-- the digits of i bytes are a number of i digits
pub zoned_so_far : (bs : List ℕ) (i m : ℕ) → i ≤ length bs → m ≡ number_of (map cleaned (zoned_digits (take i bs))) → m < 10 ^ i
zoned_so_far bs i m h e =
    let l : length (zoned_digits (take i bs)) ≡ i = length-zoned_digits (take i bs) ∙ length-take-le i bs h in
    rw e (subst (λ k. number_of (map cleaned (zoned_digits (take i bs))) < 10 ^ k) l (number_below (zoned_digits (take i bs))))

pub packed_so_far : (bs : List ℕ) (i m : ℕ) → i ≤ length bs → m ≡ number_of (map cleaned (halves (take i bs))) → m < 10 ^ (2 * i)
packed_so_far bs i m h e =
    let l : length (halves (take i bs)) ≡ 2 * i = length-halves (take i bs) ∙ ap (λ k. 2 * k) (length-take-le i bs h) in
    rw e (subst (λ k. number_of (map cleaned (halves (take i bs))) < 10 ^ k) l (number_below (halves (take i bs))))

pub packed_whole : (bs : List ℕ) (i m k : ℕ) → i ≡ length bs - 1 → m ≡ number_of (map cleaned (halves (take i bs))) → k ≡ m * 10 + cleaned (get_or bs (length bs - 1) 0 / 16) → k ≡ number_of (map cleaned (packed_digits bs))
packed_whole bs i m k e h l =
    l ∙ number_read (halves (take i bs)) (get_or bs (length bs - 1) 0 / 16) m h
    ∙ ap (λ j. number_of (map cleaned (halves (take j bs) ++ get_or bs (length bs - 1) 0 / 16 ∷ []))) e

pub packed_below : (bs : List ℕ) → 1 ≤ length bs → number_of (map cleaned (packed_digits bs)) < 10 ^ (2 * length bs - 1)
packed_below bs h =
    let l : length (packed_digits bs) ≡ 2 * length bs - 1 =
    omega (arith, length-append (halves (take (length bs - 1) bs)) (get_or bs (length bs - 1) 0 / 16 ∷ []), length-halves (take (length bs - 1) bs), length-take-le (length bs - 1) bs (omega arith)) in
    subst (λ k. number_of (map cleaned (packed_digits bs)) < 10 ^ k) l (number_below (packed_digits bs))
