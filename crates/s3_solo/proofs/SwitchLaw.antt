-- The switches as a number: each has its bit.
use Rattle.std.proofs.Common.{◌≡◌, ℕ, zero, suc, ◌+◌, ◌*◌, ◌-◌, ◌/◌, ◌%◌, ◌^◌, ◌==◌, ◌≤◌, ◌<◌, Bool, true, false, cond, List, [], ◌∷◌, length, get_or, refl, ◌∙◌, ap, subst, arith, lit<}
use Rattle.std.proofs.Math.Nat.{add-mul-div_left, add-mul-mod_self_left, div-eq_of_lt}
use Rattle.std.proofs.lemmas.Nat.{pow-add, div-mul-add, pow_pos}
use Rattle.s3_ocl.specs.declared.values.Switch.{Switch}
use Rattle.s3_meaning.specs.Environment.{switch_on}
use Rattle.s3_solo.specs.Serving.{is_on_after, switch_of, switches_after}

-- the number of some bits, the highest first
abbrev value : List Bool → ℕ
value [] = 0
value (bit ∷ bits) = cond bit (2 ^ length bits) 0 + value bits

doubled : (bit : Bool) (bits : List Bool) → 2 ^ length (bit ∷ bits) ≡ 2 * 2 ^ length bits
doubled bit bits =
    let n : length (bit ∷ bits) ≡ 1 + length bits = omega arith in
    ap (λ m. 2 ^ m) n ∙ pow-add 2 1 (length bits)

value_below : (bits : List Bool) → value bits < 2 ^ length bits
value_below [] = lit< tt
value_below (true ∷ bits) = omega (arith, value_below bits, doubled true bits)
value_below (false ∷ bits) = omega (arith, value_below bits, doubled false bits)

highest : (bit : Bool) (weight rest : ℕ) → rest < weight → ((cond bit weight 0 + rest) / weight % 2 == 1) ≡ bit
highest true weight rest small =
    let e : (weight + rest) / weight ≡ 1 = ap (λ n. (n + rest) / weight) (omega arith) ∙ div-mul-add 1 weight rest small in
    ap (λ n. n % 2 == 1) e
highest false weight rest small =
    let e : (0 + rest) / weight ≡ 0 = ap (λ n. n / weight) (omega arith) ∙ div-eq_of_lt small in
    ap (λ n. n % 2 == 1) e

-- an even multiple of a bit's weight leaves the bit as it is
lower : (bit : Bool) (rest unit more : ℕ) → 0 < unit → ((cond bit (unit * (2 * more)) 0 + rest) / unit % 2 == 1) ≡ (rest / unit % 2 == 1)
lower true rest unit more some =
    let e : (unit * (2 * more) + rest) / unit ≡ rest / unit + 2 * more = ap (λ n. n / unit) (omega arith) ∙ add-mul-div_left rest (2 * more) some in
    ap (λ n. n % 2 == 1) e ∙ ap (λ n. n == 1) (add-mul-mod_self_left (rest / unit) 2 more)
lower false rest unit more some = ap (λ n. n / unit % 2 == 1) (omega arith)

-- each of the bits is at its place, counted from the highest
bit_of : (bits : List Bool) (i : ℕ) → i < length bits → (value bits / 2 ^ (length bits - 1 - i) % 2 == 1) ≡ get_or bits i false
bit_of [] i in' = absurd (omega (arith, in'))
bit_of (bit ∷ bits) zero in' =
    let e : length (bit ∷ bits) - 1 - 0 ≡ length bits = omega arith in
    rw e (highest bit (2 ^ length bits) (value bits) (value_below bits))
bit_of (bit ∷ bits) (suc i) in' =
    let k : ℕ = length bits - 1 - i in
    let e : length (bit ∷ bits) - 1 - suc i ≡ k = omega arith in
    let n : length bits ≡ k + (1 + i) = omega (arith, in') in
    let weight : 2 ^ length bits ≡ 2 ^ k * (2 * 2 ^ i) = ap (λ m. 2 ^ m) n ∙ (pow-add 2 k (1 + i) ∙ ap (λ m. 2 ^ k * m) (pow-add 2 1 i)) in
    rw (e, weight) (lower bit (value bits) (2 ^ k) (2 ^ i) (pow_pos k) ∙ bit_of bits i (omega (arith, in')))

-- U1 to U8 as a list
abbrev eight : (ℕ → Bool) → List Bool
eight is_on = is_on 1 ∷ is_on 2 ∷ is_on 3 ∷ is_on 4 ∷ is_on 5 ∷ is_on 6 ∷ is_on 7 ∷ is_on 8 ∷ []

summed : (a b c d e f g h : Bool)
    → 0 + cond a 128 0 + cond b 64 0 + cond c 32 0 + cond d 16 0 + cond e 8 0 + cond f 4 0 + cond g 2 0 + cond h 1 0
    ≡ value (a ∷ b ∷ c ∷ d ∷ e ∷ f ∷ g ∷ h ∷ [])
summed a b c d e f g h = omega arith

one_of_eight : (is_on : ℕ → Bool) (n : ℕ) → 1 ≤ n → n ≤ 8 → get_or (eight is_on) (n - 1) false ≡ is_on n
one_of_eight is_on zero low high = absurd (omega (arith, low))
one_of_eight is_on (suc zero) low high = refl
one_of_eight is_on (suc (suc zero)) low high = refl
one_of_eight is_on (suc (suc (suc zero))) low high = refl
one_of_eight is_on (suc (suc (suc (suc zero)))) low high = refl
one_of_eight is_on (suc (suc (suc (suc (suc zero))))) low high = refl
one_of_eight is_on (suc (suc (suc (suc (suc (suc zero)))))) low high = refl
one_of_eight is_on (suc (suc (suc (suc (suc (suc (suc zero))))))) low high = refl
one_of_eight is_on (suc (suc (suc (suc (suc (suc (suc (suc zero)))))))) low high = refl
one_of_eight is_on (suc (suc (suc (suc (suc (suc (suc (suc (suc n))))))))) low high = absurd (omega (arith, high))

pub each_switch : (switches : List Switch) (was n : ℕ) → 1 ≤ n → n ≤ 8 → switch_on (switches_after switches was) n ≡ is_on_after (switch_of switches n) (switch_on was n)
each_switch switches was n low high =
    let is_on : ℕ → Bool = λ k. is_on_after (switch_of switches k) (switch_on was k) in
    let whole : switches_after switches was ≡ value (eight is_on) = summed (is_on 1) (is_on 2) (is_on 3) (is_on 4) (is_on 5) (is_on 6) (is_on 7) (is_on 8) in
    let place : 8 - 1 - (n - 1) ≡ 8 - n = omega arith in
    let bit : (value (eight is_on) / 2 ^ (8 - n) % 2 == 1) ≡ get_or (eight is_on) (n - 1) false =
    subst (λ (k : ℕ). (value (eight is_on) / 2 ^ k % 2 == 1) ≡ get_or (eight is_on) (n - 1) false) place (bit_of (eight is_on) (n - 1) (omega arith)) in
    ap (λ (m : ℕ). m / 2 ^ (8 - n) % 2 == 1) whole ∙ (bit ∙ one_of_eight is_on n low high)
