-- Room for the digits of an amount, and blanks in front of them.
use Rattle.std.proofs.Common.{◌≡◌, ◌≢◌, ℕ, zero, suc, ◌+◌, ◌-◌, ◌*◌, ◌/◌, ◌^◌, ◌<◌, ◌≤◌, refl, arith, sym, ◌∙◌, ap, Bool, true, false, not, ◌&&◌, nat_lt, if◌then◌else◌, List, length, slice_set, get_or, get_or-set_other, get_or-set_same, Some, None, subst}
use Rattle.std.specs.Prelude.{is_some, unwrap_or, ◌==◌, ◌%◌}
use Rattle.std.proofs.lemmas.Bool.{true≢false}
use Rattle.std.proofs.Math.Nat.{div-eq_of_lt}
use Rattle.std.proofs.lemmas.Bool.Decides.{nat_tests}
use Rattle.std.proofs.lemmas.List.{length-set}
use Rattle.std.proofs.lemmas.Nat.{le-div}
use Rattle.s3_decimal.proofs.Powers.{ten_le, ten_pos}
use Rattle.s3_edit.specs.declared.code.Amount.{Amount}
use Rattle.s3_edit.specs.declared.code.EditCode.TheVariants.{Edited}
use Rattle.s3_edit.specs.declared.code.Sign.{Sign}
use Rattle.s3_edit.specs.declared.code.Sign.TheVariants.{Never, Credit, Minus}
use Rattle.s3_edit.specs.Inner.Passes.{whole_at}
use Rattle.s3_edit.specs.Picture.{body_width, comma_width, is_form, point_width, sign_width, suppressed_at, whole_digits, width_of}
use Rattle.s3_edit.proofs.Places.{below, is_lt, lt_false, lt_true, not_lt, split, suppressed_digit, tenth}

-- ---- pairs of digits
pair_by : (b : Bool) (n end place : ℕ) (text : List ℕ) → 2 ≤ end → get_or text (end - 2) 0 ≡ 0xf0 + n % 100 / 10 → get_or text (end - 1) 0 ≡ 0xf0 + n % 100 % 10 → place < 2 → nat_lt 0 place ≡ b
    → get_or text (end - 1 - place) 0 ≡ 0xf0 + n / 10 ^ place % 10
pair_by true n end place text room tens units h t =
    let one : place ≡ 1 = omega (arith, h, is_lt 0 place t) in
    let digit : n % 100 / 10 ≡ n / 10 ^ 1 % 10 = omega arith in
    ap (λ i. get_or text i 0) (omega (arith, one, room)) ∙ tens ∙ ap (λ d. 0xf0 + d) digit ∙ ap (λ k. 0xf0 + n / 10 ^ k % 10) (sym one)
pair_by false n end place text room tens units h t =
    let none : place ≡ 0 = omega (arith, not_lt 0 place t) in
    let digit : n % 100 % 10 ≡ n / 10 ^ 0 % 10 = omega arith in
    ap (λ i. get_or text i 0) (omega (arith, none, room)) ∙ units ∙ ap (λ d. 0xf0 + d) digit ∙ ap (λ k. 0xf0 + n / 10 ^ k % 10) (sym none)

-- the last two places of a number
pub pair_digit : (n end place : ℕ) (text : List ℕ) → 2 ≤ end → get_or text (end - 2) 0 ≡ 0xf0 + n % 100 / 10 → get_or text (end - 1) 0 ≡ 0xf0 + n % 100 % 10 → place < 2
    → get_or text (end - 1 - place) 0 ≡ 0xf0 + n / 10 ^ place % 10
pair_digit n end place text room tens units h = pair_by (nat_lt 0 place) n end place text room tens units h refl

written_by : (b t : Bool) (n q r end : ℕ) (text now : List ℕ) → r ≡ n / 10 ^ q → 9 < r → q + 2 ≤ end → ((k : ℕ) → k < q → get_or text (end - 1 - k) 0 ≡ suppressed_at n k)
    → ((place : ℕ) → place < 2 → get_or now (end - q - 1 - place) 0 ≡ 0xf0 + r / 10 ^ place % 10) → ((i : ℕ) → end - q ≤ i → get_or now i 0 ≡ get_or text i 0)
    → (k : ℕ) → k < q + 2 → nat_lt k q ≡ b → nat_lt k (q + 1) ≡ t → get_or now (end - 1 - k) 0 ≡ suppressed_at n k
written_by true t n q r end text now left many room written digits rest k h e f =
    let l : k < q = is_lt k q e in
    rest (end - 1 - k) (omega (arith, l, room)) ∙ written k l
written_by false true n q r end text now left many room written digits rest k h e f =
    let same : k ≡ q = omega (arith, not_lt k q e, is_lt k (q + 1) f) in
    let digit : r / 10 ^ 0 % 10 ≡ r % 10 = omega arith in
    ap (λ i. get_or now i 0) (omega (arith, same)) ∙ digits 0 (omega arith) ∙ ap (λ d. 0xf0 + d) digit ∙ suppressed_digit n q r left (omega (arith, many)) ∙ ap (λ j. suppressed_at n j) (sym same)
written_by false false n q r end text now left many room written digits rest k h e f =
    let same : k ≡ q + 1 = omega (arith, not_lt k (q + 1) f, h) in
    ap (λ i. get_or now i 0) (omega (arith, same)) ∙ digits 1 (omega arith) ∙ suppressed_digit n (q + 1) (r / 10) (ap (λ v. v / 10) left ∙ tenth n q) (omega (arith, many)) ∙ ap (λ j. suppressed_at n j) (sym same)

-- two digits more are written
pub pair_written : (n q r end : ℕ) (text now : List ℕ) → r ≡ n / 10 ^ q → 9 < r → q + 2 ≤ end → ((k : ℕ) → k < q → get_or text (end - 1 - k) 0 ≡ suppressed_at n k)
    → ((place : ℕ) → place < 2 → get_or now (end - q - 1 - place) 0 ≡ 0xf0 + r / 10 ^ place % 10) → ((i : ℕ) → end - q ≤ i → get_or now i 0 ≡ get_or text i 0)
    → (k : ℕ) → k < q + 2 → get_or now (end - 1 - k) 0 ≡ suppressed_at n k
pair_written n q r end text now left many room written digits rest k h = written_by (nat_lt k q) (nat_lt k (q + 1)) n q r end text now left many room written digits rest k h refl refl

-- ---- three digits
three_at : (n end place : ℕ) (text : List ℕ) → 3 ≤ end → get_or text (end - 3) 0 ≡ 0xf0 + n / 10 ^ 2 % 10 → get_or text (end - 2) 0 ≡ 0xf0 + n / 10 ^ 1 % 10 → get_or text (end - 1) 0 ≡ 0xf0 + n / 10 ^ 0 % 10 → place < 3
    → get_or text (end - 1 - place) 0 ≡ 0xf0 + n / 10 ^ place % 10
three_at n end zero text room hundreds tens units h = ap (λ i. get_or text i 0) (omega arith) ∙ units
three_at n end (suc zero) text room hundreds tens units h = ap (λ i. get_or text i 0) (omega arith) ∙ tens
three_at n end (suc (suc zero)) text room hundreds tens units h = ap (λ i. get_or text i 0) (omega arith) ∙ hundreds
three_at n end (suc (suc (suc place))) text room hundreds tens units h = absurd (omega (arith, h))

-- the last three places of a number
pub three_digits : (n end place hundreds tens units : ℕ) (text : List ℕ) → 3 ≤ end → end ≤ length text → hundreds ≡ (n - 1000 * (n / 1000)) / 100 → tens ≡ 0xf0 + (n - 1000 * (n / 1000) - 100 * hundreds) / 10 → units ≡ 0xf0 + (n - 1000 * (n / 1000) - 100 * hundreds) % 10 → place < 3
    → get_or (slice_set (slice_set (slice_set text (end - 3) (0xf0 + hundreds)) (end - 2) tens) (end - 1) units) (end - 1 - place) 0 ≡ 0xf0 + n / 10 ^ place % 10
three_digits n end place hundreds tens units text room long is_h is_t is_u h =
    let one = slice_set text (end - 3) (0xf0 + hundreds) in
    let two = slice_set one (end - 2) tens in
    let l3 : end - 3 < length text = omega (arith, room, long) in
    let l2 : end - 2 < length one = omega (arith, room, long, length-set text (end - 3) (0xf0 + hundreds)) in
    let l1 : end - 1 < length two = omega (arith, room, long, length-set text (end - 3) (0xf0 + hundreds), length-set one (end - 2) tens) in
    let n32 : end - 3 ≢ end - 2 = omega (arith, room) in
    let n31 : end - 3 ≢ end - 1 = omega (arith, room) in
    let n21 : end - 2 ≢ end - 1 = omega (arith, room) in
    let hundred : hundreds ≡ n / 10 ^ 2 % 10 = omega (arith, is_h) in
    let ten : (n - 1000 * (n / 1000) - 100 * hundreds) / 10 ≡ n / 10 ^ 1 % 10 = omega (arith, is_h) in
    let unit : (n - 1000 * (n / 1000) - 100 * hundreds) % 10 ≡ n / 10 ^ 0 % 10 = omega (arith, is_h) in
    let set3 : get_or (slice_set text (end - 3) (0xf0 + hundreds)) (end - 3) 0 ≡ 0xf0 + hundreds = rw get_or-set_same refl in
    let set2 : get_or (slice_set one (end - 2) tens) (end - 2) 0 ≡ tens = rw get_or-set_same refl in
    let set1 : get_or (slice_set two (end - 1) units) (end - 1) 0 ≡ units = rw get_or-set_same refl in
    let kept3 : get_or (slice_set two (end - 1) units) (end - 3) 0 ≡ 0xf0 + hundreds = rw get_or-set_other (rw get_or-set_other set3) in
    let kept2 : get_or (slice_set two (end - 1) units) (end - 2) 0 ≡ tens = rw get_or-set_other set2 in
    three_at n end place (slice_set two (end - 1) units) room (kept3 ∙ ap (λ d. 0xf0 + d) hundred) (kept2 ∙ is_t ∙ ap (λ d. 0xf0 + d) ten) (set1 ∙ is_u ∙ ap (λ d. 0xf0 + d) unit) h

-- ---- the digits that are left
pub part_below : (v k m : ℕ) → v < 10 ^ (k + m) → v / 10 ^ k < 10 ^ m
part_below v k m h = below (v / 10 ^ k) m (split v k m ∙ div-eq_of_lt h)

-- what is left of a number without so many digits, and then without the others of a count
pub left_further : (n r low count : ℕ) → low ≤ count → r ≡ n / 10 ^ low → r / 10 ^ (count - low) ≡ n / 10 ^ count
left_further n r low count few is = ap (λ q. q / 10 ^ (count - low)) is ∙ split n low (count - low) ∙ ap (λ e. n / 10 ^ e) (omega (arith, few))

-- the lowest digits, and those of what is left in front of them
pub digits_joined : (n r low count end : ℕ) (before out : List ℕ) → low ≤ count → count ≤ end → r ≡ n / 10 ^ low → ((k : ℕ) → k < low → get_or before (end - 1 - k) 0 ≡ 0xf0 + n / 10 ^ k % 10)
    → ((k : ℕ) → k < count - low → get_or out (end - low - 1 - k) 0 ≡ 0xf0 + r / 10 ^ k % 10) → ((i : ℕ) → end - low ≤ i → get_or out i 0 ≡ get_or before i 0)
    → (k : ℕ) → k < count → get_or out (end - 1 - k) 0 ≡ 0xf0 + n / 10 ^ k % 10
digits_joined n r low count end before out few within is right left kept k h = by (nat_lt k low) refl
  where
    by : (b : Bool) → nat_lt k low ≡ b → get_or out (end - 1 - k) 0 ≡ 0xf0 + n / 10 ^ k % 10
    by true t = let under : k < low = is_lt k low t in kept (end - 1 - k) (omega (arith, under)) ∙ right k under
    by false t =
        let past : low ≤ k = not_lt k low t in
        ap (λ i. get_or out i 0) (omega (arith, past)) ∙ left (k - low) (omega (arith, past, h)) ∙ ap (λ q. 0xf0 + q % 10) (left_further n r low k past is)

room_by : (b : Bool) (n q end r : ℕ) → n < 10 ^ end → r ≡ n / 10 ^ q → 0 < r → nat_lt q end ≡ b → q < end
room_by true n q end r fits left some t = is_lt q end t
room_by false n q end r fits left some t =
    let none : n / 10 ^ q ≡ 0 = div-eq_of_lt (omega (arith, fits, ten_le end q (not_lt q end t))) in
    absurd (omega (arith, none, left, some))

-- a digit that is left has its place
pub digit_room : (n q end r : ℕ) → n < 10 ^ end → r ≡ n / 10 ^ q → 0 < r → q < end
digit_room n q end r fits left some = room_by (nat_lt q end) n q end r fits left some refl

-- and two digits that are left have theirs
pub pair_room : (n q end r : ℕ) → n < 10 ^ end → r ≡ n / 10 ^ q → 9 < r → q + 2 ≤ end
pair_room n q end r fits left many =
    let some : 0 < r / 10 = omega (arith, many) in
    let room : q + 1 < end = digit_room n (q + 1) end (r / 10) fits (ap (λ v. v / 10) left ∙ tenth n q) some in
    omega (arith, room)

comma_by : (b : Bool) (v e : ℕ) → 999 < v → v < 10 ^ whole_digits true e → nat_lt 3 (whole_digits true e) ≡ b → 4 < e
comma_by true v e many fits t =
    let more : 3 < whole_digits true e = is_lt 3 (whole_digits true e) t in
    omega (arith, more)
comma_by false v e many fits t =
    let few : whole_digits true e ≤ 3 = not_lt 3 (whole_digits true e) t in
    let thousand : 10 ^ 3 ≡ 1000 = refl in
    absurd (omega (arith, many, fits, thousand, ten_le (whole_digits true e) 3 few))

-- three digits and a comma have theirs where more than three digits are left
pub comma_room : (v e : ℕ) → 999 < v → v < 10 ^ whole_digits true e → 4 < e
comma_room v e many fits = comma_by (nat_lt 3 (whole_digits true e)) v e many fits refl

pub next_room : (v e : ℕ) → 4 < e → v < 10 ^ whole_digits true e → v / 10 ^ 3 < 10 ^ whole_digits true (e - 4)
next_room v e long fits =
    let count : whole_digits true e ≡ 3 + whole_digits true (e - 4) = omega arith in
    part_below v 3 (whole_digits true (e - 4)) (subst (λ k. v < 10 ^ k) count fits)

pub last_room : (commas : Bool) (v e : ℕ) → v < 10 ^ whole_digits commas e → v < 10 ^ e
last_room true v e fits =
    let few : whole_digits true e ≤ e = omega arith in
    omega (arith, fits, ten_le (whole_digits true e) e few)
last_room false v e fits = fits

-- no comma comes before the last digits
pub no_comma : (commas : Bool) (v room : ℕ) → (commas && nat_lt 999 v) ≡ false → (commas && (nat_lt 999 v && nat_lt 3 room)) ≡ false
no_comma false v room h = refl
no_comma true v room h = ap (λ b. b && nat_lt 3 room) h

-- ---- blanks in front of the digits
pub blank_digit : (n q : ℕ) → n < 10 ^ q → 0x40 ≡ suppressed_at n q
blank_digit n q h = rw (lt_true n (10 ^ q) h) refl

pub blank_over : (n q p : ℕ) → n < 10 ^ q → q ≤ p → 0x40 ≡ suppressed_at n p
blank_over n q p h l = blank_digit n p (omega (arith, h, ten_le q p l))

none_by : (b : Bool) (n end q : ℕ) (text : List ℕ) → n < 10 ^ q → ((k : ℕ) → k < q → get_or text (end - 1 - k) 0 ≡ suppressed_at n k) → ((i : ℕ) → i < end - q → get_or text i 0 ≡ 0x40) → (place : ℕ) → place < end → nat_lt place q ≡ b → get_or text (end - 1 - place) 0 ≡ suppressed_at n place
none_by true n end q text none written before place h t = written place (is_lt place q t)
none_by false n end q text none written before place h t =
    let l : q ≤ place = not_lt place q t in
    before (end - 1 - place) (omega (arith, l, h)) ∙ blank_over n q place none l

-- every digit is written
pub none_left : (n end q : ℕ) (text : List ℕ) → n / 10 ^ q ≡ 0 → ((k : ℕ) → k < q → get_or text (end - 1 - k) 0 ≡ suppressed_at n k) → ((i : ℕ) → i < end - q → get_or text i 0 ≡ 0x40) → (place : ℕ) → place < end → get_or text (end - 1 - place) 0 ≡ suppressed_at n place
none_left n end q text none written before place h = none_by (nat_lt place q) n end q text (below n q none) written before place h refl

first_by : (b t : Bool) (n end q r : ℕ) (text : List ℕ) → q < end → end ≤ length text → r ≡ n / 10 ^ q → 0 < r → r ≤ 9 → ((k : ℕ) → k < q → get_or text (end - 1 - k) 0 ≡ suppressed_at n k) → ((i : ℕ) → i < end - q → get_or text i 0 ≡ 0x40) → (place : ℕ) → place < end → nat_lt place q ≡ b → nat_lt place (q + 1) ≡ t
    → get_or (slice_set text (end - 1 - q) (0xf0 + r)) (end - 1 - place) 0 ≡ suppressed_at n place
first_by true t n end q r text room long left some few written before place h e e' =
    let l : place < q = is_lt place q e in
    let ne : end - 1 - place ≢ end - 1 - q = omega arith in
    rw get_or-set_other (written place l)
first_by false true n end q r text room long left some few written before place h e e' =
    let l : q ≤ place = not_lt place q e in
    let m : place < q + 1 = is_lt place (q + 1) e' in
    let same : place ≡ q = omega (arith, l, m) in
    let lt : end - 1 - q < length text = omega arith in
    let digit : r % 10 ≡ r = omega (arith, few) in
    let set : get_or (slice_set text (end - 1 - q) (0xf0 + r)) (end - 1 - q) 0 ≡ 0xf0 + r = rw get_or-set_same refl in
    ap (λ k. get_or (slice_set text (end - 1 - q) (0xf0 + r)) (end - 1 - k) 0) same ∙ set ∙ ap (λ d. 0xf0 + d) (sym digit) ∙ suppressed_digit n q r left some ∙ ap (λ k. suppressed_at n k) (sym same)
first_by false false n end q r text room long left some few written before place h e e' =
    let l : q + 1 ≤ place = not_lt place (q + 1) e' in
    let ne : end - 1 - place ≢ end - 1 - q = omega (arith, l, h) in
    let last : r / 10 ≡ 0 = omega (arith, few) in
    let none : n / 10 ^ (q + 1) ≡ 0 = sym (tenth n q) ∙ ap (λ v. v / 10) (sym left) ∙ last in
    rw get_or-set_other (before (end - 1 - place) (omega (arith, l, h)) ∙ blank_over n (q + 1) place (below n (q + 1) none) l)

-- the same for the first one, which is what is left of the number
pub first_digit : (n end q r : ℕ) (text : List ℕ) → q < end → end ≤ length text → r ≡ n / 10 ^ q → 0 < r → r ≤ 9 → ((k : ℕ) → k < q → get_or text (end - 1 - k) 0 ≡ suppressed_at n k) → ((i : ℕ) → i < end - q → get_or text i 0 ≡ 0x40) → (place : ℕ) → place < end
    → get_or (slice_set text (end - 1 - q) (0xf0 + r)) (end - 1 - place) 0 ≡ suppressed_at n place
first_digit n end q r text room long left some few written before place h = first_by (nat_lt place q) (nat_lt place (q + 1)) n end q r text room long left some few written before place h refl refl

-- ---- numbers below 1,000
-- a place at which the number has a digit, or left of which it has one
pub shown_digit : (n q k : ℕ) → 10 ^ q ≤ n → k ≤ q → 0xf0 + n / 10 ^ k % 10 ≡ suppressed_at n k
shown_digit n q k many h =
    let some : 1 ≤ n / 10 ^ k = le-div 1 n (10 ^ k) (ten_pos k) (omega (arith, many, ten_le k q h)) in
    suppressed_digit n k (n / 10 ^ k) refl (omega (arith, some))

-- a number has this many digits, and they are written over blanks
pub few_written : (n q end : ℕ) (text : List ℕ) → 10 ^ q ≤ n → n < 10 ^ (q + 1) → ((k : ℕ) → k < q + 1 → get_or text (end - 1 - k) 0 ≡ 0xf0 + n / 10 ^ k % 10) → ((i : ℕ) → i < end - (q + 1) → get_or text i 0 ≡ 0x40) → (place : ℕ) → place < end → get_or text (end - 1 - place) 0 ≡ suppressed_at n place
few_written n q end text many few digits before place h =
    none_left n end (q + 1) text (div-eq_of_lt few) (λ k l. digits k l ∙ shown_digit n q k many (omega (arith, l))) before place h

-- it has none
pub none_written : (n end : ℕ) (text : List ℕ) → n ≡ 0 → ((i : ℕ) → i < end → get_or text i 0 ≡ 0x40) → (place : ℕ) → place < end → get_or text (end - 1 - place) 0 ≡ suppressed_at n place
none_written n end text none blanks place h =
    none_left n end 0 text (ap (λ v. v / 10 ^ 0) none) (λ k l. absurd (omega (arith, l))) (λ i l. blanks i (omega (arith, l))) place h

-- it has one
pub one_written : (n end : ℕ) (text : List ℕ) → 0 < n → n ≤ 9 → 0 < end → end ≤ length text → ((i : ℕ) → i < end → get_or text i 0 ≡ 0x40) → (place : ℕ) → place < end → get_or (slice_set text (end - 1) (0xf0 + n)) (end - 1 - place) 0 ≡ suppressed_at n place
one_written n end text some few room long blanks place h =
    let at : end - 1 ≡ end - 1 - 0 = omega arith in
    ap (λ i. get_or (slice_set text i (0xf0 + n)) (end - 1 - place) 0) at
    ∙ first_digit n end 0 n text room long (omega arith) some few (λ k l. absurd (omega (arith, l))) (λ i l. blanks i (omega (arith, l))) place h

-- three digits and a comma are written over blanks
pub parted : (v end : ℕ) (middle : List ℕ) → 4 < end → end ≤ length middle → ((k : ℕ) → k < 3 → get_or middle (end - 1 - k) 0 ≡ whole_at true v k) → 0x6b ≡ whole_at true v 3 → (k : ℕ) → k < 4 → get_or (slice_set middle (end - 4) 0x6b) (end - 1 - k) 0 ≡ whole_at true v k
parted v end middle room long digits comma k h = parted_by (nat_lt k 3) v end middle room long digits comma k h refl
  where
    parted_by : (b : Bool) (v end : ℕ) (middle : List ℕ) → 4 < end → end ≤ length middle → ((k : ℕ) → k < 3 → get_or middle (end - 1 - k) 0 ≡ whole_at true v k) → 0x6b ≡ whole_at true v 3 → (k : ℕ) → k < 4 → nat_lt k 3 ≡ b → get_or (slice_set middle (end - 4) 0x6b) (end - 1 - k) 0 ≡ whole_at true v k
    parted_by true v end middle room long digits comma k h t =
        let l : k < 3 = is_lt k 3 t in
        let ne : end - 1 - k ≢ end - 4 = omega (arith, l, room) in
        rw get_or-set_other (digits k l)
    parted_by false v end middle room long digits comma k h t =
        let three : k ≡ 3 = omega (arith, not_lt k 3 t, h) in
        let at : end - 1 - k ≡ end - 4 = omega (arith, three, room) in
        let inside : end - 4 < length middle = omega (arith, room, long) in
        let set : get_or (slice_set middle (end - 4) 0x6b) (end - 4) 0 ≡ 0x6b = rw get_or-set_same refl in
        ap (λ i. get_or (slice_set middle (end - 4) 0x6b) i 0) at ∙ set ∙ comma ∙ ap (λ j. whole_at true v j) (sym three)

-- a number below 1,000, or without commas, has no comma
pub below_comma : (commas : Bool) (v : ℕ) → v < 1000 → (commas && nat_lt 999 v) ≡ false
below_comma false v h = refl
below_comma true v h = lt_false 999 v (omega (arith, h))

-- ---- the width of an amount
known_by : (b : Bool) (total width : ℕ) → (if b then Some total else None) ≡ Some width → total ≡ width
known_by true total width h = ap (λ o. unwrap_or o 0) h
known_by false total width h = absurd (true≢false (sym (ap (λ o. is_some o) h)))

pub width_is : (style : Amount) (digits decimals width : ℕ) → width_of (Edited style) digits decimals ≡ Some width → body_width style digits decimals + sign_width style.sign ≡ width
width_is style digits decimals width h = known_by (is_form digits decimals) (body_width style digits decimals + sign_width style.sign) width h

whole_fits : (commas : Bool) (digits decimals : ℕ) → digits - decimals ≤ whole_digits commas (digits - decimals + comma_width commas digits decimals)
whole_fits true digits decimals = omega arith
whole_fits false digits decimals = omega arith

behind : (digits decimals commas point sign width : ℕ) → decimals ≤ digits → digits + commas + point + sign ≡ width → width - sign - (decimals + point) ≡ digits - decimals + commas
behind digits decimals commas point sign width h e = omega (arith, h, e)

-- the digits of a whole part have room in front of the point
pub whole_room : (style : Amount) (n digits decimals width : ℕ) → n < 10 ^ digits → decimals ≤ digits → width_of (Edited style) digits decimals ≡ Some width → n / 10 ^ decimals < 10 ^ whole_digits style.commas (width - sign_width style.sign - (decimals + point_width decimals))
whole_room style n digits decimals width fits few known =
    let both : digits ≡ decimals + (digits - decimals) = omega (arith, few) in
    let part : n / 10 ^ decimals < 10 ^ (digits - decimals) = part_below n decimals (digits - decimals) (subst (λ k. n < 10 ^ k) both fits) in
    let room : width - sign_width style.sign - (decimals + point_width decimals) ≡ digits - decimals + comma_width style.commas digits decimals =
    behind digits decimals (comma_width style.commas digits decimals) (point_width decimals) (sign_width style.sign) width few (width_is style digits decimals width known) in
    subst (λ e. n / 10 ^ decimals < 10 ^ whole_digits style.commas e) (sym room) (omega (arith, part, ten_le (digits - decimals) (whole_digits style.commas (digits - decimals + comma_width style.commas digits decimals)) (whole_fits style.commas digits decimals)))

-- an amount has a place at least, and no more than this
pub wide : (style : Amount) (digits decimals width : ℕ) → 1 ≤ digits → digits ≤ 15 → width_of (Edited style) digits decimals ≡ Some width → (1 ≤ width) × (width ≤ 32)
wide style digits decimals width some few known = (omega (arith, some, width_is style digits decimals width known), most style.commas style.sign digits decimals width few (width_is style digits decimals width known))
  where
    signs : (sign : Sign) → sign_width sign ≤ 2
    signs Never = omega arith
    signs Credit = omega arith
    signs Minus = omega arith

    points : (decimals : ℕ) → point_width decimals ≤ 1
    points zero = omega arith
    points (suc decimals) = grind (arith, nat_tests)

    commas_few : (commas : Bool) (digits decimals : ℕ) → digits ≤ 15 → comma_width commas digits decimals ≤ 5
    commas_few true digits decimals h = omega (arith, h)
    commas_few false digits decimals h = omega arith

    most : (commas : Bool) (sign : Sign) (digits decimals width : ℕ) → digits ≤ 15 → digits + comma_width commas digits decimals + point_width decimals + sign_width sign ≡ width → width ≤ 32
    most commas sign digits decimals width few is = omega (arith, few, is, signs sign, points decimals, commas_few commas digits decimals few)

-- an amount other than 0 is shown
pub some_shown : (style : Amount) (n : ℕ) → n ≢ 0 → (n == 0 && not style.zero_printed) ≡ false
some_shown style n h = grind (arith, nat_tests)
