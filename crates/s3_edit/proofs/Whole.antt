-- The parts of an amount: the whole part by threes, and then the point and the decimals.
use Rattle.std.proofs.Common.{◌≡◌, ◌≢◌, ℕ, ◌+◌, ◌-◌, ◌/◌, ◌%◌, ◌^◌, ◌<◌, ◌≤◌, refl, arith, sym, ◌∙◌, ap, zero, suc, Bool, true, false, not, ◌&&◌, ◌||◌, nat_lt, if◌then◌else◌, List, length, get_or, slice_set, get_or-set_other, get_or-set_same}
use Rattle.std.specs.Bool.{◌==◌}
use Rattle.std.proofs.Math.Nat.{div-eq_of_lt}
use Rattle.std.proofs.lemmas.Bool.Decides.{nat_tests}
use Rattle.s3_decimal.proofs.Powers.{ten_le, ten_pos}
use Rattle.s3_edit.specs.declared.code.Amount.{Amount}
use Rattle.s3_edit.specs.declared.amount.Place.TheVariants.{Point, Comma, Digit}
use Rattle.s3_edit.specs.Inner.Passes.{whole_at, whole_kind}
use Rattle.s3_edit.specs.Picture.{body_at, character_of, digits_right, is_shown, place_kind, point_width, suppressed_at, whole_digits}
use Rattle.s3_edit.proofs.Places.{is_lt, left_shown, lt_false, lt_true, not_lt, split}

-- ---- two parts side by side
joined_by : (b : Bool) (f g : ℕ → ℕ) (end count : ℕ) (before out : List ℕ) → count ≤ end → ((k : ℕ) → f (k + count) ≡ g k) → ((k : ℕ) → k < count → get_or before (end - 1 - k) 0 ≡ f k) → ((k : ℕ) → k < end - count → get_or out (end - count - 1 - k) 0 ≡ g k) → ((i : ℕ) → end - count ≤ i → get_or out i 0 ≡ get_or before i 0) → (place : ℕ) → place < end → nat_lt place count ≡ b → get_or out (end - 1 - place) 0 ≡ f place
joined_by true f g end count before out within ahead right left kept place h t =
    let l : place < count = is_lt place count t in
    kept (end - 1 - place) (omega arith) ∙ right place l
joined_by false f g end count before out within ahead right left kept place h t =
    let l : count ≤ place = not_lt place count t in
    let at : end - 1 - place ≡ end - count - 1 - (place - count) = omega arith in
    let back : place - count + count ≡ place = omega arith in
    ap (λ i. get_or out i 0) at ∙ left (place - count) (omega arith) ∙ sym (ahead (place - count)) ∙ ap f back

pub side_by_side : (f g : ℕ → ℕ) (end count : ℕ) (before out : List ℕ) → count ≤ end → ((k : ℕ) → f (k + count) ≡ g k) → ((k : ℕ) → k < count → get_or before (end - 1 - k) 0 ≡ f k) → ((k : ℕ) → k < end - count → get_or out (end - count - 1 - k) 0 ≡ g k) → ((i : ℕ) → end - count ≤ i → get_or out i 0 ≡ get_or before i 0) → (place : ℕ) → place < end → get_or out (end - 1 - place) 0 ≡ f place
side_by_side f g end count before out within ahead right left kept place h = joined_by (nat_lt place count) f g end count before out within ahead right left kept place h refl

-- ---- three digits and the comma in front of them
pub first_of : (a b : Bool) → (a && b) ≡ true → a ≡ true
first_of true b h = refl
first_of false b h = h

pub second_of : (a b : Bool) → (a && b) ≡ true → b ≡ true
second_of true b h = h
second_of false b h = ap (λ t. if t then true else b) h

digit_shown : (v q : ℕ) → 10 ^ q ≤ v → nat_lt 0 (v / 10 ^ q) ≡ true
digit_shown v q h = left_shown v q ∙ ap (λ b. not b) (lt_false v (10 ^ q) h)

pub three_next : (v k : ℕ) → whole_at true (v / 10 ^ 3) k ≡ whole_at true v (k + 4)
three_next v k =
    let residue : (k + 4) % 4 ≡ k % 4 = omega arith in
    let kind : whole_kind true k ≡ whole_kind true (k + 4) = ap (λ t. if t == 3 then Comma else Digit) (sym residue) in
    let count : 3 + whole_digits true k ≡ whole_digits true (k + 4) = omega arith in
    let rest : v / 10 ^ 3 / 10 ^ whole_digits true k ≡ v / 10 ^ whole_digits true (k + 4) = split v 3 (whole_digits true k) ∙ ap (λ i. v / 10 ^ i) count in
    ap (λ r. character_of (whole_kind true k) (nat_lt 0 r) (r % 10)) rest
    ∙ ap (λ t. character_of t (nat_lt 0 (v / 10 ^ whole_digits true (k + 4))) (v / 10 ^ whole_digits true (k + 4) % 10)) kind

pub three_digit : (v k : ℕ) → 999 < v → k < 3 → 0xf0 + v / 10 ^ k % 10 ≡ whole_at true v k
three_digit v zero h l = ap (λ b. if b then 0xf0 + v / 10 ^ 0 % 10 else 0x40) (sym (digit_shown v 0 (omega arith)))
three_digit v (suc zero) h l = ap (λ b. if b then 0xf0 + v / 10 ^ 1 % 10 else 0x40) (sym (digit_shown v 1 (omega arith)))
three_digit v (suc (suc zero)) h l = ap (λ b. if b then 0xf0 + v / 10 ^ 2 % 10 else 0x40) (sym (digit_shown v 2 (omega arith)))
three_digit v (suc (suc (suc k))) h l = absurd (omega arith)

pub three_comma : (v : ℕ) → 999 < v → 0x6b ≡ whole_at true v 3
three_comma v h = ap (λ b. if b then 0x6b else 0x40) (sym (digit_shown v 3 (omega arith)))

three_by : (b t : Bool) (f g : ℕ → ℕ) (place end : ℕ) (before middle : List ℕ) → place + 4 ≤ end → end ≤ length middle → ((k : ℕ) → f (k + place) ≡ g k) → ((k : ℕ) → k < place → get_or before (end - 1 - k) 0 ≡ f k) → ((k : ℕ) → k < 3 → get_or middle (end - place - 1 - k) 0 ≡ g k) → 0x6b ≡ g 3 → ((i : ℕ) → end - place ≤ i → get_or middle i 0 ≡ get_or before i 0) → (k : ℕ) → k < place + 4 → nat_lt k place ≡ b → nat_lt k (place + 3) ≡ t → get_or (slice_set middle (end - 4 - place) 0x6b) (end - 1 - k) 0 ≡ f k
three_by true t f g place end before middle room long ahead written digits comma kept k h e e' =
    let l : k < place = is_lt k place e in
    let ne : end - 1 - k ≢ end - 4 - place = omega arith in
    rw get_or-set_other (kept (end - 1 - k) (omega arith) ∙ written k l)
three_by false true f g place end before middle room long ahead written digits comma kept k h e e' =
    let l : place ≤ k = not_lt k place e in
    let m : k < place + 3 = is_lt k (place + 3) e' in
    let ne : end - 1 - k ≢ end - 4 - place = omega arith in
    let at : end - 1 - k ≡ end - place - 1 - (k - place) = omega arith in
    let back : k - place + place ≡ k = omega arith in
    rw get_or-set_other (ap (λ i. get_or middle i 0) at ∙ digits (k - place) (omega arith) ∙ sym (ahead (k - place)) ∙ ap f back)
three_by false false f g place end before middle room long ahead written digits comma kept k h e e' =
    let l : place + 3 ≤ k = not_lt k (place + 3) e' in
    let at : end - 1 - k ≡ end - 4 - place = omega arith in
    let back : 3 + place ≡ k = omega arith in
    let lt : end - 4 - place < length middle = omega arith in
    let set : get_or (slice_set middle (end - 4 - place) 0x6b) (end - 4 - place) 0 ≡ 0x6b = rw get_or-set_same refl in
    ap (λ i. get_or (slice_set middle (end - 4 - place) 0x6b) i 0) at ∙ set ∙ comma ∙ sym (ahead 3) ∙ ap f back

pub three_written : (f g : ℕ → ℕ) (place end : ℕ) (before middle : List ℕ) → place + 4 ≤ end → end ≤ length middle → ((k : ℕ) → f (k + place) ≡ g k) → ((k : ℕ) → k < place → get_or before (end - 1 - k) 0 ≡ f k) → ((k : ℕ) → k < 3 → get_or middle (end - place - 1 - k) 0 ≡ g k) → 0x6b ≡ g 3 → ((i : ℕ) → end - place ≤ i → get_or middle i 0 ≡ get_or before i 0) → (k : ℕ) → k < place + 4 → get_or (slice_set middle (end - 4 - place) 0x6b) (end - 1 - k) 0 ≡ f k
three_written f g place end before middle room long ahead written digits comma kept k h = three_by (nat_lt k place) (nat_lt k (place + 3)) f g place end before middle room long ahead written digits comma kept k h refl refl

pub three_ahead : (commas : Bool) (v r k : ℕ) → commas ≡ true → r ≡ v / 10 ^ 3 → whole_at commas v (k + 4) ≡ whole_at commas r k
three_ahead commas v r k h e =
    ap (λ b. whole_at b v (k + 4)) h ∙ sym (three_next v k) ∙ ap (λ t. whole_at true t k) (sym e) ∙ ap (λ b. whole_at b r k) (sym h)

-- ---- what is left in front of the last comma
swapped : (b : Bool) (x y : ℕ) → (if b then x else y) ≡ (if not b then y else x)
swapped true x y = refl
swapped false x y = refl

digit_left : (v q : ℕ) → suppressed_at v q ≡ (if nat_lt 0 (v / 10 ^ q) then 0xf0 + v / 10 ^ q % 10 else 0x40)
digit_left v q =
    swapped (nat_lt v (10 ^ q)) 0x40 (0xf0 + v / 10 ^ q % 10) ∙ ap (λ b. if b then 0xf0 + v / 10 ^ q % 10 else 0x40) (sym (left_shown v q))

few_left : (v room : ℕ) → (nat_lt 999 v && nat_lt 3 room) ≡ false → 3 < room → v < 1000
few_left v room h l = grind (arith, nat_tests)

blank_kind : (b : Bool) (digit : ℕ) → 0x40 ≡ character_of (if b then Comma else Digit) false digit
blank_kind true digit = refl
blank_kind false digit = refl

blank_left : (v j : ℕ) → v < 1000 → 3 ≤ j → suppressed_at v j ≡ whole_at true v j
blank_left v j h l =
    let thousand : 10 ^ 3 ≡ 1000 = refl in
    let place : v < 10 ^ j = omega (arith, ten_le 3 j l, thousand) in
    let q : 3 ≤ whole_digits true j = omega arith in
    let none : v / 10 ^ whole_digits true j ≡ 0 = div-eq_of_lt (omega (arith, ten_le 3 (whole_digits true j) q, thousand)) in
    ap (λ b. if b then 0x40 else 0xf0 + v / 10 ^ j % 10) (lt_true v (10 ^ j) place)
    ∙ blank_kind (j % 4 == 3) 0
    ∙ ap (λ r. character_of (whole_kind true j) (nat_lt 0 r) (r % 10)) (sym none)

pub last_left : (commas : Bool) (v room j : ℕ) → (commas && (nat_lt 999 v && nat_lt 3 room)) ≡ false → j < room → suppressed_at v j ≡ whole_at commas v j
last_left false v room j h l = digit_left v j
last_left true v room zero h l = digit_left v 0
last_left true v room (suc zero) h l = digit_left v 1
last_left true v room (suc (suc zero)) h l = digit_left v 2
last_left true v room (suc (suc (suc k))) h l =
    let three : 3 < room = omega arith in
    blank_left v (suc (suc (suc k))) (few_left v room h three) (omega arith)

-- ---- all parts
abbrev pub part : Bool → ℕ → ℕ → ℕ → ℕ
part commas d n place = character_of (place_kind commas d place) (is_shown commas d n place) (n / 10 ^ digits_right commas d place % 10)

front_kind : (commas : Bool) (d k : ℕ) → k < d → Digit ≡ place_kind commas d k
front_kind commas d k h = grind (arith, nat_tests)

front_right : (commas : Bool) (d k : ℕ) → k < d → k ≡ digits_right commas d k
front_right commas d k h = grind (arith, nat_tests)

front : (commas : Bool) (d n k : ℕ) → k < d → 0xf0 + n / 10 ^ k % 10 ≡ part commas d n k
front commas d n k h =
    let shown : true ≡ is_shown commas d n k = ap (λ b. b || d == 0 && k == 0 || not (nat_lt n (10 ^ digits_right commas d k))) (sym (lt_true k d h)) in
    ap (λ q. 0xf0 + n / 10 ^ q % 10) (front_right commas d k h)
    ∙ ap (λ b. character_of Digit b (n / 10 ^ digits_right commas d k % 10)) shown
    ∙ ap (λ t. character_of t (is_shown commas d n k) (n / 10 ^ digits_right commas d k % 10)) (front_kind commas d k h)

point_kind : (commas : Bool) (d : ℕ) → d ≢ 0 → Point ≡ place_kind commas d d
point_kind commas d h = grind (arith, nat_tests)

point : (commas : Bool) (d n : ℕ) → d ≢ 0 → 0x4b ≡ part commas d n d
point commas d n h = ap (λ t. character_of t (is_shown commas d n d) (n / 10 ^ digits_right commas d d % 10)) (point_kind commas d h)

-- a place of the whole part, counted from the right of the number
whole_kind_at : (commas : Bool) (d k : ℕ) → whole_kind commas k ≡ place_kind commas d (k + (d + point_width d))
whole_kind_at commas d k = grind (arith, nat_tests)

whole_right : (commas : Bool) (d k : ℕ) → d + whole_digits commas k ≡ digits_right commas d (k + (d + point_width d))
whole_right commas d k = grind (arith, nat_tests)

or_same : (a b x : Bool) → a ≡ false → (b ≡ true → x ≡ true) → x ≡ (a || b || x)
or_same false false x h t = refl
or_same false true x h t = t refl
or_same true b x h t = ap (λ s. if s then x else true) h

units : (d place : ℕ) → (d == 0 && place == 0) ≡ true → d ≡ 0
units d place h = grind (arith, nat_tests)

units_place : (d place : ℕ) → (d == 0 && place == 0) ≡ true → place ≡ 0
units_place d place h = grind (arith, nat_tests)

unit_right : (commas : Bool) (d place : ℕ) → place ≡ 0 → 0 ≡ digits_right commas d place
unit_right commas d place h = grind (arith, nat_tests)

unit_shown : (commas : Bool) (d n place : ℕ) → (d ≡ 0 → n ≢ 0) → (d == 0 && place == 0) ≡ true → not (nat_lt n (10 ^ digits_right commas d place)) ≡ true
unit_shown commas d n place some h =
    let zero : 0 ≡ digits_right commas d place = unit_right commas d place (units_place d place h) in
    let any : n ≢ 0 = some (units d place h) in
    let at : not (nat_lt n (10 ^ 0)) ≡ true = ap (λ b. not b) (lt_false n (10 ^ 0) (omega (arith, any))) in
    ap (λ q. not (nat_lt n (10 ^ q))) (sym zero) ∙ at

pub whole_part : (commas : Bool) (d n k : ℕ) → (d ≡ 0 → n ≢ 0) → part commas d n (k + (d + point_width d)) ≡ whole_at commas (n / 10 ^ d) k
whole_part commas d n k some =
    let right : d + whole_digits commas k ≡ digits_right commas d (k + (d + point_width d)) = whole_right commas d k in
    let rest : n / 10 ^ d / 10 ^ whole_digits commas k ≡ n / 10 ^ digits_right commas d (k + (d + point_width d)) = split n d (whole_digits commas k) ∙ ap (λ q. n / 10 ^ q) right in
    let behind : nat_lt (k + (d + point_width d)) d ≡ false = lt_false (k + (d + point_width d)) d (omega arith) in
    let shown : nat_lt 0 (n / 10 ^ digits_right commas d (k + (d + point_width d))) ≡ is_shown commas d n (k + (d + point_width d)) =
    left_shown n (digits_right commas d (k + (d + point_width d)))
    ∙ or_same (nat_lt (k + (d + point_width d)) d) (d == 0 && (k + (d + point_width d)) == 0) (not (nat_lt n (10 ^ digits_right commas d (k + (d + point_width d))))) behind (unit_shown commas d n (k + (d + point_width d)) some) in
    sym (ap (λ r. character_of (whole_kind commas k) (nat_lt 0 r) (r % 10)) rest
    ∙ ap (λ b. character_of (whole_kind commas k) b (n / 10 ^ digits_right commas d (k + (d + point_width d)) % 10)) shown
    ∙ ap (λ t. character_of t (is_shown commas d n (k + (d + point_width d))) (n / 10 ^ digits_right commas d (k + (d + point_width d)) % 10)) (whole_kind_at commas d k))

-- the decimals and the point
pub point_fits : (d width : ℕ) → d < width → d + point_width d ≤ width
point_fits d width h = grind (arith, nat_tests)

point_some : (d k : ℕ) → d ≤ k → k < d + point_width d → d ≢ 0
point_some d k l h = grind (arith, nat_tests)

point_same : (d k : ℕ) → d ≤ k → k < d + point_width d → k ≡ d
point_same d k l h = grind (arith, nat_tests)

end_by : (b : Bool) (commas : Bool) (d n width : ℕ) (digits out : List ℕ) → d < width → ((k : ℕ) → k < d → get_or digits (width - 1 - k) 0 ≡ 0xf0 + n / 10 ^ k % 10) → (d ≢ 0 → get_or out (width - d - 1) 0 ≡ 0x4b) → ((i : ℕ) → width - d ≤ i → get_or out i 0 ≡ get_or digits i 0) → (k : ℕ) → k < d + point_width d → nat_lt k d ≡ b → get_or out (width - 1 - k) 0 ≡ part commas d n k
end_by true commas d n width digits out within written mark kept k h t =
    let l : k < d = is_lt k d t in
    kept (width - 1 - k) (omega arith) ∙ written k l ∙ front commas d n k l
end_by false commas d n width digits out within written mark kept k h t =
    let l : d ≤ k = not_lt k d t in
    let some : d ≢ 0 = point_some d k l h in
    let same : k ≡ d = point_same d k l h in
    let at : width - 1 - k ≡ width - d - 1 = omega arith in
    ap (λ i. get_or out i 0) at ∙ mark some ∙ point commas d n some ∙ ap (λ i. part commas d n i) (sym same)

pub end_written : (commas : Bool) (d n width : ℕ) (digits out : List ℕ) → d < width → ((k : ℕ) → k < d → get_or digits (width - 1 - k) 0 ≡ 0xf0 + n / 10 ^ k % 10) → (d ≢ 0 → get_or out (width - d - 1) 0 ≡ 0x4b) → ((i : ℕ) → width - d ≤ i → get_or out i 0 ≡ get_or digits i 0) → (k : ℕ) → k < d + point_width d → get_or out (width - 1 - k) 0 ≡ part commas d n k
end_written commas d n width digits out within written mark kept k h = end_by (nat_lt k d) commas d n width digits out within written mark kept k h refl

-- ---- a zero without decimals
zero_kind : (commas : Bool) (p : ℕ) → whole_kind commas p ≡ place_kind commas 0 p
zero_kind commas p = grind (arith, nat_tests)

zero_shown : (commas : Bool) (p : ℕ) → 0 < p → false ≡ is_shown commas 0 0 p
zero_shown commas p h =
    let some : 0 < 10 ^ digits_right commas 0 p = ten_pos (digits_right commas 0 p) in
    grind (arith, nat_tests)

pub zero_left : (commas : Bool) (p : ℕ) → 0 < p → 0x40 ≡ part commas 0 0 p
zero_left commas p h =
    blank_kind (commas && p % 4 == 3) (0 / 10 ^ digits_right commas 0 p % 10)
    ∙ ap (λ b. character_of (whole_kind commas p) b (0 / 10 ^ digits_right commas 0 p % 10)) (zero_shown commas p h)
    ∙ ap (λ t. character_of t (is_shown commas 0 0 p) (0 / 10 ^ digits_right commas 0 p % 10)) (zero_kind commas p)

unit_kind : (commas : Bool) → Digit ≡ place_kind commas 0 0
unit_kind commas = grind (arith, nat_tests)

pub zero_unit : (commas : Bool) → 0xf0 ≡ part commas 0 0 0
zero_unit commas = ap (λ t. character_of t true 0) (unit_kind commas)

-- ---- and with zeros left blank where the style says so
pub shown_body : (style : Amount) (d n p : ℕ) → (n == 0 && not style.zero_printed) ≡ false → part style.commas d n p ≡ body_at style d n p
shown_body style d n p h = ap (λ b. if b then 0x40 else part style.commas d n p) (sym h)

zero_part : (style : Amount) (d n p : ℕ) → d ≡ 0 → n ≡ 0 → (n == 0 && not style.zero_printed) ≡ false → part style.commas 0 0 p ≡ body_at style d n p
zero_part style d n p whole none shown =
    ap (λ x. part style.commas x 0 p) (sym whole) ∙ ap (λ y. part style.commas d y p) (sym none) ∙ shown_body style d n p shown

pub zero_body : (style : Amount) (d n width : ℕ) (out : List ℕ) → d ≡ 0 → n ≡ 0 → (n == 0 && not style.zero_printed) ≡ false → get_or out (width - 1) 0 ≡ 0xf0 → ((i : ℕ) → i < width - 1 → get_or out i 0 ≡ 0x40) → (p : ℕ) → p < width → get_or out (width - 1 - p) 0 ≡ body_at style d n p
zero_body style d n width out whole none shown unit blanks zero h =
    let at : width - 1 - 0 ≡ width - 1 = omega arith in
    ap (λ i. get_or out i 0) at ∙ unit ∙ zero_unit style.commas ∙ zero_part style d n 0 whole none shown
zero_body style d n width out whole none shown unit blanks (suc k) h =
    blanks (width - 1 - suc k) (omega arith) ∙ zero_left style.commas (suc k) (omega arith) ∙ zero_part style d n (suc k) whole none shown
