-- Digits before a point and after it.
use Rattle.std.proofs.Common.{◌≡◌, ℕ, ◌+◌, ◌-◌, ◌*◌, ◌%◌, ◌^◌, ◌<◌, ◌≤◌, refl, arith, sym, ◌∙◌, ap, ap₂, Bool, true, false, cond, List, [], ◌∷◌, ◌++◌, map, length, take, drop, get_or, replicate, append_assoc, min, nat_le, ℤ, unsigned_abs, to_z, of_z, w64, FitsSigned}
use Rattle.std.specs.Bool.{◌==◌}
use Rattle.std.specs.List.{after_first, before_first, position_or_len}
use Rattle.std.proofs.lemmas.List.{take_more, take_all, map-append, drop_all, length-drop, replicate-append-replicate}
use Rattle.std.specs.Prelude.{Option, Some, None}
use Rattle.std.specs.Option.{option_map}
use Rattle.std.proofs.lemmas.Bool.{eqb-true, le-leb, lt-leb, ne_eqb}
use Rattle.std.proofs.lemmas.Int.{fits_signed_from_abs, to_z-of_z}
use Rattle.s3_decimal.specs.Exact.{is_negative, signed}
use Rattle.s3_decimal.proofs.Powers.{ten_le}
use Rattle.s3_decimal.proofs.Bounds.{unsigned_abs-signed}
use Rattle.s3_decimal.specs.Records.{number_of}
use Rattle.s3_decimal.proofs.DigitsRead.{number_push}
use Rattle.s3_cells.specs.Inner.Marks.{mark_of, swapped}
use Rattle.s3_cells.specs.declared.marks.DecimalMark.{DecimalMark}
use Rattle.s3_cells.specs.declared.marks.DecimalMark.TheVariants.{Point, Comma}
use Rattle.s3_cells.specs.Inner.Numbers.{are_digits, decimals_text, decimals_with, digit_character, digit_value, fifteen, has_minus, is_point, magnitude_in, magnitude_read, number_read, number_text, sign_text, significant, without_sign}

pub whole_before : (text : List ℕ) (point : ℕ) → point ≡ position_or_len is_point text → take point text ≡ before_first is_point text
whole_before text point e = ap (λ n. take n text) e

pub decimals_behind : (text : List ℕ) (point n : ℕ) → point ≡ position_or_len is_point text → point < length text → n ≡ length text - (point + 1) → take n (drop (point + 1) text) ≡ after_first is_point text
decimals_behind text point n e h is =
    let all : length (drop (point + 1) text) ≤ n = omega (arith, length-drop (point + 1) text) in
    take_all n (drop (point + 1) text) all ∙ ap (λ k. drop (k + 1) text) e

pub no_point : (text : List ℕ) (point : ℕ) → point ≡ position_or_len is_point text → length text ≤ point → text ≡ before_first is_point text
no_point text point e h = sym (take_all point text h) ∙ ap (λ n. take n text) e

pub no_decimals : (text : List ℕ) (point : ℕ) → point ≡ position_or_len is_point text → length text ≤ point → [] ≡ after_first is_point text
no_decimals text point e h =
    let past : length text ≤ point + 1 = omega arith in
    sym (drop_all (point + 1) text past) ∙ ap (λ k. drop (k + 1) text) e

-- ---- magnitudes up to a bound
pub bounded_digit : (m d : ℕ) → min (min m (10 ^ 15) * 10 + d) (10 ^ 15) ≡ min (m * 10 + d) (10 ^ 15)
bounded_digit m d = omega arith

pub one_more_digit : (before digits : List ℕ) (i w : ℕ) → i < length digits → w ≡ min (number_of (before ++ map digit_value (take i digits))) (10 ^ 15)
    → min (w * 10 + digit_value (get_or digits i 0)) (10 ^ 15) ≡ min (number_of (before ++ map digit_value (take (i + 1) digits))) (10 ^ 15)
one_more_digit before digits i w h e =
    let more : before ++ map digit_value (take (i + 1) digits) ≡ (before ++ map digit_value (take i digits)) ++ digit_value (get_or digits i 0) ∷ [] =
    ap (λ xs. before ++ map digit_value xs) (take_more digits i 0 h) ∙ ap (λ xs. before ++ xs) (map-append digit_value (take i digits) (get_or digits i 0 ∷ [])) ∙ sym (append_assoc before (map digit_value (take i digits)) (digit_value (get_or digits i 0) ∷ [])) in
    ap (λ k. min (k * 10 + digit_value (get_or digits i 0)) (10 ^ 15)) e ∙ bounded_digit (number_of (before ++ map digit_value (take i digits))) (digit_value (get_or digits i 0))
    ∙ sym (ap (λ k. min k (10 ^ 15)) (ap number_of more ∙ number_push (before ++ map digit_value (take i digits)) (digit_value (get_or digits i 0))))

pub one_more_zero : (before : List ℕ) (i w : ℕ) → w ≡ min (number_of (before ++ replicate i 0)) (10 ^ 15)
    → min (w * 10 + 0) (10 ^ 15) ≡ min (number_of (before ++ replicate (i + 1) 0)) (10 ^ 15)
one_more_zero before i w e =
    let more : before ++ replicate (i + 1) 0 ≡ (before ++ replicate i 0) ++ 0 ∷ [] =
    ap (λ xs. before ++ xs) (sym (replicate-append-replicate i 1 0)) ∙ sym (append_assoc before (replicate i 0) (0 ∷ [])) in
    ap (λ k. min (k * 10 + 0) (10 ^ 15)) e ∙ bounded_digit (number_of (before ++ replicate i 0)) 0
    ∙ sym (ap (λ k. min k (10 ^ 15)) (ap number_of more ∙ number_push (before ++ replicate i 0) 0))

-- ---- zeros in front
pub zero_dropped : (zs rest r : List ℕ) (first : ℕ) → zs ≡ first ∷ rest → first ≡ 240 → (length rest == 0) ≡ false → r ≡ significant rest → r ≡ significant zs
unfolding significant
zero_dropped zs [] r first e is some same = absurd cc
zero_dropped zs (next ∷ rest) r first e is some same = same ∙ sym (ap significant e ∙ ap (λ d. significant (d ∷ next ∷ rest)) is)

pub last_digit : (zs rest : List ℕ) (first : ℕ) → zs ≡ first ∷ rest → (length rest == 0) ≡ true → zs ≡ significant zs
unfolding significant
last_digit zs [] first e none = e ∙ sym (ap significant e)
last_digit zs (next ∷ rest) first e none = let is : length (next ∷ rest) ≡ 0 = eqb-true (length (next ∷ rest)) 0 none in absurd (omega arith)

pub first_digit : (zs rest : List ℕ) (first : ℕ) → zs ≡ first ∷ rest → (first == 240) ≡ false → zs ≡ significant zs
unfolding significant
first_digit zs [] first e other = e ∙ sym (ap significant e)
first_digit zs (next ∷ rest) first e other = e ∙ sym (ap significant e ∙ ap (λ b. cond b (significant (next ∷ rest)) (first ∷ next ∷ rest)) other)

pub no_digit : (zs : List ℕ) → length zs ≡ 0 → zs ≡ significant zs
unfolding significant
no_digit [] none = refl
no_digit (z ∷ zs) none = absurd (omega arith)

-- ---- a magnitude that is read
pub not_digits : (d : ℕ) (text whole fraction : List ℕ) → whole ≡ before_first is_point text → fraction ≡ after_first is_point text → are_digits whole fraction ≡ false → magnitude_read d text ≡ None
unfolding magnitude_read
not_digits d text whole fraction w f none =
    sym (ap (λ xs. magnitude_in d xs (after_first is_point text)) w ∙ refl) ∙ sym (ap (λ ys. magnitude_in d whole ys) f) ∙ rw none refl

pub many_decimals : (d : ℕ) (text whole fraction : List ℕ) → whole ≡ before_first is_point text → fraction ≡ after_first is_point text → are_digits whole fraction ≡ true → d < length fraction → magnitude_read d text ≡ None
unfolding magnitude_read
many_decimals d text whole fraction w f all many =
    let past : nat_le (length fraction) d ≡ false = lt-leb (length fraction) d many in
    sym (ap (λ xs. magnitude_in d xs (after_first is_point text)) w ∙ refl) ∙ sym (ap (λ ys. magnitude_in d whole ys) f) ∙ rw (all, past) refl

pub magnitude_said : (d : ℕ) (text whole fraction : List ℕ) (m : ℕ) → whole ≡ before_first is_point text → fraction ≡ after_first is_point text → are_digits whole fraction ≡ true → length fraction ≤ d
    → m ≡ min (number_of ((map digit_value whole ++ map digit_value fraction) ++ replicate (d - length fraction) 0)) (10 ^ 15) → option_map (λ n. min n (10 ^ 15)) (magnitude_read d text) ≡ Some m
unfolding magnitude_read
magnitude_said d text whole fraction m w f all few is =
    let within : nat_le (length fraction) d ≡ true = le-leb (length fraction) d few in
    let read : magnitude_read d text ≡ Some (number_of ((map digit_value whole ++ map digit_value fraction) ++ replicate (d - length fraction) 0)) =
    sym (ap (λ xs. magnitude_in d xs (after_first is_point text)) w ∙ refl) ∙ sym (ap (λ ys. magnitude_in d whole ys) f) ∙ rw (all, within) refl in
    ap (option_map (λ n. min n (10 ^ 15))) read ∙ sym (ap Some is)

bounded : (o : Option ℕ) (m : ℕ) → option_map (λ n. min n (10 ^ 15)) o ≡ Some m → m < 10 ^ 15 → o ≡ Some m
bounded None m e h = absurd cc
bounded (Some n) m e h = let same : min n (10 ^ 15) ≡ m = cc in ap Some (omega arith)

pub number_said : (d : ℕ) (text rest : List ℕ) (negative : Bool) (m : ℕ) (z : ℤ) → rest ≡ without_sign text → negative ≡ has_minus text → option_map (λ n. min n (10 ^ 15)) (magnitude_read d rest) ≡ Some m → m < 10 ^ 15 → z ≡ signed negative m
    → number_read d text ≡ Some (to_z w64 (of_z w64 z))
number_said d text rest negative m z r s e h is =
    let fits : FitsSigned w64 z = rw is (fits_signed_from_abs w64 (signed negative m) (rw (unsigned_abs-signed negative m) (omega arith))) in
    let read : magnitude_read d (without_sign text) ≡ Some m = sym (ap (magnitude_read d) r) ∙ bounded (magnitude_read d rest) m e h in
    ap (option_map (signed (has_minus text))) read ∙ ap (λ b. Some (signed b m)) (sym s) ∙ ap Some (sym is) ∙ sym (ap Some (to_z-of_z w64 z fits))

-- ---- a number as it is passed on
pub passed_small : (v : ℤ) (digits : ℕ) → unsigned_abs v < 10 ^ digits → digits ≤ 15 → unsigned_abs (to_z w64 (of_z w64 v)) < 10 ^ 15
passed_small v digits h few =
    let small : unsigned_abs v < 10 ^ 15 = omega (arith, ten_le digits 15 few) in
    let fits : FitsSigned w64 v = fits_signed_from_abs w64 v (omega arith) in
    rw (to_z-of_z w64 v fits) small

-- ---- a number that is written
pub number_joined : (d : ℕ) (v : ℤ) (negative : Bool) (zoned front back digits before signed_text whole all : List ℕ) → negative ≡ is_negative v → zoned ≡ fifteen (unsigned_abs v) → front ≡ take (15 - d) zoned → back ≡ drop (15 - d) zoned → digits ≡ significant front
    → signed_text ≡ before ++ sign_text negative → whole ≡ signed_text ++ map digit_character digits → all ≡ whole ++ decimals_text back → all ≡ before ++ number_text d v
unfolding number_text
number_joined d v negative zoned front back digits before signed_text whole all n z f b g s w a =
    let digits_are : digits ≡ significant (take (15 - d) (fifteen (unsigned_abs v))) = g ∙ ap significant (f ∙ ap (take (15 - d)) z) in
    let back_is : back ≡ drop (15 - d) (fifteen (unsigned_abs v)) = b ∙ ap (drop (15 - d)) z in
    a ∙ ap (λ t. t ++ decimals_text back) (w ∙ ap (λ t. t ++ map digit_character digits) s)
    ∙ append_assoc (before ++ sign_text negative) (map digit_character digits) (decimals_text back)
    ∙ append_assoc before (sign_text negative) (map digit_character digits ++ decimals_text back)
    ∙ ap (λ t. before ++ (sign_text t ++ (map digit_character digits ++ decimals_text back))) n
    ∙ ap (λ t. before ++ (sign_text (is_negative v) ++ (map digit_character t ++ decimals_text back))) digits_are
    ∙ ap (λ t. before ++ (sign_text (is_negative v) ++ (map digit_character (significant (take (15 - d) (fifteen (unsigned_abs v)))) ++ decimals_text t))) back_is

pub passed_same : (v : ℤ) (digits : ℕ) → unsigned_abs v < 10 ^ digits → digits ≤ 15 → to_z w64 (of_z w64 v) ≡ v
passed_same v digits h few =
    let small : unsigned_abs v < 10 ^ 15 = omega (arith, ten_le digits 15 few) in
    to_z-of_z w64 v (fits_signed_from_abs w64 v (omega arith))

-- ---- its mark
not_mark : (b c : ℕ) → c < 48 → (48 + b % 16 == c) ≡ false
not_mark b c h = ne_eqb (48 + b % 16) c (λ e. omega arith)

digits_stay : (mark : DecimalMark) (zs : List ℕ) → map (swapped mark) (map digit_character zs) ≡ map digit_character zs
digits_stay mark [] = refl
digits_stay Point (z ∷ zs) = ap (λ t. digit_character z ∷ t) (digits_stay Point zs)
digits_stay Comma (z ∷ zs) = rw (not_mark z 46 (omega arith), not_mark z 44 (omega arith)) (ap (λ t. digit_character z ∷ t) (digits_stay Comma zs))

sign_stays : (mark : DecimalMark) (negative : Bool) → map (swapped mark) (sign_text negative) ≡ sign_text negative
sign_stays Point true = refl
sign_stays Point false = refl
sign_stays Comma true = refl
sign_stays Comma false = refl

mark_first : (mark : DecimalMark) → swapped mark 46 ≡ mark_of mark
mark_first Point = refl
mark_first Comma = refl

mark_told : (mark : DecimalMark) (zs : List ℕ) → map (swapped mark) (decimals_text zs) ≡ decimals_with (mark_of mark) zs
mark_told mark [] = refl
mark_told mark (z ∷ zs) = ap₂ (λ a b. a ∷ b) (mark_first mark) (digits_stay mark (z ∷ zs))

pub number_marked : (mark : DecimalMark) (d : ℕ) (v : ℤ) (negative : Bool) (zoned front back digits before signed_text whole all : List ℕ) → negative ≡ is_negative v → zoned ≡ fifteen (unsigned_abs v) → front ≡ take (15 - d) zoned → back ≡ drop (15 - d) zoned
    → digits ≡ significant front → signed_text ≡ before ++ sign_text negative → whole ≡ signed_text ++ map digit_character digits → all ≡ whole ++ decimals_with (mark_of mark) back → all ≡ before ++ map (swapped mark) (number_text d v)
number_marked mark d v negative zoned front back digits before signed_text whole all n z f b g s w a =
    let plain : sign_text negative ++ (map digit_character digits ++ decimals_text back) ≡ number_text d v =
    number_joined d v negative zoned front back digits [] (sign_text negative) (sign_text negative ++ map digit_character digits) (sign_text negative ++ (map digit_character digits ++ decimals_text back)) n z f b g refl refl (sym (append_assoc (sign_text negative) (map digit_character digits) (decimals_text back))) in
    let part : map (swapped mark) (map digit_character digits ++ decimals_text back) ≡ map digit_character digits ++ decimals_with (mark_of mark) back =
    map-append (swapped mark) (map digit_character digits) (decimals_text back) ∙ ap₂ (λ x y. x ++ y) (digits_stay mark digits) (mark_told mark back) in
    let parted : map (swapped mark) (number_text d v) ≡ sign_text negative ++ (map digit_character digits ++ decimals_with (mark_of mark) back) =
    ap (map (swapped mark)) (sym plain) ∙ map-append (swapped mark) (sign_text negative) (map digit_character digits ++ decimals_text back) ∙ ap₂ (λ x y. x ++ y) (sign_stays mark negative) part in
    a ∙ ap (λ t. t ++ decimals_with (mark_of mark) back) (w ∙ ap (λ t. t ++ map digit_character digits) s)
    ∙ append_assoc (before ++ sign_text negative) (map digit_character digits) (decimals_with (mark_of mark) back)
    ∙ append_assoc before (sign_text negative) (map digit_character digits ++ decimals_with (mark_of mark) back)
    ∙ ap (λ t. before ++ t) (sym parted)
