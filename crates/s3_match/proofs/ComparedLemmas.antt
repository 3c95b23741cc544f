-- What fields compare, byte by byte.
use Rattle.std.proofs.Common.{◌≡◌, ℕ, ◌+◌, ◌-◌, ◌*◌, ◌/◌, ◌%◌, ◌<◌, ◌≤◌, ◌++◌, ◌&&◌, length, drop, take, get_or, List, [], ◌∷◌, true, false, refl, sym, ◌∙◌, ap, append_assoc, arith}
use Rattle.std.specs.Prelude.{nat_lt, nat_le, slice_index, slice_range}
use Rattle.std.proofs.lemmas.Bool.{and_parts}
use Rattle.std.proofs.lemmas.Bool.Decides.{nat_tests}
use Rattle.std.proofs.lemmas.List.{at_drop_more, at_drop_all, append-nil, length-append, length-drop, length-map, length-take}
use Rattle.s3_decimal.specs.Records.{halves, zoned_digits, packed_digits}
use Rattle.s3_lines.specs.declared.sheet.FieldForm.{FieldForm}
use Rattle.s3_lines.specs.declared.sheet.FieldForm.TheVariants.{Alphanumeric, Zoned, Packed, PackedText}
use Rattle.s3_lines.specs.declared.sheet.Shape.TheVariants.{Numeric}
use Rattle.s3_lines.specs.Ranges.{shape_in_range, shape_of_positions}
use Rattle.s3_meaning.specs.Selection.{compared, is_below}
use Rattle.s3_match.specs.declared.levels.LevelField.{LevelField}
use Rattle.s3_match.specs.Inner.LevelField.{compared_at, is_ranged}

-- ---- items in front of what is still to come
pub room : (items rest all : List ℕ) (x n : ℕ) → items ++ x ∷ rest ≡ all → length all ≤ n → length items < n
room items rest all x n e within = omega (arith, simp length-append at (ap length e), within)

pub pushed : (items new rest all : List ℕ) (x : ℕ) → items ++ x ∷ rest ≡ all → new ≡ items ++ x ∷ [] → new ++ rest ≡ all
pushed items new rest all x e more = ap (λ (xs : List ℕ). xs ++ rest) more ∙ append_assoc items (x ∷ []) rest ∙ e

-- what a list of bytes becomes, at its next byte and at its end
pub at_byte : (f : List ℕ → List ℕ) (items all bytes : List ℕ) (k d : ℕ) → k < length bytes → items ++ f (drop k bytes) ≡ all → items ++ f (get_or bytes k d ∷ drop (k + 1) bytes) ≡ all
at_byte f items all bytes k d within e = ap (λ (xs : List ℕ). items ++ xs) (sym (at_drop_more f bytes k d within)) ∙ e

pub at_end : (f : List ℕ → List ℕ) (items all bytes : List ℕ) (k : ℕ) → f [] ≡ [] → length bytes ≤ k → items ++ f (drop k bytes) ≡ all → items ≡ all
at_end f items all bytes k none past e = sym (append-nil items) ∙ ap (λ (xs : List ℕ). items ++ xs) (sym (at_drop_all f bytes k past ∙ none)) ∙ e

-- ---- the order of keys
pub longer_left : (left right : List ℕ) (k d : ℕ) → k < length left → length right ≤ k → is_below left right ≡ is_below (drop k left) (drop k right) → false ≡ is_below left right
longer_left left right k d here past before =
    sym (before ∙ at_drop_more (λ (xs : List ℕ). is_below xs (drop k right)) left k d here ∙ at_drop_all (λ (ys : List ℕ). is_below (get_or left k d ∷ drop (k + 1) left) ys) right k past)

pub behind_left : (left right : List ℕ) (k : ℕ) → length left ≤ k → k ≤ length left → is_below left right ≡ is_below (drop k left) (drop k right) → nat_lt (length left) (length right) ≡ is_below left right
behind_left left right k past at before =
    sym (before ∙ at_drop_all (λ (xs : List ℕ). is_below xs (drop k right)) left k past ∙ left_over (drop k right)
    ∙ grind (arith, nat_tests, length-drop {A = ℕ} k right, past, at))
  where
    left_over : (ys : List ℕ) → is_below [] ys ≡ nat_lt 0 (length ys)
    left_over [] = refl
    left_over (y ∷ ys) = grind (arith, nat_tests)

-- ---- room for the digits of a field
pub zoned_room : (items old bytes : List ℕ) (k d n : ℕ) → k < length bytes → items ++ zoned_digits (drop k bytes) ≡ old ++ zoned_digits bytes → length old + length bytes ≤ n → length items < n
zoned_room items old bytes k d n within e fits = room items _ _ _ n (at_byte zoned_digits items _ bytes k d within e) (grind (arith, length-append, length-map, fits))

pub halves_room : (items old bytes : List ℕ) (k d n : ℕ) → k < length bytes → items ++ halves (drop k bytes) ≡ old ++ halves bytes → length old + length (halves bytes) ≤ n → length items < n
halves_room items old bytes k d n within e fits = room items _ _ _ n (at_byte halves items _ bytes k d within e) (grind (arith, length-append, fits))

pub halves_room_behind : (items new old bytes : List ℕ) (k d n : ℕ) → k < length bytes → items ++ halves (drop k bytes) ≡ old ++ halves bytes → length old + length (halves bytes) ≤ n
    → new ≡ items ++ (get_or bytes k d / 16) ∷ [] → length new < n
halves_room_behind items new old bytes k d n within e fits more =
    room new _ _ _ n (pushed items new _ _ _ (at_byte halves items _ bytes k d within e) more) (grind (arith, length-append, fits))

-- ---- how long what a field compares is
pub halves_twice : (bytes : List ℕ) → length (halves bytes) ≡ 2 * length bytes
halves_twice [] = refl
halves_twice (b ∷ bs) = omega (arith, halves_twice bs)

range_short : (bytes : List ℕ) (i j : ℕ) → length (slice_range bytes i j) ≤ j - i
range_short bytes i j = omega (arith, length-take (j - i) (drop i bytes))

packed_short : (bytes : List ℕ) → length (packed_digits bytes) ≤ 2 * length bytes + 1
packed_short bytes =
    omega (arith, length-append (halves (take (length bytes - 1) bytes)) (slice_index bytes (length bytes - 1) / 16 ∷ []), halves_twice (take (length bytes - 1) bytes), length-take (length bytes - 1) bytes)

at_most : (n width most : ℕ) → n ≤ width → nat_le width most ≡ true → n ≤ most
at_most n width most h test = grind (arith, nat_tests, h, test)

more : (n m most : ℕ) → nat_le n m ≡ true → m ≤ most → nat_le n most ≡ true
more n m most test h = grind (arith, nat_tests, h, test)

more_by : (n : ℕ) → nat_le n 15 ≡ true → nat_le (n + 2) 256 ≡ true
more_by n test = grind (arith, nat_tests, test)

digits : (n decimals : ℕ) → shape_in_range (Numeric n decimals) ≡ true → nat_le n 15 ≡ true
digits n decimals ranged =
    (and_parts (nat_le 1 n) (nat_le n 15) (and_parts (nat_le 1 n && nat_le n 15) (nat_le decimals 9) (and_parts (nat_le 1 n && nat_le n 15 && nat_le decimals 9) (nat_le decimals n) ranged).0).0).1

compared_length : (form : FieldForm) (bytes : List ℕ) (width : ℕ) → length bytes ≤ width → shape_in_range (shape_of_positions form width) ≡ true → length (compared form bytes) ≤ 256
compared_length Alphanumeric bytes width fits ranged = at_most (length bytes) width 256 fits (and_parts (nat_le 1 width) (nat_le width 256) ranged).1
compared_length (Zoned decimals) bytes width fits ranged =
    at_most (length (zoned_digits bytes)) width 256 (omega (arith, length-map bytes (λ b. b % 16), fits)) (more width 15 256 (digits width decimals ranged) (omega arith))
compared_length (Packed decimals) bytes width fits ranged =
    at_most (length (packed_digits bytes)) (2 * width - 1 + 2) 256 (omega (arith, packed_short bytes, fits)) (more_by (2 * width - 1) (digits (2 * width - 1) decimals ranged))
compared_length PackedText bytes width fits ranged = at_most (length bytes) width 256 fits (and_parts (nat_le 1 width) (nat_le width 256) ranged).1

pub compared_short : (field : LevelField) (bytes : List ℕ) → is_ranged field ≡ true → length (compared_at bytes field) ≤ 256
compared_short field bytes ranged =
    let parts = and_parts (nat_le 1 field.from) (shape_in_range (shape_of_positions field.form (field.to + 1 - field.from))) ranged in
    compared_length field.form (slice_range bytes (field.from - 1) field.to) (field.to + 1 - field.from)
    (width (length (slice_range bytes (field.from - 1) field.to)) field.from field.to (range_short bytes (field.from - 1) field.to) parts.0) parts.1
  where
    width : (n from to : ℕ) → n ≤ to - (from - 1) → nat_le 1 from ≡ true → n ≤ to + 1 - from
    width n from to h first = grind (arith, nat_tests, h, first)

pub fits_first : (items more : List ℕ) → items ≡ [] → length more ≤ 256 → length items + length more ≤ 2304
fits_first items more none short = omega (arith, ap length none, short)

pub fits_behind : (items more : List ℕ) (n : ℕ) → length more ≤ 256 → length items + 256 ≤ n → length items + length more ≤ n
fits_behind items more n short room_left = omega (arith, short, room_left)

pub longer_by : (items more new : List ℕ) → length more ≤ 256 → new ≡ items ++ more → length new ≤ length items + 256
longer_by items more new short e = omega (arith, simp length-append at (ap length e), short)
