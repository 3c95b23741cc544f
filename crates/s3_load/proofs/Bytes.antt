-- The records of rows are bytes.
use Rattle.std.proofs.Common.{◌≡◌, ℕ, zero, suc, ◌+◌, ◌-◌, ◌*◌, ◌/◌, ◌%◌, ◌^◌, ◌<◌, ◌≤◌, refl, arith, sym, ◌∙◌, ap, subst, inl, inr, Bool, true, false, not, ◌==◌, ◌&&◌, cond, lit<, slice_set, slice_index, List, [], ◌∷◌, ◌++◌, length, take, drop, replicate, get_or, nat_le, nat_lt, pos}
use Rattle.std.specs.Prelude.{Some, find, unwrap_or}
use native.Mathlib.Numerals.{unary_clauses}
use Rattle.std.proofs.Math.Nat.{mod-lt, mul-le-mul_left}
use Rattle.std.specs.List.{All, list_all}
use Rattle.std.specs.Option.{option_map}
use Rattle.std.proofs.lemmas.Bool.{and_parts, cases_Bool, leb-true, ltb-true}
use Rattle.std.proofs.lemmas.List.{get_or-drop, get_or-take}
use Rattle.std.proofs.lemmas.List.Elements.{All-head, All-tail}
use Rattle.std.proofs.lemmas.List.Folds.{Any-from_list_any}
use Rattle.s3_cards.specs.Codes.{code_page, ebcdic}
use Rattle.s3_cards.specs.declared.ebcdic.TheConstants.{BLANK, DIGIT_0}
use Rattle.s3_decimal.specs.Records.{low_half, packed_bytes, zone_at, zoned_bytes}
use Rattle.s3_store.specs.Bytes.{part}
use Rattle.s3_keyed.specs.KeyOrder.{number_of}
use Rattle.s3_cells.specs.Inner.Fields.{field_bytes, zeroed}
use Rattle.s3_cells.specs.Inner.Values.{Value, bytes_of, Number, Characters, zeroed_bytes}
use Rattle.s3_cells.specs.declared.field.Field.{Field}
use Rattle.s3_cells.specs.declared.kind.FieldKind.{FieldKind}
use Rattle.s3_cells.specs.declared.kind.FieldKind.TheVariants.{Text as TextKind, Zoned, Packed, Date}
use Rattle.s3_cells.specs.Inner.Dates.{date_bytes, none_of}
use Rattle.s3_cells.specs.declared.dates.DateField.{DateField}
use Rattle.s3_cells.specs.declared.dates.DateField.TheVariants.{Text as TextDate, Number as NumberDate}
use Rattle.s3_lines.specs.declared.sheet.CodePart.{CodePart}
use Rattle.s3_lines.specs.declared.sheet.CodePart.TheVariants.{Character, Zone, Digit}
use Rattle.s3_lines.specs.declared.sheet.RecordCode.{RecordCode}
use Rattle.s3_meaning.specs.Selection.{zone_of}
use Rattle.s3_record_types.specs.Inner.Chosen.{codes_of}
use Rattle.s3_record_types.specs.Inner.Codes.{merged, byte_with, with_code, with_codes}
use Rattle.s3_record_types.specs.declared.chosen.ChosenRecords.{ChosenRecords}
use Rattle.s3_load.specs.Inner.Columns.{has_byte, is_inside}
use Rattle.s3_load.specs.Inner.Records.{IsRecordOf, empty_record, with_zeros}

unfoldable pub AreBytes : List ℕ → Type 0
AreBytes [] = Unit {0}
AreBytes (b ∷ bs) = (b < 256) × AreBytes bs

from_places : (xs : List ℕ) → ((i : ℕ) → get_or xs i 0 < 256) → AreBytes xs
unfolding AreBytes
from_places [] h = tt
from_places (x ∷ xs) h = (h zero, from_places xs (λ i. h (suc i)))

pub from_all : (xs : List ℕ) → All (λ b. b < 256) xs → AreBytes xs
unfolding AreBytes
from_all [] h = tt
from_all (x ∷ xs) h = (All-head (λ b. b < 256) x xs h, from_all xs (All-tail (λ b. b < 256) x xs h))

pub bytes_taken : (n : ℕ) (xs : List ℕ) → AreBytes xs → AreBytes (take n xs)
unfolding AreBytes
bytes_taken zero xs h = tt
bytes_taken (suc n) [] h = tt
bytes_taken (suc n) (x ∷ xs) h = (h.0, bytes_taken n xs h.1)

pub bytes_dropped : (n : ℕ) (xs : List ℕ) → AreBytes xs → AreBytes (drop n xs)
unfolding AreBytes
bytes_dropped zero xs h = h
bytes_dropped (suc n) [] h = tt
bytes_dropped (suc n) (x ∷ xs) h = bytes_dropped n xs h.1

pub number_of_fits : (xs : List ℕ) → AreBytes xs → number_of xs < 256 ^ length xs
unfolding number_of AreBytes
number_of_fits [] h = omega arith
number_of_fits (x ∷ xs) h =
    let rest = number_of_fits xs h.1 in
    let p = 256 ^ length xs in
    let byte : x + 1 ≤ 256 = omega (arith, h.0) in
    let top = mul-le-mul_left p byte in
    let whole : 256 ^ suc (length xs) ≡ p * 256 = simp unary_clauses (omega arith) in
    omega (arith, top, whole, rest)

joined : (xs ys : List ℕ) → AreBytes xs → AreBytes ys → AreBytes (xs ++ ys)
unfolding AreBytes
joined [] ys h k = k
joined (x ∷ xs) ys h k = (h.0, joined xs ys h.1 k)

repeated : (n byte : ℕ) → byte < 256 → AreBytes (replicate n byte)
unfolding AreBytes
repeated zero byte h = tt
repeated (suc n) byte h = (h, repeated n byte h)

byte_at : (xs : List ℕ) (i : ℕ) → AreBytes xs → get_or xs i 0 < 256
unfolding AreBytes
byte_at [] i h = omega arith
byte_at (x ∷ xs) zero h = h.0
byte_at (x ∷ xs) (suc i) h = byte_at xs i h.1

-- ---- texts
abbrev is_low : ℕ × ℕ → Bool
is_low entry = nat_lt entry.0 256

page_is_low : list_all is_low code_page ≡ true
unfolding code_page
page_is_low = refl

code_below : (p : ℕ × ℕ → Bool) (page : List (ℕ × ℕ)) → list_all is_low page ≡ true → unwrap_or (option_map (λ entry. entry.0) (find p page)) 0 < 256
code_below p [] h = omega arith
code_below p (x ∷ xs) h =
    let both = and_parts (is_low x) (list_all is_low xs) h in
    elim (p x) as (λ b. unwrap_or (option_map (λ (entry : ℕ × ℕ). entry.0) (cond b (Some x) (find p xs))) 0 < 256) [ true ↦ ltb-true x.0 256 both.0 | false ↦ code_below p xs both.1 ]

coded : (text : List ℕ) → AreBytes (ebcdic text)
unfolding AreBytes ebcdic
coded [] = tt
coded (x ∷ xs) = (code_below (λ entry. entry.1 == x) code_page page_is_low, coded xs)

-- ---- numbers
zone_below : (negative : Bool) (place : ℕ) → zone_at negative place ≤ 240
zone_below negative place = elim ((place == 0) && negative) as (λ b. cond b 0xd0 0xf0 ≤ 240) [ true ↦ omega arith | false ↦ omega arith ]

zoned : (negative : Bool) (width n : ℕ) → AreBytes (zoned_bytes negative width n)
unfolding AreBytes
zoned negative zero n = tt
zoned negative (suc place) n = let zone = zone_below negative place in (omega (arith, zone), zoned negative place n)

half_below : (negative : Bool) (place n : ℕ) → low_half negative place n < 16
half_below true zero n = omega arith
half_below false zero n = omega arith
half_below negative (suc place) n = omega arith

packed : (negative : Bool) (width n : ℕ) → AreBytes (packed_bytes negative width n)
unfolding AreBytes
packed negative zero n = tt
packed negative (suc place) n = let half = half_below negative place n in (omega (arith, half), packed negative place n)

none_below : (form : DateField) → none_of form < 256
none_below TextDate = omega arith
none_below NumberDate = omega arith

dated : (form : DateField) (width : ℕ) (text : List ℕ) → AreBytes (date_bytes form width text)
dated form width [] = repeated width (none_of form) (none_below form)
dated form width (first ∷ rest) = coded (first ∷ rest)

value_bytes : (kind : FieldKind) (width : ℕ) (value : Value) → AreBytes (bytes_of kind width value)
unfolding AreBytes
value_bytes (TextKind cells) width (Characters text) = joined (ebcdic text) (replicate (width - length text) BLANK) (coded text) (repeated (width - length text) BLANK (omega arith))
value_bytes (Zoned decimals cells) width (Number value) = zoned _ width _
value_bytes (Packed decimals cells) width (Number value) = packed _ width _
value_bytes (Zoned decimals cells) width (Characters text) = tt
value_bytes (Packed decimals cells) width (Characters text) = tt
value_bytes (TextKind cells) width (Number value) = tt
value_bytes (Date form) width (Characters text) = dated form width text
value_bytes (Date form) width (Number value) = tt

-- ---- records
zeroed_kind : (kind : FieldKind) (bytes : List ℕ) → AreBytes bytes → AreBytes (zeroed_bytes kind bytes)
zeroed_kind (TextKind cells) bytes h = h
zeroed_kind (Zoned decimals cells) bytes h = value_bytes (Zoned decimals cells) (length bytes) (Number (pos 0))
zeroed_kind (Packed decimals cells) bytes h = value_bytes (Packed decimals cells) (length bytes) (Number (pos 0))
zeroed_kind (Date TextDate) bytes h = h
zeroed_kind (Date NumberDate) bytes h = repeated (length bytes) DIGIT_0 (omega arith)

zero_bytes : (bytes : List ℕ) (field : Field) → AreBytes bytes → AreBytes (zeroed bytes field)
zero_bytes bytes field h =
    let piece = zeroed_bytes field.kind (field_bytes field bytes) in
    let good : AreBytes piece = zeroed_kind field.kind (field_bytes field bytes) (bytes_taken field.width (drop field.start bytes) (bytes_dropped field.start bytes h)) in
    joined (take field.start bytes ++ piece) (drop (field.start + length piece) bytes) (joined (take field.start bytes) piece (bytes_taken field.start bytes h) good) (bytes_dropped (field.start + length piece) bytes h)

zeros_bytes : (bytes : List ℕ) (fields : List Field) → AreBytes bytes → AreBytes (with_zeros bytes fields)
zeros_bytes bytes [] h = h
zeros_bytes bytes (x ∷ xs) h = zeros_bytes (zeroed bytes x) xs (zero_bytes bytes x h)

-- a byte that gets a code stays a byte
merged_below : (part : CodePart) (character byte : ℕ) → byte < 256 → merged part character byte < 256
merged_below Character character byte h = mod-lt character (lit< tt)
merged_below Zone character byte h =
    let zone : zone_of character % 16 < 16 = mod-lt (zone_of character) (lit< tt) in
    let digit : byte % 16 < 16 = mod-lt byte (lit< tt) in
    omega arith
merged_below Digit character byte h =
    let zone : byte / 16 < 16 = omega arith in
    let digit : character % 16 < 16 = mod-lt character (lit< tt) in
    omega arith

coded_below : (part : CodePart) (character byte : ℕ) → byte < 256 → byte_with part character byte < 256
coded_below part character byte h =
    elim (byte == BLANK) as (λ b. cond b (character % 256) (merged part character byte) < 256) [ true ↦ mod-lt character (lit< tt) | false ↦ merged_below part character byte h ]

set_bytes : (bytes : List ℕ) (i byte : ℕ) → AreBytes bytes → byte < 256 → AreBytes (slice_set bytes i byte)
unfolding AreBytes
set_bytes [] i byte h low = tt
set_bytes (x ∷ xs) zero byte h low = (low, h.1)
set_bytes (x ∷ xs) (suc i) byte h low = (h.0, set_bytes xs i byte h.1 low)

code_bytes : (bytes : List ℕ) (code : RecordCode) → AreBytes bytes → AreBytes (with_code bytes code)
code_bytes bytes code h =
    let at = code.position - 1 in
    let byte = slice_index bytes at in
    elim (not code.negated && nat_lt at (length bytes)) as (λ b. AreBytes (cond b (slice_set bytes at (byte_with code.part code.character byte)) bytes)) [
      | true ↦ set_bytes bytes at (byte_with code.part code.character byte) h (coded_below code.part code.character byte (byte_at bytes at h))
      | false ↦ h
    ]

codes_bytes : (bytes : List ℕ) (codes : List RecordCode) → AreBytes bytes → AreBytes (with_codes bytes codes)
codes_bytes bytes [] h = h
codes_bytes bytes (x ∷ xs) h = codes_bytes (with_code bytes x) xs (code_bytes bytes x h)

byte_in : (bytes : List ℕ) (start width place : ℕ) → start ≤ place → place < start + width → get_or (part bytes start width) (place - start) 0 ≡ get_or bytes place 0
byte_in bytes start width place low high =
    let at : start + (place - start) ≡ place = omega arith in
    get_or-take width (drop start bytes) (place - start) 0 (omega arith) ∙ get_or-drop start bytes (place - start) 0 ∙ ap (λ i. get_or bytes i 0) at

within_field : (field : Field) (bytes : List ℕ) (place : ℕ) → has_byte place field ≡ true → AreBytes (field_bytes field bytes) → get_or bytes place 0 < 256
within_field field bytes place has h =
    let both = and_parts (nat_le field.start place) (nat_lt place (field.start + field.width)) has in
    subst (λ b. b < 256) (byte_in bytes field.start field.width place (leb-true field.start place both.0) (ltb-true place (field.start + field.width) both.1)) (byte_at (field_bytes field bytes) (place - field.start) h)

pub record_bytes : (record_length : ℕ) (columns filled : List Field) (chosen : ChosenRecords) (cells : List (List ℕ)) (bytes : List ℕ) → IsRecordOf record_length columns filled chosen cells bytes → AreBytes bytes
record_bytes n columns filled chosen cells bytes is = from_places bytes each
  where
    each : (place : ℕ) → get_or bytes place 0 < 256
    each place = elim (cases_Bool (is_inside columns place)) [
      | inl inside ↦
          let there = Any-from_list_any (has_byte place) columns inside in
          let f : Field = there.1 in
          let got = is.said there.0 f there.2 in
          let g : Field = get_or columns there.0 f in
          let has : has_byte place g ≡ true = subst (λ (x : Field). has_byte place x ≡ true) (sym there.3) there.4 in
          within_field g bytes place has (subst AreBytes (sym got.written) (value_bytes g.kind g.width got.value))
      | inr outside ↦ subst (λ b. b < 256) (sym (is.rest place outside)) (byte_at (empty_record n filled chosen) place (codes_bytes (with_zeros (replicate n BLANK) filled) (codes_of chosen) (zeros_bytes (replicate n BLANK) filled (repeated n BLANK (omega arith)))))
    ]
