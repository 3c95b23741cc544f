-- What showing and taking make of each other, for each form of a field.
use Rattle.std.proofs.Common.{◌≡◌, ℕ, ℤ, ◌+◌, ◌-◌, ◌*◌, ◌^◌, ◌<◌, ◌≤◌, arith, sym, ◌∙◌, ap, true, ◌&&◌, not, suc, zero, List, length, nat_le, nat_lt, unsigned_abs, subst}
use Rattle.std.specs.Prelude.{Option, Some, None}
use Rattle.std.specs.Option.{option_map}
use Rattle.std.proofs.lemmas.Bool.{and_parts, leb-true, ltb-true}
use Rattle.s3_decimal.proofs.Powers.{ten_le}
use Rattle.s3_decimal.proofs.DigitsWritten.{packed_back, packed_good, zoned_back, zoned_good}
use Rattle.s3_decimal.specs.Exact.{is_negative}
use Rattle.s3_cells.specs.Inner.Marks.{cased, plain_number, text_read, unguarded}
use Rattle.s3_cells.specs.Inner.Numbers.{number_read}
use Rattle.s3_cells.specs.Inner.Values.{Characters, IsAsWritten, IsTidy, Number, Value, bytes_of, cell_text, is_held, is_kind_of, is_shown_in, value_in, value_read}
use Rattle.s3_cells.specs.declared.kind.FieldKind.{FieldKind}
use Rattle.s3_cells.specs.declared.kind.FieldKind.TheVariants.{Text as TextKind, Zoned, Packed, Date}
use Rattle.s3_cells.specs.declared.marks.NumberCells.{NumberCells}
use Rattle.s3_cells.proofs.DateLaws.{date_again, date_back, date_cell, date_held, date_shown, date_tidy, or_cases}
use Rattle.s3_cells.proofs.MarkLaws.{number_plain, text_read_back}
use Rattle.s3_cells.proofs.TextLemmas.{trimmed_twice}
use Rattle.s3_cells.proofs.TextLaws.{text_again, text_back, text_held, text_shown}
use Rattle.s3_cells.proofs.NumberLaws.{packed_held, text_back as number_back, zoned_held}

-- the parts of what is asked of a number's form
pub record IsNumberForm (decimals width most : ℕ) : Type 0 where
  pub some : 1 ≤ width
  pub few : width ≤ most
  pub few_decimals : decimals ≤ 9

pub zoned_form : (decimals width : ℕ) (cells : NumberCells) → is_kind_of (Zoned decimals cells) width ≡ true → IsNumberForm decimals width 15
zoned_form decimals width cells h =
    let a = and_parts (nat_le 1 width && nat_le width 15 && nat_le decimals 9) (nat_le decimals width) h in
    let b = and_parts (nat_le 1 width && nat_le width 15) (nat_le decimals 9) a.0 in
    let c = and_parts (nat_le 1 width) (nat_le width 15) b.0 in
    record { some = leb-true 1 width c.0; few = leb-true width 15 c.1; few_decimals = leb-true decimals 9 b.1 }

pub packed_form : (decimals width : ℕ) (cells : NumberCells) → is_kind_of (Packed decimals cells) width ≡ true → IsNumberForm decimals width 8
packed_form decimals width cells h =
    let a = and_parts (nat_le 1 width && nat_le width 8 && nat_le decimals 9) (nat_lt decimals (2 * width)) h in
    let b = and_parts (nat_le 1 width && nat_le width 8) (nat_le decimals 9) a.0 in
    let c = and_parts (nat_le 1 width) (nat_le width 8) b.0 in
    record { some = leb-true 1 width c.0; few = leb-true width 8 c.1; few_decimals = leb-true decimals 9 b.1 }

-- ---- taken, then shown
pub taken_shown : (kind : FieldKind) (width : ℕ) (value : Value) → is_kind_of kind width ≡ true → is_held kind width value ≡ true → is_shown_in kind (bytes_of kind width value) ≡ true
taken_shown (TextKind c) width (Characters text) k h = text_shown width text (and_parts _ _ h).1
taken_shown (TextKind c) width (Number z) k h = absurd cc
taken_shown (Zoned d c) width (Characters text) k h = absurd cc
taken_shown (Zoned d c) width (Number z) k h = ap not (zoned_good (is_negative z) width (unsigned_abs z))
taken_shown (Date f) width (Characters text) k h = date_shown f width text (or_cases _ _ h)
taken_shown (Date f) width (Number z) k h = absurd cc
taken_shown (Packed d c) width (Characters text) k h = absurd cc
taken_shown (Packed d c) zero (Number z) k h = absurd cc
taken_shown (Packed d c) (suc n) (Number z) k h = ap not (packed_good (is_negative z) n (unsigned_abs z))

packed_small : (n v : ℕ) → v < 10 ^ (2 * suc n - 1) → v < 10 ^ (2 * n + 1)
packed_small n v h = let same : 2 * suc n - 1 ≡ 2 * n + 1 = omega arith in omega (arith, ap (λ k. 10 ^ k) same)

pub taken_back : (kind : FieldKind) (width : ℕ) (value : Value) → is_kind_of kind width ≡ true → is_held kind width value ≡ true → IsTidy value → value_in kind (bytes_of kind width value) ≡ value
taken_back (TextKind c) width (Characters text) k h tidy = ap Characters (text_back width text (and_parts _ _ h).1 tidy)
taken_back (TextKind c) width (Number z) k h tidy = absurd cc
taken_back (Zoned d c) width (Characters text) k h tidy = absurd cc
taken_back (Zoned d c) width (Number z) k h tidy = ap Number (zoned_back width z (zoned_form d width c k).some (ltb-true _ _ h))
taken_back (Date f) width (Characters text) k h tidy = ap Characters (date_back f width text (or_cases _ _ h))
taken_back (Date f) width (Number z) k h tidy = absurd cc
taken_back (Packed d c) width (Characters text) k h tidy = absurd cc
taken_back (Packed d c) zero (Number z) k h tidy = absurd cc
taken_back (Packed d c) (suc n) (Number z) k h tidy = ap Number (packed_back n z (packed_small n (unsigned_abs z) (ltb-true _ _ h)))

-- ---- shown, then taken
pub shown_held : (kind : FieldKind) (bytes : List ℕ) → is_kind_of kind (length bytes) ≡ true → is_shown_in kind bytes ≡ true → is_held kind (length bytes) (value_in kind bytes) ≡ true
shown_held (TextKind c) bytes k h = text_held bytes h
shown_held (Zoned d c) bytes k h = zoned_held bytes
shown_held (Date f) bytes k h = date_held f bytes h
shown_held (Packed d c) bytes k h = packed_held bytes (packed_form d (length bytes) c k).some

pub shown_again : (kind : FieldKind) (bytes : List ℕ) → is_kind_of kind (length bytes) ≡ true → is_shown_in kind bytes ≡ true → IsAsWritten kind bytes → bytes_of kind (length bytes) (value_in kind bytes) ≡ bytes
shown_again (TextKind c) bytes k h written = text_again bytes h
shown_again (Zoned d c) bytes k h written = sym written
shown_again (Date f) bytes k h written = date_again f bytes h written
shown_again (Packed d c) bytes k h written = sym written

-- ---- cells
small_number : (v digits : ℕ) → digits ≤ 15 → v < 10 ^ digits → v < 10 ^ 15
small_number v digits few h = omega (arith, ten_le digits 15 few)

pub cell_back : (kind : FieldKind) (width : ℕ) (value : Value) → is_kind_of kind width ≡ true → is_held kind width value ≡ true → IsTidy value → value_read kind (cell_text kind value) ≡ Some value
cell_back (TextKind c) width (Characters text) k h tidy = ap (λ t. Some (Characters t)) (text_read_back c text (and_parts _ _ h).1 ∙ tidy)
cell_back (TextKind c) width (Number z) k h tidy = absurd cc
cell_back (Zoned d c) width (Characters text) k h tidy = absurd cc
cell_back (Zoned d c) width (Number z) k h tidy =
    let form = zoned_form d width c k in
    ap (λ t. option_map Number (number_read d t)) (number_plain c d z) ∙ ap (option_map Number) (number_back d z form.few_decimals (small_number (unsigned_abs z) width form.few (ltb-true _ _ h)))
cell_back (Date f) width (Characters text) k h tidy = ap (option_map Characters) (date_cell text (or_cases _ _ h))
cell_back (Date f) width (Number z) k h tidy = absurd cc
cell_back (Packed d c) width (Characters text) k h tidy = absurd cc
cell_back (Packed d c) width (Number z) k h tidy =
    let form = packed_form d width c k in
    let few : 2 * width - 1 ≤ 15 = omega (arith, form.few) in
    ap (λ t. option_map Number (number_read d t)) (number_plain c d z) ∙ ap (option_map Number) (number_back d z form.few_decimals (small_number (unsigned_abs z) (2 * width - 1) few (ltb-true _ _ h)))

some_value : (a b : Value) → Some a ≡ Some b → a ≡ b
some_value a b h = cc

number_tidy : (o : Option ℤ) (value : Value) → option_map Number o ≡ Some value → IsTidy value
number_tidy None value h = absurd cc
number_tidy (Some z) value h = subst IsTidy (some_value (Number z) value h) tt

pub read_tidy : (kind : FieldKind) (cell : List ℕ) (value : Value) → value_read kind cell ≡ Some value → IsTidy value
read_tidy (TextKind c) cell value h = subst IsTidy (some_value (Characters (text_read c cell)) value h) (trimmed_twice (cased c (unguarded c cell)))
read_tidy (Zoned d c) cell value h = number_tidy (number_read d (plain_number c cell)) value h
read_tidy (Date f) cell value h = date_tidy cell value h
read_tidy (Packed d c) cell value h = number_tidy (number_read d (plain_number c cell)) value h
