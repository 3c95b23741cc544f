-- What dates, their bytes and their cells make of each other.
use Rattle.std.proofs.Common.{◌≡◌, ℕ, ◌+◌, ◌-◌, ◌<◌, refl, arith, sym, ◌∙◌, ap, ap₂, Bool, true, false, ◌&&◌, ◌||◌, cond, suc, zero, List, [], ◌∷◌, map, length, replicate, inl, inr, ◌⊎◌, subst, eq-eqb, nat_le}
use Rattle.std.specs.Prelude.{Option, Some, None, unwrap_or, is_some}
use Rattle.std.specs.Option.{option_map}
use Rattle.std.specs.Bool.{◌==◌}
use Rattle.std.specs.List.{list_all}
use Rattle.std.proofs.lemmas.Bool.{and_parts, cases_Bool, eqb-true, leb-true, ne_eqb}
use Rattle.s3_cards.specs.Codes.{code_page, ebcdic, host_of, shown_byte}
use Rattle.s3_cells.specs.Inner.Dates.{IsDateAsWritten, are_all, date_bytes, date_in, date_of, date_read, date_text, has_form, has_no_date, is_date, is_date_or_none, is_day, none_of, two, two_at}
use Rattle.s3_cells.specs.Inner.Numbers.{is_digit}
use Rattle.s3_cells.specs.Inner.Texts.{has_code, trimmed}
use Rattle.s3_cells.specs.Inner.Values.{Characters, IsTidy, Value}
use Rattle.s3_cells.specs.declared.dates.DateField.{DateField}
use Rattle.s3_cells.specs.declared.dates.DateField.TheVariants.{Text as TextDate, Number as NumberDate}
use Rattle.s3_cells.proofs.TextLaws.{character_coded, code_shown, codes_back}
use Rattle.s3_cells.proofs.TextLemmas.{mark_kept, trimmed_nothing}

pub or_cases : (a b : Bool) → (a || b) ≡ true → (a ≡ true) ⊎ (b ≡ true)
or_cases true b h = inl refl
or_cases false b h = inr h

or_right : (a b : Bool) → b ≡ true → (a || b) ≡ true
or_right true b h = refl
or_right false b h = h

nothing_in : (text : List ℕ) → (length text == 0) ≡ true → text ≡ []
nothing_in [] h = refl
nothing_in (x ∷ xs) h = let none : length (x ∷ xs) ≡ 0 = eqb-true (length (x ∷ xs)) 0 h in absurd (omega arith)

-- ---- the six characters of a date
pub record IsDate (text : List ℕ) : Type 0 where
  pub a : ℕ
  pub b : ℕ
  pub c : ℕ
  pub d : ℕ
  pub e : ℕ
  pub f : ℕ
  pub is : text ≡ a ∷ b ∷ c ∷ d ∷ e ∷ f ∷ []
  pub digits : list_all is_digit (a ∷ b ∷ c ∷ d ∷ e ∷ f ∷ []) ≡ true
  pub day : is_day (two a b) (two c d) (two e f) ≡ true

pub dated : (text : List ℕ) → is_date text ≡ true → IsDate text
unfolding is_date
dated [] h = absurd cc
dated (a ∷ []) h = absurd cc
dated (a ∷ b ∷ []) h = absurd cc
dated (a ∷ b ∷ c ∷ []) h = absurd cc
dated (a ∷ b ∷ c ∷ d ∷ []) h = absurd cc
dated (a ∷ b ∷ c ∷ d ∷ e ∷ []) h = absurd cc
dated (a ∷ b ∷ c ∷ d ∷ e ∷ f ∷ []) h =
    let parts = and_parts ((length (a ∷ b ∷ c ∷ d ∷ e ∷ f ∷ []) == 6) && list_all is_digit (a ∷ b ∷ c ∷ d ∷ e ∷ f ∷ [])) (is_day (two a b) (two c d) (two e f)) h in
    record { a = a; b = b; c = c; d = d; e = e; f = f; is = refl; digits = (and_parts (length (a ∷ b ∷ c ∷ d ∷ e ∷ f ∷ []) == 6) (list_all is_digit (a ∷ b ∷ c ∷ d ∷ e ∷ f ∷ [])) parts.0).1; day = parts.1 }
dated (a ∷ b ∷ c ∷ d ∷ e ∷ f ∷ g ∷ more) h =
    let text = a ∷ b ∷ c ∷ d ∷ e ∷ f ∷ g ∷ more in
    let long = eqb-true (length text) 6 (and_parts (length text == 6) (list_all is_digit text) (and_parts ((length text == 6) && list_all is_digit text) (is_day (two_at 0 text) (two_at 2 text) (two_at 4 text)) h).0).0 in
    absurd (omega arith)

-- ---- digits and their codes
digit_coded : (n : ℕ) → n < 10 → has_code (48 + n) ≡ true
unfolding code_page
digit_coded zero h = refl
digit_coded (suc zero) h = refl
digit_coded (suc (suc zero)) h = refl
digit_coded (suc (suc (suc zero))) h = refl
digit_coded (suc (suc (suc (suc zero)))) h = refl
digit_coded (suc (suc (suc (suc (suc zero))))) h = refl
digit_coded (suc (suc (suc (suc (suc (suc zero)))))) h = refl
digit_coded (suc (suc (suc (suc (suc (suc (suc zero))))))) h = refl
digit_coded (suc (suc (suc (suc (suc (suc (suc (suc zero)))))))) h = refl
digit_coded (suc (suc (suc (suc (suc (suc (suc (suc (suc zero))))))))) h = refl
digit_coded (suc (suc (suc (suc (suc (suc (suc (suc (suc (suc n)))))))))) h = absurd (omega arith)

digit_has_code : (c : ℕ) → is_digit c ≡ true → has_code c ≡ true
digit_has_code c h =
    let parts = and_parts (nat_le 48 c) (nat_le c 57) h in
    let low = leb-true 48 c parts.0 in
    let high = leb-true c 57 parts.1 in
    let small : c - 48 < 10 = omega (arith, low, high) in
    let same : 48 + (c - 48) ≡ c = omega (arith, low) in
    subst (λ n. has_code n ≡ true) same (digit_coded (c - 48) small)

digits_have_codes : (text : List ℕ) → list_all is_digit text ≡ true → list_all has_code text ≡ true
digits_have_codes [] h = refl
digits_have_codes (c ∷ text) h = let parts = and_parts (is_digit c) (list_all is_digit text) h in ap₂ (λ x y. x && y) (digit_has_code c parts.0) (digits_have_codes text parts.1)

shown_coded : (o : Option ℕ) → is_digit (unwrap_or o 63) ≡ true → is_some o ≡ true
shown_coded None h = absurd cc
shown_coded (Some n) h = refl

codes_again : (bytes : List ℕ) → list_all is_digit (map shown_byte bytes) ≡ true → ebcdic (map shown_byte bytes) ≡ bytes
unfolding ebcdic
codes_again [] h = refl
codes_again (b ∷ bytes) h =
    let parts = and_parts (is_digit (shown_byte b)) (list_all is_digit (map shown_byte bytes)) h in
    ap₂ (λ x y. x ∷ y) (ap (λ o. unwrap_or o 0) (character_coded b (shown_coded (host_of b) parts.0))) (codes_again bytes parts.1)

-- ---- no date
none_written : (n width : ℕ) → list_all (λ b. b == n) (replicate width n) ≡ true
none_written n zero = refl
none_written n (suc width) = ap₂ (λ x y. x && y) (eq-eqb n n refl) (none_written n width)

none_again : (n : ℕ) (bytes : List ℕ) → list_all (λ b. b == n) bytes ≡ true → replicate (length bytes) n ≡ bytes
none_again n [] h = refl
none_again n (b ∷ bytes) h = let parts = and_parts (b == n) (list_all (λ b. b == n) bytes) h in ap₂ (λ x y. x ∷ y) (sym (eqb-true b n parts.0)) (none_again n bytes parts.1)

blank_shown : shown_byte 64 ≡ 32
unfolding code_page
blank_shown = refl

zero_shown : shown_byte 240 ≡ 48
unfolding code_page
zero_shown = refl

-- the first two characters of a date whose codes are all the same
first_two : (n : ℕ) (text : List ℕ) (date : IsDate text) → list_all (λ b. b == n) (ebcdic text) ≡ true → (shown_byte n ≡ date.a) × (shown_byte n ≡ date.b)
unfolding ebcdic
first_two n text date h =
    let all : list_all (λ b. b == n) (ebcdic (date.a ∷ date.b ∷ date.c ∷ date.d ∷ date.e ∷ date.f ∷ [])) ≡ true = ap (λ t. list_all (λ b. b == n) (ebcdic t)) (sym date.is) ∙ h in
    let coded = digits_have_codes (date.a ∷ date.b ∷ date.c ∷ date.d ∷ date.e ∷ date.f ∷ []) date.digits in
    let first = and_parts _ _ all in
    let second = and_parts _ _ first.1 in
    let first_coded = and_parts _ _ coded in
    let second_coded = and_parts _ _ first_coded.1 in
    (ap shown_byte (sym (eqb-true _ _ first.0)) ∙ (code_shown date.a first_coded.0).1, ap shown_byte (sym (eqb-true _ _ second.0)) ∙ (code_shown date.b second_coded.0).1)

no_month : (a b c d e f : ℕ) → 48 ≡ a → 48 ≡ b → is_day (two a b) (two c d) (two e f) ≡ false
no_month a b c d e f x y = subst (λ n. is_day (two n b) (two c d) (two e f) ≡ false) x (subst (λ n. is_day (two 48 n) (two c d) (two e f) ≡ false) y refl)

both : (p : Bool) → p ≡ true → p ≡ false → ⊥
both p t f = absurd cc

not_none : (form : DateField) (text : List ℕ) → is_date text ≡ true → has_no_date form (ebcdic text) ≡ false
not_none form text h = elim (cases_Bool (has_no_date form (ebcdic text))) [
  | inl none ↦ absurd (clash form none)
  | inr some ↦ some
]
  where
    date : IsDate text
    date = dated text h

    blank : are_all 64 (ebcdic text) ≡ true → ⊥
    blank none =
        let two_of = first_two 64 text date none in
        both (is_digit date.a) (and_parts _ _ date.digits).0 (ap is_digit (sym two_of.0 ∙ blank_shown))

    zeros : are_all 240 (ebcdic text) ≡ true → ⊥
    zeros none =
        let two_of = first_two 240 text date none in
        both (is_day (two date.a date.b) (two date.c date.d) (two date.e date.f)) date.day (no_month date.a date.b date.c date.d date.e date.f (sym zero_shown ∙ two_of.0) (sym zero_shown ∙ two_of.1))

    written : (form : DateField) → are_all (none_of form) (ebcdic text) ≡ true → ⊥
    written TextDate none = blank none
    written NumberDate none = zeros none

    clash : (form : DateField) → has_no_date form (ebcdic text) ≡ true → ⊥
    clash form none = elim (or_cases (are_all (none_of form) (ebcdic text)) (are_all 64 (ebcdic text)) none) [
      | inl as_written ↦ written form as_written
      | inr as_blank ↦ blank as_blank
    ]

-- ---- from a date to its bytes and back
pub some_bytes : (form : DateField) (width : ℕ) (text : List ℕ) → is_date text ≡ true → date_bytes form width text ≡ ebcdic text
some_bytes form width text h = let date = dated text h in ap (date_bytes form width) date.is ∙ sym (ap ebcdic date.is)

date_codes_back : (text : List ℕ) → is_date text ≡ true → map shown_byte (ebcdic text) ≡ text
date_codes_back text h = let date = dated text h in codes_back text (digits_have_codes text (ap (list_all is_digit) date.is ∙ date.digits))

pub date_shown : (form : DateField) (width : ℕ) (text : List ℕ) → ((length text == 0) ≡ true) ⊎ (is_date text ≡ true) → (has_no_date form (date_bytes form width text) || is_date (map shown_byte (date_bytes form width text))) ≡ true
date_shown form width text (inl none) =
    ap (λ t. has_no_date form (date_bytes form width t) || is_date (map shown_byte (date_bytes form width t))) (nothing_in text none)
    ∙ ap (λ p. (p || are_all 64 (replicate width (none_of form))) || is_date (map shown_byte (replicate width (none_of form)))) (none_written (none_of form) width)
date_shown form width text (inr some) =
    or_right (has_no_date form (date_bytes form width text)) (is_date (map shown_byte (date_bytes form width text)))
    (ap (λ bytes. is_date (map shown_byte bytes)) (some_bytes form width text some) ∙ ap is_date (date_codes_back text some) ∙ some)

pub date_back : (form : DateField) (width : ℕ) (text : List ℕ) → ((length text == 0) ≡ true) ⊎ (is_date text ≡ true) → date_in form (date_bytes form width text) ≡ text
date_back form width text (inl none) =
    ap (λ t. date_in form (date_bytes form width t)) (nothing_in text none)
    ∙ ap (λ p. cond (p || are_all 64 (replicate width (none_of form))) [] (map shown_byte (replicate width (none_of form)))) (none_written (none_of form) width) ∙ sym (nothing_in text none)
date_back form width text (inr some) =
    ap (date_in form) (some_bytes form width text some) ∙ ap (λ p. cond p [] (map shown_byte (ebcdic text))) (not_none form text some) ∙ date_codes_back text some

-- ---- from bytes to their date and back
in_bytes : (bytes : List ℕ) (none : Bool) → (none || is_date (map shown_byte bytes)) ≡ true → is_date_or_none (cond none [] (map shown_byte bytes)) ≡ true
in_bytes bytes true h = refl
in_bytes bytes false h = or_right (length (map shown_byte bytes) == 0) (is_date (map shown_byte bytes)) h

pub date_held : (form : DateField) (bytes : List ℕ) → (has_no_date form bytes || is_date (map shown_byte bytes)) ≡ true → is_date_or_none (date_in form bytes) ≡ true
date_held form bytes h = in_bytes bytes (has_no_date form bytes) h

none_of_again : (form : DateField) (bytes : List ℕ) → IsDateAsWritten form bytes → (are_all (none_of form) bytes ≡ true) ⊎ (are_all 64 bytes ≡ true) → replicate (length bytes) (none_of form) ≡ bytes
none_of_again form bytes written (inl zeros) = none_again (none_of form) bytes zeros
none_of_again TextDate bytes written (inr blank) = none_again 64 bytes blank
none_of_again NumberDate bytes written (inr blank) = absurd (both (are_all 64 bytes) blank written)

bytes_again : (form : DateField) (bytes : List ℕ) (none : Bool) → IsDateAsWritten form bytes → has_no_date form bytes ≡ none → (none || is_date (map shown_byte bytes)) ≡ true → date_bytes form (length bytes) (cond none [] (map shown_byte bytes)) ≡ bytes
bytes_again form bytes true written is h = none_of_again form bytes written (or_cases (are_all (none_of form) bytes) (are_all 64 bytes) is)
bytes_again form bytes false written is h =
    let date = dated (map shown_byte bytes) h in
    some_bytes form (length bytes) (map shown_byte bytes) h ∙ codes_again bytes (ap (list_all is_digit) date.is ∙ date.digits)

pub date_again : (form : DateField) (bytes : List ℕ) → (has_no_date form bytes || is_date (map shown_byte bytes)) ≡ true → IsDateAsWritten form bytes → date_bytes form (length bytes) (date_in form bytes) ≡ bytes
date_again form bytes h written = bytes_again form bytes (has_no_date form bytes) written refl h

-- ---- cells
pub date_cell : (text : List ℕ) → ((length text == 0) ≡ true) ⊎ (is_date text ≡ true) → date_read (date_text text) ≡ Some text
date_cell text (inl none) = ap (λ t. date_read (date_text t)) (nothing_in text none) ∙ sym (ap Some (nothing_in text none))
date_cell text (inr some) =
    let date = dated text some in
    let six : is_date (date.a ∷ date.b ∷ date.c ∷ date.d ∷ date.e ∷ date.f ∷ []) ≡ true = ap is_date (sym date.is) ∙ some in
    ap (λ t. date_read (date_text t)) date.is
    ∙ ap (λ p. cond p (Some (date.a ∷ date.b ∷ date.c ∷ date.d ∷ date.e ∷ date.f ∷ [])) None) six
    ∙ sym (ap Some date.is)

some_text : (s t : List ℕ) → Some s ≡ Some t → s ≡ t
some_text s t h = cc

tidy_date : (text : List ℕ) → is_date text ≡ true → trimmed text ≡ text
tidy_date text h =
    let date = dated text h in
    let last = and_parts (is_digit date.f) true (and_parts (is_digit date.e) _ (and_parts (is_digit date.d) _ (and_parts (is_digit date.c) _ (and_parts (is_digit date.b) _ (and_parts (is_digit date.a) _ date.digits).1).1).1).1).1 in
    let low = leb-true 48 date.f (and_parts (nat_le 48 date.f) (nat_le date.f 57) last.0).0 in
    ap trimmed date.is ∙ mark_kept (date.a ∷ date.b ∷ date.c ∷ date.d ∷ date.e ∷ []) date.f (ne_eqb date.f 32 (λ e. absurd (omega (arith, low)))) ∙ sym date.is

tidy_if : (fits : Bool) (date text : List ℕ) → (fits ≡ true → is_date date ≡ true) → cond fits (Some date) None ≡ Some text → trimmed text ≡ text
tidy_if true date text is h = subst (λ t. trimmed t ≡ t) (some_text date text h) (tidy_date date (is refl))
tidy_if false date text is h = absurd cc

tidy_none : (none : Bool) (other : Option (List ℕ)) (text : List ℕ) → (other ≡ Some text → trimmed text ≡ text) → cond none (Some []) other ≡ Some text → trimmed text ≡ text
tidy_none true other text tidy h = subst (λ t. trimmed t ≡ t) (some_text [] text h) trimmed_nothing
tidy_none false other text tidy h = tidy h

tidy_read : (cell text : List ℕ) → date_read cell ≡ Some text → trimmed text ≡ text
tidy_read cell text h =
    tidy_none (length cell == 0) _ text (λ some. tidy_if _ (date_of cell) text (λ fits. (and_parts (has_form cell) (is_date (date_of cell)) fits).1) some) h

some_value : (s t : Value) → Some s ≡ Some t → s ≡ t
some_value s t h = cc

tidy_value : (o : Option (List ℕ)) (value : Value) → ((text : List ℕ) → o ≡ Some text → trimmed text ≡ text) → option_map Characters o ≡ Some value → IsTidy value
tidy_value None value tidy h = absurd cc
tidy_value (Some text) value tidy h = subst IsTidy (some_value (Characters text) value h) (tidy text refl)

pub date_tidy : (cell : List ℕ) (value : Value) → option_map Characters (date_read cell) ≡ Some value → IsTidy value
date_tidy cell value h = tidy_value (date_read cell) value (tidy_read cell) h

tidy_or_none : (text : List ℕ) → ((length text == 0) ≡ true) ⊎ (is_date text ≡ true) → trimmed text ≡ text
tidy_or_none text (inl none) = ap trimmed (nothing_in text none) ∙ trimmed_nothing ∙ sym (nothing_in text none)
tidy_or_none text (inr some) = tidy_date text some

pub date_in_tidy : (form : DateField) (bytes : List ℕ) → (has_no_date form bytes || is_date (map shown_byte bytes)) ≡ true → trimmed (date_in form bytes) ≡ date_in form bytes
date_in_tidy form bytes h = tidy_or_none (date_in form bytes) (or_cases (length (date_in form bytes) == 0) (is_date (date_in form bytes)) (date_held form bytes h))
