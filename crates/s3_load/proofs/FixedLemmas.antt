-- Texts of records of a fixed length, piece by piece.
use Rattle.std.proofs.Common.{◌≡◌, ℕ, zero, suc, ◌+◌, ◌-◌, ◌<◌, ◌≤◌, List, [], ◌∷◌, ◌++◌, ◌&&◌, true, false, length, map, take, drop, get_or, replicate, refl, sym, ap, ◌∙◌, arith, append_assoc}
use Rattle.std.specs.Prelude.{is_some, unwrap_or}
use Rattle.std.specs.List.{list_all}
use Rattle.std.proofs.lemmas.List.{append-nil, drop_all, length-drop, length-map, map-append, take_all, take_more, take_rest}
use Rattle.std.proofs.lemmas.List.Folds.{list_all_at, list_all_more}
use Rattle.s3_cards.specs.Codes.{ebcdic, ebcdic_of}
use Rattle.s3_cards.specs.declared.ebcdic.TheConstants.{BLANK}
use Rattle.s3_cells.specs.Inner.Texts.{has_code, text_bytes}
use Rattle.s3_unload.specs.declared.fixed.FixedForm.{FixedForm}
use Rattle.s3_load.specs.Inner.Filling.{records_of}
use Rattle.s3_load.specs.Inner.FixedTexts.{ReadsAs, cut, cut_by, is_piece, pieces, record_of}
use Rattle.s3_load.specs.declared.rows.Row.{Row}

-- ---- parts of so many bytes
cut_nothing : (unit : ℕ) → cut unit [] ≡ []
unfolding cut cut_by
cut_nothing unit = refl

-- more parts than bytes are none
enough : (most other unit : ℕ) (text : List ℕ) → 1 ≤ unit → length text ≤ most → length text ≤ other → cut_by most unit text ≡ cut_by other unit text
unfolding cut_by
enough zero zero unit text u m o = refl
enough zero (suc other) unit [] u m o = refl
enough (suc most) zero unit [] u m o = refl
enough (suc most) (suc other) unit [] u m o = refl
enough zero (suc other) unit (byte ∷ text) u m o = absurd (omega (arith, m))
enough (suc most) zero unit (byte ∷ text) u m o = absurd (omega (arith, o))
enough (suc most) (suc other) unit (byte ∷ text) u m o =
    let long = length-drop unit (byte ∷ text) in
    ap (λ more. take unit (byte ∷ text) ∷ more) (enough most other unit (drop unit (byte ∷ text)) u (omega (arith, u, m, long)) (omega (arith, u, o, long)))

one_cut : (unit byte : ℕ) (text : List ℕ) → 1 ≤ unit → cut unit (byte ∷ text) ≡ take unit (byte ∷ text) ∷ cut unit (drop unit (byte ∷ text))
unfolding cut cut_by
one_cut unit byte text u =
    let long = length-drop unit (byte ∷ text) in
    ap (λ more. take unit (byte ∷ text) ∷ more) (enough (length text) (length (drop unit (byte ∷ text))) unit (drop unit (byte ∷ text)) u (omega (arith, u, long)) (omega arith))

pub nothing_to_cut : (unit : ℕ) (text : List ℕ) → length text ≡ 0 → cut unit text ≡ []
nothing_to_cut unit [] none = cut_nothing unit
nothing_to_cut unit (byte ∷ text) none = absurd (omega (arith, none))

pub whole_cut : (unit : ℕ) (text : List ℕ) → 1 ≤ unit → 0 < length text → cut unit text ≡ take unit text ∷ cut unit (drop unit text)
whole_cut unit [] u some = absurd (omega (arith, some))
whole_cut unit (byte ∷ text) u some = one_cut unit byte text u

-- the same statement in the form of the code
pub first_cut : (unit : ℕ) (text : List ℕ) → 1 ≤ unit → unit < length text → cut unit text ≡ take unit text ∷ cut unit (take (length text - unit) (drop unit text))
first_cut unit text u more = whole_cut unit text u (omega (arith, more)) ∙ ap (λ rest. take unit text ∷ cut unit rest) (sym (take_rest text unit))

pub last_cut : (unit : ℕ) (text : List ℕ) → 1 ≤ unit → 0 < length text → length text ≤ unit → cut unit text ≡ text ∷ cut unit []
last_cut unit [] u some few = absurd (omega (arith, some))
last_cut unit (byte ∷ text) u some few =
    one_cut unit byte text u ∙ ap (λ front. front ∷ cut unit (drop unit (byte ∷ text))) (take_all unit (byte ∷ text) few) ∙ ap (λ rest. (byte ∷ text) ∷ cut unit rest) (drop_all unit (byte ∷ text) few)

-- ---- the records so far
-- these are the records of the pieces before the rest of a text, each of which is a record
pub record HasRead (form : FixedForm) (record_length : ℕ) (text : List ℕ) (rows : List Row) (rest : List ℕ) : Type 0 where
  pub records : records_of rows ++ map (record_of form record_length) (pieces form record_length rest) ≡ map (record_of form record_length) (pieces form record_length text)
  pub fits : list_all (is_piece form record_length) (pieces form record_length rest) ≡ list_all (is_piece form record_length) (pieces form record_length text)

pub none_read : (form : FixedForm) (n : ℕ) (text : List ℕ) → HasRead form n text [] text
none_read form n text = record { records = refl; fits = refl }

pub one_more_read : (form : FixedForm) (n : ℕ) (text : List ℕ) (old new : List Row) (rest piece after : List ℕ) → HasRead form n text old rest → pieces form n rest ≡ piece ∷ pieces form n after
    → records_of new ≡ records_of old ++ record_of form n piece ∷ [] → is_piece form n piece ≡ true → HasRead form n text new after
one_more_read form n text old new rest piece after so_far first adds fits = record {
  records =
      ap (λ front. front ++ map (record_of form n) (pieces form n after)) adds
      ∙ append_assoc (records_of old) (record_of form n piece ∷ []) (map (record_of form n) (pieces form n after))
      ∙ ap (λ ps. records_of old ++ map (record_of form n) ps) (sym first)
      ∙ so_far.records;
  fits = sym (ap (λ b. b && list_all (is_piece form n) (pieces form n after)) fits) ∙ ap (list_all (is_piece form n)) (sym first) ∙ so_far.fits;
}

pub all_read : (form : FixedForm) (n : ℕ) (text : List ℕ) (rows : List Row) (rest : List ℕ) → HasRead form n text rows rest → pieces form n rest ≡ [] → ReadsAs form n text (records_of rows)
all_read form n text rows rest so_far none = record {
  fits = sym so_far.fits ∙ ap (list_all (is_piece form n)) none;
  read = sym (append-nil (records_of rows)) ∙ ap (λ ps. records_of rows ++ map (record_of form n) ps) (sym none) ∙ so_far.records;
}

-- ---- characters and their codes
pub all_coded : (text : List ℕ) (i : ℕ) → i < length text → list_all has_code (take i text) ≡ true → is_some (ebcdic_of (get_or text i 0)) ≡ true → list_all has_code (take (i + 1) text) ≡ true
all_coded text i h all one = list_all_more has_code text i 0 h ∙ rw (all, one) refl

pub one_uncoded : (text : List ℕ) (i : ℕ) → i < length text → is_some (ebcdic_of (get_or text i 0)) ≡ false → list_all has_code text ≡ false
one_uncoded text i h one = list_all_at has_code text i 0 h one

pub no_code_yet : (codes : List ℕ) → codes ≡ codes ++ ebcdic []
unfolding ebcdic
no_code_yet codes = sym (append-nil codes)

pub one_more_code : (text before old new : List ℕ) (i : ℕ) → i < length text → old ≡ before ++ ebcdic (take i text) → new ≡ old ++ unwrap_or (ebcdic_of (get_or text i 0)) 0 ∷ [] → new ≡ before ++ ebcdic (take (i + 1) text)
unfolding ebcdic
one_more_code text before old new i h so_far one =
    one ∙ ap (λ front. front ++ unwrap_or (ebcdic_of (get_or text i 0)) 0 ∷ []) so_far
    ∙ append_assoc before (map (λ character. unwrap_or (ebcdic_of character) 0) (take i text)) (unwrap_or (ebcdic_of (get_or text i 0)) 0 ∷ [])
    ∙ ap (λ more. before ++ more)
    (sym (ap (map (λ character. unwrap_or (ebcdic_of character) 0)) (take_more text i 0 h) ∙ map-append (λ character. unwrap_or (ebcdic_of character) 0) (take i text) (get_or text i 0 ∷ [])))

pub all_codes : (text before codes : List ℕ) (i : ℕ) → codes ≡ before ++ ebcdic (take i text) → i ≡ length text → codes ≡ before ++ ebcdic text
all_codes text before codes i so_far whole = so_far ∙ ap (λ front. before ++ ebcdic front) (ap (λ k. take k text) whole ∙ take_all (length text) text (omega arith))

-- ---- blanks up to a width
pub wider : (codes : List ℕ) (n x : ℕ) → length codes < n → take n codes ++ replicate (n - length codes) x ≡ codes ++ replicate (n - length codes) x
wider codes n x narrow = ap (λ front. front ++ replicate (n - length codes) x) (take_all n codes (omega arith))

pub as_wide : (codes : List ℕ) (n x : ℕ) → n ≤ length codes → codes ≡ codes ++ replicate (n - length codes) x
as_wide codes n x wide = let e : n - length codes ≡ 0 = omega arith in rw e (sym (append-nil codes))

length_ebcdic : (text : List ℕ) → length (ebcdic text) ≡ length text
unfolding ebcdic
length_ebcdic text = length-map text (λ character. unwrap_or (ebcdic_of character) 0)

pub text_made : (n : ℕ) (text start pushed filled : List ℕ) → start ≡ [] → pushed ≡ start ++ ebcdic text → filled ≡ pushed ++ replicate (n - length pushed) BLANK → filled ≡ text_bytes n text
text_made n text start pushed filled none one two =
    let is : pushed ≡ ebcdic text = one ∙ ap (λ s. s ++ ebcdic text) none in
    two ∙ ap (λ p. p ++ replicate (n - length p) BLANK) is ∙ ap (λ k. ebcdic text ++ replicate (n - k) BLANK) (length_ebcdic text)
