-- What cells with other marks and cells of plain ones make of each other.
use Rattle.std.proofs.Common.{◌≡◌, ℕ, ℤ, ◌+◌, ◌-◌, ◌%◌, ◌<◌, refl, arith, sym, ◌∙◌, ap, ap₂, Bool, true, false, ◌&&◌, not, cond, List, [], ◌∷◌, ◌++◌, map, take, drop, unsigned_abs, inl, inr, subst}
use Rattle.std.specs.Prelude.{filter, find, is_some}
use Rattle.std.specs.Option.{option_map}
use Rattle.std.specs.Bool.{◌==◌}
use Rattle.std.specs.List.{list_all}
use Rattle.std.proofs.lemmas.Bool.{and_parts, cases_Bool, eqb-true, ne_eqb}
use Rattle.std.proofs.lemmas.List.Folds.{list_all-append}
use Rattle.s3_decimal.specs.Exact.{is_negative}
use Rattle.s3_cards.specs.Codes.{code_page}
use Rattle.s3_cells.specs.Inner.Marks.{capital, cased, guarded, is_grouped, is_risky, is_small, mark_in, marked, plain_number, swapped, text_read, ungrouped, ungrouped_by, unguarded}
use Rattle.s3_cells.specs.Inner.Numbers.{decimals_text, digit_character, fifteen, number_text, sign_text, significant}
use Rattle.s3_cells.specs.Inner.Texts.{has_code, trimmed}
use Rattle.s3_cells.specs.declared.marks.DecimalMark.{DecimalMark}
use Rattle.s3_cells.specs.declared.marks.DecimalMark.TheVariants.{Point, Comma}
use Rattle.s3_cells.specs.declared.marks.NumberCells.{NumberCells}
use Rattle.s3_cells.specs.declared.marks.TextCells.{TextCells}
use Rattle.s3_cells.specs.declared.marks.Thousands.{Thousands}
use Rattle.s3_cells.specs.declared.marks.Thousands.TheVariants.{Nothing, OtherMark, Blank, Apostrophe}

-- ---- point and comma
comma_twice : (c : ℕ) → swapped Comma (swapped Comma c) ≡ c
comma_twice c = elim (cases_Bool (c == 46)) [
  | inl point ↦ rw point (sym (eqb-true c 46 point))
  | inr other ↦ elim (cases_Bool (c == 44)) [ inl comma ↦ rw (other, comma) (sym (eqb-true c 44 comma)) | inr none ↦ rw (other, none, other, none) refl ]
]

swapped_back : (mark : DecimalMark) (text : List ℕ) → map (swapped mark) (map (swapped mark) text) ≡ text
swapped_back mark [] = refl
swapped_back Point (c ∷ text) = ap (λ t. c ∷ t) (swapped_back Point text)
swapped_back Comma (c ∷ text) = ap₂ (λ a t. a ∷ t) (comma_twice c) (swapped_back Comma text)

-- ---- between thousands
all_kept : (p : ℕ → Bool) (xs : List ℕ) → list_all p xs ≡ true → filter p xs ≡ xs
all_kept p [] h = refl
all_kept p (x ∷ xs) h = let parts = and_parts (p x) (list_all p xs) h in rw parts.0 (ap (λ t. x ∷ t) (all_kept p xs parts.1))

no_marks : (mark : ℕ) (text : List ℕ) → list_all (λ c. not (c == mark)) text ≡ true → ungrouped mark text ≡ text
no_marks mark text none = elim (is_grouped mark text) as (λ b. cond b (filter (λ c. not (c == mark)) text) text ≡ text) [ true ↦ all_kept (λ c. not (c == mark)) text none | false ↦ refl ]

digits_differ : (mark : ℕ) (zs : List ℕ) → mark < 45 → list_all (λ c. not (c == mark)) (map digit_character zs) ≡ true
digits_differ mark [] h = refl
digits_differ mark (z ∷ zs) h = ap₂ (λ a b. a && b) (ap not (ne_eqb (48 + z % 16) mark (λ e. omega arith))) (digits_differ mark zs h)

decimals_differ : (mark : ℕ) (zs : List ℕ) → mark < 45 → list_all (λ c. not (c == mark)) (decimals_text zs) ≡ true
decimals_differ mark [] h = refl
decimals_differ mark (z ∷ zs) h = ap₂ (λ a b. a && b) (ap not (ne_eqb 46 mark (λ e. omega arith))) (digits_differ mark (z ∷ zs) h)

sign_differs : (mark : ℕ) (negative : Bool) → mark < 45 → list_all (λ c. not (c == mark)) (sign_text negative) ≡ true
sign_differs mark true h = ap₂ (λ a b. a && b) (ap not (ne_eqb 45 mark (λ e. omega arith))) refl
sign_differs mark false h = refl

number_differs : (mark d : ℕ) (z : ℤ) → mark < 45 → list_all (λ c. not (c == mark)) (number_text d z) ≡ true
unfolding number_text
number_differs mark d z h =
    let whole = map digit_character (significant (take (15 - d) (fifteen (unsigned_abs z)))) in
    let decimals = decimals_text (drop (15 - d) (fifteen (unsigned_abs z))) in
    list_all-append (λ c. not (c == mark)) (sign_text (is_negative z)) (whole ++ decimals)
    ∙ ap₂ (λ a b. a && b) (sign_differs mark (is_negative z) h)
    (list_all-append (λ c. not (c == mark)) whole decimals ∙ ap₂ (λ a b. a && b) (digits_differ mark (significant (take (15 - d) (fifteen (unsigned_abs z)))) h) (decimals_differ mark (drop (15 - d) (fifteen (unsigned_abs z))) h))

not_grouped : (thousands : Thousands) (d : ℕ) (z : ℤ) → ungrouped_by (mark_in thousands) (number_text d z) ≡ number_text d z
not_grouped Nothing d z = refl
not_grouped OtherMark d z = no_marks 44 (number_text d z) (number_differs 44 d z (omega arith))
not_grouped Blank d z = no_marks 32 (number_text d z) (number_differs 32 d z (omega arith))
not_grouped Apostrophe d z = no_marks 39 (number_text d z) (number_differs 39 d z (omega arith))

-- the cell of a number is read as that number
pub number_plain : (cells : NumberCells) (d : ℕ) (z : ℤ) → plain_number cells (marked cells (number_text d z)) ≡ number_text d z
number_plain cells d z = ap (ungrouped_by (mark_in cells.thousands)) (swapped_back cells.decimal (number_text d z)) ∙ not_grouped cells.thousands d z

swapped_none : (text : List ℕ) → map (swapped Point) text ≡ text
swapped_none [] = refl
swapped_none (c ∷ text) = ap (λ t. c ∷ t) (swapped_none text)

pub plain_as_it_is : (cells : NumberCells) → cells.decimal ≡ Point → cells.thousands ≡ Nothing → (cell : List ℕ) → plain_number cells cell ≡ cell
plain_as_it_is cells point nothing cell = ap₂ (λ t m. ungrouped_by (mark_in t) (map (swapped m) cell)) nothing point ∙ swapped_none cell

-- ---- apostrophes
guard_off : (cells : TextCells) (text : List ℕ) → (cells.safe && is_risky text) ≡ true → unguarded cells (39 ∷ text) ≡ text
guard_off cells text h = let parts = and_parts cells.safe (is_risky text) h in rw (parts.0, parts.1) refl

not_guarded : (cells : TextCells) (safe : Bool) (text : List ℕ) → cells.safe ≡ safe → (safe && is_risky text) ≡ false → unguarded cells text ≡ text
unfolding is_risky
not_guarded cells safe [] s h = refl
not_guarded cells false (x ∷ xs) s h = rw s refl
not_guarded cells true (x ∷ xs) s h = elim (cases_Bool (x == 39)) [
  | inl is ↦ let rest : is_risky xs ≡ false = rw is at h in rw (s, is, rest) refl
  | inr other ↦ rw (s, other) refl
]

guarded_back : (cells : TextCells) (text : List ℕ) → unguarded cells (guarded cells text) ≡ text
guarded_back cells text = elim (cases_Bool (cells.safe && is_risky text)) [
  | inl risky ↦ ap (λ b. unguarded cells (cond b (39 ∷ text) text)) risky ∙ guard_off cells text risky
  | inr plain ↦ ap (λ b. unguarded cells (cond b (39 ∷ text) text)) plain ∙ not_guarded cells cells.safe text refl plain
]

-- ---- capitals
large : ℕ × ℕ → Bool
large entry = not (is_small entry.1)

all_large : list_all (λ (entry : ℕ × ℕ). not (is_small entry.1)) code_page ≡ true
unfolding code_page
all_large = refl

none_small : (page : List (ℕ × ℕ)) (c : ℕ) → list_all (λ (entry : ℕ × ℕ). not (is_small entry.1)) page ≡ true → is_some (option_map (λ (entry : ℕ × ℕ). entry.0) (find (λ entry. entry.1 == c) page)) ≡ true → is_small c ≡ false
none_small [] c all h = absurd cc
none_small (e ∷ page) c all h =
    let parts = and_parts (not (is_small e.1)) (list_all (λ (entry : ℕ × ℕ). not (is_small entry.1)) page) all in
    elim (cases_Bool (e.1 == c)) [
      | inl is ↦ let here : is_small e.1 ≡ false = not_true (is_small e.1) parts.0 in subst (λ n. is_small n ≡ false) (eqb-true e.1 c is) here
      | inr other ↦ none_small page c parts.1 (rw other at h)
    ]
  where
    not_true : (b : Bool) → not b ≡ true → b ≡ false
    not_true true h = absurd cc
    not_true false h = refl

code_large : (c : ℕ) → has_code c ≡ true → capital c ≡ c
code_large c h = ap (λ b. cond b (c - 32) c) (none_small code_page c all_large h)

capitals_stay : (text : List ℕ) → list_all has_code text ≡ true → map capital text ≡ text
capitals_stay [] h = refl
capitals_stay (c ∷ text) h = let parts = and_parts (has_code c) (list_all has_code text) h in ap₂ (λ a t. a ∷ t) (code_large c parts.0) (capitals_stay text parts.1)

cased_stay : (capitals : Bool) (text : List ℕ) → list_all has_code text ≡ true → cond capitals (map capital text) text ≡ text
cased_stay true text h = capitals_stay text h
cased_stay false text h = refl

-- the cell of a text is read as that text
pub text_read_back : (cells : TextCells) (text : List ℕ) → list_all has_code text ≡ true → text_read cells (guarded cells text) ≡ trimmed text
text_read_back cells text h = ap (λ t. trimmed (cased cells t)) (guarded_back cells text) ∙ ap trimmed (cased_stay cells.capitals text h)
