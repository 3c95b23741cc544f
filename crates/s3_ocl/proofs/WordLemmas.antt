-- Words of a card, and the blanks in front of them.
use Rattle.std.proofs.Common.{◌≡◌, ℕ, zero, suc, ◌+◌, List, [], ◌∷◌, ◌++◌, refl, sym, ap, ◌∙◌, arith, length, take, drop, replicate, take-append-drop}
use Rattle.std.specs.Prelude.{◌&&◌, ◌||◌, false, nat_eq, slice_index}
use Rattle.std.specs.Cmp.Lexicographic.{pointwise, unequal}
use Rattle.std.specs.List.{prefix_len, starts_with}
use Rattle.std.proofs.lemmas.List.{take_all}
use Rattle.std.proofs.lemmas.Bool.Decides.{nat_tests}
use Rattle.s3_cards.specs.Names.{is_blank}
use Rattle.s3_cards.specs.declared.ebcdic.TheConstants.{AMPERSAND, ASTERISK, SLASH}
use Rattle.s3_ocl.specs.Cards.{from_word, is_separator}
use Rattle.s3_ocl.specs.Words.{reads}

passed_blank : (text : List ℕ) → from_word (0x40 ∷ text) ≡ from_word text
passed_blank text = let e : 1 + prefix_len is_blank text ≡ suc (prefix_len is_blank text) = omega arith in rw e refl

passed_blanks : (n : ℕ) (text : List ℕ) → from_word (replicate n 0x40 ++ text) ≡ from_word text
passed_blanks zero text = refl
passed_blanks (suc n) text = passed_blank (replicate n 0x40 ++ text) ∙ passed_blanks n text

-- a word begins at the same code after so many blanks in front
pub blanks_passed : (text front after : List ℕ) (n blanks : ℕ) → front ≡ take n text → after ≡ drop n text → front ≡ replicate blanks 0x40
    → from_word after ≡ from_word text
blanks_passed text front after n blanks is_front is_after blank =
    let whole : front ++ after ≡ text = rw (is_front, is_after) (take-append-drop n text) in
    sym (passed_blanks blanks after) ∙ (ap (λ l. from_word (l ++ after)) (sym blank) ∙ ap from_word whole)

same_either_way : (text word : List ℕ) → pointwise nat_eq word text ≡ pointwise nat_eq text word
same_either_way [] [] = refl
same_either_way [] (code ∷ word) = refl
same_either_way (code ∷ text) [] = refl
same_either_way (code ∷ text) (other ∷ word) = grind (arith, nat_tests, same_either_way text word)

-- a text as long as a word is this word if it begins with it
pub reads_as_long : (text word : List ℕ) → length text ≡ length word → starts_with nat_eq text word ≡ reads text word
reads_as_long text word long =
    ap (pointwise nat_eq word) (take_all (length word) text (omega (arith, long))) ∙ same_either_way text word

-- a text of another length isn't this word
pub reads_no_other_length : (text word : List ℕ) → nat_eq (length text) (length word) ≡ false → false ≡ reads text word
reads_no_other_length text word other = sym (unequal nat_eq text word (λ same. grind (arith, nat_tests, other, same)))

-- a separator by its first two columns
pub separator_by_columns : (card : List ℕ) → length card ≡ 96
    → (nat_eq (slice_index card 0) SLASH && (nat_eq (slice_index card 1) ASTERISK || nat_eq (slice_index card 1) AMPERSAND)) ≡ is_separator card
separator_by_columns [] long = absurd (omega (arith, long))
separator_by_columns (first ∷ []) long = absurd (omega (arith, long))
separator_by_columns (first ∷ second ∷ columns) long = grind (arith, nat_tests)
