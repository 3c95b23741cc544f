-- The words of a line, one after the other.
use Rattle.std.proofs.Common.{◌≡◌, ℕ, ◌+◌, ◌<◌, ◌↔◌, ◌≢◌, List, [], ◌∷◌, Bool, true, false, not, cond, refl, sym, ap, ◌∙◌, subst, length, take, drop, get_or, arith, inl, inr, eqb, suc}
use Rattle.std.specs.Prelude.{IsTrue, map, filter}
use Rattle.std.specs.List.{slice_split, take_while, prefix_len, position_or_len, after_first}
use Rattle.std.specs.Char.{to_ascii_lowercase}
use Rattle.std.specs.Str.{str_eq_ignore_ascii_case}
use Rattle.std.proofs.lemmas.Slice.Eq.{bytes_eq-Decides}
use Rattle.std.proofs.lemmas.Bool.{cases_lt}
use Rattle.std.proofs.lemmas.Bool.Decides.{nat_tests, same_from_decides}
use Rattle.std.proofs.lemmas.List.{drop_more, take_all, drop_all}
use Rattle.std.proofs.lemmas.List.Splits.{slice_split-cons_yes, slice_split_none, slice_split_first}
use Rattle.std.proofs.lemmas.List.Sums.{take_while-cons, fails_before_first, passes_at_first}
use Rattle.s3_replies.specs.Inner.Words.{BeginsWord, is_blank, is_some_word, is_no_comment, words}

blank_first : (byte : ℕ) (bytes : List ℕ) → is_blank byte ≡ true → words (byte ∷ bytes) ≡ words bytes
unfolding words
blank_first byte bytes e = ap (λ pieces. take_while is_no_comment (filter is_some_word pieces)) (slice_split-cons_yes is_blank byte bytes e)

pub after_blanks : (line : List ℕ) → words (drop (prefix_len is_blank line) line) ≡ words line
after_blanks [] = refl
after_blanks (byte ∷ bytes) = by_test (is_blank byte) refl (after_blanks bytes)
  where
    by_test : (b : Bool) → is_blank byte ≡ b → words (drop (prefix_len is_blank bytes) bytes) ≡ words bytes → words (drop (cond b (1 + prefix_len is_blank bytes) 0) (byte ∷ bytes)) ≡ words (byte ∷ bytes)
    by_test true e so_far =
        let n : 1 + prefix_len is_blank bytes ≡ suc (prefix_len is_blank bytes) = omega arith in
        ap (λ k. words (drop k (byte ∷ bytes))) n ∙ so_far ∙ sym (blank_first byte bytes e)
    by_test false e so_far = refl

pub begins_after_blanks : (line : List ℕ) → BeginsWord (drop (prefix_len is_blank line) line)
begins_after_blanks [] = tt
begins_after_blanks (byte ∷ bytes) = by_test (is_blank byte) refl (begins_after_blanks bytes)
  where
    by_test : (b : Bool) → is_blank byte ≡ b → BeginsWord (drop (prefix_len is_blank bytes) bytes) → BeginsWord (drop (cond b (1 + prefix_len is_blank bytes) 0) (byte ∷ bytes))
    by_test true e so_far =
        let n : suc (prefix_len is_blank bytes) ≡ 1 + prefix_len is_blank bytes = omega arith in
        let P : ℕ → Type 0 = λ k. BeginsWord (drop k (byte ∷ bytes)) in
        subst P n so_far
    by_test false e so_far = e

-- an empty text has no words
no_words_in : words [] ≡ []
unfolding words
no_words_in = refl

pub no_words : (line text : List ℕ) → words text ≡ words line → length text ≡ 0 → words line ≡ []
no_words line [] same e = sym same ∙ no_words_in
no_words line (byte ∷ bytes) same e = absurd (omega arith)

-- the first word of a text that begins with no blank, and the text after it
abbrev end_of : List ℕ → ℕ
end_of text = position_or_len is_blank text

-- the pieces of a text are its first one and those of the text after it, except for empty ones
pieces_after : (text : List ℕ) → filter is_some_word (slice_split is_blank text) ≡ filter is_some_word (take (end_of text) text ∷ slice_split is_blank (drop (end_of text) text))
pieces_after text =
    let F : List (List ℕ) → List (List ℕ) = λ pieces. filter is_some_word (take (end_of text) text ∷ pieces) in
    elim (cases_lt (end_of text) (length text)) [
      | inl lt ↦
          let blank : slice_split is_blank (get_or text (end_of text) 0 ∷ after_first is_blank text) ≡ [] ∷ slice_split is_blank (after_first is_blank text) =
          slice_split-cons_yes is_blank (get_or text (end_of text) 0) (after_first is_blank text) (passes_at_first is_blank text 0 lt) in
          ap (filter is_some_word) (slice_split_first is_blank text 0 lt)
          ∙ ap F (sym blank) ∙ ap (λ rest. F (slice_split is_blank rest)) (sym (drop_more text (end_of text) 0 lt))
      | inr ge ↦
          let none : slice_split is_blank text ≡ text ∷ [] = slice_split_none is_blank text (λ k d below. fails_before_first is_blank text k d (omega arith)) in
          let all : take (end_of text) text ≡ text = take_all (end_of text) text ge in
          let rest : drop (end_of text) text ≡ [] = drop_all (end_of text) text ge in
          ap (filter is_some_word) none ∙ ap (λ piece. filter is_some_word (piece ∷ [])) (sym all) ∙ ap (λ after. F (slice_split is_blank after)) (sym rest)
    ]

-- a text that begins with no blank has a first piece
first_piece : (byte : ℕ) (bytes : List ℕ) → is_blank byte ≡ false → take (end_of (byte ∷ bytes)) (byte ∷ bytes) ≡ byte ∷ take (end_of bytes) bytes
first_piece byte bytes e =
    let n : 1 + end_of bytes ≡ suc (end_of bytes) = omega arith in
    ap (λ b. take (cond (not b) (1 + end_of bytes) 0) (byte ∷ bytes)) e ∙ ap (λ k. take k (byte ∷ bytes)) n

words_at : (byte : ℕ) (bytes : List ℕ) → is_blank byte ≡ false → words (byte ∷ bytes) ≡ cond (not (eqb byte 35)) (take (end_of (byte ∷ bytes)) (byte ∷ bytes) ∷ words (drop (end_of (byte ∷ bytes)) (byte ∷ bytes))) []
unfolding words
words_at byte bytes e =
    let text : List ℕ = byte ∷ bytes in
    let rest : List (List ℕ) = slice_split is_blank (drop (end_of text) text) in
    ap (take_while is_no_comment) (pieces_after text ∙ ap (λ piece. filter is_some_word (piece ∷ rest)) (first_piece byte bytes e))
    ∙ take_while-cons is_no_comment (byte ∷ take (end_of bytes) bytes) (filter is_some_word rest)
    ∙ ap (λ piece. cond (not (eqb byte 35)) (piece ∷ take_while is_no_comment (filter is_some_word rest)) []) (sym (first_piece byte bytes e))

pub comment_first : (line text : List ℕ) → words text ≡ words line → BeginsWord text → get_or text 0 0 ≡ 35 → words line ≡ []
comment_first line [] same begins e = sym same ∙ no_words_in
comment_first line (byte ∷ bytes) same begins e =
    sym same ∙ words_at byte bytes begins ∙ ap (λ b. cond (not (eqb b 35)) (take (end_of (byte ∷ bytes)) (byte ∷ bytes) ∷ words (drop (end_of (byte ∷ bytes)) (byte ∷ bytes))) []) e

pub one_word : (line text : List ℕ) → words text ≡ words line → BeginsWord text → 0 < length text → get_or text 0 0 ≢ 35 → words line ≡ take (end_of text) text ∷ words (drop (end_of text) text)
one_word line [] same begins some other = absurd (omega arith)
one_word line (byte ∷ bytes) same begins some other =
    let no_comment : eqb byte 35 ≡ false = grind (arith, nat_tests) in
    sym same ∙ words_at byte bytes begins ∙ ap (λ b. cond (not b) (take (end_of (byte ∷ bytes)) (byte ∷ bytes) ∷ words (drop (end_of (byte ∷ bytes)) (byte ∷ bytes))) []) no_comment

-- a test of equal texts is the comparison that it says
pub same_letters : (result : Bool) (word said : List ℕ) → IsTrue result ↔ (map to_ascii_lowercase word ≡ map to_ascii_lowercase said) → result ≡ str_eq_ignore_ascii_case word said
same_letters result word said test =
    same_from_decides result (str_eq_ignore_ascii_case word said) test (bytes_eq-Decides (map to_ascii_lowercase word) (map to_ascii_lowercase said))
