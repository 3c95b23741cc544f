use Rattle.std.proofs.Common.{◌≡◌, ℕ, ◌<◌, List, length, get_or, Bool, true, false, nat_eq, refl, sym, ap, ◌∙◌}
use Rattle.std.proofs.lemmas.Bool.{eq-eqb, eqb-true}
use Rattle.std.proofs.lemmas.Nat.{be_bytes_8}
use Rattle.std.specs.Int.{w64, from_be_bytes, to_be_bytes}
use Rattle.std.specs.Cmp.Lexicographic.{pointwise}
use Rattle.s3_cards.proofs.NameLemmas.{equal_codes, same_codes}
use Rattle.s3_cards.proofs.texts.are_same_eight.Goals as goal

agree : (p q : Bool) → (p ≡ true → q ≡ true) → (q ≡ true → p ≡ true) → p ≡ q
agree true q f g = sym (f refl)
agree false true f g = g refl
agree false false f g = refl

-- eight codes are the same where the numbers that they make are
as_numbers : (a b : List ℕ) (m n : ℕ) → length a ≡ 8 → length b ≡ 8 → ((i : ℕ) → get_or a i 0 < 256) → ((i : ℕ) → get_or b i 0 < 256) → m ≡ from_be_bytes w64 a → n ≡ from_be_bytes w64 b → nat_eq m n ≡ pointwise nat_eq a b
as_numbers a b m n long_a long_b fits_a fits_b m_is n_is =
    agree (nat_eq m n) (pointwise nat_eq a b)
    (λ same. by (sym (be_bytes_8 a m long_a fits_a m_is) ∙ ap (to_be_bytes w64) (eqb-true m n same) ∙ be_bytes_8 b n long_b fits_b n_is))
    (λ same. eq-eqb m n (m_is ∙ ap (from_be_bytes w64) (equal_codes a b same) ∙ sym n_is))
  where
    by : a ≡ b → pointwise nat_eq a b ≡ true
    by e = ap (λ l. pointwise nat_eq a l) (sym e) ∙ same_codes a

pub returns : goal.returns
returns c = as_numbers c.args.codes.now c.args.others.now _ _ c.told-codes c.told-others c.fits-codes c.fits-others c.from_be_bytes.ensures c.from_be_bytes-2.ensures
