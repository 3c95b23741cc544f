-- Blanks at the end of a text.
use Rattle.std.proofs.Common.{◌≡◌, ℕ, zero, suc, false, List, [], ◌∷◌, ◌++◌, refl, sym, ap, ◌∙◌, eqb, take, drop, replicate, take-append-drop}
use Rattle.s3_cards.specs.Printed.{trimmed, before_trimmed}

-- a blank at the end goes
pub trimmed_blank : (text : List ℕ) → trimmed (text ++ 0x40 ∷ []) ≡ trimmed text
trimmed_blank [] = refl
trimmed_blank (code ∷ codes) = ap (before_trimmed code) (trimmed_blank codes)

-- a text that ends in no blank stays
pub trimmed_whole : (text : List ℕ) (code : ℕ) → eqb code 0x40 ≡ false → trimmed (text ++ code ∷ []) ≡ text ++ code ∷ []
trimmed_whole [] code other = rw other refl
trimmed_whole (first ∷ []) code other = ap (before_trimmed first) (trimmed_whole [] code other)
trimmed_whole (first ∷ second ∷ codes) code other = ap (before_trimmed first) (trimmed_whole (second ∷ codes) code other)

trimmed_same_front : (text more : List ℕ) → trimmed more ≡ [] → trimmed (text ++ more) ≡ trimmed text
trimmed_same_front [] more blank = blank
trimmed_same_front (code ∷ codes) more blank = ap (before_trimmed code) (trimmed_same_front codes more blank)

trimmed_blanks : (n : ℕ) → trimmed (replicate n 0x40) ≡ []
trimmed_blanks zero = refl
trimmed_blanks (suc n) = ap (before_trimmed 0x40) (trimmed_blanks n)

-- so many blanks at the end go
pub blanks_trimmed : (text front last : List ℕ) (n blanks : ℕ) → front ≡ take n text → last ≡ drop n text → last ≡ replicate blanks 0x40
    → trimmed front ≡ trimmed text
blanks_trimmed text front last n blanks is_front is_last blank =
    let whole : front ++ last ≡ text = rw (is_front, is_last) (take-append-drop n text) in
    sym (trimmed_same_front front last (ap trimmed blank ∙ trimmed_blanks blanks)) ∙ ap trimmed whole
