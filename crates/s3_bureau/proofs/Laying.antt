-- Bytes that are written one after another.
use Rattle.std.proofs.Common.{◌≡◌, ◌<◌, ◌≤◌, ◌+◌, ◌-◌, ℕ, List, [], ◌∷◌, ◌++◌, ap, ◌∙◌, arith, length, length-append, take, get_or, append_assoc, replicate}
use Rattle.std.specs.Prelude.{map, slice_index}
use Rattle.std.specs.Fmt.{decimal}
use Rattle.std.specs.Int.{from_le_bytes, to_le_bytes, w16}
use Rattle.std.proofs.lemmas.List.{take-replicate}
use Rattle.s3_cards.specs.Codes.{shown_byte}
use Rattle.s3_cards.specs.Numbers.{in_digits}
use Rattle.s3_bureau.specs.Inner.Underway.{IsLaid, ShowsPairs}

-- two codes by one look-up
pub pair_shown : (table codes : List ℕ) (n : ℕ) → ShowsPairs table → length codes ≡ 2 → ((i : ℕ) → get_or codes i 0 < 256)
    → n ≡ slice_index table (from_le_bytes w16 codes) → to_le_bytes w16 n ≡ map shown_byte codes
pair_shown table [] n shows two small is_entry = absurd (omega (arith, two))
pair_shown table (first ∷ []) n shows two small is_entry = absurd (omega (arith, two))
pair_shown table (first ∷ second ∷ third ∷ codes) n shows two small is_entry = absurd (omega (arith, two))
pair_shown table (first ∷ second ∷ []) n shows two small is_entry = ap (to_le_bytes w16) is_entry ∙ shows first second (small 0) (small 1)

-- the digits of a number behind zeros
pub number_laid : (at first end : ℕ) (old between new zeros digits : List ℕ) (width number : ℕ) → width ≤ 5
    → zeros ≡ take (width - length digits) (replicate 5 48) → digits ≡ decimal number → IsLaid at first old between zeros → IsLaid first end between new digits
    → IsLaid at end old new (in_digits width number)
number_laid at first end old between new zeros digits width number few are is_number laid behind =
    let filled : zeros ≡ replicate (width - length digits) 48 = are ∙ take-replicate (width - length digits) 5 48 (omega arith) in
    let whole : zeros ++ digits ≡ in_digits width number =
    ap (λ front. front ++ digits) filled ∙ ap (λ d. replicate (width - length d) 48 ++ d) is_number in
    record {
      laid =
          behind.laid
          ∙ ap (λ front. front ++ digits) laid.laid
          ∙ append_assoc (take at old) zeros digits
          ∙ ap (λ bytes. take at old ++ bytes) whole;
      ends = omega (arith, laid.ends, behind.ends, length-append zeros digits, ap length whole);
    }

-- a line after others, its page and line number first
pub line_whole : (front page line shown : List ℕ)
    → ((front ++ (page ++ 32 ∷ [] ++ line ++ 32 ∷ [])) ++ shown) ++ 10 ∷ [] ≡ front ++ (page ++ 32 ∷ [] ++ line ++ 32 ∷ [] ++ shown ++ 10 ∷ [])
line_whole front page line shown = simp append_assoc
