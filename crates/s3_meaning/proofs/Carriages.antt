-- Moves of the carriage.
use Rattle.std.proofs.Common.{◌≡◌, ℕ, ◌+◌, ◌-◌, ◌*◌, ◌<◌, ◌≤◌, nat_lt, Bool, true, false, ◌||◌, if◌then◌else◌, Some, refl, ap, ◌∙◌, arith}
use Rattle.std.proofs.lemmas.Bool.{ltb-true, ltb-false, lt-ltb}
use Rattle.s3_meaning.specs.Carriage.{Carriage, next_page, passes, spaced, skipped}

-- advances by n lines, by whether this passes line 66
abbrev on_by : Bool → ℕ → Carriage → Carriage
on_by past n c =
    if past then record { page = next_page c.page; line = c.line + n - 66; overflow = c.overflow || passes c.line (c.line + n) }
    else record { page = c.page; line = c.line + n; overflow = c.overflow || passes c.line (c.line + n) }

turned : (page : ℕ) → page < 9999 → next_page page ≡ page + 1
turned page few = ap (λ b. if b then page + 1 else 0) (lt-ltb page 9999 few)

pub spaced-place : (n : ℕ) (c : Carriage) → n ≤ 66 → c.line ≤ 66 → c.page < 9999 → 66 * (spaced n c).page + (spaced n c).line ≡ 66 * c.page + c.line + n
spaced-place n c few low page = by_past (nat_lt 66 (c.line + n)) refl
  where
    by_past : (past : Bool) → nat_lt 66 (c.line + n) ≡ past → 66 * (on_by past n c).page + (on_by past n c).line ≡ 66 * c.page + c.line + n
    by_past true e = ap (λ p. 66 * p + (c.line + n - 66)) (turned c.page page) ∙ past (ltb-true 66 (c.line + n) e)
      where
        past : 66 < c.line + n → 66 * (c.page + 1) + (c.line + n - 66) ≡ 66 * c.page + c.line + n
        past over = omega arith
    by_past false e = omega arith

pub spaced-within : (n : ℕ) (c : Carriage) → n ≤ 66 → 1 ≤ c.line → c.line ≤ 66 → (1 ≤ (spaced n c).line) × ((spaced n c).line ≤ 66)
spaced-within n c few first low = by_past (nat_lt 66 (c.line + n)) refl
  where
    by_past : (past : Bool) → nat_lt 66 (c.line + n) ≡ past → (1 ≤ (on_by past n c).line) × ((on_by past n c).line ≤ 66)
    by_past true e = let over : 66 < c.line + n = ltb-true 66 (c.line + n) e in (omega arith, omega arith)
    by_past false e = let under : c.line + n ≤ 66 = ltb-false 66 (c.line + n) e in (omega arith, omega arith)

pub skipped-line : (n : ℕ) (c : Carriage) → (skipped (Some n) c).line ≡ n
skipped-line n c = by_turn (nat_lt n c.line)
  where
    there : Bool → Carriage
    there before = if before then record { page = next_page c.page; line = n; overflow = c.overflow } else record { page = c.page; line = n; overflow = c.overflow || passes c.line n }

    by_turn : (before : Bool) → (there before).line ≡ n
    by_turn true = refl
    by_turn false = refl
