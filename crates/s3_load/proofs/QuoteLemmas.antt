-- A table read byte by byte, up to the quote in which it ends.
use Rattle.std.proofs.Common.{◌≡◌, ℕ, ◌+◌, ◌-◌, ◌<◌, ◌≤◌, refl, true, false, cond, length, take, drop, get_or, suc, List, [], ◌∷◌, ◌∙◌, ap, sym, arith, drop-cons}
use Rattle.std.proofs.Math.ListN.{drop_of_length-le}
use Rattle.std.proofs.Math.Seq.{take-length}
use Rattle.csv.specs.Reading.{is_bom, strip_bom}
use Rattle.s3_load.specs.declared.quotes.Reading.{Reading}
use Rattle.s3_load.specs.Inner.Quotes.{after, reading_from}

-- one byte further
pub one_more_read : (delimiter place : ℕ) (at next : Reading) (text : List ℕ) (whole : Reading) → place < length text
    → next ≡ after delimiter place (get_or text place 0) at → whole ≡ reading_from delimiter place at (drop place text)
    → whole ≡ reading_from delimiter (place + 1) next (drop (place + 1) text)
unfolding reading_from
one_more_read delimiter place at next text whole within is kept =
    let here = get_or text place 0 in
    let further : suc place ≡ place + 1 = omega arith in
    let split : drop place text ≡ here ∷ drop (place + 1) text = drop-cons text place 0 within ∙ ap (λ n. here ∷ drop n text) further in
    kept ∙ (ap (reading_from delimiter place at) split ∙ ap (λ a. reading_from delimiter (place + 1) a (drop (place + 1) text)) (sym is))

-- behind all bytes
pub all_read : (delimiter place : ℕ) (at : Reading) (text : List ℕ) (whole : Reading) → length text ≤ place
    → whole ≡ reading_from delimiter place at (drop place text) → whole ≡ at
unfolding reading_from
all_read delimiter place at text whole past kept = kept ∙ ap (reading_from delimiter place at) (drop_of_length-le text past)

-- ---- a byte order mark at the start
pub short_text : (text : List ℕ) → length text < 3 → strip_bom text ≡ text
unfolding strip_bom
short_text [] h = refl
short_text (a ∷ []) h = refl
short_text (a ∷ b ∷ []) h = refl
short_text (a ∷ b ∷ c ∷ rest) h = absurd (omega arith)

pub mark_dropped : (text : List ℕ) → 3 ≤ length text → is_bom (get_or text 0 0) (get_or text 1 0) (get_or text 2 0) ≡ true → take (length text - 3) (drop 3 text) ≡ strip_bom text
unfolding strip_bom
mark_dropped [] h is = absurd (omega arith)
mark_dropped (a ∷ []) h is = absurd (omega arith)
mark_dropped (a ∷ b ∷ []) h is = absurd (omega arith)
mark_dropped (a ∷ b ∷ c ∷ rest) h is =
    let long : length (a ∷ b ∷ c ∷ rest) - 3 ≡ length rest = omega arith in
    ap (λ n. take n rest) long ∙ take-length rest ∙ sym (ap (λ t. cond t rest (a ∷ b ∷ c ∷ rest)) is)

pub no_mark : (text : List ℕ) → 3 ≤ length text → is_bom (get_or text 0 0) (get_or text 1 0) (get_or text 2 0) ≡ false → strip_bom text ≡ text
unfolding strip_bom
no_mark [] h is = absurd (omega arith)
no_mark (a ∷ []) h is = absurd (omega arith)
no_mark (a ∷ b ∷ []) h is = absurd (omega arith)
no_mark (a ∷ b ∷ c ∷ rest) h is = ap (λ t. cond t rest (a ∷ b ∷ c ∷ rest)) is
