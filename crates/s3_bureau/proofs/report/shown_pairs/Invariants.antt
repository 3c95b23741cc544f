-- The rows so far.
use Rattle.std.proofs.Common.{◌≡◌, ◌<◌, ◌*◌, ◌∷◌, [], ℕ, length, vec_items}
use Rattle.std.specs.Prelude.{slice_index}
use Rattle.std.specs.Int.{from_le_bytes, to_le_bytes, w16}
use Rattle.s3_cards.specs.Codes.{shown_byte}
use Rattle.s3_bureau.proofs.report.shown_pairs.Given as goal

abbrev pub invariant-loop-second : goal.invariant-loop-second
invariant-loop-second l =
    ((first second : ℕ) → first < 256 → second < l.second → to_le_bytes w16 (slice_index (vec_items l.pairs) (from_le_bytes w16 (first ∷ second ∷ []))) ≡ shown_byte first ∷ shown_byte second ∷ [])
    × (length (vec_items l.pairs) ≡ 256 * l.second)
