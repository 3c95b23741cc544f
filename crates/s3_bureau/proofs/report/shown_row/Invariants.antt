-- The bytes of the codes so far.
use Rattle.std.proofs.Common.{◌≡◌, ◌<◌, ◌∷◌, [], ℕ, length}
use Rattle.std.specs.Prelude.{slice_index}
use Rattle.std.specs.Int.{to_le_bytes, w16}
use Rattle.s3_cards.specs.Codes.{shown_byte}
use Rattle.s3_bureau.proofs.report.shown_row.Given as goal

abbrev pub invariant-loop-first : goal.invariant-loop-first
invariant-loop-first l = ((code : ℕ) → code < l.first → to_le_bytes w16 (slice_index l.row code) ≡ shown_byte code ∷ l.second ∷ []) × (length l.row ≡ 256)
