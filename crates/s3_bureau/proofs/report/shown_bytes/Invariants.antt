-- The bytes of the codes so far.
use Rattle.std.proofs.Common.{◌≡◌, ◌<◌, ℕ, length}
use Rattle.std.specs.Prelude.{slice_index}
use Rattle.s3_cards.specs.Codes.{shown_byte}
use Rattle.s3_bureau.proofs.report.shown_bytes.Given as goal

abbrev pub invariant-loop-code : goal.invariant-loop-code
invariant-loop-code l = ((code : ℕ) → code < l.code → slice_index l.bytes code ≡ shown_byte code) × (length l.bytes ≡ 256)
