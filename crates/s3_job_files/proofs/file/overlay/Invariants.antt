use Rattle.std.proofs.Common.{◌≡◌, ℕ, List, length}
use Rattle.std.specs.Prelude.{Option}
use Rattle.s3_job_files.specs.Inner.Records.{changes_of}
use Rattle.s3_job_files.specs.Records.{overlaid}
use Rattle.s3_job_files.proofs.Overlaid.{laid_to}
use Rattle.s3_job_files.proofs.file.overlay.Given as goal

-- the changes of the positions before a place are laid over the bytes that were in the room
pub record AreLaid (changes : List (Option ℕ)) (old bytes : List ℕ) (place : ℕ) : Type 0 where
  pub long : length bytes ≡ length old
  pub laid : laid_to changes bytes place ≡ overlaid changes old

abbrev pub invariant-loop-place : goal.invariant-loop-place
invariant-loop-place l = AreLaid (changes_of l.codes l.marks) l.initial.bytes l.bytes l.place
