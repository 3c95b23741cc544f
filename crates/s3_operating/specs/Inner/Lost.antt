-- Why the file of an output no longer keeps what is written to it.
use Rattle.std.specs.Prelude.{ℕ, nat_lt, Option, Some, None, if◌then◌else◌}
use Rattle.std.specs.declared.io.ErrorKind.{ErrorKind}
use Rattle.std.specs.declared.io.ErrorKind.TheVariants.{NotFound, AlreadyExists, UnexpectedEof}
use Rattle.s3_operating.specs.declared.lost.Lost.{Lost}
use Rattle.s3_operating.specs.declared.lost.Lost.TheVariants.{Gone, Other, Cut}
use Rattle.s3_operating.specs.declared.lost.AtOutput.{AtOutput}
use Rattle.s3_operating.specs.declared.lost.AtOutput.TheVariants as at

-- what has the name of the file; how many bytes were written
abbrev pub lost_in : AtOutput → (written : ℕ) → Option Lost
lost_in at.Nothing written = Some Gone
lost_in at.Other written = Some Other
lost_in (at.Same bytes) written = if nat_lt bytes written then Some Cut else None

-- the kinds of failure by which a writer reports it
abbrev pub lost_by : ErrorKind → Option Lost
lost_by NotFound = Some Gone
lost_by AlreadyExists = Some Other
lost_by UnexpectedEof = Some Cut
lost_by _ = None
