-- The record that a read by its place gives, or that there is none.
use Rattle.std.specs.Prelude.{ℕ, List, slice_get, Option, Some, None, Result, Ok, Err}
use Rattle.s3_files.specs.declared.fault.FileFault.{FileFault}
use Rattle.s3_files.specs.declared.fault.FileFault.TheVariants.{NoRecord}

-- ---- the calls of a list of records
abbrev pub got : Option (List ℕ) → Result (List ℕ) FileFault
got (Some bytes) = Ok bytes
got None = Err NoRecord

abbrev pub record_at : ℕ → List (List ℕ) → Result (List ℕ) FileFault
record_at i records = got (slice_get records i)
