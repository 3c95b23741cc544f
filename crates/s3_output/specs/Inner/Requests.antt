-- The requests of lines of disk files.
use Rattle.std.specs.Prelude.{ℕ, List, Option}
use Rattle.s3_lines.specs.declared.sheet.FileLine.{FileLine}
use Rattle.s3_meaning.specs.Environment.{Environment}
use Rattle.s3_meaning.specs.Requests as meaning
use Rattle.s3_meaning.specs.Output.{filled}
use Rattle.s3_output.specs.declared.requests.DiskRequest.{DiskRequest}
use Rattle.s3_output.specs.declared.requests.DiskRequest.TheVariants.{Update, Add, Append}

-- the request that writes these positions, to the current record if it is an update
abbrev pub request_of : DiskRequest → FileLine → List (Option ℕ) → Environment → meaning.Request
request_of Update file positions e = meaning.Update file.name (e.current file.name) positions
request_of Add file positions e = meaning.Add file.name (filled positions)
request_of Append file positions e = meaning.Append file.name (filled positions)
