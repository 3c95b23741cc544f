-- Which exit status stands for a refusal.
use Rattle.std.specs.Prelude.{ℕ}
use Rattle.s3_cli.specs.declared.fault.CliFault.{CliFault}
use Rattle.s3_cli.specs.declared.fault.CliFault.TheVariants.{Session, Image, Migrate}
use Rattle.s3_cli.specs.declared.fault.SessionFault.{SessionFault}
use Rattle.s3_cli.specs.declared.fault.SessionFault.TheVariants.{Run, Input, File}

-- 3 for a file, an input or an output that failed
abbrev pub session_status : SessionFault → ℕ
session_status (Run fault) = 1
session_status Input = 1
session_status File = 3

abbrev pub status_of : CliFault → ℕ
status_of (Session fault) = session_status fault
status_of (Image fault) = 1
status_of (Migrate fault) = 1
