-- What reading a script gives: commands with its entries, or the number of its first malformed line.
use Rattle.std.specs.Prelude.{◌≡◌, ℕ, List, Result, Ok, Err, Vec}
use Rattle.std.specs.List.{flat_map}
use Rattle.s3_bureau.specs.declared.entry.Entry.{Entry}
use Rattle.s3_bureau.specs.declared.script.Command.{Command}
use Rattle.s3_bureau.specs.declared.script.ScriptFault.{ScriptFault}
use Rattle.s3_bureau.specs.declared.script.ScriptFault.TheVariants.{NoMemory, Line}
use Rattle.s3_bureau.specs.Script.{entries_by}

-- the commands are those of a script with these entries, or the error is the script's; or memory ran out
abbrev pub ReadsScript : {A : Type 0} → Result (List Entry) ℕ → Result (Vec Command A) ScriptFault → Type 0
ReadsScript meant (Ok commands) = meant ≡ Ok (flat_map entries_by commands.items)
ReadsScript meant (Err NoMemory) = Unit {0}
ReadsScript meant (Err (Line n)) = meant ≡ Err n
