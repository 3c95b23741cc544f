-- What a session writes, which pack it hands out, and when it refuses.
use Rattle.std.specs.Prelude.{◌≡◌, ◌⊎◌, ℕ, ◌<◌, ◌≤◌, List, length, Option, Some, None, Result, Ok, Err}
use Rattle.std.specs.Io.KnownBytes.{Appends}
use Rattle.s3_bureau.specs.declared.run_fault.RunFault.{RunFault}
use Rattle.s3_bureau.specs.declared.run_fault.RunFault.TheVariants.{Script, Mount, Device, NoMemory}
use Rattle.s3_bureau.specs.Runs.{LeavesPack, RunTexts, output_of, run_texts}
use Rattle.s3_cli.specs.Parts.{Parts, parts_of}
use Rattle.s3_cli.specs.declared.fault.SessionFault.{SessionFault}
use Rattle.s3_cli.specs.declared.fault.SessionFault.TheVariants.{Run, Input, File}

-- the texts of a run over a pack and the parts of an input
abbrev pub texts_of : (pack : List ℕ) → Parts → Result RunTexts RunFault
texts_of pack parts = run_texts pack parts.deck1 parts.deck2 parts.script

-- what was written behind what the writer had is the output of the run
abbrev pub WritesRun : Result RunTexts RunFault → Option (List ℕ) → Option (List ℕ) → Type 0
WritesRun (Ok texts) old new = Appends old new (output_of texts)
WritesRun (Err fault) old new = ⊥

abbrev pub WritesParts : (pack : List ℕ) → Option Parts → Option (List ℕ) → Option (List ℕ) → Type 0
WritesParts pack (Some parts) old new = WritesRun (texts_of pack parts) old new
WritesParts pack None old new = ⊥

-- the pack that is handed out is one that the run may leave
abbrev pub LeavesParts : (pack : List ℕ) → Option Parts → (saved : List ℕ) → Type 0
LeavesParts pack (Some parts) saved = LeavesPack pack parts.deck1 parts.deck2 parts.script saved
LeavesParts pack None saved = ⊥

-- an input has at most 4,194,304 bytes
abbrev pub IsShort : List ℕ → Type 0
IsShort input = length input ≤ 4194304

-- the input isn't too long and has its parts, and what is written is the output of the run over them, which leaves the pack so
pub record Answers (pack input saved : List ℕ) (old new : Option (List ℕ)) : Type 0 where
  pub short : IsShort input
  pub wrote : WritesParts pack (parts_of input) old new
  pub leaves : LeavesParts pack (parts_of input) saved

-- the run over the parts of the input is refused with this fault
abbrev pub HasFault : (pack : List ℕ) → RunFault → Option Parts → Type 0
HasFault pack fault (Some parts) = texts_of pack parts ≡ Err fault
HasFault pack fault None = ⊥

-- when each refusal comes: nothing is said of memory and of files
abbrev pub Refuses : (pack : List ℕ) → SessionFault → List ℕ → Type 0
Refuses pack (Run (Script number)) input = IsShort input × HasFault pack (Script number) (parts_of input)
Refuses pack (Run (Mount fault)) input = IsShort input × HasFault pack (Mount fault) (parts_of input)
Refuses pack (Run Device) input = ⊥
Refuses pack (Run NoMemory) input = Unit {0}
Refuses pack Input input = (4194304 < length input) ⊎ (parts_of input ≡ None)
Refuses pack File input = Unit {0}
