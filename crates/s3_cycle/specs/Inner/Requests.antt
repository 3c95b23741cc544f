-- Requests and answers in the terms of the semantics.
use Rattle.std.specs.Prelude.{◌≡◌, ℕ, ◌≤◌, true, false, List, length, slice_get, Option, Some, None, is_some}
use Rattle.s3_cards.specs.declared.name.Name.{Name}
use Rattle.s3_lines.specs.declared.sheet.Device.TheVariants.{Disk}
use Rattle.s3_lines.specs.declared.sheet.FileLine.{FileLine}
use Rattle.s3_lines.specs.declared.sheet.KeyField.{KeyField}
use Rattle.s3_lines.specs.Files.{is_chained, is_only_read}
use Rattle.s3_meaning.specs.Requests as Meant
use Rattle.s3_meaning.specs.Output.{filled}
use Rattle.s3_meaning.specs.Source.{is_input, is_updated}
use Rattle.s3_program.specs.declared.program.Program.{Program}
use Rattle.s3_match.specs.Inner.Types.{name_of_file}
use Rattle.s3_cycle.specs.declared.request.FileCall.{FileCall}
use Rattle.s3_cycle.specs.declared.request.FileCall.TheVariants.{Read, Chain, Append, Add, Update}
use Rattle.s3_cycle.specs.declared.request.Request.{Request}
use Rattle.s3_cycle.specs.declared.request.Request.TheVariants.{Card, File, Print, Jump, Ask, End}
use Rattle.s3_cycle.specs.declared.request.Answer.{Answer}
use Rattle.s3_cycle.specs.declared.request.Answer.TheVariants.{Found, Nothing, Done, Refused, Reply}
use Rattle.s3_cycle.specs.declared.request.Sought.{Sought}
use Rattle.s3_cycle.specs.declared.request.Sought.TheVariants.{Key, RecordNumber}

abbrev pub sought_of : Sought → Meant.Sought
sought_of (Key key) = Meant.Key key.items
sought_of (RecordNumber number) = Meant.RecordNumber number

-- the request to the file of this name; its text or record has these positions
abbrev pub request_to : Name → (positions : List (Option ℕ)) → FileCall → Meant.Request
request_to name positions (Read length) = Meant.Read name length
request_to name positions (Chain length sought) = Meant.Chain name length (sought_of sought)
request_to name positions Append = Meant.Append name (filled positions)
request_to name positions Add = Meant.Add name (filled positions)
request_to name positions (Update current) = Meant.Update name current positions

unfoldable pub request_of : Program → (positions : List (Option ℕ)) → Request → Meant.Request
request_of program positions Card = Meant.Card
request_of program positions (File file call) = request_to (name_of_file program file) positions call
request_of program positions (Print page line) = Meant.Print page line (filled positions)
request_of program positions Jump = Meant.Jump
request_of program positions (Ask code) = Meant.Ask code
request_of program positions (End at_once) = Meant.End at_once

unfoldable pub answer_of : Answer → Meant.Answer
answer_of (Found bytes) = Meant.Found bytes.now
answer_of Nothing = Meant.Nothing
answer_of Done = Meant.Done
answer_of (Refused code) = Meant.Refused code
answer_of (Reply digit) = Meant.Reply digit

-- a printed line has 1 to 132 positions
abbrev pub IsLine : {X : Type 0} → Request → List X → Type 0
IsLine (Print page line) text = (1 ≤ length text) × (length text ≤ 132)
IsLine request text = Unit {0}

-- ---- the file of a request
-- the file in this slot is on disk, and its File Description specification suits
pub record IsDiskFile (files : List FileLine) (slot : ℕ) (Suits : FileLine → Type 0) : Type 0 where
  pub line : FileLine
  pub there : slice_get files slot ≡ Some line
  pub on_disk : line.device ≡ Disk
  pub suits : Suits line

-- the cycle reads records of this length from the file
pub record IsReadInOrder (size : ℕ) (line : FileLine) : Type 0 where
  pub long : size ≡ line.record_length
  pub selected : is_input line ≡ true

-- a key of the file's key length, or a record number if the file has no key
abbrev pub IsSoughtBy : Option KeyField → Sought → Type 0
IsSoughtBy (Some field) (Key key) = length key.items ≡ field.length
IsSoughtBy None (RecordNumber number) = Unit {0}
IsSoughtBy field sought = ⊥

-- CHAIN reads records of this length from the file
pub record IsChainedBy (size : ℕ) (sought : Sought) (line : FileLine) : Type 0 where
  pub long : size ≡ line.record_length
  pub chained : is_chained line.designation ≡ true
  pub sought_by : IsSoughtBy line.key sought

-- records of this length can be written to the file
pub record TakesRecord (size : ℕ) (line : FileLine) : Type 0 where
  pub long : size ≡ line.record_length
  pub put_out : is_only_read line ≡ false

-- records with a new key can be added to the file
pub record TakesAddition (size : ℕ) (line : FileLine) : Type 0 where
  pub takes : TakesRecord size line
  pub keyed : is_some line.key ≡ true

-- the file's records can be updated
pub record TakesChanges (size : ℕ) (line : FileLine) : Type 0 where
  pub takes : TakesRecord size line
  pub updated : is_updated line ≡ true

-- the File Description specification allows the call, which writes this many positions
abbrev pub Allows : FileCall → (positions : ℕ) → FileLine → Type 0
Allows (Read size) positions = IsReadInOrder size
Allows (Chain size sought) positions = IsChainedBy size sought
Allows Append positions = TakesRecord positions
Allows Add positions = TakesAddition positions
Allows (Update current) positions = TakesChanges positions

-- the File Description specification of its file allows the request
abbrev pub FitsFile : {X : Type 0} → List FileLine → Request → List X → Type 0
FitsFile files (File slot call) positions = IsDiskFile files slot (Allows call (length positions))
FitsFile files request positions = Unit {0}
