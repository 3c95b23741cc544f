-- The run requests the next card or record of a file.
use Rattle.std.proofs.Common.{◌≡◌, ◌⊎◌, inl, inr, ℕ, ◌<◌, length, get_or, Bool, true, false, sym, ◌∙◌, ap}
use Rattle.std.specs.Prelude.{Option, Some, slice_get, unwrap_or, if◌then◌else◌}
use Rattle.std.proofs.lemmas.Option.{slice_get-get_or}
use Rattle.s3_lines.specs.Files.{is_card_reader}
use Rattle.s3_program.specs.declared.program.Program.{Program}
use Rattle.s3_match.specs.Inner.Heads.{no_file, file_at}
use Rattle.s3_lines.specs.declared.sheet.Device.{Device}
use Rattle.s3_lines.specs.declared.sheet.Device.TheVariants.{CardReader, Printer, Disk}
use Rattle.s3_lines.specs.declared.sheet.FileLine.{FileLine}
use Rattle.s3_meaning.specs.Source.{is_input}
use Rattle.s3_meaning.specs.Requests as Meant
use Rattle.s3_meaning.specs.Runs.{ask}
use Rattle.s3_meaning.specs.Cycle.{again, file_read, on_read}
use Rattle.s3_match.specs.Inner.Reading.{IsUnreadAt, input_at}
use Rattle.s3_match.specs.Inner.Types.{name_of_file}
use Rattle.s3_cycle.specs.declared.progress.Point.TheVariants as at
use Rattle.s3_cycle.specs.declared.request.FileCall.TheVariants as calls
use Rattle.s3_cycle.specs.declared.request.Request.{Request}
use Rattle.s3_cycle.specs.declared.request.Request.TheVariants as asks
use Rattle.s3_cycle.specs.declared.stepper.Stepper.{Stepper}
use Rattle.s3_cycle.specs.Inner.Requests.{request_of}
use Rattle.s3_cycle.specs.Inner.Rest.{head_put, inputs_in}
use Rattle.s3_cycle.specs.Inner.Going.{own, held_by, here, GoesOn, IsRunning}
use Rattle.s3_cycle.proofs.GoingLemmas.{goes_wait}
use Rattle.s3_cycle.proofs.FileLemmas.{file_tabled, read_on_disk, head_selected}

pub asks_card : (old new : Stepper) (place : ℕ) (request : Request) (file : FileLine) → new ≡ record old { request = request; point = at.Head place } → request ≡ asks.Card → IsRunning old → IsUnreadAt old.progress.reading.files.items place
    → (input_at (inputs_in old.program old.progress) place).file ≡ file → file.device ≡ CardReader
    → GoesOn old new (here old (λ source program progress. file_read source (again source) (input_at (inputs_in program progress) place) (head_put source program progress place)))
unfolding file_read request_of
asks_card old new place request file same card running unread there device =
    let is : is_card_reader (input_at (inputs_in old.program old.progress) place).file.device ≡ true = ap (λ (f : FileLine). is_card_reader f.device) there ∙ ap is_card_reader device in
    goes_wait old new asks.Card (at.Head place) _ (same ∙ ap (λ (r : Request). record old { request = r; point = at.Head place }) card) running (is, unread) tt tt
    (ap (λ (b : Bool). ask (if b then Meant.Card else Meant.Read (input_at (inputs_in old.program old.progress) place).file.name (input_at (inputs_in old.program old.progress) place).file.record_length)
    (λ answer. on_read (own old) (again (own old)) (input_at (inputs_in old.program old.progress) place) (head_put (own old) old.program old.progress place) answer (held_by old))) is)

pub asks_record : (old new : Stepper) (place slot size : ℕ) (request : Request) (file : FileLine) → new ≡ record old { request = request; point = at.Head place } → request ≡ asks.File slot (calls.Read size) → IsRunning old → IsUnreadAt old.progress.reading.files.items place
    → (input_at (inputs_in old.program old.progress) place).file ≡ file → slice_get old.program.files.items slot ≡ Some file → is_card_reader file.device ≡ false → size ≡ file.record_length → name_of_file old.program slot ≡ (input_at (inputs_in old.program old.progress) place).file.name
    → GoesOn old new (here old (λ source program progress. file_read source (again source) (input_at (inputs_in program progress) place) (head_put source program progress place)))
unfolding file_read request_of
asks_record old new place slot size request file same reads running unread there listed device long name =
    let selected : is_input file ≡ true = ap is_input (sym there) ∙ head_selected old.program old.progress place running.reading unread.within in
    let isnt : is_card_reader (input_at (inputs_in old.program old.progress) place).file.device ≡ false = ap (λ (f : FileLine). is_card_reader f.device) there ∙ device in
    let as_long : size ≡ (input_at (inputs_in old.program old.progress) place).file.record_length = long ∙ sym (ap (λ (f : FileLine). f.record_length) there) in
    goes_wait old new (asks.File slot (calls.Read size)) (at.Head place) _ (same ∙ ap (λ (r : Request). record old { request = r; point = at.Head place }) reads) running (as_long, unread) tt
    (record { line = file; there = listed; on_disk = read_on_disk file (file_tabled old.program slot file listed) selected device; suits = record { long = long; selected = selected } })
    (ap (λ (b : Bool). ask (if b then Meant.Card else Meant.Read (input_at (inputs_in old.program old.progress) place).file.name (input_at (inputs_in old.program old.progress) place).file.record_length)
    (λ answer. on_read (own old) (again (own old)) (input_at (inputs_in old.program old.progress) place) (head_put (own old) old.program old.progress place) answer (held_by old))) isnt
    ∙ (λ i. ask (Meant.Read (sym name i) (sym as_long i))
    (λ answer. on_read (own old) (again (own old)) (input_at (inputs_in old.program old.progress) place) (head_put (own old) old.program old.progress place) answer (held_by old))))

-- the File Description specification in a slot, as it is read
pub slot_listed : (program : Program) (slot : ℕ) (file : FileLine) → slot < length program.files.items → file ≡ get_or program.files.items slot file → slice_get program.files.items slot ≡ Some file
slot_listed program slot file within there = slice_get-get_or program.files.items slot file within ∙ ap (λ (f : FileLine). Some f) (sym there)

-- the file in a slot
pub slot_file : (program : Program) (slot : ℕ) (file : FileLine) → slot < length program.files.items → file ≡ get_or program.files.items slot file → file_at program slot ≡ file
slot_file program slot file within there = ap (λ (o : Option FileLine). unwrap_or o no_file) (slice_get-get_or program.files.items slot file within) ∙ sym there

pub no_reader : (device : Device) → (device ≡ Printer) ⊎ (device ≡ Disk) → is_card_reader device ≡ false
no_reader device (inl printer) = ap is_card_reader printer
no_reader device (inr disk) = ap is_card_reader disk
