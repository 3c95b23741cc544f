-- The input files as the cycle reads them, and the files that are still to be read.
use Rattle.std.specs.Prelude.{ℕ, ◌≡◌, ◌+◌, ◌<◌, ◌≤◌, Bool, true, false, List, [], ◌++◌, map, filter, filter_map, take, drop, length, get_or, Option, slice_get, slice_set, slice_index_or, unwrap_or, option_map, None}
use Rattle.std.specs.List.{All, range_with_len}
use Rattle.s3_operations.specs.Inner.Places.{indicator_place}
use Rattle.s3_lines.specs.declared.indicator.Indicator.{Indicator}
use Rattle.s3_lines.specs.declared.sheet.InputLine.{InputLine}
use Rattle.s3_meaning.specs.Source.{Source, is_input}
use Rattle.s3_meaning.specs.Requests.{Answer, Found}
use Rattle.s3_meaning.specs.Runs.{Rest, Anew}
use Rattle.s3_meaning.specs.Selection as meaning
use Rattle.s3_meaning.specs.Cycle.{files_read, typed}
use Rattle.s3_program.specs.declared.mark.Key.TheVariants as key
use Rattle.s3_program.specs.declared.program.Program.{Program}
use Rattle.s3_program.specs.declared.program.Reference.{Reference}
use Rattle.s3_program.specs.declared.starts.TypeStart.{TypeStart}
use Rattle.s3_match.specs.declared.heads.InputFile.{InputFile}
use Rattle.s3_match.specs.declared.reading.Reading.{Reading}
use Rattle.s3_match.specs.Inner.Types.{IsOnlyType, kind_at}
use Rattle.s3_match.specs.Inner.Fields.{indicator_on}
use Rattle.s3_match.specs.Inner.Heads.{no_file, file_at, is_unread, IsInput}
use Rattle.s3_match.specs.Inner.Levels.{AreLevels}
use Rattle.s3_match.specs.Inner.Selecting.{reading_of}

abbrev pub reading_in : Program → Reading → meaning.Reading
reading_in program reading = reading_of program reading.files.items reading.primary_key

abbrev pub is_input_slot : Program → ℕ → Bool
is_input_slot program slot = is_input (file_at program slot)

-- the slots of the primary and secondary files, in F order
abbrev pub input_slots : Program → List ℕ
input_slots program = filter (is_input_slot program) (range_with_len 0 (length program.files.items))

abbrev pub slots_of : List InputFile → List ℕ
slots_of files = map (λ input. input.file) files

-- for each file the type that every record has, whatever its bytes, if there is one
pub record AreOnlyTypes (program : Program) (types : List (Option TypeStart)) : Type 0 where
  pub many : length types ≡ length program.files.items
  pub each : (file : ℕ) (d : Option TypeStart) → file < length types → IsOnlyType program file (get_or types file d)

-- the record identifying indicators on these lines
abbrev pub indicators_on : List (InputLine Reference) → List Indicator
indicators_on lines = filter_map indicator_on lines

-- the places of these indicators
pub record ArePlacesOf (lines : List (InputLine Reference)) (places : List ℕ) : Type 0 where
  pub placed : places ≡ map indicator_place (indicators_on lines)
  pub within : All (λ place. place < 1600) places

-- the place of a line's record identifying indicator, 0 if it has none
abbrev pub place_on : InputLine Reference → ℕ
place_on line = unwrap_or (option_map indicator_place (indicator_on line)) 0

pub record AreLinePlaces (lines : List (InputLine Reference)) (places : List ℕ) : Type 0 where
  pub placed : places ≡ map place_on lines
  pub within : All (λ place. place < 1600) places

-- Each primary and secondary file occurs once, in F order, with the key of its head. What holds for all records of a file is kept once.
pub record IsReading (program : Program) (reading : Reading) : Type 0 where
  pub inputs : All (IsInput program) reading.files.items
  pub slots : slots_of reading.files.items ≡ input_slots program
  pub match_levels : AreLevels key.Match program reading.match_levels
  pub control_levels : AreLevels key.Control program reading.control_levels
  pub only_types : AreOnlyTypes program reading.only_types.items
  pub type_places : ArePlacesOf program.inputs.items reading.type_places.items
  pub line_places : AreLinePlaces program.inputs.items reading.line_places.items

-- ---- one of the files
-- the input file for a place without a file
abbrev pub no_input : meaning.InputFile
no_input = record { file = no_file; standing = meaning.Ended; reads = 0; last_key = None }

abbrev pub input_at : List meaning.InputFile → (place : ℕ) → meaning.InputFile
input_at inputs place = slice_index_or inputs place no_input

-- the file at this place changes
abbrev pub changed_at : (place : ℕ) → (meaning.InputFile → meaning.InputFile) → meaning.Reading → meaning.Reading
changed_at place change reading = record reading { files = slice_set reading.files place (change (input_at reading.files place)) }

abbrev pub is_unread_at : List InputFile → (place : ℕ) → Bool
is_unread_at files place = unwrap_or (option_map is_unread (slice_get files place)) false

-- the bytes of the record at the head of this file, or of its last record once it was taken
abbrev pub bytes_at : List InputFile → (place : ℕ) → List ℕ
bytes_at files place = unwrap_or (option_map (λ input. input.bytes) (slice_get files place)) []

-- there is a file at this place, and its next record must be read
pub record IsUnreadAt (files : List InputFile) (place : ℕ) : Type 0 where
  pub within : place < length files
  pub unread : is_unread_at files place ≡ true

-- the head of a file with a record of this type
abbrev pub head_with : Program → InputFile → TypeStart → meaning.Selected
head_with program input start = record {
  file = file_at program input.file;
  head = record { number = input.reads; bytes = input.bytes; kind = kind_at program start };
}

-- ---- reading on
-- no file from the first place up to the second must be read
pub record AreRead (inputs : List meaning.InputFile) (from to : ℕ) : Type 0 where
  pub each : (k : ℕ) → from ≤ k → k < to → meaning.is_unread (input_at inputs k) ≡ false

-- the first file from this place on that must be read
pub record IsNextUnread (inputs : List meaning.InputFile) (from place : ℕ) : Type 0 where
  pub behind : from ≤ place
  pub within : place < length inputs
  pub unread : meaning.is_unread (input_at inputs place) ≡ true
  pub before : AreRead inputs from place

-- the files from this place on are read; those before it are unchanged
unfoldable pub read_from : Source → Anew → (inputs : List meaning.InputFile) → (place : ℕ) → (List meaning.InputFile → Rest) → Rest
read_from source anew inputs place go = files_read source anew (drop place inputs) (λ later. go (take place inputs ++ later))

-- after the file at this place was read: the file is replaced, and the files after it are read
abbrev pub read_behind : Source → Anew → (inputs : List meaning.InputFile) → (place : ℕ) → (List meaning.InputFile → Rest) → meaning.InputFile → Rest
read_behind source anew inputs place go input = read_from source anew (slice_set inputs place input) (place + 1) go

-- a record was read from the file at a place, and counted
abbrev pub on_record : Source → Anew → (inputs : List meaning.InputFile) → (place : ℕ) → (bytes : List ℕ) → (List meaning.InputFile → Rest) → Rest
on_record source anew inputs place bytes go =
    typed anew (input_at inputs place) bytes (meaning.type_of source (input_at inputs place).file.name bytes) (read_behind source anew inputs place go)

abbrev pub is_record : Answer → Bool
is_record (Found bytes) = true
is_record _ = false
