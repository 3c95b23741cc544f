-- What is known in the middle of a run. Contracts of private functions and the theorem on lists of steps use these definitions. `Runs` has
-- the results of a run.
use Rattle.std.specs.Prelude.{◌≡◌, ◌+◌, ◌-◌, ◌/◌, ◌%◌, ◌<◌, ◌++◌, ℕ, List, [], ◌∷◌, Option, length, slice_index, take}
use Rattle.std.specs.Int.{from_le_bytes, to_le_bytes, w16}
use Rattle.s3_cards.specs.declared.levels.LevelId.{LevelId}
use Rattle.s3_cards.specs.declared.levels.LevelId.TheVariants.{One, Two}
use Rattle.s3_cards.specs.Deck.{deck_of}
use Rattle.s3_cards.specs.Codes.{shown_byte}
use Rattle.s3_store.specs.Inner.State.{KeepsInStep}
use Rattle.s3_slots.specs.Header.{region_of}
use Rattle.s3_slots.specs.Slots.{slots_of}
use Rattle.s3_labels.specs.Areas.{area_of}
use Rattle.s3_labels.specs.Untangled.{IsUntangled}
use Rattle.s3_solo.specs.Inner.Lines.{drained_lines}
use Rattle.s3_solo.specs.declared.action.Did.{Did}
use Rattle.s3_solo.specs.declared.action.Did.TheVariants.{Acted, Idle, Refused}
use Rattle.s3_solo.specs.World.{World}
use Rattle.s3_solo.specs.Solo.{solo, closed}
use Rattle.s3_level.specs.declared.taken.Taken.{Taken}
use Rattle.s3_bureau.specs.declared.entry.Entry.{Entry}
use Rattle.s3_bureau.specs.Entries.{own}
use Rattle.s3_bureau.specs.Inner.Held.{HoldsFor, IsSaid, State, header_of, level_of, rests}
use Rattle.s3_bureau.specs.Sharing.{IsCommon, IsOwn}
use Rattle.s3_bureau.specs.Runs.{HasFiles, Texts, RunTexts, cards_of, refusal_of}
use Rattle.s3_bureau.specs.Texts.{report_of, halt_text_of}
use Rattle.s3_bureau.specs.declared.report.ReportTables.{ReportTables}

-- what reading a deck gives: its cards, or why it was refused
pub record ReadsDeck (text : List ℕ) (cards : List (List ℕ)) (refusal : Option (ℕ × ℕ)) : Type 0 where
  pub read : cards ≡ cards_of (deck_of text)
  pub refused : refusal ≡ refusal_of (deck_of text)

-- each world that was represented for a level has taken that level's entries, in order
abbrev pub Performs : List Entry → (LevelId → World → Type 0) → (LevelId → World → Type 0) → Type 0
Performs entries old new = (level : LevelId) (w : World) → old level w → new level (solo w (own level entries))

-- the number of entries left to perform after some that gave this answer: 0 if they did nothing
abbrev pub left_by : Did → (times left : ℕ) → ℕ
left_by Acted times left = left - times
left_by Idle times left = 0
left_by (Refused number) times left = 0

abbrev pub left_after : Taken → (left : ℕ) → ℕ
left_after taken left = left_by taken.did taken.times left

-- What entries leave unchanged in a bureau, stopped or not: the sectors of the header and the masters. A level without an entry keeps its
-- sectors, in the store too.
pub record Leaves (entries : List Entry) (old new : State) : Type 0 where
  pub header : header_of new ≡ header_of old
  pub common : KeepsInStep (IsCommon (header_of old)) old.beside.state new.beside.state
  pub level : (level : LevelId) → own level entries ≡ [] → level_of level new ≡ level_of level old
  pub idle : (level : LevelId) → own level entries ≡ [] → KeepsInStep (IsOwn level (header_of old)) old.beside.state new.beside.state

-- the sectors that entries leave unchanged if the levels are closed after them
pub record LeavesSectors (entries : List Entry) (old new : State) : Type 0 where
  pub common : KeepsInStep (IsCommon (header_of old)) old.beside.state new.beside.state
  pub idle : (level : LevelId) → own level entries ≡ [] → rests level old → KeepsInStep (IsOwn level (header_of old)) old.beside.state new.beside.state

-- the files of each world that was represented for a level are in these sectors, after that level's entries and its closing
abbrev pub HaveFiles : List Entry → (held : LevelId → World → Type 0) → (contents : List (List ℕ)) → Type 0
HaveFiles entries held contents = (level : LevelId) (w : World) → held level w → HasFiles contents (closed (solo w (own level entries)))

-- if the labels of a level gave its slots before, they still do
abbrev pub KeepSaying : (old new : State) → Type 0
KeepSaying old new = (level : LevelId) → IsSaid level old → IsSaid level new

-- If the labels of a level gave its slots, a mount of these sectors finds no overlapping or duplicate label of it. It finds the slots as
-- the worlds of the level have them after its entries and its closing.
abbrev pub HaveSlots : List Entry → State → (contents : List (List ℕ)) → Type 0
HaveSlots entries old contents =
    (level : LevelId) → IsSaid level old
    → IsUntangled (header_of old).format (region_of level (header_of old)) (area_of level) contents
    × ((w : World) → HoldsFor level old w
    → slots_of (header_of old).format (region_of level (header_of old)) (area_of level) contents ≡ (closed (solo w (own level entries))).pack.own.slots)

-- the texts of a world's drained lines and its halts
abbrev pub drained_texts : Option (ℕ × ℕ) → World → Texts
drained_texts refusal w = record { report = report_of (drained_lines w.lines); halts = halt_text_of refusal w.halts }

-- these are the texts of each world that was represented for a level, after that level's entries and its closing
pub record HasTexts (refusal1 refusal2 : Option (ℕ × ℕ)) (entries : List Entry) (held : LevelId → World → Type 0) (texts : RunTexts) : Type 0 where
  pub one : (w : World) → held One w → texts.one ≡ drained_texts refusal1 (closed (solo w (own One entries)))
  pub two : (w : World) → held Two w → texts.two ≡ drained_texts refusal2 (closed (solo w (own Two entries)))

-- the table has the byte that shows each code
abbrev pub ShowsCodes : List ℕ → Type 0
ShowsCodes table = (code : ℕ) → code < 256 → slice_index table code ≡ shown_byte code

-- the row has the byte that shows each code, followed by this byte
abbrev pub ShowsPairsWith : (second : ℕ) → List ℕ → Type 0
ShowsPairsWith second row = (code : ℕ) → code < 256 → to_le_bytes w16 (slice_index row code) ≡ shown_byte code ∷ second ∷ []

-- the table has the bytes that show each pair of codes
abbrev pub ShowsPairs : List ℕ → Type 0
ShowsPairs table =
    (first second : ℕ) → first < 256 → second < 256
    → to_le_bytes w16 (slice_index table (from_le_bytes w16 (first ∷ second ∷ []))) ≡ shown_byte first ∷ shown_byte second ∷ []

-- the table has the first of two digits of each number below 100
abbrev pub HasTens : List ℕ → Type 0
HasTens table = (number : ℕ) → number < 100 → slice_index table number ≡ 48 + number / 10

-- the table has the last digit of each number below 100
abbrev pub HasOnes : List ℕ → Type 0
HasOnes table = (number : ℕ) → number < 100 → slice_index table number ≡ 48 + number % 10

-- the tables for a report have the bytes that they must have
pub record AreTables (tables : ReportTables) : Type 0 where
  pub shown : ShowsPairs tables.shown.items
  pub all : length tables.shown.items ≡ 65536
  pub tens : HasTens tables.tens
  pub ones : HasOnes tables.ones

-- these bytes were written from one place of a buffer to another, and the bytes before that place are unchanged
pub record IsLaid (at end : ℕ) (old new : List ℕ) (bytes : List ℕ) : Type 0 where
  pub laid : take end new ≡ take at old ++ bytes
  pub ends : end ≡ at + length bytes
