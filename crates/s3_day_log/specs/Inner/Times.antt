-- The times of a log: the text that a line has for a second, and the instant that a line says.
use Rattle.std.specs.Prelude.{◌≡◌, ℕ, ◌*◌, ℤ, pos, nat_le, Bool, true, false, not, List, [], ◌∷◌, ◌++◌, map, Option, Some, None, option_and_then, Result, Ok, Err, ⊤, codes, if◌then◌else◌}
use Rattle.std.specs.Io.KnownBytes.{Appends}
use Rattle.std.specs.List.{list_all}
use Rattle.json.specs.Json.{Members, document}
use Rattle.json.specs.Find.{as_object}
use Rattle.jiff.specs.Words.{parse_timestamp}
use Rattle.s3_day_log.specs.Inner.Events.{Said}
use Rattle.s3_day_log.specs.Inner.Lines.{line_of}
use Rattle.s3_day_log.specs.Inner.Logged.{events_in, fits, is_line_end, lines_ended}
use Rattle.s3_day_log.specs.Inner.Members.{text_in}

-- ---- what is written
-- a second since 1970, up to the last one for which the library has a date; a later one is shown as the first of 1970
abbrev pub shown_second : (second : ℕ) → ℕ
shown_second second = if nat_le second 253402207200 then second else 0

-- its instant, in nanoseconds since 1970
abbrev pub instant_at : (second : ℕ) → ℤ
instant_at second = pos (shown_second second * 1000000000)

-- a text is read as that instant
abbrev pub IsTimeAt : (second : ℕ) → (text : List ℕ) → Type 0
IsTimeAt second text = parse_timestamp text ≡ Ok (instant_at second)

-- an event, and the second at which it is written
pub record Noted : Type 0 where
  pub second : ℕ
  pub said : Said

-- the line of an event at a second
pub record IsLineAt (noted : Noted) (line : List ℕ) : Type 0 where
  pub at : List ℕ
  pub is_time : IsTimeAt noted.second at
  pub is_line : line ≡ line_of at noted.said

-- the lines of events, one after the other
abbrev pub AreLines : List Noted → (text : List ℕ) → Type 0
AreLines [] text = text ≡ []
AreLines (noted ∷ rest) text = (line : List ℕ) × (more : List ℕ) × IsLineAt noted line × AreLines rest more × (text ≡ line ++ more)

-- unless a write has failed, the known bytes of a file have grown by the line of an event at some second
abbrev pub IsNoted : (before now : Option (List ℕ)) → (has_failed : Bool) → Said → Type 0
IsNoted before now true said = ⊤
IsNoted None now false said = ⊤
IsNoted (Some bytes) now false said = (second : ℕ) × (line : List ℕ) × IsLineAt (record { second = second; said = said }) line × Appends (Some bytes) now line

-- ---- what is read
abbrev pub if_read : {E : Type 0} → Result ℤ E → Option ℤ
if_read (Ok instant) = Some instant
if_read (Err e) = None

abbrev pub instant_in : Members → Option ℤ
instant_in members = option_and_then (λ at. if_read (parse_timestamp at)) (text_in (codes "at") members)

-- the instant that a line says, without its line end
unfoldable pub instant_on : (line : List ℕ) → Option ℤ
instant_on line = option_and_then instant_in (option_and_then as_object (document line))

abbrev pub instants_in : List ℕ → List (Option ℤ)
instants_in text = map instant_on (lines_ended text)

-- ---- what is written is read back
-- each event, and the instant of each, also if a further line was begun
pub record IsReadBack (events : List Noted) (text : List ℕ) : Type 0 where
  pub said : events_in text ≡ map (λ noted. Some noted.said) events
  pub instants : instants_in text ≡ map (λ noted. Some (instant_at noted.second)) events

abbrev pub LogReadsBack : Type 0
LogReadsBack =
    (events : List Noted) (text begun_line : List ℕ) → AreLines events text → list_all (λ noted. fits noted.said) events ≡ true
    → list_all (λ byte. not (is_line_end byte)) begun_line ≡ true → IsReadBack events (text ++ begun_line)
