-- Dumps: texts that stand for bytes. A line is empty, a note, a run of zeros, codes or an index. It stands for no bytes, for so many zeros,
-- for the codes, or for the index of the records before it. The bytes of a dump are those of its lines, one line after another.
use Rattle.std.specs.Prelude.{◌≡◌, ℕ, ◌+◌, ◌-◌, ◌*◌, ◌==◌, ◌&&◌, nat_le, nat_lt, Bool, true, false, List, [], ◌∷◌, ◌++◌, replicate, take, drop, Option, Some, None, ⊤, if◌then◌else◌}
use Rattle.std.specs.List.{fold}
use Rattle.s3_cards.specs.Codes.{ebcdic_of}
use Rattle.s3_dump.specs.Inner.Indexes.{index_of}
use Rattle.s3_dump.specs.declared.fault.RestoreFault.{RestoreFault}
use Rattle.s3_dump.specs.declared.fault.RestoreFault.TheVariants.{NoDump, NoMemory}
use Rattle.s3_dump.specs.declared.index.IndexLine.{IndexLine}
use Rattle.s3_dump.specs.declared.reading.Mode.{Mode}
use Rattle.s3_dump.specs.declared.reading.Mode.TheVariants.{Start, Note, Zeros, Codes, High, Low, End, Index}

abbrev pub line_end : ℕ
line_end = 10

-- the value of a hexadecimal digit, 0 to 9 and A to F
abbrev pub hex_value : ℕ → Option ℕ
hex_value c =
    if nat_le 48 c && nat_le c 57 then Some (c - 48)
    else (if nat_le 65 c && nat_le c 70 then Some (c - 55) else None)

-- the longest run of zeros
abbrev pub most_zeros : ℕ
most_zeros = 99999999

-- what is read of a dump: what the next character belongs to, and the bytes of the lines before
pub record State : Type 0 where
  pub mode : Mode
  pub bytes : List ℕ

abbrev pub begun : State
begun = record { mode = Start; bytes = [] }

abbrev pub no_numbers : IndexLine
no_numbers = record { count = 0; record_length = 0; sectors = 0; key_start = 0; key_length = 0 }

abbrev pub at_start : ℕ → List ℕ → Option State
at_start c bytes =
    if c == line_end then Some (record { mode = Start; bytes = bytes })
    else (if c == 35 then Some (record { mode = Note; bytes = bytes })
    else (if c == 91 then Some (record { mode = Codes; bytes = bytes })
    else (if c == 42 then Some (record { mode = Zeros 0; bytes = bytes })
    else (if c == 61 then Some (record { mode = Index 0 no_numbers; bytes = bytes }) else None))))

abbrev pub in_note : ℕ → List ℕ → Option State
in_note c bytes = if c == line_end then Some (record { mode = Start; bytes = bytes }) else Some (record { mode = Note; bytes = bytes })

abbrev pub in_zeros : ℕ → ℕ → List ℕ → Option State
in_zeros count c bytes =
    if c == line_end then Some (record { mode = Start; bytes = bytes ++ replicate count 0 })
    else (if nat_le 48 c && nat_le c 57 && nat_le count most_zeros && nat_le (count * 10 + (c - 48)) most_zeros then Some (record { mode = Zeros (count * 10 + (c - 48)); bytes = bytes }) else None)

abbrev pub with_code : Option ℕ → List ℕ → Option State
with_code (Some code) bytes = Some (record { mode = Codes; bytes = bytes ++ code ∷ [] })
with_code None bytes = None

abbrev pub in_codes : ℕ → List ℕ → Option State
in_codes c bytes =
    if c == 93 then Some (record { mode = End; bytes = bytes })
    else (if c == 92 then Some (record { mode = High; bytes = bytes }) else with_code (ebcdic_of c) bytes)

abbrev pub with_high : Option ℕ → List ℕ → Option State
with_high (Some high) bytes = Some (record { mode = Low high; bytes = bytes })
with_high None bytes = None

abbrev pub with_low : ℕ → Option ℕ → List ℕ → Option State
with_low high (Some low) bytes = if nat_lt high 16 then Some (record { mode = Codes; bytes = bytes ++ (high * 16 + low) ∷ [] }) else None
with_low high None bytes = None

abbrev pub at_end : ℕ → List ℕ → Option State
at_end c bytes = if c == line_end then Some (record { mode = Start; bytes = bytes }) else None

-- the numbers of an index are read into its last one, from which a blank moves them on
abbrev pub most_number : ℕ
most_number = 99999999

abbrev pub moved_on : IndexLine → IndexLine
moved_on line = record { count = line.record_length; record_length = line.sectors; sectors = line.key_start; key_start = line.key_length; key_length = 0 }

abbrev pub with_number : IndexLine → ℕ → IndexLine
with_number line number = record { count = line.count; record_length = line.record_length; sectors = line.sectors; key_start = line.key_start; key_length = number }

abbrev pub with_index : Option (List ℕ) → List ℕ → Option State
with_index (Some index) bytes = Some (record { mode = Start; bytes = bytes ++ index })
with_index None bytes = None

abbrev pub in_index : (blanks : ℕ) → IndexLine → ℕ → List ℕ → Option State
in_index blanks line c bytes =
    if c == line_end then (if blanks == 4 then with_index (index_of line bytes) bytes else None)
    else (if c == 32 then (if nat_lt blanks 4 then Some (record { mode = Index (blanks + 1) (moved_on line); bytes = bytes }) else None)
    else (if nat_le 48 c && nat_le c 57 && nat_le line.key_length most_number && nat_le (line.key_length * 10 + (c - 48)) most_number
    then Some (record { mode = Index blanks (with_number line (line.key_length * 10 + (c - 48))); bytes = bytes }) else None))

-- one character more: # begins a note, * a number of zeros in decimal digits, [ codes, up to ], and = the five numbers of an index. Among
-- codes a card character is its code, and \ and two hexadecimal digits are a byte.
abbrev pub step_by : Mode → ℕ → List ℕ → Option State
step_by Start c bytes = at_start c bytes
step_by Note c bytes = in_note c bytes
step_by (Zeros count) c bytes = in_zeros count c bytes
step_by Codes c bytes = in_codes c bytes
step_by High c bytes = with_high (hex_value c) bytes
step_by (Low high) c bytes = with_low high (hex_value c) bytes
step_by End c bytes = at_end c bytes
step_by (Index blanks line) c bytes = in_index blanks line c bytes

abbrev pub step : Option State → ℕ → Option State
step None c = None
step (Some state) c = step_by state.mode c state.bytes

-- a dump ends with a whole line
abbrev pub is_start : Mode → Bool
is_start Start = true
is_start Note = false
is_start (Zeros count) = false
is_start Codes = false
is_start High = false
is_start (Low high) = false
is_start End = false
is_start (Index blanks line) = false

abbrev pub whole : Option State → Option (List ℕ)
whole None = None
whole (Some state) = if is_start state.mode then Some state.bytes else None

-- the bytes that a dump stands for; none if the text is no dump
abbrev pub restored : List ℕ → Option (List ℕ)
restored text = whole (fold step (Some begun) text)

-- the line of the character after c, which is in this line
abbrev pub next_line : ℕ → ℕ → ℕ
next_line line c = if c == line_end then line + 1 else line

-- the line, from 1, in which the next character after a text is
abbrev pub line_after : List ℕ → ℕ
line_after text = fold next_line 1 text

-- a text is no dump from its next character on: that can't follow here, or the text ends inside a line
abbrev pub Stops : State → List ℕ → Type 0
Stops state (c ∷ later) = step_by state.mode c state.bytes ≡ None
Stops state [] = is_start state.mode ≡ false

-- the first line at which a text is no dump: all that is before some place can begin a dump, and what is there can't go on with it
pub record IsWrongIn (text : List ℕ) (line : ℕ) : Type 0 where
  pub place : ℕ
  pub state : State
  pub begins : fold step (Some begun) (take place text) ≡ Some state
  pub stops : Stops state (drop place text)
  pub line_is : line ≡ line_after (take place text)

-- a text isn't restored: it stands for no bytes from a line on, or memory was refused
pub record IsNoDump (text : List ℕ) (line : ℕ) : Type 0 where
  pub none : restored text ≡ None
  pub place : IsWrongIn text line

abbrev pub IsRestoreFault : List ℕ → RestoreFault → Type 0
IsRestoreFault text (NoDump line) = IsNoDump text line
IsRestoreFault text NoMemory = ⊤
