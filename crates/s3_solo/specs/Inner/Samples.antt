-- A worked example: the deck that compiles the card lister and lists two cards.
use Rattle.std.specs.Prelude.{ℕ, ◌-◌, ◌+◌, List, [], ◌∷◌, ◌++◌, codes, length, replicate, take, drop, Option}
use Rattle.s3_cards.specs.Deck.{card_of}
use Rattle.s3_cards.specs.Printed.{Printed}
use Rattle.s3_cards.specs.declared.levels.LevelId.TheVariants.{One}
use Rattle.s3_slots.specs.declared.header.Format.TheVariants.{Second}
use Rattle.s3_slots.specs.declared.header.Header.{Header}
use Rattle.s3_operator.specs.declared.halt_code.HaltCode.{HaltCode}
use Rattle.s3_operator.specs.Halts.{ShownHalt}
use Rattle.s3_solo.specs.declared.action.Action.TheVariants.{Turn, Reply}
use Rattle.s3_solo.specs.World.{World, at_start}
use Rattle.s3_solo.specs.Solo.{step_of, solo}

-- a card that has a text from a column on
abbrev pub punched : (column : ℕ) → List ℕ → List ℕ → List ℕ
punched column text card = take (column - 1) card ++ text ++ drop (column - 1 + length text) card

abbrev pub blank_line : List ℕ
blank_line = replicate 96 0x20

-- `6:H 75:LIST`
abbrev pub header_line : List ℕ
header_line = punched 75 (codes "LIST") (punched 6 (codes "H") blank_line)

-- `6:F 7:CARDS 15:IP 19:F 22:96 26:96 40:MFCU1`
abbrev pub card_file_line : List ℕ
card_file_line =
    punched 40 (codes "MFCU1") (punched 26 (codes "96") (punched 22 (codes "96") (punched 19 (codes "F")
    (punched 15 (codes "IP") (punched 7 (codes "CARDS") (punched 6 (codes "F") blank_line))))))

-- `6:F 7:PRINT 15:O 19:F 21:132 25:132 40:PRINTER`
abbrev pub print_file_line : List ℕ
print_file_line =
    punched 40 (codes "PRINTER") (punched 25 (codes "132") (punched 21 (codes "132") (punched 19 (codes "F")
    (punched 15 (codes "O") (punched 7 (codes "PRINT") (punched 6 (codes "F") blank_line))))))

-- `6:I 7:CARDS 15:AA 19:01`
abbrev pub record_line : List ℕ
record_line = punched 19 (codes "01") (punched 15 (codes "AA") (punched 7 (codes "CARDS") (punched 6 (codes "I") blank_line)))

-- `6:I 47:1 51:3 53:TEXT`
abbrev pub field_line : List ℕ
field_line = punched 53 (codes "TEXT") (punched 51 (codes "3") (punched 47 (codes "1") (punched 6 (codes "I") blank_line)))

-- `6:O 7:PRINT 15:D 24:01`
abbrev pub detail_line : List ℕ
detail_line = punched 24 (codes "01") (punched 15 (codes "D") (punched 7 (codes "PRINT") (punched 6 (codes "O") blank_line)))

-- `6:O 32:TEXT 43:3`
abbrev pub put_line : List ℕ
put_line = punched 43 (codes "3") (punched 32 (codes "TEXT") (punched 6 (codes "O") blank_line))

-- the deck that compiles the lister and lists ABC and DEF
abbrev pub lister_deck : List (List ℕ)
lister_deck =
    card_of (codes "// LOAD $RPG,F1") ∷ card_of (codes "// RUN")
    ∷ card_of header_line ∷ card_of card_file_line ∷ card_of print_file_line ∷ card_of record_line ∷ card_of field_line ∷ card_of detail_line ∷ card_of put_line
    ∷ card_of (codes "/*") ∷ card_of (codes "/&")
    ∷ card_of (codes "// LOAD LIST,F1") ∷ card_of (codes "// RUN")
    ∷ card_of (codes "ABC") ∷ card_of (codes "DEF")
    ∷ card_of (codes "/*") ∷ card_of (codes "/&") ∷ []

-- a header with no regions, and no sectors: none of these jobs has a file
abbrev pub bare_header : Header
bare_header =
    record {
      format = Second;
      masters = record { start = 168; sectors = 0 };
      level_one = record { start = 168; sectors = 0 };
      level_two = record { start = 168; sectors = 0 };
      total = 168;
      quota_one = 64;
      quota_two = 64;
    }

-- the world of level 1 with this deck, before its first entry
abbrev pub at_first : List (List ℕ) → World
at_first deck = at_start One bare_header [] deck

-- the world after so many turns
abbrev pub after_turns : ℕ → World
after_turns n = solo (at_first lister_deck) (replicate n Turn)

-- a line of the lister
abbrev pub listed : (line : ℕ) → List ℕ → Printed
listed line text = record { page = 1; line = line; text = text ++ replicate (132 - length text) 0x40 }

-- ABC on line 1
abbrev pub first_line : Printed
first_line = listed 1 (0xc1 ∷ 0xc2 ∷ 0xc3 ∷ [])

-- ABC on line 1 and DEF on line 2
abbrev pub listing : List Printed
listing = first_line ∷ listed 2 (0xc4 ∷ 0xc5 ∷ 0xc6 ∷ []) ∷ []

-- a job that sets date and switches, for a program that isn't in the library
abbrev pub settings_deck : List (List ℕ)
settings_deck =
    card_of (codes "// LOAD NONE,F1") ∷ card_of (codes "// DATE 06/15/76") ∷ card_of (codes "// SWITCH 1XX0XXX1") ∷ card_of (codes "// RUN")
    ∷ card_of (codes "/&") ∷ []

-- the same job without RUN
abbrev pub faulty_deck : List (List ℕ)
faulty_deck =
    card_of (codes "// LOAD NONE,F1") ∷ card_of (codes "// DATE 06/15/76") ∷ card_of (codes "// SWITCH 1XX0XXX1")
    ∷ card_of (codes "/&") ∷ []

-- two jobs of a program that isn't in the library
abbrev pub two_jobs_deck : List (List ℕ)
two_jobs_deck = settings_deck ++ settings_deck

-- the world after one turn
abbrev pub at_halt : List (List ℕ) → World
at_halt deck = (step_of (at_first deck) Turn).world

-- the world after a reply to the halt that was shown
abbrev pub passed_over : List (List ℕ) → (digit : ℕ) → World
passed_over deck digit = (step_of (at_halt deck) (Reply digit)).world

-- a halt without details
abbrev pub halted : (job : ℕ) → HaltCode → (reply : Option ℕ) → ShownHalt
halted job code reply = record { job = job; code = code; details = []; reply = reply }
