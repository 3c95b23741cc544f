-- Record identification codes that are put into records.
use Rattle.std.specs.Prelude.{ℕ, ◌+◌, ◌-◌, ◌*◌, ◌/◌, ◌%◌, ◌==◌, ◌&&◌, nat_lt, not, List, length, slice_index, slice_set, if◌then◌else◌}
use Rattle.std.specs.List.{fold}
use Rattle.s3_cards.specs.declared.ebcdic.TheConstants.{BLANK}
use Rattle.s3_lines.specs.declared.sheet.CodePart.{CodePart}
use Rattle.s3_lines.specs.declared.sheet.CodePart.TheVariants.{Character, Zone, Digit}
use Rattle.s3_lines.specs.declared.sheet.RecordCode.{RecordCode}
use Rattle.s3_meaning.specs.Selection.{zone_of}

-- a byte with the zone or the digit of a character, or the character itself, which is a byte
abbrev pub merged : CodePart → (character byte : ℕ) → ℕ
merged Character character byte = character % 256
merged Zone character byte = zone_of character % 16 * 16 + byte % 16
merged Digit character byte = byte / 16 * 16 + character % 16

-- a byte that gets the part of a character; a blank becomes the character
abbrev pub byte_with : CodePart → (character byte : ℕ) → ℕ
byte_with part character byte = if byte == BLANK then character % 256 else merged part character byte

-- a record that gets a code; one that is negated, or lies outside of the record, changes nothing
abbrev pub with_code : List ℕ → RecordCode → List ℕ
with_code bytes code =
    if not code.negated && nat_lt (code.position - 1) (length bytes)
    then slice_set bytes (code.position - 1) (byte_with code.part code.character (slice_index bytes (code.position - 1)))
    else bytes

-- a record that gets codes, one after another
abbrev pub with_codes : List ℕ → List RecordCode → List ℕ
with_codes bytes codes = fold with_code bytes codes
