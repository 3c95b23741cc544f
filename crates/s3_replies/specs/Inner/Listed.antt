-- What a list of replies gives next, line by line.
use Rattle.std.specs.Prelude.{◌≡◌, ◌<◌, ℕ, ◌==◌, List, [], ◌∷◌, Bool, true, false, Option, None, Some, take, ⊤}
use Rattle.std.specs.List.{after_first, before_first, position_or_len}
use Rattle.std.specs.Io.KnownBytes.{Consumes, IsAtEnd}
use Rattle.s3_replies.specs.declared.typed.Typed.{Typed}
use Rattle.s3_replies.specs.declared.listed.Listed.{Listed}
use Rattle.s3_replies.specs.declared.listed.Listed.TheVariants.{Line, Ended, Failed, TooLong}
use Rattle.s3_replies.specs.declared.listed.OneByte.{OneByte}
use Rattle.s3_replies.specs.declared.listed.OneByte.TheVariants.{Byte, NoByte, NotRead}
use Rattle.s3_replies.specs.Inner.Typed.{typed_of}

abbrev pub is_line_end : ℕ → Bool
is_line_end byte = byte == 10

-- what the first line says, by its first 80 bytes; the last line may have no end
abbrev pub next_said : List ℕ → Option Typed
next_said [] = None
next_said (byte ∷ bytes) = Some (typed_of (take 80 (before_first is_line_end (byte ∷ bytes))))

-- the list after its first line
abbrev pub after_line : List ℕ → List ℕ
after_line bytes = after_first is_line_end bytes

-- the most bytes of a line that are read
abbrev pub most : ℕ
most = 4194304

-- the known bytes of a list are read up to the end of their first line, which says this; or there are none, or a read failed, or the line
-- has more bytes than are read
abbrev pub GivesNext : (old new : Option (List ℕ)) → Listed → Type 0
GivesNext None new next = ⊤
GivesNext (Some bytes) None (Line typed) = ⊥
GivesNext (Some bytes) (Some rest) (Line typed) = (next_said bytes ≡ Some typed) × (rest ≡ after_line bytes)
GivesNext (Some bytes) None Ended = ⊥
GivesNext (Some bytes) (Some rest) Ended = (next_said bytes ≡ None) × (rest ≡ [])
GivesNext (Some bytes) None Failed = ⊤
GivesNext (Some bytes) (Some rest) Failed = ⊤
GivesNext (Some bytes) None TooLong = ⊥
GivesNext (Some bytes) (Some rest) TooLong = most < position_or_len is_line_end bytes

-- one byte is read, or there is none, or the read failed
abbrev pub ReadsByte : (old new : Option (List ℕ)) → OneByte → Type 0
ReadsByte old new (Byte byte) = Consumes old new (byte ∷ [])
ReadsByte old new NoByte = Consumes old new [] × IsAtEnd new
ReadsByte old new NotRead = ⊤

-- where a list ends, the line that was begun is one
abbrev pub last_of : (is_begun : Bool) → (line : List ℕ) → Listed
last_of true line = Line (typed_of line)
last_of false line = Ended
