-- The script as it is written during a day.
use Rattle.std.specs.Prelude.{◌≡◌, ◌++◌, ℕ, ◌-◌, ◌^◌, min, Bool, true, false, List, length, drop, slice_range, Option, None, Some, is_some, ⊤}
use Rattle.std.specs.List.{list_all, list_any}
use Rattle.std.specs.Option.{option_and_then, ForNone, ForSome}
use Rattle.std.specs.Io.KnownBytes.{Appends}
use Rattle.s3_solo.specs.declared.action.Action.{Action}
use Rattle.s3_solo.specs.declared.action.Action.TheVariants.{Reply}
use Rattle.s3_bureau.specs.declared.entry.Entry.{Entry}
use Rattle.s3_replay.specs.declared.performed.Repeated.{Repeated}
use Rattle.s3_replay.specs.Inner.Written.{entries_in, is_part_writable, text_of}

-- the bytes end with this text
abbrev pub EndsWith : (bytes text : List ℕ) → Type 0
EndsWith bytes text = drop (length bytes - length text) bytes ≡ text

-- the bytes of each writer are known, as they are for a writer in memory
abbrev pub AreKnown : {F : Type 0} → (contents : F → Option (List ℕ)) → Type 0
AreKnown {F} contents = (file : F) → is_some (contents file) ≡ true

-- unless a write has failed, the bytes of a file, if known, end with the script of these parts
abbrev pub IsOnTape : {F E : Type 0} → (contents : F → Option (List ℕ)) → Option F → (failure : Option E) → List Repeated → Type 0
IsOnTape contents file failure parts = AreKnown contents → ForNone failure (ForSome (option_and_then contents file) (λ known. EndsWith known (text_of parts)))

-- What a file began with: unless a write has failed, the file has exactly these bytes and then the script of the written parts.
abbrev pub BeganWith : {F E : Type 0} → (contents : F → Option (List ℕ)) → Option F → (failure : Option E) → List Repeated → (first : List ℕ) → Type 0
BeganWith contents file failure parts first = ForNone failure (ForSome file (λ of. contents of ≡ Some (first ++ text_of parts)))

-- the file still begins with the bytes that it began with
pub record KeepsFirst {F E : Type 0} (contents : F → Option (List ℕ)) (old new : Option F) (failure after : Option E) (before parts : List Repeated) : Type 0 where
  pub keeps : (first : List ℕ) → BeganWith contents old failure before first → BeganWith contents new after parts first

-- Parts are added to a script. Unless a write has failed, the file, if its bytes are known, gets exactly the text of these parts.
pub record Tapes {F E : Type 0} (contents : F → Option (List ℕ)) (old new : Option F) (failure : Option E) (before after : List Repeated) : Type 0 where
  pub more : List Repeated
  pub written : after ≡ before ++ more
  pub appended : is_some failure ≡ false → Appends (option_and_then contents old) (option_and_then contents new) (text_of more)

-- unless a write has failed, the known bytes of a file are those that it began with, and then a text
abbrev pub HasText : (Began : List ℕ → Type 0) → (now : Option (List ℕ)) → (has_failed : Bool) → (text : List ℕ) → Type 0
HasText Began now true text = ⊤
HasText Began None false text = ⊤
HasText Began (Some bytes) false text = (first : List ℕ) × Began first × (bytes ≡ first ++ text)

-- unless a write has failed, the known bytes of a file are those that it began with, and then the script of these entries
pub record HasScript (Began : List ℕ → Type 0) (now : Option (List ℕ)) (has_failed : Bool) (entries : List Entry) : Type 0 where
  pub parts : List Repeated
  pub are_writable : list_all is_part_writable parts ≡ true
  pub ask : entries_in parts ≡ entries
  pub written : HasText Began now has_failed (text_of parts)

-- the number of bytes of a script, up to what a counter of 64 bits holds
abbrev pub counted_bytes : List Repeated → ℕ
counted_bytes parts = min (length (text_of parts)) (2 ^ 64 - 1)

-- ---- replies that aren't written
abbrev pub is_reply : Action → Bool
is_reply (Reply digit) = true
is_reply _ = false

abbrev pub is_reply_part : Repeated → Bool
is_reply_part part = is_reply part.entry.action

-- the first so many parts have no reply, except those that are written
abbrev pub AreRepliesWritten : (written : List Repeated) → ℕ → (parts : List Repeated) → Type 0
AreRepliesWritten written n parts = list_any is_reply_part (slice_range parts (length written) n) ≡ false
