-- A dump as it is written: the lines so far, and the zeros after them, stand for the first bytes of the pack.
use Rattle.std.specs.Prelude.{◌≡◌, ◌≤◌, ◌<◌, ◌+◌, ◌^◌, ◌&&◌, ◌++◌, ℕ, Bool, List, length, nat_le, replicate, take, Some}
use Rattle.std.specs.List.{fold}
use Rattle.s3_dump.specs.Inner.Dumps.{begun, most_number, moved_on, no_numbers, step, with_number}
use Rattle.s3_dump.specs.Inner.Indexes.{index_of}
use Rattle.s3_dump.specs.declared.index.IndexLine.{IndexLine}
use Rattle.s3_dump.specs.declared.reading.Mode.{Mode}
use Rattle.s3_dump.specs.declared.reading.Mode.TheVariants.{Index, Start}
use Rattle.s3_dump.specs.declared.writing.Writer.{Writer}

-- a text is read as these bytes, and its next character belongs there
abbrev pub reads : List ℕ → Mode → List ℕ → Type 0
reads text mode bytes = fold step (Some begun) text ≡ Some (record { mode = mode; bytes = bytes })

-- whole lines are added that stand for these bytes
abbrev pub AddsLines : (old new bytes : List ℕ) → Type 0
AddsLines old new bytes = (before : List ℕ) → reads old Start before → reads new Start (before ++ bytes)

-- the first number of an index is added, and a number after others
abbrev pub AddsFirst : ℕ → (old new : List ℕ) → Type 0
AddsFirst number old new = (before : List ℕ) → reads old Start before → reads new (Index 0 (with_number no_numbers number)) before

abbrev pub AddsNext : ℕ → (old new : List ℕ) → Type 0
AddsNext number old new = (blanks : ℕ) (line : IndexLine) (before : List ℕ) → blanks < 4 → reads old (Index blanks line) before → reads new (Index (blanks + 1) (with_number (moved_on line) number)) before

-- the line of an index is added, which stands for the index of the records that the lines before it end with
abbrev pub AddsIndex : IndexLine → (old new : List ℕ) → Type 0
AddsIndex line old new = (before index : List ℕ) → index_of line before ≡ Some index → reads old Start before → reads new Start (before ++ index)

-- no number is too high for a line
abbrev pub is_small : IndexLine → Bool
is_small line = nat_le line.count most_number && nat_le line.record_length most_number && nat_le line.sectors most_number && nat_le line.key_start most_number && nat_le line.key_length most_number

-- so many bytes at a place of a pack are the index of the records before it
pub record IsIndexOf (pack : List ℕ) (place : ℕ) (line : IndexLine) (long : ℕ) : Type 0 where
  pub index : List ℕ
  pub is : index_of line (take place pack) ≡ Some index
  pub there : take (place + long) pack ≡ take place pack ++ index
  pub within : place + long ≤ length pack
  pub short : length pack < 2 ^ 64

-- .. if the place is in the pack
abbrev pub IsIndexAt : (pack : List ℕ) (place : ℕ) → IndexLine → (long : ℕ) → Type 0
IsIndexAt pack place line long = place ≤ length pack → IsIndexOf pack place line long

-- lines, and so many zeros after them, stand for these bytes
pub record StandsFor (text : List ℕ) (zeros : ℕ) (bytes : List ℕ) : Type 0 where
  pub before : List ℕ
  pub lines : reads text Start before
  pub all : before ++ replicate zeros 0 ≡ bytes

-- the writer is at a place of the pack, and what it has written stands for the bytes before
pub record IsUpTo (pack : List ℕ) (writer : Writer) : Type 0 where
  pub of_pack : writer.pack.now ≡ pack
  pub within : writer.place ≤ length pack
  pub stands : StandsFor writer.text.items writer.zeros (take writer.place pack)

-- whatever pack it was a dump of so far, it still is
abbrev pub Keeps : (old new : Writer) → Type 0
Keeps old new = (pack : List ℕ) → IsUpTo pack old → IsUpTo pack new

-- bytes are added, at the same place of the pack
pub record AddsBytes (old new : Writer) (bytes : List ℕ) : Type 0 where
  pub of_pack : new.pack.now ≡ old.pack.now
  pub place : new.place ≡ old.place
  pub stands : (before : List ℕ) → length before + length bytes < 2 ^ 64 → StandsFor old.text.items old.zeros before → StandsFor new.text.items new.zeros (before ++ bytes)
