-- The new file that a sound F line and a sound statement ask for is a proper one.
use Rattle.std.proofs.Common.{◌≡◌, ◌≤◌, ℕ, Bool, true, false, ◌&&◌, refl, ap, sym, ◌∙◌, subst}
use Rattle.std.proofs.lemmas.Bool.{leb-true}
use Rattle.std.specs.Prelude.{List, Option, Some, None, is_some, if◌then◌else◌}
use Rattle.s3_lines.specs.Inner.Ranges.{file_in_range, key_in_range}
use Rattle.s3_lines.specs.Ranges.{is_between, if_given, longest_record}
use Rattle.s3_lines.specs.declared.sheet.Device.{Device}
use Rattle.s3_lines.specs.declared.sheet.Device.TheVariants.{Disk, CardReader, Printer}
use Rattle.s3_lines.specs.declared.sheet.FileLine.{FileLine}
use Rattle.s3_lines.specs.declared.sheet.KeyField.{KeyField}
use Rattle.s3_lines.specs.Files.{is_disk, is_chained}
use Rattle.s3_ocl.specs.declared.contents.FileStatement.{FileStatement}
use Rattle.s3_ocl.specs.declared.contents.FileSize.{FileSize}
use Rattle.s3_ocl.specs.declared.contents.FileSize.TheVariants as Stated
use Rattle.s3_ocl.specs.Inner.Sound.{is_sound_file, is_size}
use Rattle.s3_slots.specs.Inner.Making.{IsNewFile, IsSize}
use Rattle.s3_slots.specs.Slots.{is_key_of}
use Rattle.s3_slots.specs.declared.making.Size.{Size}
use Rattle.s3_slots.specs.declared.label.Organization.{Organization}
use Rattle.s3_slots.specs.declared.label.Organization.TheVariants.{Sequential, Indexed, Direct}
use Rattle.s3_opening.specs.Asked.{key_length_of, key_start_of, size_of, new_file, organization_of}

pub both : (a b : Bool) → (a && b) ≡ true → (a ≡ true) × (b ≡ true)
both true b h = (refl, h)
both false b h = absurd cc

between : (low high n : ℕ) → is_between low high n ≡ true → (low ≤ n) × (n ≤ high)
between low high n h = let parts = both _ _ h in (leb-true low n parts.0, leb-true n high parts.1)

pub size_proper : (size : FileSize) → is_size size ≡ true → IsSize (size_of size)
size_proper (Stated.Records n) h = let parts = both _ _ h in (leb-true _ _ parts.0, leb-true _ _ parts.1)
size_proper (Stated.Tracks n) h = let parts = both _ _ h in (leb-true _ _ parts.0, leb-true _ _ parts.1)

pub few_tracks : (n : ℕ) → is_size (Stated.Tracks n) ≡ true → n ≤ 999
few_tracks n h = let parts = both _ _ h in leb-true _ _ parts.1

length_proper : (device : Device) (n : ℕ) → is_disk device ≡ true → is_between 1 (longest_record device) n ≡ true → (1 ≤ n) × (n ≤ 1024)
length_proper Disk n disk h = between 1 1024 n h
length_proper CardReader n disk h = absurd cc
length_proper Printer n disk h = absurd cc

abbrev keyless : Bool → Organization
keyless b = if b then Direct else Sequential

no_key : (b : Bool) (length : ℕ) → is_key_of (keyless b) length 0 0 ≡ true
no_key true length = refl
no_key false length = refl

key_proper : (key : Option KeyField) (chained : Bool) (length : ℕ) → if_given (key_in_range length) key ≡ true
    → is_key_of (if is_some key then Indexed else keyless chained) length (key_length_of key) (key_start_of key) ≡ true
key_proper None chained length h = no_key chained length
key_proper (Some key) chained length h = h

-- what the line and the statement say
pub proper_file : (date : List ℕ) (line : FileLine) (statement : FileStatement) → file_in_range line ≡ true → is_disk line.device ≡ true → is_sound_file statement ≡ true → IsNewFile (new_file date line statement)
unfolding new_file
proper_file date line statement ranged disk sound =
    let one = both _ _ ranged in
    let two = both _ _ one.0 in
    let three = both _ _ two.0 in
    let four = both _ _ three.0 in
    let five = both _ _ four.0 in
    let stated = both _ _ sound in
    record {
      named = (both _ _ stated.0).1;
      length = length_proper line.device line.record_length disk (both _ _ five.0).1;
      key = key_proper line.key (is_chained line.designation) line.record_length four.1;
      size = size_proper statement.size stated.1;
    }

-- built of equal parts it is one too
pub same_proper : (date : List ℕ) (line : FileLine) (statement : FileStatement) (organization : Organization) (key_length key_start : ℕ) (size : Size) → organization ≡ organization_of line
    → key_length ≡ key_length_of line.key → key_start ≡ key_start_of line.key → size ≡ size_of statement.size → IsNewFile (new_file date line statement)
    → IsNewFile (record {
      name = statement.label;
      organization = organization;
      retention = statement.retention;
      record_length = line.record_length;
      key_length = key_length;
      key_start = key_start;
      size = size;
      date = date;
    })
unfolding new_file
same_proper date line statement organization key_length key_start size a b c d is = record {
  named = is.named;
  length = is.length;
  key = ap (λ o. is_key_of o line.record_length key_length key_start) a ∙ ap (λ n. is_key_of (organization_of line) line.record_length n key_start) b
      ∙ ap (is_key_of (organization_of line) line.record_length (key_length_of line.key)) c ∙ is.key;
  size = subst IsSize (sym d) is.size;
}
