-- Objects that are written, and the table of their places.
use Rattle.std.specs.Prelude.{◌≡◌, ℕ, ◌+◌, ◌^◌, ◌<◌, ◌≤◌, ◌⊎◌, List, ◌++◌, Option, Result, length, MatchResult}
use Rattle.std.specs.Io.KnownBytes.{Appends}
use Rattle.s3_cards.specs.Printed.{Printed}
use Rattle.s3_pages.specs.Inner.Pages.{pages_of}
use Rattle.s3_pages.specs.declared.fault.PaperFault.{PaperFault}
use Rattle.s3_pages.specs.declared.fault.PaperFault.TheVariants.{TooLong}
use Rattle.s3_pages.specs.Inner.Documents.{document_of}
use Rattle.s3_pages.specs.declared.form.FormLook.{FormLook}
use Rattle.s3_pages.specs.Inner.Objects.{joined, numbered, places}
use Rattle.s3_pages.specs.declared.size.PaperSize.{PaperSize}
use Rattle.s3_pages.specs.declared.object_table.Table.{Table}

-- the texts of objects that come after those of a table
abbrev pub texts_behind : Table → List (List ℕ) → List (List ℕ)
texts_behind table bodies = numbered (length table.starts.items + 1) bodies

-- where the file ends with them
abbrev pub end_behind : Table → List (List ℕ) → ℕ
end_behind table bodies = table.end + length (joined (texts_behind table bodies))

-- objects were written after those of a table, and it has their places
pub record Puts (bodies : List (List ℕ)) (old new : Table) (before after : Option (List ℕ)) : Type 0 where
  pub written : Appends before after (joined (texts_behind old bodies))
  pub starts : new.starts.items ≡ old.starts.items ++ places old.end (texts_behind old bodies)
  pub end : new.end ≡ end_behind old bodies

-- where a table has no more digits for a place
abbrev pub end_limit : ℕ
end_limit = 10 ^ 10

-- what comes of objects that are put after those of a table: they are too long only where it has no digits for their end
pub record Putting (bodies : List (List ℕ)) (old new : Table) (before after : Option (List ℕ)) (result : Result (Unit {0}) PaperFault) : Type 0 where
  pub comes : MatchResult result (λ _. Puts bodies old new before after) (λ fault. fault ≡ TooLong → end_limit ≤ end_behind old bodies)

-- a document has too many pages, or bytes
abbrev pub IsTooLong : PaperSize → List ℕ → FormLook → List Printed → Type 0
IsTooLong size title look lines = (4000000 < length (pages_of lines)) ⊎ (end_limit ≤ length (document_of size title look lines))
