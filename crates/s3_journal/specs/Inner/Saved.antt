-- Whether the pack of a line was saved.
use Rattle.std.specs.Prelude.{ℕ, List, Option, Some, None, if◌then◌else◌}
use Rattle.std.specs.Str.{bytes_eq as same}
use Rattle.s3_journal.specs.Inner.Posted.{Line}
use Rattle.s3_journal.specs.declared.saved.Saved.{Saved}
use Rattle.s3_journal.specs.declared.saved.Saved.TheVariants.{IsSaved, NotSaved, NotKnown}

-- .. by the pack over which the next command began, or which is there after the last line, if one is known: it is the new pack; or still
-- the old one; or another one, which shows nothing
abbrev pub saved_of : Line → (found : Option (List ℕ)) → Saved
saved_of line None = NotKnown
saved_of line (Some pack) =
    if same line.after pack then IsSaved
    else if same line.before pack then NotSaved
    else NotKnown
