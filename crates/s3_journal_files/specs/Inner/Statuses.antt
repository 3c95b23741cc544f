-- The exit status of a refusal by the journal.
use Rattle.std.specs.Prelude.{ℕ}
use Rattle.s3_host_files.specs.declared.streams.StandardStream.{StandardStream}
use Rattle.s3_host_files.specs.declared.streams.StandardStream.TheVariants.{Input, Output, Error}
use Rattle.s3_journal_files.specs.declared.refusal.JournalRefusal.{JournalRefusal}
use Rattle.s3_journal_files.specs.declared.refusal.JournalRefusal.TheVariants.{NoMemory, Call, TooLarge, InUse, NoJournal, Same, Stream, Malformed, Unwritten, Old, Changed, Posted}

-- a file that is also standard error fails; another stream is refused
abbrev pub status_of_stream : StandardStream → ℕ
status_of_stream Input = 1
status_of_stream Output = 1
status_of_stream Error = 3

-- 3: the file failed; 1: it is refused
abbrev pub status_of : JournalRefusal → ℕ
status_of NoMemory = 1
status_of (Call name error) = 3
status_of (TooLarge name) = 3
status_of (InUse name) = 1
status_of (NoJournal name) = 3
status_of (Same name) = 1
status_of (Stream name stream) = status_of_stream stream
status_of Malformed = 1
status_of (Unwritten name) = 3
status_of (Old name) = 1
status_of (Changed name) = 1
status_of Posted = 1
