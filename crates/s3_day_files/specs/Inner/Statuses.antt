-- The exit status of a day that is refused, or that doesn't come to its end.
use Rattle.std.specs.Prelude.{ℕ}
use Rattle.s3_cli.specs.Inner.Faults.{status_of as status_of_cli}
use Rattle.s3_journal_files.specs.Inner.Statuses.{status_of as status_of_journal, status_of_stream}
use Rattle.s3_day_files.specs.declared.fault.DayFault.{DayFault}
use Rattle.s3_day_files.specs.declared.fault.DayFault.TheVariants.{Cli, Usage, Output, File, Call, TooLarge, PackAsDeck, NoPack, IsPack, NewOverPack, Device, FolderClosed, Hindered, Stream, Unsynced, InUse, Replies, Deck, Exists, NotReplaced, Closed, OtherPack, Same, Within, NotEmpty, HasPack, Keep, Restore, NoTakingUp, Redo, Journal}

-- 2: the options are wrong; 3: a file failed; 1: the day is refused
abbrev pub status_of : DayFault → ℕ
status_of (Cli fault) = status_of_cli fault
status_of (Usage reason) = 2
status_of (Output error) = 3
status_of (File name) = 3
status_of (Call name error) = 3
status_of (TooLarge name) = 3
status_of (PackAsDeck name) = 1
status_of (NoPack name) = 3
status_of (IsPack name) = 1
status_of (NewOverPack name) = 1
status_of (Device name) = 3
status_of (FolderClosed name) = 3
status_of (Hindered name hindrance) = 3
status_of (Stream name stream) = status_of_stream stream
status_of (Unsynced name) = 3
status_of (InUse name) = 1
status_of (Replies line) = 1
status_of (Deck level) = 1
status_of (Exists name) = 1
status_of (NotReplaced name kind) = 1
status_of (Closed name) = 1
status_of (OtherPack name) = 1
status_of (Same name) = 1
status_of (Within name) = 1
status_of (NotEmpty name) = 1
status_of (HasPack name) = 1
status_of (Keep name) = 1
status_of (Restore name) = 1
status_of NoTakingUp = 1
status_of Redo = 1
status_of (Journal refusal) = status_of_journal refusal
