-- After which saves the file is the new pack.
use Rattle.std.specs.Prelude.{Bool, true, false, Result, Ok, Err}
use Rattle.s3_host_files.specs.declared.fault.FileFault.{FileFault}
use Rattle.s3_host_files.specs.declared.fault.FileFault.TheVariants.{InUse, Exists, NoPack, IsPack, Hindered, Stream, Talk, Call, Unsynced}

-- once the new file has its name, the pack is saved, also if its folder couldn't be brought to the disk
abbrev pub has_its_name : FileFault → Bool
has_its_name InUse = false
has_its_name Exists = false
has_its_name NoPack = false
has_its_name IsPack = false
has_its_name (Hindered hindrance) = false
has_its_name (Stream stream) = false
has_its_name (Talk stream) = false
has_its_name (Call error) = false
has_its_name (Unsynced error) = true

abbrev pub is_saved : Result (Unit {0}) FileFault → Bool
is_saved (Ok done) = true
is_saved (Err fault) = has_its_name fault
