-- Why a call on a file failed, by the kind of the failure.
use Rattle.std.specs.Prelude.{ℕ, List, codes}
use Rattle.std.specs.declared.io.ErrorKind.{ErrorKind}
use Rattle.std.specs.declared.io.ErrorKind.TheVariants.{NotFound, PermissionDenied, IsADirectory, NotADirectory, ReadOnlyFilesystem, StorageFull, QuotaExceeded, FileTooLarge, FilesystemLoop, InvalidFilename}

-- no words for a kind that needs the system's own
abbrev pub words_of_call : ErrorKind → List ℕ
words_of_call NotFound = codes "there is no such file or folder; check the name"
words_of_call PermissionDenied = codes "permission is denied, by it or by its folder; have the owner allow it, or use another file"
words_of_call IsADirectory = codes "it is a folder; give the name of a file"
words_of_call NotADirectory = codes "there is a file in place of a folder; check the name"
words_of_call ReadOnlyFilesystem = codes "its disk is read-only; use another one"
words_of_call StorageFull = codes "its disk is full; make space there, and try again"
words_of_call QuotaExceeded = codes "your share of its disk is full; make space there, and try again"
words_of_call FileTooLarge = codes "a file may not be so large here; raise the shell's limit (ulimit -f), and try again"
words_of_call FilesystemLoop = codes "its links lead in a circle, or there are too many; give the file's own name"
words_of_call InvalidFilename = codes "the name is too long, or has a byte that no name may have; give a name of at most 240 bytes"
words_of_call _ = codes ""
