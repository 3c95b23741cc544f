-- How a new pack gets the name of a locked file, which files it may replace, and which files are leftovers of killed saves.
use Rattle.std.specs.Prelude.{ℕ, Bool, true, false, ◌||◌, ◌==◌, List, codes, length, Result, Ok, Err}
use Rattle.std.specs.List.{starts_with}
use Rattle.std.specs.Prelude.{nat_eq}
use Rattle.s3_host_files.specs.declared.naming.AtName.{AtName}
use Rattle.s3_host_files.specs.declared.naming.AtName.TheVariants.{Nothing, Locked, Other}
use Rattle.s3_host_files.specs.declared.naming.Naming.{Naming}
use Rattle.s3_host_files.specs.declared.naming.Naming.TheVariants.{Replaces, IsFirst}
use Rattle.s3_host_files.specs.declared.naming.Claim.{Claim}
use Rattle.s3_host_files.specs.declared.naming.Claim.TheVariants.{Read, SecondName, Locked as LockedFile, Free}
use Rattle.s3_host_files.specs.declared.naming.Hindrance.{Hindrance}
use Rattle.s3_host_files.specs.declared.naming.Hindrance.TheVariants.{Moved, Protected, Changed}

-- what has the name; whether the locked file may be written; whether its contents are those of the time of the lock
abbrev pub naming_of : AtName → Bool → Bool → Result Naming Hindrance
naming_of Nothing _ _ = Ok IsFirst
naming_of Other _ _ = Err Moved
naming_of Locked false _ = Err Protected
naming_of Locked true false = Err Changed
naming_of Locked true true = Ok Replaces

-- who has the file; whether it is empty or begins as a pack
abbrev pub is_leftover : Claim → Bool → Bool
is_leftover Read _ = false
is_leftover SecondName _ = true
is_leftover LockedFile _ = false
is_leftover Free begins = begins

-- why the file isn't replaced: the end of a sentence that begins with its name
abbrev pub words_of_hindrance : Hindrance → List ℕ
words_of_hindrance Moved = codes "is another file by now, which another program has put there, and stays as it is; repeat the command over that file, or give another name"
words_of_hindrance Protected = codes "is protected by its mode or by an attribute; its owner can allow reading and writing by `chmod` or `chattr`, or give another name"
words_of_hindrance Changed = codes "was changed by another program while this command worked, and stays as it is; repeat the command over the changed file, or give another name"

-- the bytes begin with a mark, or are the beginning of it
abbrev pub is_begun : List ℕ → List ℕ → Bool
is_begun mark bytes = starts_with nat_eq bytes mark || starts_with nat_eq mark bytes

-- an empty file, or a pack of either format
abbrev pub is_replaceable : List ℕ → Bool
is_replaceable bytes = (length bytes == 0) || (starts_with nat_eq bytes (codes "S3PACK01") || starts_with nat_eq bytes (codes "S3PACK02"))

-- a pack of either format, or what a killed save leaves of one
abbrev pub can_begin_pack : List ℕ → Bool
can_begin_pack bytes = is_begun (codes "S3PACK01") bytes || is_begun (codes "S3PACK02") bytes
