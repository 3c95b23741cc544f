-- Packs by their first bytes and by what is wrong with their headers.
use Rattle.std.specs.Prelude.{ℕ, List, Bool, ◌||◌, codes, if◌then◌else◌}
use Rattle.s3_slots.specs.Header.{begins_with}
use Rattle.s3_slots.specs.declared.header.MountFault.{MountFault}
use Rattle.s3_slots.specs.declared.header.MountFault.TheVariants.{BadHeader, BadRegions, Short}

-- as a pack of any format does
abbrev pub begins_as_pack : List ℕ → Bool
begins_as_pack bytes = begins_with (codes "S3PACK") bytes

-- as a pack of one of the two formats does
abbrev pub has_format : List ℕ → Bool
has_format bytes = begins_with (codes "S3PACK01") bytes || begins_with (codes "S3PACK02") bytes

-- why a file is no pack, by its first bytes: the end of a sentence that begins with its name; none of one that begins as a pack does
abbrev pub words_of_beginning : List ℕ → List ℕ
words_of_beginning bytes =
    if has_format bytes then codes ""
    else (if begins_as_pack bytes then codes "is a pack of another version: it begins with S3PACK, but not with S3PACK01 or S3PACK02; use the program that made it, or take a copy that is whole"
    else codes "is no pack: it doesn't begin with S3PACK; give the file of a pack, as `bureau init` makes it")

abbrev pub words_of_pack : MountFault → List ℕ
words_of_pack BadHeader = codes "it doesn't begin as a pack does, or its quotas are those of no pack"
words_of_pack BadRegions = codes "its regions aren't whole tracks within it, or they meet"
words_of_pack Short = codes "it is no pack, or it isn't whole: it has fewer sectors than its header says, or than 168"
