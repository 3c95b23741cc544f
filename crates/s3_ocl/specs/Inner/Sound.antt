-- The ranges of the values in FILE and DATE statements.
use Rattle.std.specs.Prelude.{ℕ, Bool, true, ◌&&◌, nat_le, List, Option, Some, None}
use Rattle.std.specs.List.{list_all}
use Rattle.s3_cards.specs.declared.name.Name.{Name}
use Rattle.s3_ocl.specs.declared.contents.FileSize.{FileSize}
use Rattle.s3_ocl.specs.declared.contents.FileSize.TheVariants.{Records, Tracks}
use Rattle.s3_ocl.specs.declared.contents.FileStatement.{FileStatement}
use Rattle.s3_cards.specs.Names.{is_digit, is_name}

-- a name, padded with blanks
abbrev pub is_padded_name : Name → Bool
is_padded_name name = is_name name.codes

abbrev pub is_between : ℕ → ℕ → ℕ → Bool
is_between low high n = nat_le low n && nat_le n high

-- 1 to 999,999 records or 1 to 999 tracks
abbrev pub is_size : FileSize → Bool
is_size (Records n) = is_between 1 999999 n
is_size (Tracks n) = is_between 1 999 n

-- the file's name and label are names, and its size is in range
abbrev pub is_sound_file : FileStatement → Bool
is_sound_file file = is_padded_name file.name && is_padded_name file.label && is_size file.size

-- the date, if one is given, has only digits
abbrev pub is_sound_date : Option (List ℕ) → Bool
is_sound_date None = true
is_sound_date (Some digits) = list_all is_digit digits
