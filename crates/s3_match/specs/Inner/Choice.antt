-- The heads from which selection chooses.
use Rattle.std.specs.Prelude.{ℕ, ◌≡◌, ◌<◌, ◌&&◌, Bool, true, false, not, List, [], ◌∷◌, Option, Some, length, filter_map, option_map, slice_get, unwrap_or}
use Rattle.std.specs.Option.{option_and_then}
use Rattle.s3_lines.specs.declared.sheet.Designation.TheVariants as designation
use Rattle.s3_lines.specs.declared.sheet.FileLine.{FileLine}
use Rattle.s3_meaning.specs.Source.{is_designated}
use Rattle.s3_meaning.specs.Selection.{Selected, same_key, lesser}
use Rattle.s3_program.specs.declared.program.Program.{Program}
use Rattle.s3_match.specs.declared.choice.Group.{Group}
use Rattle.s3_match.specs.declared.choice.Group.TheVariants as group
use Rattle.s3_match.specs.declared.heads.InputFile.{InputFile}
use Rattle.s3_match.specs.Inner.Keys.{key_in}
use Rattle.s3_match.specs.Inner.Heads.{file_at, has_head}
use Rattle.s3_match.specs.Inner.Selecting.{selected_of, selected_at}

-- the heads, in F order
abbrev pub heads : Program → List InputFile → List Selected
heads program files = filter_map (selected_of program) files

-- the head at this place, if there is one
abbrev pub standing_at : Program → List InputFile → Option ℕ → Option Selected
standing_at program files place = option_and_then (selected_at program files) place

abbrev pub has_head_at : List InputFile → ℕ → Bool
has_head_at files place = unwrap_or (option_map has_head (slice_get files place)) false

pub record IsHeadAt (files : List InputFile) (place : ℕ) : Type 0 where
  pub within : place < length files
  pub head : has_head_at files place ≡ true

abbrev pub is_keyless : InputFile → Bool
is_keyless input = has_head input && not input.key.is_given

-- ---- the groups from which a head is chosen
abbrev pub in_group : Group → (last : Option (List ℕ)) → FileLine → (key : Option (List ℕ)) → Bool
in_group group.Primary last file key = is_designated designation.Primary file
in_group group.Secondary last file key = is_designated designation.Secondary file
in_group group.Matched last file key = same_key key last

abbrev pub is_in : Program → Group → (last : Option (List ℕ)) → InputFile → Bool
is_in program group last input = has_head input && in_group group last (file_at program input.file) (key_in input.key)

-- the least of these heads and of another one that comes after them
abbrev pub least_onto : List Selected → Option Selected → Option Selected
least_onto [] behind = behind
least_onto (selected ∷ others) behind = Some (lesser selected (least_onto others behind))

-- there is one file, and the record at its head has no match fields
abbrev pub is_keyless_alone : List InputFile → Bool
is_keyless_alone (input ∷ []) = is_keyless input
is_keyless_alone _ = false
