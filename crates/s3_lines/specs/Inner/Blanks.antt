-- Entries that are blank.
use Rattle.std.specs.Prelude.{List, [], ◌∷◌, Option, None}
use Rattle.s3_lines.specs.declared.sheet.Spacing.{Spacing}

abbrev pub none_of_three : {X : Type 0} → List (Option X)
none_of_three = None ∷ None ∷ None ∷ []

abbrev pub no_spacing : Spacing
no_spacing = record { space_before = None; space_after = None; skip_before = None; skip_after = None }
