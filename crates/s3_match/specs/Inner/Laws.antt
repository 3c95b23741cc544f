-- Definitions for the theorems on selection: heads that may be selected, the first of the least ones, and heads with or without a key.
use Rattle.std.specs.Prelude.{ℕ, ◌≡◌, Bool, true, false, not, is_some, List, ◌∷◌, ◌++◌, Option, Some, filter_map, slice_get}
use Rattle.std.specs.Option.{option_and_then}
use Rattle.std.specs.List.{All, Any}
use Rattle.s3_lines.specs.declared.sheet.Designation.TheVariants.{Secondary}
use Rattle.s3_meaning.specs.Source.{is_designated}
use Rattle.s3_meaning.specs.Selection.{Reading, Selected, selectable, key_of, is_less, same_key}

abbrev pub heads_of : Reading → List Selected
heads_of reading = filter_map selectable reading.files

-- the head of the file at this place
abbrev pub stands_at : Reading → (place : ℕ) → Option Selected
stands_at reading place = option_and_then selectable (slice_get reading.files place)

-- every head before the selected one has a higher key
pub record IsFirstLeast (heads : List Selected) (selected : Selected) : Type 0 where
  pub before : List Selected
  pub behind : List Selected
  pub stands : heads ≡ before ++ selected ∷ behind
  pub higher : All (λ head. is_less (key_of selected) (key_of head) ≡ true) before

-- the head has a key, and the other key is the same
abbrev pub HasKey : Selected → Option (List ℕ) → Type 0
HasKey selected other = (key : List ℕ) × (key_of selected ≡ Some key) × (other ≡ Some key)

abbrev pub IsMatchedBySecondary : Reading → Selected → Type 0
IsMatchedBySecondary reading selected = Any (λ other. (is_designated Secondary other.file ≡ true) × HasKey other (key_of selected)) (heads_of reading)

-- the first head that meets a test
pub record IsFirst (test : Selected → Bool) (heads : List Selected) (selected : Selected) : Type 0 where
  pub before : List Selected
  pub behind : List Selected
  pub stands : heads ≡ before ++ selected ∷ behind
  pub holds : test selected ≡ true
  pub none_before : All (λ head. test head ≡ false) before

abbrev pub has_no_key : Selected → Bool
has_no_key selected = not (is_some (key_of selected))

abbrev pub has_last_key : Reading → Selected → Bool
has_last_key reading selected = same_key (key_of selected) reading.primary_key
