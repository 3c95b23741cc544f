-- Which records of a file are chosen: those of a type.
use Rattle.std.specs.Prelude.{◌≡◌, ℕ, ◌-◌, Bool, true, false, List, [], filter, find, slice_index, Option, Some, None, option_map}
use Rattle.std.specs.List.{Contains, list_all}
use Rattle.s3_lines.specs.Indicators.{same_indicator}
use Rattle.s3_lines.specs.declared.indicator.Indicator.{Indicator}
use Rattle.s3_lines.specs.declared.sheet.RecordCode.{RecordCode}
use Rattle.s3_meaning.specs.Selection.{code_holds}
use Rattle.s3_record_types.specs.declared.chosen.ChosenRecords.{ChosenRecords}
use Rattle.s3_record_types.specs.declared.chosen.ChosenRecords.TheVariants.{All, OfType}
use Rattle.s3_record_types.specs.declared.chosen.TypeFault.{TypeFault}
use Rattle.s3_record_types.specs.declared.chosen.TypeFault.TheVariants.{Code, Earlier, NoType}
use Rattle.s3_record_types.specs.declared.kind.RecordKind.{RecordKind}

-- a record has all codes of a type
abbrev pub has_codes : List ℕ → RecordKind → Bool
has_codes bytes kind = list_all (code_holds bytes) kind.codes.items

-- the indicator of the first type all of whose codes a record has
abbrev pub type_in : List RecordKind → List ℕ → Option Indicator
type_in kinds bytes = option_map (λ (kind : RecordKind). kind.indicator) (find (has_codes bytes) kinds)

abbrev pub is_found : Indicator → Option Indicator → Bool
is_found indicator (Some found) = same_indicator indicator found
is_found indicator None = false

-- a record is of the type of an indicator
abbrev pub is_of : Indicator → List RecordKind → List ℕ → Bool
is_of indicator kinds bytes = is_found indicator (type_in kinds bytes)

abbrev pub is_chosen : ChosenRecords → List ℕ → Bool
is_chosen All bytes = true
is_chosen (OfType indicator kinds) bytes = is_of indicator kinds.items bytes

-- of these records those that are chosen
abbrev pub chosen_of : ChosenRecords → List (List ℕ) → List (List ℕ)
chosen_of chosen records = filter (is_chosen chosen) records

-- ---- the codes of a type
abbrev pub is_kind : Indicator → RecordKind → Bool
is_kind indicator kind = same_indicator indicator kind.indicator

abbrev pub codes_in : Option RecordKind → List RecordCode
codes_in (Some kind) = kind.codes.items
codes_in None = []

-- the codes of the first type of an indicator
abbrev pub codes_named : Indicator → List RecordKind → List RecordCode
codes_named indicator kinds = codes_in (find (is_kind indicator) kinds)

abbrev pub has_codes_named : Indicator → List RecordKind → List ℕ → Bool
has_codes_named indicator kinds bytes = list_all (code_holds bytes) (codes_named indicator kinds)

-- the codes of the type that is chosen
abbrev pub codes_of : ChosenRecords → List RecordCode
codes_of All = []
codes_of (OfType indicator kinds) = codes_named indicator kinds.items

-- ---- why a record isn't of a type
-- it hasn't a code of these
pub record LacksCode (codes : List RecordCode) (bytes : List ℕ) (code : RecordCode) : Type 0 where
  pub listed : Contains codes code
  pub lacks : code_holds bytes code ≡ false

-- Why a record isn't of the type of an indicator: it lacks a code of that type; or it has them all, and is of another type, or the
-- type isn't there.
abbrev pub IsFaultOf : Indicator → List RecordKind → List ℕ → TypeFault → Type 0
IsFaultOf indicator kinds bytes (Code code byte) = (is_of indicator kinds bytes ≡ false) × LacksCode (codes_named indicator kinds) bytes code × (byte ≡ slice_index bytes (code.position - 1))
IsFaultOf indicator kinds bytes (Earlier other) = (is_of indicator kinds bytes ≡ false) × (has_codes_named indicator kinds bytes ≡ true) × (type_in kinds bytes ≡ Some other)
IsFaultOf indicator kinds bytes NoType = (is_of indicator kinds bytes ≡ false) × (has_codes_named indicator kinds bytes ≡ true) × (type_in kinds bytes ≡ None)

abbrev pub IsFaultIn : ChosenRecords → List ℕ → TypeFault → Type 0
IsFaultIn All bytes fault = ⊥
IsFaultIn (OfType indicator kinds) bytes fault = IsFaultOf indicator kinds.items bytes fault
