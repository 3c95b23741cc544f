-- Entries of a card that are marked for a kind of warning.
use Rattle.std.specs.Prelude.{ℕ, Bool, List, [], ◌∷◌, Option, Some, None, if◌then◌else◌}
use Rattle.s3_warnings.specs.declared.entries.IndicatorEntry.{IndicatorEntry}
use Rattle.s3_warnings.specs.declared.kinds.Warning.{Warning}
use Rattle.s3_warnings.specs.declared.kinds.WarningKind.{WarningKind}

abbrev pub warning : WarningKind → (card from to : ℕ) → Warning
warning kind card from to = record { kind = kind; card = card; from = from; to = to }

-- if what is warned of holds
abbrev pub warned_if : Bool → Warning → List Warning
warned_if holds found = if holds then found ∷ [] else []

-- an entry of which a test holds
abbrev pub warned : WarningKind → (card : ℕ) → (IndicatorEntry → Bool) → Option IndicatorEntry → Option Warning
warned kind card test None = None
warned kind card test (Some entry) = if test entry then Some (warning kind card entry.from entry.to) else None
