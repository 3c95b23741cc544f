-- The messages of a source: one for each diagnostic, and one for each kind of warning of a card.
use Rattle.std.specs.Prelude.{ℕ, nat_lt, ◌==◌, ◌&&◌, Bool, false, List, [], ◌∷◌, ◌++◌, Option, Some, None, map, if◌then◌else◌}
use Rattle.std.specs.List.{fold}
use Rattle.s3_blame.specs.Inner.Columns.{columns_of}
use Rattle.s3_decks.specs.declared.ruled.Columns.{Columns}
use Rattle.s3_lines.specs.declared.diagnostic.Diagnostic.{Diagnostic}
use Rattle.s3_sheets.specs.declared.parts.FaultyEntry.{FaultyEntry}
use Rattle.s3_warnings.specs.declared.kinds.Warning.{Warning}
use Rattle.s3_warnings.specs.Inner.Words.{number_of}
use Rattle.s3_source_listing.specs.declared.messages.ErrorMessage.{ErrorMessage}
use Rattle.s3_source_listing.specs.declared.messages.RunCard.{RunCard}
use Rattle.s3_source_listing.specs.declared.messages.WarningMessage.{WarningMessage}

-- the one of two entries that begins first
abbrev pub earlier : Columns → Columns → Columns
earlier best other = if nat_lt other.from best.from then other else best

-- the entry that begins first; the other columns if there is none
abbrev pub first_of : (otherwise : Columns) → List Columns → Columns
first_of otherwise [] = otherwise
first_of otherwise (columns ∷ more) = fold earlier columns more

-- what is shown of a diagnostic that marks no entry: the keyword of the RUN card, of any other card its first column
abbrev pub unmarked : RunCard → (card : ℕ) → Columns
unmarked run card = if card == run.number then run.keyword else record { from = 1; to = 1 }

-- the message of a diagnostic, with the entries at fault
abbrev pub error_of : RunCard → List FaultyEntry → Diagnostic → ErrorMessage
error_of run entries found = record {
  card = found.card;
  number = found.number;
  columns = first_of (unmarked run found.card) (columns_of found entries);
}

abbrev pub errors_of : RunCard → List FaultyEntry → List Diagnostic → List ErrorMessage
errors_of run entries found = map (error_of run entries) found

-- the messages of diagnostics, each with the entries of its card
abbrev pub errors_by_card : RunCard → (entries_on : ℕ → List FaultyEntry) → List Diagnostic → List ErrorMessage
errors_by_card run entries_on found = map (λ (diagnostic : Diagnostic). error_of run (entries_on diagnostic.card) diagnostic) found

-- the diagnostic of a message
abbrev pub diagnosed : ErrorMessage → Diagnostic
diagnosed message = record { card = message.card; number = message.number }

-- whether a warning is of the same card and kind as the one before it, if there is one
abbrev pub repeats : Option Warning → Warning → Bool
repeats None warning = false
repeats (Some last) warning = last.card == warning.card && number_of last.kind == number_of warning.kind

abbrev pub warning_of : Warning → WarningMessage
warning_of warning = record { card = warning.card; kind = warning.kind; columns = record { from = warning.from; to = warning.to } }

-- the last warning and the messages, with one warning more
abbrev pub with_warning : Option Warning × List WarningMessage → Warning → Option Warning × List WarningMessage
with_warning so_far warning = (Some warning, so_far.1 ++ (if repeats so_far.0 warning then [] else warning_of warning ∷ []))

-- each warning but those that repeat the one before
abbrev pub warnings_of : List Warning → List WarningMessage
warnings_of warnings = (fold with_warning (None, []) warnings).1
