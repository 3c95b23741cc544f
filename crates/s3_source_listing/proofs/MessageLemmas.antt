-- Steps of the loops over the diagnostics and the warnings of a source, and sources without diagnostics.
use Rattle.std.proofs.Common.{◌≡◌, ℕ, ◌+◌, ◌<◌, List, [], ◌∷◌, ◌++◌, Option, None, cond, length, map, take, get_or, refl, sym, ap, ◌∙◌, filter}
use Rattle.std.proofs.lemmas.List.{map_more}
use Rattle.std.proofs.lemmas.List.Sums.{fold_more}
use Rattle.std.specs.List.{fold}
use Rattle.s3_blame.specs.Inner.Columns.{span}
use Rattle.s3_blame.specs.Inner.Sources.{found_from, or_else}
use Rattle.s3_diagnose.specs.Diagnostics.{compile_diagnostics}
use Rattle.s3_lines.specs.declared.diagnostic.Diagnostic.{Diagnostic}
use Rattle.s3_sheets.specs.Lines.{lines_of}
use Rattle.s3_sheets.specs.Sheets.{sheet_diagnostics}
use Rattle.s3_sheets.specs.declared.parts.FaultyEntry.{FaultyEntry}
use Rattle.s3_warnings.specs.declared.kinds.Warning.{Warning}
use Rattle.s3_source_listing.specs.Inner.Messages.{diagnosed, error_of, errors_by_card, errors_of, first_of, unmarked, with_warning}
use Rattle.s3_source_listing.specs.Inner.Notes.{is_on}
use Rattle.s3_source_listing.specs.declared.messages.ErrorMessage.{ErrorMessage}
use Rattle.s3_source_listing.specs.declared.messages.RunCard.{RunCard}
use Rattle.s3_source_listing.proofs.NoteLemmas.{narrowed}

-- the message of a diagnostic is the same with the entries of its card alone
pub narrowed_error : (run : RunCard) (entries : List FaultyEntry) (found : Diagnostic)
    → error_of run (filter (is_on found.card) entries) found ≡ error_of run entries found
narrowed_error run entries found =
    ap (λ some. record { card = found.card; number = found.number; columns = first_of (unmarked run found.card) (map span some) }) (narrowed found.card found.number entries)

-- so the messages of diagnostics are the same with all entries
pub errors_with_all : (run : RunCard) (entries : List FaultyEntry) (entries_on : ℕ → List FaultyEntry) (found : List Diagnostic)
    → ((card : ℕ) → entries_on card ≡ filter (is_on card) entries)
    → errors_by_card run entries_on found ≡ errors_of run entries found
errors_with_all run entries entries_on [] same = refl
errors_with_all run entries entries_on (x ∷ found) same =
    ap (λ message. message ∷ errors_by_card run entries_on found) (ap (λ some. error_of run some x) (same x.card) ∙ narrowed_error run entries x)
    ∙ ap (λ more. error_of run entries x ∷ more) (errors_with_all run entries entries_on found same)

-- the messages so far, with one more
pub error_more : (run : RunCard) (entries_on : ℕ → List FaultyEntry) (of_card : List FaultyEntry) (found : List Diagnostic) (i : ℕ) (none : Diagnostic) (old new : List ErrorMessage) (message : ErrorMessage)
    → i < length found
    → of_card ≡ entries_on (get_or found i none).card
    → message ≡ error_of run of_card (get_or found i none)
    → new ≡ old ++ message ∷ []
    → old ≡ errors_by_card run entries_on (take i found) → new ≡ errors_by_card run entries_on (take (i + 1) found)
error_more run entries_on of_card found i none old new message within same is_error more so_far =
    more
    ∙ ap (λ front. front ++ message ∷ []) so_far
    ∙ ap (λ last. errors_by_card run entries_on (take i found) ++ last ∷ [])
    (is_error ∙ ap (λ some. error_of run some (get_or found i none)) same)
    ∙ sym (map_more (λ (diagnostic : Diagnostic). error_of run (entries_on diagnostic.card) diagnostic) found i none within)

-- the messages of the same entries and diagnostics are the same
pub same_errors : (run : RunCard) (entries all : List FaultyEntry) (found told : List Diagnostic) (messages : List ErrorMessage)
    → messages ≡ errors_of run entries found → entries ≡ all → found ≡ told → messages ≡ errors_of run all told
same_errors run entries all found told messages is_errors same_entries same_found =
    is_errors ∙ ap (λ some. errors_of run some found) same_entries ∙ ap (errors_of run all) same_found

-- the diagnostics of messages are those that the messages are of
pub diagnosed_all : (run : RunCard) (entries : List FaultyEntry) (found : List Diagnostic) → map diagnosed (errors_of run entries found) ≡ found
diagnosed_all run entries [] = refl
diagnosed_all run entries (x ∷ found) = ap (λ more. x ∷ more) (diagnosed_all run entries found)

pub warning_more : (warnings : List Warning) (i : ℕ) (none : Warning) → i < length warnings
    → fold with_warning (None, []) (take (i + 1) warnings) ≡ with_warning (fold with_warning (None, []) (take i warnings)) (get_or warnings i none)
warning_more warnings i none within = fold_more with_warning (None, []) warnings i none within

-- a source without diagnostics has none of single cards
none_of_cards : (found more : List Diagnostic) → or_else found more ≡ [] → found ≡ []
none_of_cards [] more none = refl
none_of_cards (x ∷ found) more none = absurd (let e : x ∷ found ≡ [] = none in cc)

pub no_card_at_fault : (from run_card : ℕ) (cards : List (List ℕ)) → found_from from run_card cards ≡ [] → sheet_diagnostics from cards ≡ []
no_card_at_fault from run_card cards none = none_of_cards (sheet_diagnostics from cards) (compile_diagnostics run_card (lines_of from cards)) none
