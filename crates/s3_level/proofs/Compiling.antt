-- A source without diagnostics goes into the library.
use Rattle.std.specs.Prelude.{Bool, true, false, if◌then◌else◌}
use Rattle.std.proofs.Common.{◌≡◌, ◌≢◌, ℕ, List, [], ◌∷◌, refl, sym, subst, Option, Some, None, Result, Ok, Err, OnOk}
use Rattle.s3_cards.specs.declared.name.Name.{Name}
use Rattle.s3_lines.specs.declared.sheet.Line.{Line}
use Rattle.s3_sheets.specs.Lines.{lines_of}
use Rattle.s3_sheets.specs.Sheets.{sheet_diagnostics}
use Rattle.s3_meaning.specs.Source.{Source, source_of}
use Rattle.s3_program.specs.declared.program.Program.{Program}
use Rattle.s3_program.specs.Inner.Stands.{Stands}
use Rattle.s3_program.specs.Inner.Translation.{StandsFor}
use Rattle.s3_diagnose.specs.Diagnostics.{compile_diagnostics}
use Rattle.s3_solo.specs.Serving.{compiled, compiled_data, details_of, first_else, halting, stocked}
use Rattle.s3_operator.specs.declared.halt_code.HaltCode.TheVariants.{FaultySource}
use Rattle.s3_lines.specs.declared.diagnostic.Diagnostic.{Diagnostic}
use Rattle.s3_level.specs.declared.job.OpenJob.{OpenJob}
use Rattle.s3_solo.specs.World.{World, JobAtWork}
use Rattle.s3_level.specs.Inner.Holds.{HoldsAtWork, Stocks, Becomes}

-- a source without diagnostics goes into the library, as the program that stands for its lines
pub stocked_source : {T E : Type 0} (result : Result T E) (number run_card : ℕ) (lines : List Line) (program : Program) (old new : World → Type 0)
    → compile_diagnostics run_card lines ≡ []
    → StandsFor program lines
    → OnOk result ((source : Source) → Stands program source → Becomes (stocked program.name source) old new)
    → OnOk result (Becomes (compiled number lines (compile_diagnostics run_card lines)) old new)
stocked_source (Ok _) number run_card lines program old new none stands stocks =
    λ w held. rw none (subst (λ name. new (stocked name (source_of lines) w)) stands.name (stocks (source_of lines) stands.meaning w held))
stocked_source (Err _) number run_card lines program old new none stands stocks = tt

-- one with diagnostics halts for them
shown_first : (number : ℕ) (lines : List Line) (found : List Diagnostic) (w : World) (new : World → Type 0) → found ≢ [] → new (halting number FaultySource (details_of found) w) → new (compiled number lines found w)
shown_first number lines [] w new some shows = absurd (some refl)
shown_first number lines (first ∷ more) w new some shows = shows

pub diagnosed_source : {T E : Type 0} (result : Result T E) (number run_card : ℕ) (lines : List Line) (found : List Diagnostic) (old new : World → Type 0)
    → found ≢ []
    → found ≡ compile_diagnostics run_card lines
    → OnOk result (Becomes (halting number FaultySource (details_of found)) old new)
    → OnOk result (Becomes (compiled number lines (compile_diagnostics run_card lines)) old new)
diagnosed_source (Ok _) number run_card lines found old new some are shows = λ w held.
    subst (λ (all : List Diagnostic). new (compiled number lines all w)) are (shown_first number lines found w new some (shows w held))
diagnosed_source (Err _) number run_card lines found old new some are shows = tt

first_of_cards : (number : ℕ) (lines : List Line) (found others : List Diagnostic) (w : World) (new : World → Type 0) → found ≢ [] → new (halting number FaultySource (details_of found) w)
    → new (compiled number lines (first_else found others) w)
first_of_cards number lines [] others w new some shows = absurd (some refl)
first_of_cards number lines (first ∷ more) others w new some shows = shows

pub diagnosed_cards : {T E : Type 0} (result : Result T E) (number run_card from : ℕ) (cards : List (List ℕ)) (found : List Diagnostic) (old new : World → Type 0)
    → found ≢ []
    → found ≡ sheet_diagnostics from cards
    → OnOk result (Becomes (halting number FaultySource (details_of found)) old new)
    → OnOk result (Becomes (compiled_data number run_card from cards) old new)
diagnosed_cards (Ok _) number run_card from cards found old new some are shows = λ w held.
    subst (λ (all : List Diagnostic). new (compiled number (lines_of from cards) (first_else all (compile_diagnostics run_card (lines_of from cards))) w)) are
    (first_of_cards number (lines_of from cards) found (compile_diagnostics run_card (lines_of from cards)) w new some (shows w held))
diagnosed_cards (Err _) number run_card from cards found old new some are shows = tt

-- a source whose cards have no diagnostics is compiled by its lines
pub compiled_source : {T E : Type 0} (result : Result T E) (number run_card from : ℕ) (cards : List (List ℕ)) (lines : List Line) (old new : World → Type 0)
    → sheet_diagnostics from cards ≡ []
    → lines ≡ lines_of from cards
    → OnOk result (Becomes (compiled number lines (compile_diagnostics run_card lines)) old new)
    → OnOk result (Becomes (compiled_data number run_card from cards) old new)
compiled_source (Ok _) number run_card from cards lines old new no_faults are_lines compiles =
    λ w held.
    subst (λ found. new (compiled number (lines_of from cards) (first_else found (compile_diagnostics run_card (lines_of from cards))) w)) (sym no_faults)
    (subst (λ (all : List Line). new (compiled number all (compile_diagnostics run_card all) w)) are_lines (compiles w held))
compiled_source (Err _) number run_card from cards lines old new no_faults are_lines compiles = tt

-- what is found under a name, once a program was put into the library
pub found_in_library : (program : Program) (source : Source) (before after : Option Program) (meant : Option Source) (is_it : Bool)
    → after ≡ (if is_it then Some program else before)
    → Stands program source
    → Stocks before meant
    → Stocks after (if is_it then Some source else meant)
found_in_library program source before after meant true found stands held = subst (λ (of : Option Program). Stocks of (Some source)) (sym found) stands
found_in_library program source before after meant false found stands held = subst (λ (of : Option Program). Stocks of meant) (sym found) held

-- and a job at work stays as it is
pub still_at_work : (deck : List (List ℕ)) (job : Option OpenJob) (name : Name) (source : Source) (w : World) (meant : Option JobAtWork)
    → HoldsAtWork deck job w meant → HoldsAtWork deck job (stocked name source w) meant
still_at_work deck None name source w None held = held
still_at_work deck (Some job) name source w (Some meant) held = record { number = held.number; cards = held.cards; files = held.files; follows = held.follows }
still_at_work deck None name source w (Some meant) held = held
still_at_work deck (Some job) name source w None held = held
