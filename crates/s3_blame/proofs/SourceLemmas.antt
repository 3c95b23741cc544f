-- Lemmas on the diagnostics of a source.
use Rattle.std.proofs.Common.{◌≡◌, ◌≢◌, ℕ, List, [], ◌∷◌, refl, sym, ◌∙◌, ap}
use Rattle.s3_lines.specs.declared.diagnostic.Diagnostic.{Diagnostic}
use Rattle.s3_sheets.specs.Lines.{lines_of}
use Rattle.s3_sheets.specs.Sheets.{sheet_diagnostics}
use Rattle.s3_diagnose.specs.Diagnostics.{compile_diagnostics}
use Rattle.s3_blame.specs.Inner.Sources.{or_else, found_from}

some_else : {X : Type 0} (xs more : List X) → xs ≢ [] → or_else xs more ≡ xs
some_else [] more some = absurd (some refl)
some_else (x ∷ xs) more some = refl

-- where cards are at fault, the list has theirs alone
pub cards_at_fault : (from run_card : ℕ) (cards : List (List ℕ)) (found : List Diagnostic)
    → found ≢ [] → found ≡ sheet_diagnostics from cards → found ≡ found_from from run_card cards
cards_at_fault from run_card cards found some same =
    sym (some_else found (compile_diagnostics run_card (lines_of from cards)) some)
    ∙ ap (λ xs. or_else xs (compile_diagnostics run_card (lines_of from cards))) same

-- where none is, it has those of the lines
pub no_card_at_fault : (from run_card : ℕ) (cards : List (List ℕ))
    → sheet_diagnostics from cards ≡ [] → compile_diagnostics run_card (lines_of from cards) ≡ found_from from run_card cards
no_card_at_fault from run_card cards none =
    sym (ap (λ xs. or_else xs (compile_diagnostics run_card (lines_of from cards))) none)
