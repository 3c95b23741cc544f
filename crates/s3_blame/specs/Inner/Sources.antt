-- The diagnostics of a source: those of its cards, or where there are none those of its lines.
use Rattle.std.specs.Prelude.{ℕ, ◌+◌, List, [], ◌∷◌, length}
use Rattle.s3_lines.specs.declared.diagnostic.Diagnostic.{Diagnostic}
use Rattle.s3_sheets.specs.Lines.{lines_of}
use Rattle.s3_sheets.specs.Sheets.{sheet_diagnostics}
use Rattle.s3_diagnose.specs.Diagnostics.{compile_diagnostics}

-- a list, or where it is empty another one
abbrev pub or_else : {X : Type 0} → List X → List X → List X
or_else [] more = more
or_else (x ∷ xs) more = x ∷ xs

-- of cards that stand from a place of their deck on
abbrev pub found_from : (from run_card : ℕ) → List (List ℕ) → List Diagnostic
found_from from run_card cards = or_else (sheet_diagnostics from cards) (compile_diagnostics run_card (lines_of from cards))

-- of cards that are a deck of their own, with the RUN card behind them
abbrev pub found_in : List (List ℕ) → List Diagnostic
found_in cards = found_from 0 (length cards + 1) cards
