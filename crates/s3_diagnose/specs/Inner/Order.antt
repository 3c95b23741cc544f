-- The order of diagnostics.
use Rattle.std.specs.Prelude.{◌≡◌, ℕ, true, List, [], ◌∷◌, IsTrue}
use Rattle.std.specs.List.{AllByRecursion}
use Rattle.s3_lines.specs.declared.diagnostic.Diagnostic.{Diagnostic}
use Rattle.s3_lines.specs.declared.sheet.Line.{Line}
use Rattle.s3_lines.specs.Inner.Ascending.{cards_ascend}
use Rattle.s3_diagnose.specs.Diagnostics.{precedes, compile_diagnostics}

-- each diagnostic precedes all later ones by card and number, so none is repeated
abbrev pub AreInOrder : List Diagnostic → Type 0
AreInOrder [] = Unit {0}
AreInOrder (diagnostic ∷ more) =
    AllByRecursion (λ other. IsTrue (precedes diagnostic other)) more × AreInOrder more

-- the diagnostics of the lines of a deck are in order
abbrev pub DiagnosticsAreInOrder : Type 0
DiagnosticsAreInOrder =
    (run_card from : ℕ) (lines : List Line) → cards_ascend from lines ≡ true → AreInOrder (compile_diagnostics run_card lines)
