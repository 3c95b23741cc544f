-- The diagnostics of one card, and the result of reading cards: their lines, or their diagnostics.
use Rattle.std.specs.Prelude.{◌≡◌, ◌≢◌, ℕ, List, [], true, Result, Ok, Err, map, filter, Vec}
use Rattle.std.specs.declared.alloc.Global.{Global}
use Rattle.s3_sheets.specs.Lines.{lines_of}
use Rattle.s3_sheets.specs.declared.progress.Standing.{Standing}
use Rattle.s3_lines.specs.Inner.Ascending.{cards_ascend}
use Rattle.s3_lines.specs.Inner.Ranges.{are_read}
use Rattle.s3_lines.specs.declared.diagnostic.Diagnostic.{Diagnostic}
use Rattle.s3_sheets.specs.declared.fault.SheetFault.{SheetFault}
use Rattle.s3_sheets.specs.declared.fault.SheetFault.TheVariants.{NoMemory, Diagnostics}
use Rattle.s3_lines.specs.declared.sheet.Line.{Line}
use Rattle.s3_sheets.specs.Sheets.{card_holds, numbers, sheet_diagnostics}

-- the diagnostics of the card with this number
abbrev pub card_diagnostics : ℕ → Standing → List Diagnostic
card_diagnostics number standing = map (λ n. record { card = number; number = n }) (filter (card_holds standing) numbers)

-- The result of reading cards. Without diagnostics it is their lines, in range and with ascending card numbers.
-- Otherwise it is the diagnostics, unless memory runs out.
abbrev pub Reads : ℕ → List (List ℕ) → Result (Vec Line Global) SheetFault → Type 0
Reads from cards (Ok lines) =
    (sheet_diagnostics from cards ≡ []) × (lines.items ≡ lines_of from cards) × (are_read lines.items ≡ true) × (cards_ascend from lines.items ≡ true)
Reads from cards (Err NoMemory) = Unit {0}
Reads from cards (Err (Diagnostics found)) = (found.items ≢ []) × (found.items ≡ sheet_diagnostics from cards)
