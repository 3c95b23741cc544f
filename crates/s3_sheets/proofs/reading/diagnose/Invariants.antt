use Rattle.std.proofs.Common.{◌≡◌, ◌++◌, take}
use Rattle.std.specs.Prelude.{map, filter}
use Rattle.s3_sheets.specs.Sheets.{card_holds, numbers}
use Rattle.s3_sheets.proofs.reading.diagnose.Given as goal

abbrev pub invariant-loop-diagnostic : goal.invariant-loop-diagnostic
invariant-loop-diagnostic l =
    l.found.items ≡ l.fn.found.items ++ map (λ n. record { card = l.number; number = n }) (filter (card_holds l.standing) (take l.diagnostic-index numbers))
