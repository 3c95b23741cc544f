use Rattle.std.proofs.Common.{◌≡◌, ◌<◌, arith, length}
use Rattle.std.proofs.lemmas.Bool.Decides.{nat_tests}
use Rattle.s3_sheets.proofs.ReadingLemmas.{no_diagnostics, some_diagnostics}
use Rattle.s3_sheets.proofs.reading.read_with.Goals as goal

pub returns-then-is_empty : goal.returns-then-is_empty
returns-then-is_empty c =
    let none : length c.enter_cards.new.found.items ≡ 0 = grind (arith, nat_tests, c.if-is_empty.ensures) in
    no_diagnostics _ _ _ _ c.in_ok-enter_cards.ensures.found c.in_ok-enter_cards.ensures.lines none

pub returns-else-is_empty : goal.returns-else-is_empty
returns-else-is_empty c =
    let some : 0 < length c.enter_cards.new.found.items = grind (arith, nat_tests, c.if-is_empty.ensures) in
    some_diagnostics _ _ _ c.in_ok-enter_cards.ensures.found some
