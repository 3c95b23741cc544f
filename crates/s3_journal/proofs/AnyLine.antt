-- The lines of days.
use Rattle.std.proofs.Common.{◌≡◌, ℕ, List, [], ◌∷◌, ◌||◌, refl, ap}
use Rattle.std.specs.List.{list_any}
use Rattle.s3_journal.specs.declared.day.PostedDay.{PostedDay}
use Rattle.s3_journal.specs.Inner.Posted.{has_pack, line_of, lines_of}

pub any_line : (pack : List ℕ) (days : List PostedDay) → list_any (has_pack pack) (lines_of days) ≡ list_any (λ day. has_pack pack (line_of day)) days
any_line pack [] = refl
any_line pack (day ∷ days) = ap (λ rest. has_pack pack (line_of day) || rest) (any_line pack days)
