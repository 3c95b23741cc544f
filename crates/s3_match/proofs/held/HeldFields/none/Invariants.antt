use Rattle.std.specs.Prelude.{ℕ, ◌≡◌, length, None}
use Rattle.s3_match.specs.Inner.Controls.{held_in}
use Rattle.s3_match.proofs.held.HeldFields.none.Given as goal

abbrev pub invariant-loop : goal.invariant-loop
invariant-loop l = (length l.fields.items ≡ l.counter) × ((level : ℕ) → held_in l.fields.items level ≡ None)
