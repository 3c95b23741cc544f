use Rattle.std.proofs.Common.{◌≡◌, ◌-◌, length, drop}
use Rattle.std.specs.Prelude.{IfSome}
use Rattle.s3_match.specs.Inner.Keys.{key_in}
use Rattle.s3_match.specs.Inner.Choice.{standing_at, IsHeadAt}
use Rattle.s3_match.proofs.ChoiceLemmas.{least_in}
use Rattle.s3_match.proofs.choice.least_onto.Given as goal

abbrev pub invariant-loop-step : goal.invariant-loop-step
invariant-loop-step l = record {
  head : IfSome l.least (IsHeadAt l.files);
  least : standing_at l.program l.files l.least ≡ least_in l.program l.group (key_in l.primary_key) (standing_at l.program l.files l.fn.behind) (drop (length l.files - l.step) l.files);
}
