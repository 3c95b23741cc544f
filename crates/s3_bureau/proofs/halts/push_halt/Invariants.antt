-- The details so far.
use Rattle.std.proofs.Common.{◌≡◌, ◌++◌, take, vec_items}
use Rattle.std.specs.List.{flat_map}
use Rattle.s3_bureau.specs.Texts.{detail_line}
use Rattle.s3_bureau.proofs.halts.push_halt.Given as goal

abbrev pub invariant-loop-card : goal.invariant-loop-card
invariant-loop-card l = vec_items l.text ≡ vec_items l.initial.text ++ flat_map (detail_line l.halt.job) (take l.card-index l.halt.details.items)
