use Rattle.std.proofs.Common.{◌≡◌, ℕ, arith}
use Rattle.std.specs.Prelude.{IfSome, Option, Some, None}
use Rattle.std.specs.Option.{SomeIff}
use Rattle.s3_evidence.proofs.Abouts.{in_run}
use Rattle.s3_evidence.proofs.reading.sector_at.Goals as goal

if_there : (o : Option ℕ) (fits : Type 0) (value : ℕ) (P : ℕ → Type 0) → SomeIff o fits value → ((n : ℕ) → n ≡ value → P n) → IfSome o P
if_there None fits value P iff holds = tt
if_there (Some n) fits value P iff holds = holds n iff.1

pub returns-then-left-sectors : goal.returns-then-left-sectors
returns-then-left-sectors c = if_there c.checked_add.result _ _ _ c.checked_add.ensures
    (λ n at. in_run c.args.runs.now c.loop-run.run-index _ c.loop-run.left n c.loop-run-test.true (omega (arith, c.if-left-sectors.true, c.from-sectors.ensures)) at)
