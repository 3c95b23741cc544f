use Rattle.std.proofs.Common.{◌≡◌, ◌==◌, ◌∙◌, ap, true, arith}
use Rattle.std.specs.Prelude.{if◌then◌else◌}
use Rattle.s3_lines.specs.declared.indicator.Indicator.TheVariants.{FirstPage, Level}
use Rattle.s3_meaning.specs.Names.{same_indicator}
use Rattle.s3_operations.specs.Inner.Indicators.{on_in}
use Rattle.s3_operations.specs.Inner.Places.{indicator_place}
use Rattle.s3_operations.proofs.IndicatorLemmas.{begins, first_all, first_more, first_to, none_set}
use Rattle.s3_operations.proofs.indicators.Indicators.at_first.Goals as goal

pub loop-number-init : goal.loop-number-init
loop-number-init c = λ other. begins c.args.switches other _
    (c.turn-2.ensures other ∙ ap (λ b. if same_indicator other FirstPage then true else b)
    (c.turn.ensures other ∙ ap (λ b. if same_indicator other (Level 0) then true else b) (none_set 25 (indicator_place other))))

pub loop-number-preserved : goal.loop-number-preserved
loop-number-preserved c = λ other.
    c.set.ensures (indicator_place other)
    ∙ ap (λ b. if indicator_place other == c.place_of.result then b else on_in c.loop-number.indicators other) c.is_switch_on-is_on.ensures
    ∙ first_more c.args.switches c.loop-number.number c.place_of.result other _ c.loop-number-test.true c.place_of.ensures.place (c.loop-number.invariant other)

pub returns : goal.returns
returns c = λ other.
    let over : c.loop-number.number ≡ 9 = omega arith in
    c.loop-number.invariant other ∙ ap (λ n. first_to n c.args.switches other) over ∙ first_all c.args.switches other
