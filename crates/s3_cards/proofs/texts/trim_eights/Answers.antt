use Rattle.std.proofs.Common.{◌≡◌, ◌∙◌, sym, arith, true, replicate}
use Rattle.s3_cards.proofs.NameLemmas.{equal_codes}
use Rattle.s3_cards.proofs.Trimming.{blanks_trimmed}
use Rattle.s3_cards.proofs.texts.trim_eights.Goals as goal

pub loop-front-preserved : goal.loop-front-preserved
loop-front-preserved c =
    let blank : c.in-Some.last.now ≡ replicate 8 0x40 = equal_codes _ _ (sym c.are_same_eight.ensures ∙ c.if-not-are_same_eight.false) in
    (blanks_trimmed c.loop-front.rest.now _ _ _ 8 c.in-Some.ensures.cases.0 c.in-Some.ensures.cases.1 blank ∙ c.loop-front.invariant.0, omega (arith, c.in-Some.ensures.cases.2))
