use Rattle.std.proofs.Common.{◌≡◌, ◌∙◌, sym, replicate}
use Rattle.s3_cards.proofs.NameLemmas.{equal_codes}
use Rattle.s3_ocl.proofs.WordLemmas.{blanks_passed}
use Rattle.s3_ocl.proofs.cards.behind_eights.Goals as goal

pub loop-first-preserved : goal.loop-first-preserved
loop-first-preserved c =
    let blank : c.in-Some.first.now ≡ replicate 8 0x40 = equal_codes _ _ (sym c.are_same_eight.ensures ∙ c.if-not-are_same_eight.false) in
    blanks_passed c.loop-first.rest.now _ _ 8 8 c.in-Some.ensures.cases.0 c.in-Some.ensures.cases.1 blank ∙ c.loop-first.invariant
