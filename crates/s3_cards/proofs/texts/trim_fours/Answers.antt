use Rattle.std.proofs.Common.{◌≡◌, ◌∙◌, sym, arith, true, replicate}
use Rattle.std.specs.Str.{bytes_eq}
use Rattle.std.proofs.lemmas.Bool.{not-false}
use Rattle.std.proofs.lemmas.Slice.Eq.{bytes_eq-Decides}
use Rattle.s3_cards.proofs.Trimming.{blanks_trimmed}
use Rattle.s3_cards.proofs.texts.trim_fours.Goals as goal

pub loop-front-preserved : goal.loop-front-preserved
loop-front-preserved c =
    let same : bytes_eq c.in-Some.last.now (replicate 4 0x40) ≡ true = not-false _ (sym c.ne.ensures ∙ c.if-ne.false) in
    let blank : c.in-Some.last.now ≡ replicate 4 0x40 = (bytes_eq-Decides _ _).0 same in
    (blanks_trimmed c.loop-front.rest.now _ _ _ 4 c.in-Some.ensures.cases.0 c.in-Some.ensures.cases.1 blank ∙ c.loop-front.invariant.0, omega (arith, c.in-Some.ensures.cases.2))
