use Rattle.std.proofs.Common.{◌+◌, ◌-◌, ℕ, List, length, drop, arith, length-drop}
use Rattle.std.proofs.lemmas.List.{take_all}
use Rattle.s3_ocl.proofs.PartLemmas.{parts_before_comma}
use Rattle.s3_ocl.proofs.parameters.behind_comma.Goals as goal

pub returns-clause-parts : goal.returns-clause-parts
returns-clause-parts c =
    let text : List ℕ = c.args.text.now in
    let n : ℕ = c.comma_place-end.result + 1 in
    parts_before_comma text _ c.comma_place-end.result c.comma_place-end.ensures.value c.comma_place-end.ensures.within c.if-end-text.false
    (take_all (length text - n) (drop n text) (omega (arith, length-drop n text)))
