use Rattle.std.proofs.Common.{drop, arith}
use Rattle.std.proofs.lemmas.List.{length-append, length-drop, length-take-le}
use Rattle.s3_output.proofs.composition.blank.Goals as goal

pub returns-then-count-le-LONGEST_PRINT_LINE-clause-whole : goal.returns-then-count-le-LONGEST_PRINT_LINE-clause-whole
returns-then-count-le-LONGEST_PRINT_LINE-clause-whole c =
    let told = c.told-codes in
    let kept = c.fill.auto.self in
    let front = length-take-le 132 c.args.codes.now (omega (arith, told)) in
    let both = length-append c.fill.new.self (drop 132 c.args.codes.now) in
    let back = length-drop 132 c.args.codes.now in
    omega (arith, told, kept, front, both, back)
