-- The lines of a part, one after the other.
use Rattle.std.proofs.Common.{rules, arith, [], ◌∷◌, ◌∙◌, append_assoc}
use Rattle.s3_replay.specs.Inner.Written.{line_of}
use Rattle.s3_replay.proofs.Asking.{none_left, next_line}
use Rattle.s3_replay.proofs.script.push_lines.Goals as goal

pub loop-left-preserved : goal.loop-left-preserved
loop-left-preserved c =
    next_line c.args.part.entry c.loop-left.left c.min-count.result c.loop-left.text.items c.push_line.new.text.items _ (omega (arith, c.loop-left-test.true)) (search rules)
    (c.in_ok-push_line.ensures ∙ append_assoc c.loop-left.text.items (line_of c.args.part.entry c.min-count.result) (10 ∷ [])) c.loop-left.invariant

pub returns : goal.returns
returns c = none_left c.args.part.entry c.loop-left.left _ _ (omega (arith, c.loop-left-test.false)) c.loop-left.invariant
