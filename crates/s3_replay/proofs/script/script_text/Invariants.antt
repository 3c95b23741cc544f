-- The text so far, with the script of the parts that are left, is the script of all.
use Rattle.std.proofs.Common.{◌≡◌, ◌++◌, length, vec_items}
use Rattle.s3_replay.specs.Inner.Written.{text_of}
use Rattle.s3_replay.proofs.script.script_text.Given as goal

abbrev pub invariant-loop-part : goal.invariant-loop-part
invariant-loop-part l = vec_items l.text ++ text_of l.rest ≡ text_of l.parts

abbrev pub decreases-loop-part : goal.decreases-loop-part
decreases-loop-part l = length l.rest
