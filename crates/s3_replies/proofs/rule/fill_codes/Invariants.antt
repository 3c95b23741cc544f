-- The codes of the bytes so far.
use Rattle.std.proofs.Common.{◌≡◌, map, take}
use Rattle.s3_replies.specs.Inner.Rules.{code_or_blank}
use Rattle.s3_replies.proofs.rule.fill_codes.Given as goal

abbrev pub invariant-loop-place : goal.invariant-loop-place
invariant-loop-place l = take l.place l.codes ≡ map code_or_blank (take l.place l.word)
