use Rattle.std.proofs.Common.{◌≡◌, ◌++◌, take}
use Rattle.s3_cards.specs.Codes.{ebcdic}
use Rattle.s3_load.proofs.fixed.push_codes.Given as goal

abbrev pub invariant-loop-byte : goal.invariant-loop-byte
invariant-loop-byte l = l.codes.items ≡ l.initial.codes.items ++ ebcdic (take l.byte-index l.text)
