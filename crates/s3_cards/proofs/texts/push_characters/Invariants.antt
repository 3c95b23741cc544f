-- The characters so far.
use Rattle.std.proofs.Common.{◌≡◌, ◌++◌, take, vec_items}
use Rattle.std.specs.Prelude.{map}
use Rattle.s3_cards.specs.Codes.{shown_byte}
use Rattle.s3_cards.proofs.texts.push_characters.Given as goal

abbrev pub invariant-loop-code : goal.invariant-loop-code
invariant-loop-code l = vec_items l.text ≡ vec_items l.initial.text ++ map shown_byte (take l.code-index l.codes)
