use Rattle.std.proofs.Common.{◌≡◌, map, take}
use Rattle.s3_cards.specs.Codes.{shown_byte}
use Rattle.s3_amend.proofs.fields.are_characters_of.Given as goal

abbrev pub invariant-loop-place : goal.invariant-loop-place
invariant-loop-place l = map shown_byte (take l.place l.codes) ≡ take l.place l.text
