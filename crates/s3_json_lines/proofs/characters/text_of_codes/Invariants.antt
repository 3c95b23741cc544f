-- The characters so far are in the text.
use Rattle.std.proofs.Common.{◌≡◌, take}
use Rattle.std.specs.String.{string_bytes}
use Rattle.s3_json_lines.specs.Inner.Characters.{text_of}
use Rattle.s3_json_lines.proofs.characters.text_of_codes.Given as goal

abbrev pub invariant-loop-code : goal.invariant-loop-code
invariant-loop-code l = string_bytes l.text ≡ text_of (take l.code-index l.codes)
