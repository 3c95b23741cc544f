use Rattle.std.proofs.Common.{refl}
use Rattle.std.specs.Fmt.{digits}
use Rattle.s3_cards.specs.Codes.{code_page}
use Rattle.s3_listing.specs.Inner.Lines.{slot_line, fields_text}
use Rattle.s3_listing.proofs.laws.slots_are_shown.Goals as goal

pub returns : goal.returns
unfolding slot_line fields_text code_page digits
returns c = record { sequential = refl; indexed = refl; direct = refl; damaged = refl; nameless = refl; free = refl }
