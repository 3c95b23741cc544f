-- What a clause sees of the parts that code holds.
use Rattle.s3_cli.specs.declared.parts.Parts.{Parts as Texts}
use Rattle.s3_cli.specs.Parts.{Parts}

abbrev pub parts_view : Texts → Parts
parts_view texts = record { deck1 = texts.deck1.now; deck2 = texts.deck2.now; script = texts.script.now }
