use Rattle.std.proofs.Common.{◌≡◌, drop}
use Rattle.s3_load.specs.declared.quotes.Reading.TheVariants.{Start}
use Rattle.s3_load.specs.Inner.Quotes.{reading_from}
use Rattle.s3_load.proofs.quotes.open_quote.Given as goal

abbrev pub invariant-loop-place : goal.invariant-loop-place
invariant-loop-place l = reading_from l.delimiter 0 Start l.text ≡ reading_from l.delimiter l.place l.at (drop l.place l.text)
