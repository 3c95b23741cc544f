use Rattle.std.proofs.Common.{◌∙◌, ap, sym, arith}
use Rattle.s3_load.specs.declared.quotes.Reading.TheVariants.{Start}
use Rattle.s3_load.specs.Inner.Quotes.{opened, reading_from}
use Rattle.s3_load.proofs.QuoteLemmas.{all_read, one_more_read}
use Rattle.s3_load.proofs.quotes.open_quote.Goals as goal

pub loop-place-preserved : goal.loop-place-preserved
loop-place-preserved c =
    one_more_read c.args.delimiter c.loop-place.place c.loop-place.at c.after-at.result c.args.text.now (reading_from c.args.delimiter 0 Start c.args.text.now) c.loop-place-test.true c.after-at.ensures c.loop-place.invariant

pub returns : goal.returns
returns c =
    let whole = reading_from c.args.delimiter 0 Start c.args.text.now in
    c.opened.ensures ∙ ap opened (sym (all_read c.args.delimiter c.loop-place.place c.loop-place.at c.args.text.now whole (omega (arith, c.loop-place-test.false, c.loop-place.auto.place-end)) c.loop-place.invariant))
