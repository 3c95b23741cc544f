use Rattle.s3_book.proofs.index.put_bar.Goals as goal

pub returns : goal.returns
returns c =
    rw (c.shown.ensures, c.shown-2.ensures, c.fits-is_shown.ensures, c.span-wide.ensures, c.begin-left.ensures, c.lane.ensures, c.from.ensures, c.number.ensures, c.from-2.ensures, c.number-2.ensures)
    at c.put.ensures
