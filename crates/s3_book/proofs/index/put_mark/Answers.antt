use Rattle.s3_book.proofs.index.put_mark.Goals as goal

pub returns : goal.returns
returns c =
    rw (c.span.ensures, c.begin-left.ensures, c.until_reply-last.ensures, c.lane.ensures, c.reply_part.ensures)
    at c.put.ensures
