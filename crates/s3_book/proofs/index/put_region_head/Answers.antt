use Rattle.s3_book.proofs.index.put_region_head.Goals as goal

pub returns : goal.returns
returns c = rw (c.area_part.ensures, c.width.ensures) at c.put.ensures
