use Rattle.s3_dump.proofs.pieces.write_areas.Goals as goal

pub loop-run-preserved : goal.loop-run-preserved
loop-run-preserved c = λ pack is. c.in_ok-write_run.ensures pack (c.in_ok-write_sectors-2.ensures pack (c.loop-run.invariant pack is))

pub returns : goal.returns
returns c = λ pack is.
    let labels = c.in_ok-write_slots-3.ensures pack (c.in_ok-write_slots-2.ensures pack (c.in_ok-write_slots.ensures pack (c.in_ok-write_part.ensures pack is))) in
    c.loop-run.invariant pack (c.in_ok-write_sectors.ensures pack (c.in_ok-write_spool.ensures pack labels))
