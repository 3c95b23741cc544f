-- The sectors so far were read, and all else stays.
use Rattle.std.specs.Prelude.{None}
use Rattle.s3_store.specs.Stretches.{sectors_in}
use Rattle.s3_evidence.specs.Inner.About.{AreOfSectors}
use Rattle.s3_evidence.specs.Inner.Looks.{Looks}
use Rattle.s3_evidence.proofs.reading.read_sectors.Given as goal

abbrev pub invariant-loop-i : goal.invariant-loop-i
invariant-loop-i g l = record {
  looks : Looks None l.fn.bureau l.bureau;
  from : AreOfSectors (sectors_in l.fn.runs) l.fn.bureau.beside.state.contents l.bytes.items;
}
