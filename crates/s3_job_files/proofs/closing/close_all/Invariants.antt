use Rattle.std.proofs.Common.{◌≡◌, length, Ok}
use Rattle.std.specs.Vec.Iter.{into_iter_items, into_iter_len}
use Rattle.s3_job_files.specs.Inner.Holds.{Seen, seen, IsReady}
use Rattle.s3_job_files.specs.Inner.Packs.{LeavesPack}
use Rattle.s3_job_files.proofs.Closed.{ClosesAll}
use Rattle.s3_job_files.proofs.closing.close_all.Given as goal

abbrev pub invariant-loop-file : goal.invariant-loop-file
invariant-loop-file g l = record {
  left : into_iter_len l.file-iterator ≡ length (into_iter_items l.file-iterator);
  ready : IsReady l.level (into_iter_items l.file-iterator) (seen l.pack.areas (g.P.Sectors.state l.pack.pool).contents);
  closes : (last : Seen) → ClosesAll l.level (into_iter_items l.file-iterator) (seen l.pack.areas (g.P.Sectors.state l.pack.pool).contents) last
      → ClosesAll l.level l.fn.files.items (seen l.initial.pack.areas (g.P.Sectors.state l.initial.pack.pool).contents) last;
  leaves : LeavesPack l.level (Ok (tt {0})) l.initial.pack.areas l.pack.areas (g.P.Sectors.state l.initial.pack.pool) (g.P.Sectors.state l.pack.pool);
}
