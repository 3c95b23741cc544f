use Rattle.std.proofs.Common.{◌≡◌, List, length, Ok}
use Rattle.std.specs.Vec.Iter.{into_iter_items, into_iter_len}
use Rattle.s3_job_files.specs.Inner.Holds.{Seen, seen}
use Rattle.s3_job_files.specs.declared.file.OpenFile.{OpenFile}
use Rattle.s3_job_files.specs.Inner.Packs.{LeavesPack}
use Rattle.s3_opening.specs.Inner.Starting.{AddsFiles, CanStart, HoldsAll}
use Rattle.s3_opening.proofs.starting.start_all.Given as goal

abbrev pub invariant-loop-start : goal.invariant-loop-start
invariant-loop-start g l = record {
  left : into_iter_len l.start-iterator ≡ length (into_iter_items l.start-iterator);
  can : CanStart l.level l.files.items (seen l.pack.areas (g.P.Sectors.state l.pack.pool).contents) (into_iter_items l.start-iterator);
  holds : (later : List OpenFile) (last : Seen) → HoldsAll l.level (into_iter_items l.start-iterator) l.files.items later (seen l.pack.areas (g.P.Sectors.state l.pack.pool).contents) last
      → HoldsAll l.level l.fn.starts.items l.initial.files.items later (seen l.initial.pack.areas (g.P.Sectors.state l.initial.pack.pool).contents) last;
  adds : (later : List OpenFile) → AddsFiles (into_iter_items l.start-iterator) l.files.items later → AddsFiles l.fn.starts.items l.initial.files.items later;
  leaves : LeavesPack l.level (Ok (tt {0})) l.initial.pack.areas l.pack.areas (g.P.Sectors.state l.initial.pack.pool) (g.P.Sectors.state l.pack.pool);
}
