use Rattle.s3_store.specs.Bytes.{bytes_at}
use Rattle.s3_files.proofs.RecordLemmas.{records_push}
use Rattle.s3_files.proofs.sequential.SequentialRecordFile.append.Goals as goal

pub returns-clause-ok : goal.returns-clause-ok
returns-clause-ok g c =
    records_push c.args.self.now.record_length c.args.self.now.count
    (bytes_at c.args.self.now.sectors (g.P.Sectors.state c.args.pool.now).contents) (bytes_at c.args.self.now.sectors (g.P.Sectors.state c.write_bytes.new.pool).contents) c.args.bytes.now
    (rw (← c.place.ensures.place, ← c.requires.long) c.write_bytes.ensures.outside)
    (rw (← c.place.ensures.place, ← c.requires.long) c.in_ok-write_bytes.ensures.ok)
