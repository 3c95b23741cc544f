use Rattle.std.proofs.Common.{ℕ, List, length, sym, ap, subst, arith}
use Rattle.s3_slots.specs.Labels.{sectors_of}
use Rattle.s3_files.specs.Inner.Files.{AreStored}
use Rattle.s3_files.proofs.Rooms.{of_pack_room, of_pack_stored}
use Rattle.s3_pack_check.proofs.Files.{filled}
use Rattle.s3_pack_check.proofs.checking.file_bytes.Goals as goal

pub of-requires-clause-small : goal.of-requires-clause-small
of-requires-clause-small g c = (of_pack_room _ c.args.label.now c.requires.on_pack).small

pub of-requires-clause-distinct : goal.of-requires-clause-distinct
of-requires-clause-distinct g c = (of_pack_room _ c.args.label.now c.requires.on_pack).distinct

pub read_bytes-requires-clause-stored : goal.read_bytes-requires-clause-stored
unfolding sectors_of
read_bytes-requires-clause-stored g c =
    subst (λ (s : List ℕ). AreStored s (g.P.Sectors.state c.args.pool.now).contents) (sym c.of.ensures) (of_pack_stored (g.P.Sectors.state c.args.pool.now).contents c.args.label.now c.requires.on_pack)

pub read_bytes-requires-clause-within : goal.read_bytes-requires-clause-within
unfolding sectors_of
read_bytes-requires-clause-within g c = omega (arith, ap length c.of.ensures, c.deref_mut.ensures.len, c.in_ok-bytes.ensures.len, c.sector_count.ensures.value)

pub returns-in-Ok-clause-ok : goal.returns-in-Ok-clause-ok
unfolding sectors_of
returns-in-Ok-clause-ok g c =
    filled c.of.result (sectors_of c.args.label.now) (g.P.Sectors.state c.args.pool.now).contents c.in_ok-bytes.bytes.items c.read_bytes.new.bytes c.in_ok-bytes.bytes.len (length c.deref_mut.result.now)
    c.of.ensures c.in-Ok.ensures.ok (omega (arith, c.deref_mut.ensures.len, c.in_ok-bytes.ensures.len, c.sector_count.ensures.value)) (omega (arith, c.deref_mut.ensures.len))
