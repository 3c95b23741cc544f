use Rattle.std.proofs.Common.{ℕ, List, length, sym, ap, subst, arith}
use Rattle.s3_slots.specs.Labels.{sectors_of}
use Rattle.s3_files.specs.Inner.Files.{AreStored}
use Rattle.s3_files.proofs.Rooms.{of_pack_room, of_pack_stored}
use Rattle.s3_pack_care.proofs.copying.write_file.Goals as goal

pub of-requires-clause-small : goal.of-requires-clause-small
of-requires-clause-small c = (of_pack_room _ c.args.label.now c.requires.on_pack).small

pub of-requires-clause-distinct : goal.of-requires-clause-distinct
of-requires-clause-distinct c = (of_pack_room _ c.args.label.now c.requires.on_pack).distinct

pub write_bytes-requires-clause-stored : goal.write_bytes-requires-clause-stored
unfolding sectors_of
write_bytes-requires-clause-stored c = subst (λ (s : List ℕ). AreStored s c.args.store.now) (sym c.of.ensures) (of_pack_stored c.args.store.now c.args.label.now c.requires.on_pack)

pub write_bytes-requires-clause-within : goal.write_bytes-requires-clause-within
unfolding sectors_of
write_bytes-requires-clause-within c = omega (arith, ap length c.of.ensures, c.requires.room)
