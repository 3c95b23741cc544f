use Rattle.std.proofs.Common.{ℕ, List, sym, subst}
use Rattle.s3_files.specs.Inner.Files.{AreStored}
use Rattle.s3_files.proofs.Rooms.{of_pack_room, of_pack_stored}
use Rattle.s3_pack_care.proofs.sorting.sort_label.Goals as goal

pub of-requires : goal.of-requires
of-requires c = of_pack_room _ c.args.label.now c.requires

pub sort_file-requires-clause-stored : goal.sort_file-requires-clause-stored
sort_file-requires-clause-stored c = subst (λ (s : List ℕ). AreStored s c.args.store.now) (sym c.of.ensures.sectors) (of_pack_stored c.args.store.now c.args.label.now c.requires)
