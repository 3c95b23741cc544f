use Rattle.std.proofs.Common.{ap, sym, ◌∙◌}
use Rattle.std.specs.Prelude.{is_some, true, false}
use Rattle.s3_files.proofs.Rooms.{of_pack_room, of_pack_stored}
use Rattle.s3_keyed.proofs.Indexes.{of_pack_index}
use Rattle.s3_keyed.specs.Inner.Keyed.{KeyedFile, shown}
use Rattle.s3_job_files.proofs.Checked.{keyed_good, keyed_kept, keyed_of_label, plain_good, plain_kept, plain_of_label, some_opened}
use Rattle.s3_job_files.proofs.file.records_of_label.Goals as goal

pub of-requires : goal.of-requires
of-requires g c = of_pack_room _ c.args.label.now c.requires

pub check-requires-clause-room : goal.check-requires-clause-room
check-requires-clause-room g c = of_pack_room _ c.args.label.now c.requires

pub check-requires-clause-index : goal.check-requires-clause-index
check-requires-clause-index g c = of_pack_index _ c.args.label.now c.requires (sym c.is_indexed.ensures ∙ c.if-is_indexed.true)

pub check-requires-clause-stored : goal.check-requires-clause-stored
check-requires-clause-stored g c = of_pack_stored _ c.args.label.now c.requires

pub returns-in-Some-clause-good : goal.returns-in-Some-clause-good
returns-in-Some-clause-good g c =
    keyed_good c.args.label.now _ true (sym c.is_indexed.ensures ∙ c.if-is_indexed.true) (c.in_ok-file.ensures.good ∙ ap is_some c.in-Some.is)

pub returns-in-Some-clause-of_label : goal.returns-in-Some-clause-of_label
returns-in-Some-clause-of_label g c =
    keyed_of_label c.args.label.now _ c.in_ok-file.field-0 c.in-Some.file (sym c.is_indexed.ensures ∙ c.if-is_indexed.true) c.in_ok-file.ensures.opened c.in_ok-file.ensures.ordered c.in-Some.is

pub returns-in-Some-clause-kept : goal.returns-in-Some-clause-kept
returns-in-Some-clause-kept g c =
    keyed_kept c.args.label.now _ (shown c.in-Some.file) (some_opened c.args.label.now c.in_ok-file.field-0 c.in-Some.file c.in_ok-file.ensures.opened c.in-Some.is)

pub returns-in-Some-clause-count : goal.returns-in-Some-clause-count
returns-in-Some-clause-count g c =
    ap (λ (f : KeyedFile). f.count) (some_opened c.args.label.now c.in_ok-file.field-0 c.in-Some.file c.in_ok-file.ensures.opened c.in-Some.is)

pub returns-in-None-clause-good : goal.returns-in-None-clause-good
returns-in-None-clause-good g c =
    keyed_good c.args.label.now _ false (sym c.is_indexed.ensures ∙ c.if-is_indexed.true) (c.in_ok-file.ensures.good ∙ ap is_some c.in-None.is)

pub returns-else-is_indexed-clause-good : goal.returns-else-is_indexed-clause-good
returns-else-is_indexed-clause-good g c = plain_good c.args.label.now _ (sym c.is_indexed.ensures ∙ c.if-is_indexed.false)

pub returns-else-is_indexed-clause-of_label : goal.returns-else-is_indexed-clause-of_label
returns-else-is_indexed-clause-of_label g c =
    plain_of_label c.args.label.now (g.P.Sectors.state c.args.pool.now).contents c.of.result (sym c.is_indexed.ensures ∙ c.if-is_indexed.false) c.of.ensures.sectors c.of.ensures.record_length c.of.ensures.capacity c.of.ensures.count

pub returns-else-is_indexed-clause-kept : goal.returns-else-is_indexed-clause-kept
returns-else-is_indexed-clause-kept g c = plain_kept c.args.label.now _ c.of.result c.of.ensures.sectors c.of.ensures.record_length c.of.ensures.count
