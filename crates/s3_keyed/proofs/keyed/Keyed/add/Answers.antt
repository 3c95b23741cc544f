use Rattle.std.proofs.Common.{◌+◌, ◌++◌, ◌∷◌, [], Ok, refl, sym, ap, ◌∙◌, arith}
use Rattle.std.specs.List.{Contains}
use Rattle.s3_store.proofs.Frames.{within_from_keeps, keeps_within}
use Rattle.s3_files.proofs.FileFrames.{stored_keeps}
use Rattle.s3_files.proofs.RecordLemmas.{length_records}
use Rattle.s3_keyed.specs.KeyOrder.{number_of}
use Rattle.s3_keyed.specs.Calls.{place_of_key}
use Rattle.s3_keyed.specs.Inner.Shape.{layout_in, bytes_in}
use Rattle.s3_keyed.specs.Inner.Keyed.{shown, records_now, keys_now}
use Rattle.s3_keyed.proofs.Appending.{added_duplicate, added_full, added_made, is_none}
use Rattle.s3_keyed.proofs.CallLemmas.{ordered_keeps, some_room}
use Rattle.s3_keyed.proofs.Unused.{unused_behind, unused_kept}
use Rattle.s3_keyed.proofs.keyed.Keyed.add.Goals as goal

pub returns-then-is_some-clause-added : goal.returns-then-is_some-clause-added
returns-then-is_some-clause-added g c =
    let self = c.args.self.now in
    let records = records_now (shown self) (g.P.Sectors.state c.args.pool.now).contents in
    added_duplicate (layout_in self.file).key self.file.file.capacity c.args.bytes.now records (number_of c.key_in-key.result.bytes) c.in_ok-place.field-0 c.key_in-key.ensures.key c.in_ok-place.ensures.place (sym c.is_some.ensures ∙ c.if-is_some.true)

pub returns-then-self-clause-added : goal.returns-then-self-clause-added
returns-then-self-clause-added g c =
    let self = c.args.self.now in
    let contents = (g.P.Sectors.state c.args.pool.now).contents in
    added_full (layout_in self.file).key self.file.file.capacity c.args.bytes.now (records_now (shown self) contents) (number_of c.key_in-key.result.bytes) c.key_in-key.ensures.key
    (c.in_ok-place.ensures.place ∙ is_none c.in_ok-place.field-0 (sym c.is_some.ensures ∙ c.if-is_some.false))
    (length_records self.file.file.record_length self.count (bytes_in self.file contents) ∙ c.if-self.true)

pub returns-clause-added : goal.returns-clause-added
returns-clause-added g c =
    let self = c.args.self.now in
    let contents = (g.P.Sectors.state c.args.pool.now).contents in
    let differs = c.if-self.false in
    let counted = self.counted in
    added_made (layout_in self.file).key self.file.file.capacity c.args.bytes.now (records_now (shown self) contents) (number_of c.key_in-key.result.bytes) c.key_in-key.ensures.key
    (c.in_ok-place.ensures.place ∙ is_none c.in_ok-place.field-0 (sym c.is_some.ensures ∙ c.if-is_some.false))
    (omega (arith, length_records self.file.file.record_length self.count (bytes_in self.file contents), differs, counted))
    ∙ ap Ok (sym (c.in_ok-append_added.ensures.ok ∙ ap (λ l. records_now (shown self) l ++ c.args.bytes.now ∷ []) c.place.ensures.reads.keeps.contents))

pub returns-in_err-append_added-clause-within : goal.returns-in_err-append_added-clause-within
returns-in_err-append_added-clause-within g c = keeps_within _ _ (g.P.Sectors.state c.place.new.pool) _ c.place.ensures.reads.keeps c.append_added.ensures.changes.within

pub returns-clause-within : goal.returns-clause-within
returns-clause-within g c = keeps_within _ _ (g.P.Sectors.state c.place.new.pool) _ c.place.ensures.reads.keeps c.append_added.ensures.changes.within

pub append_added-requires-clause-stored : goal.append_added-requires-clause-stored
append_added-requires-clause-stored g c = stored_keeps c.args.self.now.file.file.sectors _ _ c.requires.stored c.place.ensures.reads.keeps

pub append_added-requires-clause-ordered : goal.append_added-requires-clause-ordered
append_added-requires-clause-ordered g c = ordered_keeps (shown c.args.self.now) _ _ c.requires.ordered c.place.ensures.reads.keeps

pub append_added-requires-clause-room : goal.append_added-requires-clause-room
append_added-requires-clause-room g c = some_room c.args.self.now.count c.args.self.now.file.file.capacity c.args.self.now.counted c.if-self.false

pub append_added-requires-clause-is_new : goal.append_added-requires-clause-is_new
append_added-requires-clause-is_new g c =
    let self = c.args.self.now in
    ap (λ l. place_of_key (number_of c.key_in-key.result.bytes) (keys_now (shown self) l)) c.place.ensures.reads.keeps.contents
    ∙ c.in_ok-place.ensures.place ∙ is_none c.in_ok-place.field-0 (sym c.is_some.ensures ∙ c.if-is_some.false)

pub returns-in_err-place-clause-within : goal.returns-in_err-place-clause-within
returns-in_err-place-clause-within g c = within_from_keeps (Contains c.args.self.now.file.file.sectors) _ _ c.place.ensures.reads.keeps

pub returns-then-is_some-clause-within : goal.returns-then-is_some-clause-within
returns-then-is_some-clause-within g c = within_from_keeps (Contains c.args.self.now.file.file.sectors) _ _ c.place.ensures.reads.keeps

pub returns-then-self-clause-within : goal.returns-then-self-clause-within
returns-then-self-clause-within g c = within_from_keeps (Contains c.args.self.now.file.file.sectors) _ _ c.place.ensures.reads.keeps

pub returns-then-is_some-clause-refused : goal.returns-then-is_some-clause-refused
returns-then-is_some-clause-refused g c = record { file = refl; sectors = c.place.ensures.reads.keeps }

pub returns-then-self-clause-refused : goal.returns-then-self-clause-refused
returns-then-self-clause-refused g c = record { file = refl; sectors = c.place.ensures.reads.keeps }

pub returns-in_err-place-clause-same : goal.returns-in_err-place-clause-same
returns-in_err-place-clause-same g c = record { sectors = refl; layout = refl; started = refl }

pub returns-then-is_some-clause-same : goal.returns-then-is_some-clause-same
returns-then-is_some-clause-same g c = record { sectors = refl; layout = refl; started = refl }

pub returns-then-self-clause-same : goal.returns-then-self-clause-same
returns-then-self-clause-same g c = record { sectors = refl; layout = refl; started = refl }

pub returns-clause-ordered : goal.returns-clause-ordered
returns-clause-ordered g c = c.in_ok-append_added.ensures.ordered

pub returns-in_err-place-clause-unused : goal.returns-in_err-place-clause-unused
returns-in_err-place-clause-unused g c =
    unused_kept (layout_in c.args.self.now.file) (c.args.self.now.count + 1) c.args.self.now.file.file.sectors (g.P.Sectors.state c.args.pool.now) (g.P.Sectors.state c.place.new.pool) c.place.ensures.reads.keeps

pub returns-then-is_some-clause-unused : goal.returns-then-is_some-clause-unused
returns-then-is_some-clause-unused g c =
    unused_kept (layout_in c.args.self.now.file) (c.args.self.now.count + 1) c.args.self.now.file.file.sectors (g.P.Sectors.state c.args.pool.now) (g.P.Sectors.state c.place.new.pool) c.place.ensures.reads.keeps

pub returns-then-self-clause-unused : goal.returns-then-self-clause-unused
returns-then-self-clause-unused g c =
    unused_kept (layout_in c.args.self.now.file) (c.args.self.now.count + 1) c.args.self.now.file.file.sectors (g.P.Sectors.state c.args.pool.now) (g.P.Sectors.state c.place.new.pool) c.place.ensures.reads.keeps

pub returns-in_err-append_added-clause-unused : goal.returns-in_err-append_added-clause-unused
returns-in_err-append_added-clause-unused g c =
    unused_behind (layout_in c.args.self.now.file) (c.args.self.now.count + 1) c.args.self.now.file.file.sectors (g.P.Sectors.state c.args.pool.now) (g.P.Sectors.state c.place.new.pool) (g.P.Sectors.state c.append_added.new.pool) c.place.ensures.reads.keeps c.append_added.ensures.unused

pub returns-clause-unused : goal.returns-clause-unused
returns-clause-unused g c =
    unused_behind (layout_in c.args.self.now.file) (c.args.self.now.count + 1) c.args.self.now.file.file.sectors (g.P.Sectors.state c.args.pool.now) (g.P.Sectors.state c.place.new.pool) (g.P.Sectors.state c.append_added.new.pool) c.place.ensures.reads.keeps c.append_added.ensures.unused
