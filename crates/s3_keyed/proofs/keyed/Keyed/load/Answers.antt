use Rattle.std.proofs.Common.{◌+◌, ◌++◌, ◌∷◌, [], Ok, nat_lt, refl, sym, ap, ◌∙◌, arith}
use Rattle.std.specs.List.{list_all, Contains}
use Rattle.s3_store.proofs.Frames.{within_from_keeps, keeps_within}
use Rattle.s3_files.proofs.FileFrames.{stored_keeps}
use Rattle.s3_files.proofs.RecordLemmas.{length_records}
use Rattle.s3_keyed.specs.KeyOrder.{number_of}
use Rattle.s3_keyed.specs.Calls.{place_of_key}
use Rattle.s3_keyed.specs.Inner.Shape.{layout_in, bytes_in}
use Rattle.s3_keyed.specs.Inner.Keyed.{shown, records_now, keys_now}
use Rattle.s3_keyed.proofs.Appending.{loaded_not_ascending, loaded_full, loaded_made, above_is_new}
use Rattle.s3_keyed.proofs.CallLemmas.{ordered_keeps, some_room}
use Rattle.s3_keyed.proofs.Unused.{unused_behind, unused_kept}
use Rattle.s3_keyed.proofs.keyed.Keyed.load.Goals as goal

pub returns-then-not-branch-clause-loaded : goal.returns-then-not-branch-clause-loaded
returns-then-not-branch-clause-loaded g c =
    let self = c.args.self.now in
    loaded_not_ascending (layout_in self.file).key self.file.file.capacity c.args.bytes.now (records_now (shown self) (g.P.Sectors.state c.args.pool.now).contents) (number_of c.key_in-key.result.bytes) c.key_in-key.ensures.key (c.in_ok-is_above_all.ensures.above ∙ c.if-not-branch.true)

pub returns-then-self-clause-loaded : goal.returns-then-self-clause-loaded
returns-then-self-clause-loaded g c =
    let self = c.args.self.now in
    let contents = (g.P.Sectors.state c.args.pool.now).contents in
    loaded_full (layout_in self.file).key self.file.file.capacity c.args.bytes.now (records_now (shown self) contents) (number_of c.key_in-key.result.bytes) c.key_in-key.ensures.key (c.in_ok-is_above_all.ensures.above ∙ c.if-not-branch.false)
    (length_records self.file.file.record_length self.count (bytes_in self.file contents) ∙ c.if-self.true)

pub returns-then-is_empty-clause-loaded : goal.returns-then-is_empty-clause-loaded
returns-then-is_empty-clause-loaded g c =
    let self = c.args.self.now in
    let contents = (g.P.Sectors.state c.args.pool.now).contents in
    let differs = c.if-self.false in
    let counted = self.counted in
    loaded_made (layout_in self.file).key self.file.file.capacity c.args.bytes.now (records_now (shown self) contents) (number_of c.key_in-key.result.bytes) c.key_in-key.ensures.key (c.in_ok-is_above_all.ensures.above ∙ c.if-not-branch.false)
    (omega (arith, length_records self.file.file.record_length self.count (bytes_in self.file contents), differs, counted))
    ∙ ap Ok (sym (c.in_ok-append_indexed.ensures.ok ∙ ap (λ l. records_now (shown self) l ++ c.args.bytes.now ∷ []) c.is_above_all.ensures.reads.keeps.contents))

pub append_added-requires-clause-is_new : goal.append_added-requires-clause-is_new
append_added-requires-clause-is_new g c =
    let self = c.args.self.now in
    let k = number_of c.key_in-key.result.bytes in
    ap (λ l. place_of_key k (keys_now (shown self) l)) c.is_above_all.ensures.reads.keeps.contents
    ∙ above_is_new k 0 (keys_now (shown self) (g.P.Sectors.state c.args.pool.now).contents) (c.in_ok-is_above_all.ensures.above ∙ c.if-not-branch.false)

pub returns-clause-loaded : goal.returns-clause-loaded
returns-clause-loaded g c =
    let self = c.args.self.now in
    let contents = (g.P.Sectors.state c.args.pool.now).contents in
    let differs = c.if-self.false in
    let counted = self.counted in
    loaded_made (layout_in self.file).key self.file.file.capacity c.args.bytes.now (records_now (shown self) contents) (number_of c.key_in-key.result.bytes) c.key_in-key.ensures.key (c.in_ok-is_above_all.ensures.above ∙ c.if-not-branch.false)
    (omega (arith, length_records self.file.file.record_length self.count (bytes_in self.file contents), differs, counted))
    ∙ ap Ok (sym (c.in_ok-append_added.ensures.ok ∙ ap (λ l. records_now (shown self) l ++ c.args.bytes.now ∷ []) c.is_above_all.ensures.reads.keeps.contents))

pub returns-in_err-append_indexed-clause-within : goal.returns-in_err-append_indexed-clause-within
returns-in_err-append_indexed-clause-within g c = keeps_within _ _ (g.P.Sectors.state c.is_above_all.new.pool) _ c.is_above_all.ensures.reads.keeps c.append_indexed.ensures.changes.within

pub returns-then-is_empty-clause-within : goal.returns-then-is_empty-clause-within
returns-then-is_empty-clause-within g c = keeps_within _ _ (g.P.Sectors.state c.is_above_all.new.pool) _ c.is_above_all.ensures.reads.keeps c.append_indexed.ensures.changes.within

pub returns-in_err-append_added-clause-within : goal.returns-in_err-append_added-clause-within
returns-in_err-append_added-clause-within g c = keeps_within _ _ (g.P.Sectors.state c.is_above_all.new.pool) _ c.is_above_all.ensures.reads.keeps c.append_added.ensures.changes.within

pub returns-clause-within : goal.returns-clause-within
returns-clause-within g c = keeps_within _ _ (g.P.Sectors.state c.is_above_all.new.pool) _ c.is_above_all.ensures.reads.keeps c.append_added.ensures.changes.within

pub append_indexed-requires-clause-stored : goal.append_indexed-requires-clause-stored
append_indexed-requires-clause-stored g c = stored_keeps c.args.self.now.file.file.sectors _ _ c.requires.stored c.is_above_all.ensures.reads.keeps

pub append_indexed-requires-clause-ordered : goal.append_indexed-requires-clause-ordered
append_indexed-requires-clause-ordered g c = ordered_keeps (shown c.args.self.now) _ _ c.requires.ordered c.is_above_all.ensures.reads.keeps

pub append_indexed-requires-clause-room : goal.append_indexed-requires-clause-room
append_indexed-requires-clause-room g c = some_room c.args.self.now.count c.args.self.now.file.file.capacity c.args.self.now.counted c.if-self.false

pub append_added-requires-clause-stored : goal.append_added-requires-clause-stored
append_added-requires-clause-stored g c = stored_keeps c.args.self.now.file.file.sectors _ _ c.requires.stored c.is_above_all.ensures.reads.keeps

pub append_added-requires-clause-ordered : goal.append_added-requires-clause-ordered
append_added-requires-clause-ordered g c = ordered_keeps (shown c.args.self.now) _ _ c.requires.ordered c.is_above_all.ensures.reads.keeps

pub append_added-requires-clause-room : goal.append_added-requires-clause-room
append_added-requires-clause-room g c = some_room c.args.self.now.count c.args.self.now.file.file.capacity c.args.self.now.counted c.if-self.false

pub append_indexed-requires-clause-above : goal.append_indexed-requires-clause-above
append_indexed-requires-clause-above g c =
    let self = c.args.self.now in
    ap (λ l. list_all (λ other. nat_lt other (number_of c.key_in-key.result.bytes)) (keys_now (shown self) l)) c.is_above_all.ensures.reads.keeps.contents ∙ c.in_ok-is_above_all.ensures.above ∙ c.if-not-branch.false

pub returns-in_err-is_above_all-clause-within : goal.returns-in_err-is_above_all-clause-within
returns-in_err-is_above_all-clause-within g c = within_from_keeps (Contains c.args.self.now.file.file.sectors) _ _ c.is_above_all.ensures.reads.keeps

pub returns-then-not-branch-clause-within : goal.returns-then-not-branch-clause-within
returns-then-not-branch-clause-within g c = within_from_keeps (Contains c.args.self.now.file.file.sectors) _ _ c.is_above_all.ensures.reads.keeps

pub returns-then-self-clause-within : goal.returns-then-self-clause-within
returns-then-self-clause-within g c = within_from_keeps (Contains c.args.self.now.file.file.sectors) _ _ c.is_above_all.ensures.reads.keeps

pub returns-then-not-branch-clause-refused : goal.returns-then-not-branch-clause-refused
returns-then-not-branch-clause-refused g c = record { file = refl; sectors = c.is_above_all.ensures.reads.keeps }

pub returns-then-self-clause-refused : goal.returns-then-self-clause-refused
returns-then-self-clause-refused g c = record { file = refl; sectors = c.is_above_all.ensures.reads.keeps }

pub returns-in_err-is_above_all-clause-same : goal.returns-in_err-is_above_all-clause-same
returns-in_err-is_above_all-clause-same g c = record { sectors = refl; layout = refl; started = refl }

pub returns-then-not-branch-clause-same : goal.returns-then-not-branch-clause-same
returns-then-not-branch-clause-same g c = record { sectors = refl; layout = refl; started = refl }

pub returns-then-self-clause-same : goal.returns-then-self-clause-same
returns-then-self-clause-same g c = record { sectors = refl; layout = refl; started = refl }

pub returns-then-is_empty-clause-ordered : goal.returns-then-is_empty-clause-ordered
returns-then-is_empty-clause-ordered g c = c.in_ok-append_indexed.ensures.ordered

pub returns-clause-ordered : goal.returns-clause-ordered
returns-clause-ordered g c = c.in_ok-append_added.ensures.ordered

pub returns-in_err-is_above_all-clause-unused : goal.returns-in_err-is_above_all-clause-unused
returns-in_err-is_above_all-clause-unused g c =
    unused_kept (layout_in c.args.self.now.file) (c.args.self.now.count + 1) c.args.self.now.file.file.sectors (g.P.Sectors.state c.args.pool.now) (g.P.Sectors.state c.is_above_all.new.pool) c.is_above_all.ensures.reads.keeps

pub returns-then-not-branch-clause-unused : goal.returns-then-not-branch-clause-unused
returns-then-not-branch-clause-unused g c =
    unused_kept (layout_in c.args.self.now.file) (c.args.self.now.count + 1) c.args.self.now.file.file.sectors (g.P.Sectors.state c.args.pool.now) (g.P.Sectors.state c.is_above_all.new.pool) c.is_above_all.ensures.reads.keeps

pub returns-then-self-clause-unused : goal.returns-then-self-clause-unused
returns-then-self-clause-unused g c =
    unused_kept (layout_in c.args.self.now.file) (c.args.self.now.count + 1) c.args.self.now.file.file.sectors (g.P.Sectors.state c.args.pool.now) (g.P.Sectors.state c.is_above_all.new.pool) c.is_above_all.ensures.reads.keeps

pub returns-in_err-append_indexed-clause-unused : goal.returns-in_err-append_indexed-clause-unused
returns-in_err-append_indexed-clause-unused g c =
    unused_behind (layout_in c.args.self.now.file) (c.args.self.now.count + 1) c.args.self.now.file.file.sectors (g.P.Sectors.state c.args.pool.now) (g.P.Sectors.state c.is_above_all.new.pool) (g.P.Sectors.state c.append_indexed.new.pool) c.is_above_all.ensures.reads.keeps c.append_indexed.ensures.unused

pub returns-then-is_empty-clause-unused : goal.returns-then-is_empty-clause-unused
returns-then-is_empty-clause-unused g c =
    unused_behind (layout_in c.args.self.now.file) (c.args.self.now.count + 1) c.args.self.now.file.file.sectors (g.P.Sectors.state c.args.pool.now) (g.P.Sectors.state c.is_above_all.new.pool) (g.P.Sectors.state c.append_indexed.new.pool) c.is_above_all.ensures.reads.keeps c.append_indexed.ensures.unused

pub returns-in_err-append_added-clause-unused : goal.returns-in_err-append_added-clause-unused
returns-in_err-append_added-clause-unused g c =
    unused_behind (layout_in c.args.self.now.file) (c.args.self.now.count + 1) c.args.self.now.file.file.sectors (g.P.Sectors.state c.args.pool.now) (g.P.Sectors.state c.is_above_all.new.pool) (g.P.Sectors.state c.append_added.new.pool) c.is_above_all.ensures.reads.keeps c.append_added.ensures.unused

pub returns-clause-unused : goal.returns-clause-unused
returns-clause-unused g c =
    unused_behind (layout_in c.args.self.now.file) (c.args.self.now.count + 1) c.args.self.now.file.file.sectors (g.P.Sectors.state c.args.pool.now) (g.P.Sectors.state c.is_above_all.new.pool) (g.P.Sectors.state c.append_added.new.pool) c.is_above_all.ensures.reads.keeps c.append_added.ensures.unused
