use Rattle.std.proofs.Common.{◌≡◌, ℕ, All, List, length, map, sym, ap, ◌∙◌, subst}
use Rattle.std.proofs.lemmas.List.{length-map}
use Rattle.std.proofs.lemmas.List.Sorted.{All-permutation, length_permutation}
use Rattle.s3_store.specs.Bytes.{bytes_at}
use Rattle.s3_files.specs.Inner.Files.{records}
use Rattle.s3_files.proofs.RecordLemmas.{length_records}
use Rattle.s3_pack_care.specs.Inner.Keys.{key_of}
use Rattle.s3_pack_care.specs.Inner.Rows.{shape_of}
use Rattle.s3_pack_care.specs.Inner.Sorted.{IsArranged}
use Rattle.s3_pack_care.specs.declared.rows.Row.{Row}
use Rattle.s3_pack_care.proofs.Arranged.{arranged}
use Rattle.s3_pack_care.proofs.sorting.sort_file.Goals as goal

pub write_rows-requires-clause-long : goal.write_rows-requires-clause-long
write_rows-requires-clause-long c =
    subst (λ (rows : List Row). All (λ row. length row.bytes.items ≡ c.args.file.now.record_length) rows) (sym c.deref.ensures.value)
    (All-permutation (λ row. length row.bytes.items ≡ c.args.file.now.record_length) c.in_ok-rows.rows.items c.sort.new.self.items c.in_ok-sort.ensures.permutation c.in_ok-rows.ensures.long)

pub write_rows-requires-clause-many : goal.write_rows-requires-clause-many
write_rows-requires-clause-many c =
    ap length c.deref.ensures.value ∙ length_permutation c.in_ok-rows.rows.items c.sort.new.self.items c.in_ok-sort.ensures.permutation
    ∙ sym (length-map c.in_ok-rows.rows.items (λ (row : Row). row.bytes.items)) ∙ ap length c.in_ok-rows.ensures.records
    ∙ length_records c.args.file.now.record_length c.args.file.now.count (bytes_at c.args.file.now.sectors c.args.store.now)

pub returns-clause-sorted : goal.returns-clause-sorted
returns-clause-sorted c =
    subst (λ (old : List (List ℕ)). IsArranged (key_of c.args.fields.now) old (records (shape_of c.args.file.now) c.write_rows.new.store)) c.in_ok-rows.ensures.records
    (subst (λ (new : List (List ℕ)). IsArranged (key_of c.args.fields.now) (map (λ (row : Row). row.bytes.items) c.in_ok-rows.rows.items) new)
    (sym (c.in_ok-write_rows.ensures.ok ∙ ap (map (λ (row : Row). row.bytes.items)) c.deref.ensures.value))
    (arranged (λ (row : Row). row.bytes.items) (λ (row : Row). row.key.items) (key_of c.args.fields.now) c.in_ok-rows.rows.items c.sort.new.self.items
    c.in_ok-rows.ensures.keys c.in_ok-sort.ensures.permutation c.in_ok-sort.ensures.sorted c.in_ok-sort.ensures.stable))
