use Rattle.std.proofs.Common.{◌∙◌, ap, subst, sym, Ok}
use Rattle.std.proofs.lemmas.List.{length-map}
use Rattle.s3_load.specs.declared.rows.Row.{Row}
use Rattle.s3_load.specs.Inner.Filling.{records_of}
use Rattle.s3_load.specs.Inner.Loaded.{HasSpace, IsCounted}
use Rattle.s3_load.proofs.LoadedPacks.{has_file, loaded_only, loaded_tail, mounted_filled}
use Rattle.s3_load.proofs.loading.place_rows.Goals as goal

pub set_count-requires-clause-mounted : goal.set_count-requires-clause-mounted
set_count-requires-clause-mounted c =
    mounted_filled c.args.order.now c.placed_label.new.mounted.areas c.args.mounted.now.areas.header c.args.mounted.now.pool c.placed_label.new.mounted.pool c.fill.new.store c.in_ok-label.label c.in_ok-label.ensures.placed
    c.in_ok-label.ensures.header c.in_ok-label.ensures.mounted c.fill.ensures.long c.fill.ensures.only

pub returns-clause-file : goal.returns-clause-file
returns-clause-file c =
    let order = c.args.order.now in
    let count = c.in_ok-count.count in
    let header = c.args.mounted.now.areas.header in
    has_file order (records_of c.args.rows.now) header c.args.mounted.now.pool c.placed_label.new.mounted.pool c.fill.new.store c.set_count.new.mounted.pool c.in_ok-label.label count c.in_ok-label.ensures.placed
    (c.in_ok-label.ensures.mounted.mounts ∙ ap Ok c.in_ok-label.ensures.header) c.fill.ensures.only c.in_ok-count.ensures.records c.in_ok-count.ensures.index
    (subst (λ h. IsCounted order.level order.name count h c.fill.new.store c.set_count.new.mounted.pool) c.in_ok-label.ensures.header c.in_ok-set_count.ensures.counted)
    (λ anew. subst (λ k. HasSpace order k header c.args.mounted.now.pool c.in_ok-label.label) (sym (length-map c.args.rows.now (λ (row : Row). row.bytes.items))) (c.in_ok-label.ensures.space anew))

pub returns-clause-only : goal.returns-clause-only
returns-clause-only c =
    let order = c.args.order.now in
    let count = c.in_ok-count.count in
    let header = c.args.mounted.now.areas.header in
    loaded_only order (records_of c.args.rows.now) header c.args.mounted.now.pool c.placed_label.new.mounted.pool c.fill.new.store c.set_count.new.mounted.pool c.in_ok-label.label count c.in_ok-label.ensures.placed
    (c.in_ok-label.ensures.mounted.mounts ∙ ap Ok c.in_ok-label.ensures.header) c.fill.ensures.only c.in_ok-count.ensures.records c.in_ok-count.ensures.index
    (subst (λ h. IsCounted order.level order.name count h c.fill.new.store c.set_count.new.mounted.pool) c.in_ok-label.ensures.header c.in_ok-set_count.ensures.counted)
    (c.in_ok-set_count.ensures.long ∙ c.fill.ensures.long ∙ c.in_ok-label.ensures.long)

pub returns-clause-tail : goal.returns-clause-tail
returns-clause-tail c =
    let order = c.args.order.now in
    let count = c.in_ok-count.count in
    let header = c.args.mounted.now.areas.header in
    loaded_tail order (records_of c.args.rows.now) header c.args.mounted.now.pool c.placed_label.new.mounted.pool c.fill.new.store c.set_count.new.mounted.pool c.in_ok-label.label count c.in_ok-label.ensures.placed
    (c.in_ok-label.ensures.mounted.mounts ∙ ap Ok c.in_ok-label.ensures.header) c.fill.ensures.only c.in_ok-count.ensures.records c.in_ok-count.ensures.index
    (subst (λ h. IsCounted order.level order.name count h c.fill.new.store c.set_count.new.mounted.pool) c.in_ok-label.ensures.header c.in_ok-set_count.ensures.counted)
    c.in_ok-count.ensures.spare
