use Rattle.std.proofs.Common.{◌-◌, ◌++◌, ◌∙◌, ℕ, List, length, take, drop, ap, sym, arith}
use Rattle.std.proofs.lemmas.List.{length-take-le}
use Rattle.s3_labels.proofs.Migrated.{migrated_past_slots}
use Rattle.s3_labels.proofs.migrating.migrated_bytes.Goals as goal

pub slice_bounds-migrated_singly-end : goal.slice_bounds-migrated_singly-end
slice_bounds-migrated_singly-end c = sym (length-take-le 6400 c.args.bytes.now (omega (arith, c.if-bytes-le-SLOTS_END.false)))

pub returns : goal.returns
returns c =
    c.in_ok-extend_from_slice.ensures.items ∙ ap (λ (front : List ℕ). front ++ take (length c.args.bytes.now - 6400) (drop 6400 c.args.bytes.now)) c.in_ok-new.ensures ∙ migrated_past_slots c.args.bytes.now
