use Rattle.std.proofs.Common.{◌+◌, ◌-◌, ◌∙◌, ap, drop, length, map, refl, rules, take}
use Rattle.s3_cards.specs.Codes.{shown_byte}
use Rattle.s3_cells.proofs.TextLemmas.{kept_after}
use Rattle.s3_cells.proofs.texts.push_text.Goals as goal

pub returns : goal.returns
returns c =
    c.truncate.ensures.items
    ∙ kept_after c.push_characters.new.text.items c.args.text.now.items (map shown_byte c.args.codes.now) (take (length c.deref.result.now - c.len-before.result) (drop c.len-before.result c.deref.result.now)) c.len-before.result
    (length c.deref.result.now - c.len-before.result) c.trimmed_len-kept.result (c.len-before.result + c.trimmed_len-kept.result)
    c.trimmed_len-kept.ensures.value (ap (λ xs. take (length c.deref.result.now - c.len-before.result) (drop c.len-before.result xs)) c.deref.ensures.value) c.in_ok-push_characters.ensures (search rules) (ap (λ xs. length xs - c.len-before.result) c.deref.ensures.value) refl
