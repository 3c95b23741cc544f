use Rattle.std.proofs.Common.{◌≡◌, ◌+◌, ◌∷◌, [], ◌++◌, drop, sym, ap, ◌∙◌, arith}
use Rattle.std.proofs.lemmas.List.{drop_more, append_assoc}
use Rattle.json.specs.Token.{key}
use Rattle.json.specs.Tree.{json_tokens, items_tokens, members_tokens}
use Rattle.s3_json_lines.specs.Inner.Values.{json_of, items_view, members_view}
use Rattle.s3_json_lines.proofs.line.+tree.Goals as goal

pub write_items-loop-value-preserved : goal.write_items-loop-value-preserved
write_items-loop-value-preserved t c =
    let l = c.loop-value in
    let xs = c.deref-value-items.result.now in
    let x = c.value-item.result in
    let later = items_view (drop (l.value-index + 1) xs) in
    let here : drop l.value-index xs ≡ x ∷ drop (l.value-index + 1) xs = drop_more xs l.value-index x (omega arith) ∙ ap (λ y. y ∷ drop (l.value-index + 1) xs) (sym c.value-item.is) in
    let left = ap (λ ys. items_tokens (items_view ys)) here in
    let mine = json_tokens (json_of x) in
    let done = c.in_ok-write_value.ensures in (
      ap (λ ts. ts ++ items_tokens later) done.ok ∙ append_assoc l.json.tokens mine _ ∙ ap (λ ts. l.json.tokens ++ ts) (sym left) ∙ l.invariant.0,
      done.before ∙ l.invariant.1,
    )

pub write_members-loop-member-preserved : goal.write_members-loop-member-preserved
write_members-loop-member-preserved t c =
    let l = c.loop-member in
    let xs = c.deref-member-items.result.now in
    let x = c.member-item.result in
    let later = members_view (drop (l.member-index + 1) xs) in
    let here : drop l.member-index xs ≡ x ∷ drop (l.member-index + 1) xs = drop_more xs l.member-index x (omega arith) ∙ ap (λ y. y ∷ drop (l.member-index + 1) xs) (sym c.member-item.is) in
    let left = ap (λ ys. members_tokens (members_view ys)) here in
    let mine = json_tokens (json_of x.1) in
    let done = c.in_ok-write_value.ensures in
    let named = c.in_ok-key.ensures in (
      ap (λ ts. ts ++ members_tokens later) (done.ok ∙ ap (λ ts. ts ++ mine) named.ok) ∙ append_assoc _ mine _ ∙ append_assoc l.json.tokens (key x.0.now ∷ []) _
          ∙ ap (λ ts. l.json.tokens ++ ts) (sym left) ∙ l.invariant.0,
      done.before ∙ named.room.0 ∙ l.invariant.1,
    )
