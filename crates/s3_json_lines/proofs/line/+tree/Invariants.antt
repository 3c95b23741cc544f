-- What is written so far, with what is left, is all.
use Rattle.std.proofs.Common.{◌≡◌, ◌++◌, drop}
use Rattle.json.specs.Tree.{items_tokens, members_tokens}
use Rattle.s3_json_lines.specs.Inner.Values.{items_view, members_view}
use Rattle.s3_json_lines.proofs.line.+tree.Given as goal

abbrev pub invariant-write_items-loop-value : goal.invariant-write_items-loop-value
invariant-write_items-loop-value l =
    (l.json.tokens ++ items_tokens (items_view (drop l.value-index l.value-items)) ≡ l.initial.json.tokens ++ items_tokens (items_view l.value-items))
    × (l.json.before ≡ l.initial.json.before)

abbrev pub invariant-write_members-loop-member : goal.invariant-write_members-loop-member
invariant-write_members-loop-member l =
    (l.json.tokens ++ members_tokens (members_view (drop l.member-index l.member-items)) ≡ l.initial.json.tokens ++ members_tokens (members_view l.member-items))
    × (l.json.before ≡ l.initial.json.before)
