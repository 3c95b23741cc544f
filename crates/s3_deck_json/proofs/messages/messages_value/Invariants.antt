-- The messages so far are objects.
use Rattle.std.proofs.Common.{◌≡◌, map, take}
use Rattle.s3_deck_json.specs.Inner.Objects.{message_json}
use Rattle.s3_json_lines.specs.Inner.Values.{json_of}
use Rattle.s3_deck_json.proofs.messages.messages_value.Given as goal

abbrev pub invariant-loop-message : goal.invariant-loop-message
invariant-loop-message l = map json_of l.values.items ≡ map (message_json l.files) (take l.message-index l.messages)
