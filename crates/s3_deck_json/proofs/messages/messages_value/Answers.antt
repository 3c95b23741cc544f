use Rattle.s3_deck_json.specs.Inner.Objects.{message_json}
use Rattle.s3_deck_json.proofs.ObjectLemmas.{object_more}
use Rattle.s3_deck_json.proofs.messages.messages_value.Goals as goal

pub loop-message-preserved : goal.loop-message-preserved
loop-message-preserved c =
    object_more (message_json c.args.files.now) c.args.messages.now c.loop-message.message-index _ c.loop-message.values.items _ _
    c.loop-message-test.true c.message-item.is c.in_ok-message_value.ensures c.in_ok-push.ensures.items c.loop-message.invariant
