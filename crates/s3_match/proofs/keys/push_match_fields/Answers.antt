use Rattle.std.proofs.Common.{refl, arith}
use Rattle.s3_meaning.specs.Selection.{levels}
use Rattle.s3_match.specs.Inner.Keys.{match_values}
use Rattle.s3_match.proofs.ComparedLemmas.{at_end}
use Rattle.s3_match.proofs.KeyLemmas.{none_yet, no_room_taken, values_more, more_room}
use Rattle.s3_match.proofs.keys.push_match_fields.Goals as goal

pub loop-step-init : goal.loop-step-init
loop-step-init c = record {
  items = none_yet c.args.fields.now c.args.bytes.now c.args.compared.now c.requires;
  room = no_room_taken c.args.compared.now c.requires;
}

pub push_field-requires-clause-room : goal.push_field-requires-clause-room
push_field-requires-clause-room c = omega (arith, c.loop-step.invariant.room)

pub loop-step-preserved : goal.loop-step-preserved
loop-step-preserved c = record {
  items = values_more c.args.fields.now c.args.bytes.now c.loop-step.compared _ _ c.loop-step-test.true c.loop-step.invariant.items c.push_field.ensures.items;
  room = more_room _ _ _ c.loop-step.invariant.room c.push_field.ensures.bound;
}

pub returns : goal.returns
returns c = at_end (match_values c.args.fields.now c.args.bytes.now) _ _ levels _ refl c.loop-step-test.false c.loop-step.invariant.items
