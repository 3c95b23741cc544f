use Rattle.std.proofs.Common.{◌≡◌, length, refl, arith}
use Rattle.s3_match.proofs.AgainLemmas.{begun_first, begun_sound, is_beginning, one_more_begun, slot_within}
use Rattle.s3_match.proofs.reading.Reading.begin_again.Goals as goal

pub loop-place-init : goal.loop-place-init
loop-place-init c = is_beginning c.args.program.now c.args.switches c.args.self.now c.requires

pub begin_input-requires : goal.begin_input-requires
begin_input-requires c =
    let many : c.len-place-end.result ≡ length c.args.self.now.files.items = grind (arith, c.len-place-end.ensures) in
    slot_within c.args.program.now c.loop-place.self.files.items c.loop-place.place c.index_mut.result.now c.loop-place.invariant.begun.slots (omega (arith, many, c.loop-place.invariant.many)) c.index_mut.ensures.value

pub loop-place-preserved : goal.loop-place-preserved
loop-place-preserved c =
    let many : c.len-place-end.result ≡ length c.args.self.now.files.items = grind (arith, c.len-place-end.ensures) in
    one_more_begun c.args.program.now c.args.switches c.loop-place.place c.args.self.now c.loop-place.self _ c.index_mut.result.now c.begin_input.new.input (omega (arith, many, c.loop-place.invariant.many)) c.index_mut.ensures.value c.begin_input.ensures refl refl c.loop-place.invariant

pub returns-clause-sound : goal.returns-clause-sound
returns-clause-sound c =
    let many : c.len-place-end.result ≡ length c.args.self.now.files.items = grind (arith, c.len-place-end.ensures) in
    begun_sound c.args.program.now c.args.switches c.loop-place.place c.args.self.now c.loop-place.self _ (omega (arith, many, c.loop-place.invariant.many)) c.requires c.loop-place.invariant refl

pub returns-clause-reading : goal.returns-clause-reading
returns-clause-reading c = λ e begins.
    let many : c.len-place-end.result ≡ length c.args.self.now.files.items = grind (arith, c.len-place-end.ensures) in
    begun_first c.args.program.now c.args.switches c.loop-place.place c.loop-place.self.files.items _ e (omega (arith, many, c.loop-place.invariant.many)) c.loop-place.invariant.begun c.forget.ensures begins
