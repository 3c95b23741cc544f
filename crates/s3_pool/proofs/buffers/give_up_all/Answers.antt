use Rattle.std.proofs.Common.{refl, ◌∙◌, add-zero, arith}
use Rattle.std.proofs.lemmas.Option.{slice_get_read}
use Rattle.s3_pool.proofs.Steps.{laid_trans, saved, stays_in_step, all_gone, still_indexed, none_indexed}
use Rattle.s3_pool.proofs.buffers.give_up_all.Goals as goal

pub loop-slot-preserved : goal.loop-slot-preserved
loop-slot-preserved g c =
    let slots = c.args.buffers.now.slots.items in
    let before = c.loop-slot.invariant in
    let on = slice_get_read slots _ c.loop-slot.slot c.index.result.now refl (omega (arith, before.end, c.loop-slot-test.true)) c.index.ensures in
    rw c.in_ok-write_back.ensures.ok (record {
      end = before.end;
      keeps = laid_trans before.keeps (saved _ slots c.loop-slot.slot c.index.result.now on before.keeps.sound);
      failures = c.in_ok-write_back.ensures.failures ∙ add-zero _ ∙ before.failures;
      in_step = stays_in_step _ slots c.loop-slot.slot c.index.result.now on before.keeps.sound before.in_step;
    })

pub returns-clause-keeps : goal.returns-clause-keeps
returns-clause-keeps g c =
    let after = c.loop-slot.invariant in
    rw c.clear.ensures.items (all_gone after.keeps (λ j z below at. after.in_step j z (omega (arith, below, after.end, c.loop-slot-test.false)) at))

pub returns-in_err-write_back-clause-indexed : goal.returns-in_err-write_back-clause-indexed
returns-in_err-write_back-clause-indexed g c = rw c.in_err-write_back.ensures.err (still_indexed c.args.buffers.now c.loop-slot.invariant.keeps c.requires.indexed)

pub returns-clause-indexed : goal.returns-clause-indexed
returns-clause-indexed g c = none_indexed c.args.buffers.now _ c.loop-slot.invariant.keeps c.requires.indexed refl c.clear.ensures.items
