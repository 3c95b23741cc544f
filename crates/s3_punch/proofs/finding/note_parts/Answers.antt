-- One more part is reported.
use Rattle.std.proofs.Common.{◌+◌, ◌++◌, length, refl, ap, ◌∙◌}
use Rattle.std.specs.Option.{option_map}
use Rattle.s3_punch.specs.Inner.Cards.{piece_of}
use Rattle.s3_punch.specs.Inner.Faults.{part_fault}
use Rattle.s3_punch.specs.Inner.Pieces.{parts_left}
use Rattle.s3_punch.proofs.FaultLemmas.{one_part_told, room_behind}
use Rattle.s3_punch.proofs.finding.note_parts.Goals as goal

pub loop-left-preserved : goal.loop-left-preserved
loop-left-preserved c =
    let part = c.first_part.result.0.now in (
      one_part_told c.args.line c.loop-left.column (c.loop-left.column + (length part + 1)) c.loop-left.faults.items c.note_part.new.faults.items _ c.loop-left.card.items c.in_ok-card.card.items part
          (parts_left (option_map (λ rest. rest.now) c.loop-left.left)) (parts_left (option_map (λ rest. rest.now) c.first_part.result.1)) c.loop-left.invariant.0
          (ap (λ left. parts_left (option_map (λ rest. rest.now) left)) c.in-Some.is ∙ c.first_part.ensures.parts)
          (c.in_ok-note_part.ensures ∙ ap (λ card. c.loop-left.faults.items ++ part_fault c.args.line c.loop-left.column card part (piece_of part)) c.deref.ensures.value)
          c.in_ok-card.ensures
          refl,
      room_behind c.loop-left.column (length part) (length c.in-Some.rest.now) (length c.args.text.now + 3) c.first_part.result.1
          (rw c.in-Some.is at c.loop-left.invariant.1)
          c.first_part.ensures.width
          c.first_part.ensures.within,
    )
