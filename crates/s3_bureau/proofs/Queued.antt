-- The queue of a level is as long as that of each world that is held for it.
use Rattle.std.proofs.Common.{◌≡◌, ℕ, ◌-◌, true, List, ◌++◌, length, sym, ap, ◌∙◌, arith, length-append}
use Rattle.s3_cards.specs.Printed.{Printed}
use Rattle.s3_cards.specs.declared.levels.LevelId.{LevelId}
use Rattle.s3_cards.specs.declared.levels.LevelId.TheVariants.{One, Two}
use Rattle.s3_spool.specs.Inner.Queues.{blocks_of, queue_of}
use Rattle.s3_spool.proofs.QueueLemmas.{queue_length}
use Rattle.s3_solo.specs.Lines.{Lines}
use Rattle.s3_solo.specs.World.{World}
use Rattle.s3_level.specs.declared.level.Level.{Level}
use Rattle.s3_bureau.specs.Inner.Held.{State, HoldsFor, IsReadyFor, is_open, level_of}
use Rattle.s3_bureau.specs.Inner.Queries.{queued}

-- the number of queued lines is the number of lines after the drained ones
queued_behind : (drained queue : List Printed) (lines : Lines) → lines.printed ≡ drained ++ queue → lines.drained ≡ length drained → length queue ≡ queued lines
queued_behind drained queue lines printed counted =
    sym (ap (λ (all : List Printed). length all - lines.drained) printed ∙ ap (λ (n : ℕ). length (drained ++ queue) - n) counted ∙ omega (arith, length-append drained queue))

pub queued_held : (level : LevelId) (bureau : State) (w : World) → HoldsFor level bureau w → length (blocks_of (level_of level bureau).id bureau.beside.blocks) ≡ queued w.lines
queued_held level bureau w held =
    let holder : Level = level_of level bureau in
    let lines = held.world.parts.lines in
    sym (queue_length holder.id bureau.beside.blocks bureau.beside.state.contents)
    ∙ queued_behind holder.lines.items (queue_of holder.id bureau.beside.blocks bureau.beside.state.contents) w.lines lines.printed lines.drained_lines

-- a level of an open bureau can take entries in its own part of the pack
in_place : (level : LevelId) (bureau : State) → IsReadyFor bureau.one bureau.two bureau.beside → (level_of level bureau).id ≡ level
in_place One bureau ready = ready.one_is
in_place Two bureau ready = ready.two_is

pub queued_for : (level : LevelId) (bureau : State) → (is_open bureau ≡ true → IsReadyFor bureau.one bureau.two bureau.beside) → is_open bureau ≡ true
    → length (blocks_of (level_of level bureau).id bureau.beside.blocks) ≡ length (blocks_of level bureau.beside.blocks)
queued_for level bureau laid_out takes = ap (λ (id : LevelId). length (blocks_of id bureau.beside.blocks)) (in_place level bureau (laid_out takes))
