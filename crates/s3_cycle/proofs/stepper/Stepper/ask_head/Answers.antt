use Rattle.std.proofs.Common.{refl, ◌∙◌}
use Rattle.s3_cycle.proofs.AskLemmas.{asks_card, asks_record, slot_file, slot_listed, no_reader}
use Rattle.s3_cycle.proofs.stepper.Stepper.ask_head.Goals as goal
use Rattle.s3_cycle.proofs.stepper.Stepper.ask_head.Goals.{in-CardReader, in-Printer}

pub returns : goal.returns
returns c =
    let there = c.slot-slot.ensures.file c.args.self.now.program ∙ slot_file c.args.self.now.program c.slot-slot.result c.index-file.result.now (c.slot-slot.ensures.within c.args.self.now.program c.requires.running.reading) c.index-file.ensures in
    elim c.match-file.branch [
      | in-CardReader w ↦ asks_card c.args.self.now c.wait.new.self c.args.place c.match-file.request c.index-file.result.now c.wait.ensures w.request-is c.requires.running c.requires.unread there w.in-CardReader.is
      | in-Printer w ↦ asks_record c.args.self.now c.wait.new.self c.args.place c.slot-slot.result c.index-file.result.now.record_length c.match-file.request c.index-file.result.now c.wait.ensures w.request-is c.requires.running c.requires.unread there
          (slot_listed c.args.self.now.program c.slot-slot.result c.index-file.result.now (c.slot-slot.ensures.within c.args.self.now.program c.requires.running.reading) c.index-file.ensures) (no_reader c.index-file.result.now.device w.in-Printer.is) refl (c.slot-slot.ensures.name c.args.self.now.program c.requires.running.reading)
    ]
