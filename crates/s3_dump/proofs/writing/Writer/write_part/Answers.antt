use Rattle.std.proofs.Common.{refl}
use Rattle.s3_dump.specs.Inner.Writing.{AddsBytes}
use Rattle.s3_dump.proofs.WriterLemmas.{IsTaken, bytes_kept, part_added}
use Rattle.s3_dump.proofs.writing.Writer.write_part.Goals as goal

pub returns : goal.returns
returns c =
    let taken : IsTaken c.args.self.now.pack.now c.args.self.now.place c.taken-bytes.result.now = record { bytes_are = c.taken-bytes.ensures.bytes; within = c.taken-bytes.ensures.within } in
    let adds : AddsBytes c.args.self.now c.add_zeros.new.self c.taken-bytes.result.now =
    part_added c.args.self.now c.put_codes.new.self c.add_zeros.new.self c.taken-bytes.result.now c.used_in-used.result c.used_in-used.ensures.within c.used_in-used.ensures.zeros c.in_ok-put_codes.ensures c.add_zeros.ensures in
    bytes_kept c.args.self.now c.add_zeros.new.self _ c.taken-bytes.result.now c.taken-bytes.ensures.short taken adds refl refl refl c.saturating_add-self.ensures
