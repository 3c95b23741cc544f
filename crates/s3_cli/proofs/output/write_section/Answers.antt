use Rattle.std.proofs.KnownBytes.{Appends-trans}
use Rattle.s3_cli.proofs.output.write_section.Goals as goal

pub returns-clause-wrote : goal.returns-clause-wrote
returns-clause-wrote g c =
    Appends-trans (g.W.Sink.contents c.args.writer.now) (g.W.Sink.contents c.write_all.new.self) (g.W.Sink.contents c.write_all-2.new.self) c.args.heading.now c.args.section.now c.in_ok-write_all.ensures.bytes c.in_ok-write_all-2.ensures.bytes
