use Rattle.std.proofs.Common.{◌≡◌, Some, rules}
use Rattle.s3_cli.specs.Parts.{parts_of}
use Rattle.s3_cli.specs.Session.{IsShort}
use Rattle.s3_cli.proofs.Answering.{answered}
use Rattle.s3_cli.proofs.exchange.session_on.Goals as goal

pub returns-in-Ok-written-clause-wrote : goal.returns-in-Ok-written-clause-wrote
returns-in-Ok-written-clause-wrote g c =
    let short : IsShort c.in-Ok.input.items = search rules in
    let has : parts_of c.in-Ok.input.items ≡ Some (record { deck1 = c.in-Some.parts.deck1.now; deck2 = c.in-Some.parts.deck2.now; script = c.in-Some.parts.script.now }) = search rules in (
      c.in-Ok.input.items,
      (
        c.in-Ok.ensures.all,
        answered c.args.pack.items c.in-Ok.input.items c.into_pack-pack.result.items (record { deck1 = c.in-Some.parts.deck1.now; deck2 = c.in-Some.parts.deck2.now; script = c.in-Some.parts.script.now }) c.in_ok-unwritten.unwritten
            (g.W.Sink.contents c.args.writer.now) (g.W.Sink.contents c.write_lines-written.new.writer) short has c.in_ok-unwritten.ensures c.in-Ok-written.ensures.wrote
            (record { sectors = c.into_pack-pack.ensures.sectors; whole = c.into_pack-pack.ensures.whole }),
      ),
    )
