use Rattle.std.proofs.Common.{List, Ok, ap, sym, ◌∙◌}
use Rattle.std.specs.List.{flat_map}
use Rattle.s3_bureau.specs.declared.script.Command.{Command}
use Rattle.s3_bureau.specs.Script.{entries_by}
use Rattle.s3_bureau.proofs.Running.{unwritten_by}
use Rattle.s3_bureau.proofs.runs.run_unwritten.Goals as goal

pub returns : goal.returns
returns c =
    unwritten_by c.args.pack.items c.args.deck1.now c.args.deck2.now c.args.script.now (flat_map entries_by c.deref.result.now) c.from_bytes-store.result c.unwritten.result
    c.from_bytes-store.ensures
    (c.in_ok-commands.ensures ∙ ap (λ (commands : List Command). Ok (flat_map entries_by commands)) (sym c.deref.ensures.value)) c.unwritten.ensures
