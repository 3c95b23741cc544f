use Rattle.std.proofs.Common.{◌∙◌, ap, sym, take}
use Rattle.s3_meaning.specs.Output.{filled}
use Rattle.s3_output.proofs.composition.Composition.codes.Goals as goal

pub returns : goal.returns
returns c = ap (take c.self.inside.length) c.deref.ensures ∙ (sym c.self.invariant.blanks ∙ ap filled c.self.view_is)
