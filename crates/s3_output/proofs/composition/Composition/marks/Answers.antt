use Rattle.std.proofs.Common.{◌∙◌, ap, take}
use Rattle.s3_output.proofs.CompositionLemmas.{marks_told, marks_untold}
use Rattle.s3_output.proofs.composition.Composition.marks.Goals as goal

pub returns-then-self : goal.returns-then-self
returns-then-self c =
    ap (take c.self.inside.length) c.deref.ensures
    ∙ marks_told c.self.inside.length c.self.inside.is_told c.self.inside.put.value c.self.inside.codes.value c.args.self.now c.self.invariant.codes_size c.self.invariant.puts_size c.self.view_is c.if-self.true

pub returns-else-self : goal.returns-else-self
returns-else-self c =
    marks_untold c.self.inside.length c.self.inside.is_told c.self.inside.put.value c.self.inside.codes.value c.args.self.now c.self.invariant.codes_size c.self.view_is c.if-self.false
