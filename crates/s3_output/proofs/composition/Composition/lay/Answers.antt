use Rattle.std.proofs.Common.{refl}
use Rattle.s3_output.proofs.CompositionLemmas.{is_laid}
use Rattle.s3_output.proofs.composition.Composition.lay.Goals as goal

pub invariant_of-self : goal.invariant_of-self
invariant_of-self c =
    let laid = is_laid c.self.inside.length c.args.end _ c.self.inside.is_told c.self.inside.put.value c.as_mut-2.result.now c.mark.new.put c.self.inside.codes.value c.as_mut.result.now c.overlay.new.text c.args.content.now c.args.self.now
    c.self.invariant c.self.view_is refl c.requires.begins c.requires.ends c.as_mut.ensures.value c.as_mut-2.ensures.value c.overlay.ensures c.mark.ensures c.overlay.auto.text c.mark.auto.put in laid.composed

pub returns-clause-size : goal.returns-clause-size
returns-clause-size c =
    let laid = is_laid c.self.inside.length c.args.end _ c.self.inside.is_told c.self.inside.put.value c.as_mut-2.result.now c.mark.new.put c.self.inside.codes.value c.as_mut.result.now c.overlay.new.text c.args.content.now c.args.self.now
    c.self.invariant c.self.view_is refl c.requires.begins c.requires.ends c.as_mut.ensures.value c.as_mut-2.ensures.value c.overlay.ensures c.mark.ensures c.overlay.auto.text c.mark.auto.put in laid.size

pub returns-clause-value : goal.returns-clause-value
returns-clause-value c =
    let laid = is_laid c.self.inside.length c.args.end _ c.self.inside.is_told c.self.inside.put.value c.as_mut-2.result.now c.mark.new.put c.self.inside.codes.value c.as_mut.result.now c.overlay.new.text c.args.content.now c.args.self.now
    c.self.invariant c.self.view_is refl c.requires.begins c.requires.ends c.as_mut.ensures.value c.as_mut-2.ensures.value c.overlay.ensures c.mark.ensures c.overlay.auto.text c.mark.auto.put in laid.view
