use Rattle.std.proofs.Common.{to_z, of_z, w64, ◌∙◌, ap}
use Rattle.std.proofs.lemmas.Int.{to_z-of_z}
use Rattle.s3_meaning.specs.Output.{laid}
use Rattle.s3_output.specs.Inner.Numbers.{number_of}
use Rattle.s3_output.proofs.CompositionLemmas.{is_laid}
use Rattle.s3_output.proofs.NumberLemmas.{laid_begins, laid_length}
use Rattle.s3_output.proofs.composition.Composition.lay_number.Goals as goal

pub invariant_of-self : goal.invariant_of-self
invariant_of-self c =
    let content = number_of (to_z w64 (of_z w64 c.args.number)) c.args.form.now in
    let long = laid_length (to_z w64 (of_z w64 c.args.number)) c.args.form.now in
    let begins = laid_begins c.args.number c.args.form.now c.args.end c.requires.fits in
    let put = is_laid c.self.inside.length c.args.end c.args.form.now.width c.self.inside.is_told c.self.inside.put.value c.as_mut-2.result.now c.mark.new.put c.self.inside.codes.value c.as_mut.result.now c.overlay_number.new.text content c.args.self.now
    c.self.invariant c.self.view_is long begins c.requires.ends c.as_mut.ensures.value c.as_mut-2.ensures.value c.overlay_number.ensures c.mark.ensures c.overlay_number.auto.text c.mark.auto.put in put.composed

pub returns-clause-size : goal.returns-clause-size
returns-clause-size c =
    let content = number_of (to_z w64 (of_z w64 c.args.number)) c.args.form.now in
    let long = laid_length (to_z w64 (of_z w64 c.args.number)) c.args.form.now in
    let begins = laid_begins c.args.number c.args.form.now c.args.end c.requires.fits in
    let put = is_laid c.self.inside.length c.args.end c.args.form.now.width c.self.inside.is_told c.self.inside.put.value c.as_mut-2.result.now c.mark.new.put c.self.inside.codes.value c.as_mut.result.now c.overlay_number.new.text content c.args.self.now
    c.self.invariant c.self.view_is long begins c.requires.ends c.as_mut.ensures.value c.as_mut-2.ensures.value c.overlay_number.ensures c.mark.ensures c.overlay_number.auto.text c.mark.auto.put in put.size

pub returns-clause-value : goal.returns-clause-value
returns-clause-value c =
    let content = number_of (to_z w64 (of_z w64 c.args.number)) c.args.form.now in
    let long = laid_length (to_z w64 (of_z w64 c.args.number)) c.args.form.now in
    let begins = laid_begins c.args.number c.args.form.now c.args.end c.requires.fits in
    let put = is_laid c.self.inside.length c.args.end c.args.form.now.width c.self.inside.is_told c.self.inside.put.value c.as_mut-2.result.now c.mark.new.put c.self.inside.codes.value c.as_mut.result.now c.overlay_number.new.text content c.args.self.now
    c.self.invariant c.self.view_is long begins c.requires.ends c.as_mut.ensures.value c.as_mut-2.ensures.value c.overlay_number.ensures c.mark.ensures c.overlay_number.auto.text c.mark.auto.put in put.view
    ∙ ap (λ z. laid c.args.end (number_of z c.args.form.now) c.args.self.now) (to_z-of_z w64 c.args.number c.ranges.number)
