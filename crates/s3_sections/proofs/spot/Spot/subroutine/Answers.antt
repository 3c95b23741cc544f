use Rattle.std.proofs.Common.{◌≡◌, refl, ◌+◌, sym, ◌∙◌, subst, arith, rules, suc}
use Rattle.s3_meaning.specs.Calculations.{name_in}
use Rattle.s3_meaning.specs.Source.{body}
use Rattle.s3_program.specs.Inner.Stands.{source_named}
use Rattle.s3_operations.specs.Inner.Fits.{named_factor}
use Rattle.s3_sections.specs.declared.spot.Section.TheVariants as section
use Rattle.s3_sections.specs.Inner.Sections.{rest_of}
use Rattle.s3_sections.specs.Inner.Spots.{IsSpot}
use Rattle.s3_sections.proofs.SheetLemmas.{some_same}
use Rattle.s3_sections.proofs.LabelLemmas.{target_subroutine}
use Rattle.s3_sections.proofs.JumpLemmas.{subroutine_known, subroutine_within, subroutine_spot, subroutine_whole}
use Rattle.s3_sections.proofs.CourseLemmas.{exsr_callee, called_spot}
use Rattle.s3_sections.proofs.spot.Spot.subroutine.Goals as goal

pub overflow_add-result : goal.overflow_add-result
overflow_add-result c =
    let t = target_subroutine c.args.program.now c.args.line.now c.requires.line in
    let e = some_same c.args.begsr t.entry.1.place (sym c.requires.begsr ∙ subroutine_known c.args.program.now c.args.line.now.factor2 t) in
    let w = subroutine_within c.args.program.now c.args.line.now.factor2 t in
    search (rules, e, w)

pub overflow_add-result-2 : goal.overflow_add-result-2
overflow_add-result-2 c =
    let t = target_subroutine c.args.program.now c.args.line.now c.requires.line in
    let e = some_same c.args.begsr t.entry.1.place (sym c.requires.begsr ∙ subroutine_known c.args.program.now c.args.line.now.factor2 t) in
    let w = subroutine_within c.args.program.now c.args.line.now.factor2 t in
    search (rules, e, w)

pub returns-clause-spot : goal.returns-clause-spot
returns-clause-spot c =
    let t = target_subroutine c.args.program.now c.args.line.now c.requires.line in
    let e : c.args.begsr ≡ t.entry.1.place = some_same c.args.begsr t.entry.1.place (sym c.requires.begsr ∙ subroutine_known c.args.program.now c.args.line.now.factor2 t) in
    let behind : suc t.entry.1.place ≡ c.args.begsr + 1 = omega (arith, e) in
    subst (λ n. IsSpot c.args.program.now (record { section = section.Subroutine; begin = n; place = n })) behind (subroutine_spot c.args.program.now c.args.line.now.factor2 t)

pub returns-clause-whole : goal.returns-clause-whole
returns-clause-whole c =
    let t = target_subroutine c.args.program.now c.args.line.now c.requires.line in
    let e : c.args.begsr ≡ t.entry.1.place = some_same c.args.begsr t.entry.1.place (sym c.requires.begsr ∙ subroutine_known c.args.program.now c.args.line.now.factor2 t) in
    let behind : suc t.entry.1.place ≡ c.args.begsr + 1 = omega (arith, e) in
    subst (λ n. body (source_named c.args.program.now) (name_in (named_factor c.args.program.now c.args.line.now.factor2)) ≡ rest_of c.args.program.now section.Subroutine n) behind
    (subroutine_whole c.args.program.now c.args.line.now.factor2 t)

pub returns-clause-calls : goal.returns-clause-calls
returns-clause-calls c =
    let t = target_subroutine c.args.program.now c.args.line.now c.requires.line in
    let e : c.args.begsr ≡ t.entry.1.place = some_same c.args.begsr t.entry.1.place (sym c.requires.begsr ∙ subroutine_known c.args.program.now c.args.line.now.factor2 t) in
    exsr_callee c.args.program.now c.args.line.now t
    ∙ sym (called_spot (record { section = section.Subroutine; begin = c.args.begsr + 1; place = c.args.begsr + 1 }) t.entry.1.place refl (omega (arith, e)))
