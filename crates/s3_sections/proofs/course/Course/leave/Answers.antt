use Rattle.std.proofs.Common.{◌≡◌, List, [], ◌∷◌, ◌++◌, ◌-◌, refl, ap, subst, sym, ◌∙◌, length}
use Rattle.std.specs.Prelude.{None, slice_get}
use Rattle.std.specs.Option.{option_copied, option_to_list}
use Rattle.s3_sections.specs.declared.spot.Spot.{Spot}
use Rattle.s3_sections.specs.Inner.Courses.{AreCalls}
use Rattle.s3_sections.proofs.CourseLemmas.{calls_less, none_last, none_left}
use Rattle.s3_sections.proofs.course.Course.leave.Goals as goal

pub returns-in-Some : goal.returns-in-Some
returns-in-Some c = λ program course.
    let old = c.args.self.now.returns.items in
    let new = c.pop.new.self.items in
    let spot = c.in-Some.spot.now in
    let items : old ≡ new ++ spot ∷ [] =
    c.pop.ensures.items
    ∙ ap (λ last. new ++ option_to_list last)
    (c.pop.ensures.value ∙ (sym (c.last.ensures.value ∙ (λ i. slice_get (c.deref.ensures.0 i) (length (c.deref.ensures.0 i) - 1))) ∙ ap option_copied c.in-Some.is)) in
    let less = calls_less program None new spot c.args.self.now.here (subst (λ (spots : List Spot). AreCalls program None spots c.args.self.now.here) items course.calls) in (
      record { here = less.0; calls = less.1 },
      ap (λ (spots : List Spot). spots ++ c.args.self.now.here ∷ []) items,
    )

pub returns-in-None : goal.returns-in-None
returns-in-None c = λ program course.
    let old = c.args.self.now.returns.items in
    let nothing : None ≡ slice_get old (length old - 1) =
    ap option_copied (sym c.in-None.is) ∙ (c.last.ensures.value ∙ (λ i. slice_get (c.deref.ensures.0 i) (length (c.deref.ensures.0 i) - 1))) in
    (refl, none_left old (none_last old nothing))
