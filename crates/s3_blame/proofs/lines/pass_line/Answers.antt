use Rattle.std.proofs.Common.{◌∙◌, ◌++◌, ap, subst, sym}
use Rattle.std.specs.Prelude.{OnOk, Result, Ok, Err}
use Rattle.std.specs.List.{list_all}
use Rattle.s3_lines.specs.declared.sheet.Line.{Line}
use Rattle.s3_blame.specs.Inner.Names.{names_known}
use Rattle.s3_blame.specs.Inner.OwnMarks.{MarksFirst, are_marks_on, is_mark_among}
use Rattle.s3_blame.proofs.PartLemmas.{more_on_lines}
use Rattle.s3_blame.proofs.lines.pass_line.Goals as goal

always : {T E : Type 0} (r : Result T E) (P : Type 0) → P → OnOk r P
always (Ok x) P p = p
always (Err e) P p = tt

pub returns-clause-only : goal.returns-clause-only
returns-clause-only c = always c.pass.result _ (λ so_far.
    let names = names_known c.args.known.now in
    let old = c.args.found.now.items in
    let there = c.in-Some.ensures.lookup in
    let added = c.in_ok-extend_from_slice.ensures.items ∙ ap (λ more. old ++ more) c.deref.ensures.value in
    let here = ap (λ line. are_marks_on names line c.in_ok-more.more.items) (sym there.1) ∙ c.in_ok-more.ensures.only in
    ap (list_all (is_mark_among names c.args.lines.now)) added
    ∙ more_on_lines names c.args.lines.now c.args.place c.in-Some.line.now old c.in_ok-more.more.items so_far there.3.0 here)

pub returns-clause-passes : goal.returns-clause-passes
returns-clause-passes c = always c.pass.result _ (record {
  more = c.in_ok-more.more.items;
  added = c.in_ok-extend_from_slice.ensures.items ∙ ap (λ more. c.args.found.now.items ++ more) c.deref.ensures.value;
  first = λ line within is.
      subst (λ (l : Line). MarksFirst (names_known c.args.known.now) l c.args.told.now c.in_ok-more.more.items) (c.in-Some.ensures.lookup.3.1 line ∙ sym is) c.in_ok-more.ensures.first;
})
