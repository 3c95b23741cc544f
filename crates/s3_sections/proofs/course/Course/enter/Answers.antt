use Rattle.std.proofs.Common.{◌≡◌, ◌+◌, [], ◌∷◌, ◌++◌, ap, ◌∙◌, arith, suc, rules}
use Rattle.s3_lines.specs.declared.sheet.Operation.TheVariants as op
use Rattle.s3_meaning.specs.Calculations.{name_in}
use Rattle.s3_meaning.specs.Source.{body}
use Rattle.s3_program.specs.Inner.Stands.{source_named}
use Rattle.s3_operations.specs.Inner.Fits.{named_factor}
use Rattle.s3_sections.proofs.CourseLemmas.{room_at, exsr_callee, entered_calls, entered_rest}
use Rattle.s3_sections.proofs.LabelLemmas.{target_subroutine, line_of}
use Rattle.s3_sections.proofs.course.Course.enter.Goals as goal

pub push-requires : goal.push-requires
push-requires c =
    let t = target_subroutine c.args.program.now c.args.line.now (line_of c.args.program.now c.args.place c.args.line.now op.ExecuteSubroutine c.requires.line) in (
      search rules,
      room_at c.args.program.now c.args.self.now.returns.items c.args.self.now.here c.args.place c.args.line.now t.entry.1.place c.requires.course.calls c.requires.line c.requires.inside
          (exsr_callee c.args.program.now c.args.line.now t),
    )

pub returns : goal.returns
returns c =
    let t = target_subroutine c.args.program.now c.args.line.now (line_of c.args.program.now c.args.place c.args.line.now op.ExecuteSubroutine c.requires.line) in
    let one : c.args.place + 1 ≡ suc c.args.place = omega arith in
    let items : c.push.new.self.items ≡ c.args.self.now.returns.items ++ (record c.args.self.now.here { place = suc c.args.place }) ∷ [] =
    c.push.ensures.items ∙ ap (λ n. c.args.self.now.returns.items ++ (record c.args.self.now.here { place = n }) ∷ []) one in
    record {
      course = record {
        here = c.subroutine-first.ensures.spot;
        calls = entered_calls c.args.program.now c.args.self.now.returns.items c.push.new.self.items c.args.self.now.here c.subroutine-first.result c.args.place c.args.line.now c.requires.course.here
            c.requires.course.calls c.requires.line c.requires.inside items t c.subroutine-first.ensures.calls;
      };
      rest = entered_rest c.args.program.now c.push.new.self.items (c.args.self.now.returns.items ++ (record c.args.self.now.here { place = suc c.args.place }) ∷ []) c.subroutine-first.result
          (body (source_named c.args.program.now) (name_in (named_factor c.args.program.now c.args.line.now.factor2))) items c.subroutine-first.ensures.section c.subroutine-first.ensures.all c.subroutine-first.ensures.whole;
    }
