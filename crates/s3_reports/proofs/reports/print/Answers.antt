use Rattle.std.proofs.Common.{ℕ, List, [], ◌++◌, ◌∙◌, ap, append_assoc, refl, take}
use Rattle.s3_bureau.specs.Texts.{report_of}
use Rattle.s3_reports.proofs.Writing.{adds_all, adds_none, adds_then, no_report}
use Rattle.s3_reports.proofs.reports.print.Goals as goal

pub loop-rest-init : goal.loop-rest-init
loop-rest-init g c = ([], (adds_none (g.W.Write.contents c.args.output.now.writer) c.args.output.now.has_failed, refl))

pub loop-rest-preserved : goal.loop-rest-preserved
loop-rest-preserved g c =
    let so_far = c.loop-rest.invariant in
    let laid : List ℕ = take c.lay_lines-end.result.0 c.lay_lines-end.new.room in (
      so_far.0 ++ laid,
      (
        adds_then (g.W.Write.contents c.args.output.now.writer) (g.W.Write.contents c.loop-rest.output.writer) (g.W.Write.contents c.put.new.self.writer) c.args.output.now.has_failed c.loop-rest.output.has_failed c.put.new.self.has_failed so_far.0 laid so_far.1.0 c.put.ensures,
        append_assoc so_far.0 laid (report_of c.lay_lines-end.result.1.now) ∙ ap (λ (text : List ℕ). so_far.0 ++ text) c.lay_lines-end.ensures.laid ∙ so_far.1.1,
      ),
    )

pub returns : goal.returns
returns g c =
    let so_far = c.loop-rest.invariant in
    adds_all (g.W.Write.contents c.args.output.now.writer) (g.W.Write.contents c.loop-rest.output.writer) (g.W.Write.contents c.flush.new.self.writer) c.args.output.now.has_failed c.loop-rest.output.has_failed c.flush.new.self.has_failed so_far.0
    (report_of c.loop-rest.rest.now) (report_of c.args.lines.now) so_far.1.0 so_far.1.1 (no_report c.loop-rest.rest.now c.loop-rest-test.ensures) c.flush.ensures
