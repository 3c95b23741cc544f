use Rattle.std.proofs.Common.{◌≡◌, ◌++◌, ◌∙◌, ◌==◌, ℕ, true, List, [], ◌∷◌, length, take, refl, sym, subst, ap, append_assoc, append-nil, arith}
use Rattle.std.proofs.lemmas.Bool.{eqb-true}
use Rattle.std.specs.Io.KnownBytes.{Appends}
use Rattle.std.proofs.KnownBytes.{Appends-nil, Appends-trans}
use Rattle.s3_cards.specs.declared.print_line.PrintLine.{PrintLine}
use Rattle.s3_bureau.specs.Texts.{report_of}
use Rattle.s3_cli.proofs.output.write_report.Goals as goal

no_report : (lines : List PrintLine) → true ≡ (length lines == 0) → report_of lines ≡ []
no_report [] none = refl
no_report (line ∷ lines) none =
    let no_line : length (line ∷ lines) ≡ 0 = eqb-true (length (line ∷ lines)) 0 (sym none) in
    absurd (omega (arith, no_line))

pub loop-rest-init : goal.loop-rest-init
loop-rest-init g c = (([], (Appends-nil (g.W.Sink.contents c.write_all.new.self), refl)), refl)

pub loop-rest-preserved : goal.loop-rest-preserved
loop-rest-preserved g c =
    let so_far = c.loop-rest.invariant.0 in
    let laid : List ℕ = take c.lay_lines-end.result.0 c.lay_lines-end.new.room in (
      (
        so_far.0 ++ laid,
        (
          Appends-trans (g.W.Sink.contents c.write_all.new.self) (g.W.Sink.contents c.loop-rest.writer) (g.W.Sink.contents c.write_all-in-loop-rest.new.self) so_far.0 laid so_far.1.0 c.in_ok-write_all-2.ensures.bytes,
          append_assoc so_far.0 laid (report_of c.lay_lines-end.result.1.now) ∙ ap (λ (text : List ℕ). so_far.0 ++ text) c.lay_lines-end.ensures.laid ∙ so_far.1.1,
        ),
      ),
      c.in_ok-write_all-2.ensures.ok ∙ c.loop-rest.invariant.1,
    )

pub returns-clause-wrote : goal.returns-clause-wrote
returns-clause-wrote g c =
    let so_far = c.loop-rest.invariant.0 in
    let whole : so_far.0 ≡ report_of c.args.lines.now = sym (append-nil so_far.0) ∙ ap (λ (text : List ℕ). so_far.0 ++ text) (sym (no_report c.loop-rest.rest.now c.loop-rest-test.ensures)) ∙ so_far.1.1 in
    subst (λ (text : List ℕ). Appends (g.W.Sink.contents c.args.writer.now) (g.W.Sink.contents c.loop-rest.writer) (c.args.heading.now ++ text)) whole
    (Appends-trans (g.W.Sink.contents c.args.writer.now) (g.W.Sink.contents c.write_all.new.self) (g.W.Sink.contents c.loop-rest.writer) c.args.heading.now so_far.0 c.in_ok-write_all.ensures.bytes so_far.1.0)
