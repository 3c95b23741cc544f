use Rattle.std.proofs.Common.{ℕ, List, ◌++◌, Option, codes, sym, subst, append_assoc}
use Rattle.std.specs.Io.KnownBytes.{Appends}
use Rattle.std.proofs.KnownBytes.{Appends-trans}
use Rattle.s3_bureau.specs.Texts.{report_of}
use Rattle.s3_bureau.specs.Runs.{line}
use Rattle.s3_cli.proofs.output.write_lines.Goals as goal

section_behind : (a b c : Option (List ℕ)) (front heading section : List ℕ) → Appends a b front → Appends b c (heading ++ section) → Appends a c ((front ++ heading) ++ section)
section_behind a b c front heading section p q = subst (Appends a c) (sym (append_assoc front heading section)) (Appends-trans a b c front (heading ++ section) p q)

pub returns-clause-wrote : goal.returns-clause-wrote
returns-clause-wrote g c =
    let written = g.W.Sink.contents in
    let start = written c.args.writer.now in
    let one = line (codes ":report1") ++ report_of c.lines.result.now in
    let two = (one ++ line (codes ":halts1")) ++ c.as_slice.result.now in
    let three = (two ++ line (codes ":report2")) ++ report_of c.lines-2.result.now in
    let first_two = section_behind start (written c.write_report.new.writer) (written c.write_section.new.writer) one (line (codes ":halts1")) c.as_slice.result.now c.in_ok-write_report.ensures.wrote c.in_ok-write_section.ensures.wrote in
    let first_three = section_behind start (written c.write_section.new.writer) (written c.write_report-2.new.writer) two (line (codes ":report2")) (report_of c.lines-2.result.now) first_two c.in_ok-write_report-2.ensures.wrote in
    rw (← c.lines.ensures, ← c.as_slice.ensures.value, ← c.lines-2.ensures, ← c.as_slice-2.ensures.value)
    (section_behind start (written c.write_report-2.new.writer) (written c.write_section-2.new.writer) three (line (codes ":halts2")) c.as_slice-2.result.now first_three c.in_ok-write_section-2.ensures.wrote)
