use Rattle.std.proofs.Common.{◌≡◌, ◌+◌, ◌∷◌, ℕ, List, suc, [], subst, take, drop, length, arith}
use Rattle.std.proofs.Math.Seq.{take-length, drop-length}
use Rattle.s3_cli.specs.Parts.{whole_lines}
use Rattle.s3_cli.proofs.Lines.{whole_lines_first, whole_lines_last}
use Rattle.s3_cli.proofs.parts.line_length.Goals as goal

pub returns-in-Some-clause-line : goal.returns-in-Some-clause-line
returns-in-Some-clause-line c =
    let first = c.in-Some.ensures in
    let text : List ℕ = c.args.text.now in
    let next : suc c.in-Some.end ≡ c.in-Some.end + 1 = omega arith in
    subst (λ n. whole_lines text ≡ take n text ∷ whole_lines (drop n text)) next
    (whole_lines_first text c.in-Some.end first.0.high first.1 (λ k below. first.0.before k (omega arith) below))

pub returns-in-None-clause-line : goal.returns-in-None-clause-line
returns-in-None-clause-line c =
    let text : List ℕ = c.args.text.now in
    let last = whole_lines_last text c.requires (λ k within. c.in-None.ensures k (omega arith) within) in
    let all : take (length text) text ≡ text = take-length text in
    let none : drop (length text) text ≡ [] = drop-length text in
    rw (all, none) last
