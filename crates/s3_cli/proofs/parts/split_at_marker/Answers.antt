use Rattle.std.proofs.Common.{rules, arith, ◌≡◌, ◌≤◌, ◌+◌, ℕ, List, length, take, drop, refl, sym, ◌∙◌, ap, true, false}
use Rattle.s3_cli.specs.Parts.{is_marker}
use Rattle.s3_cli.proofs.Lines.{PassesOver, passes_line, finds_marker, has_it, next_line, no_more, line_is, rest_is, to_line}
use Rattle.s3_cli.proofs.parts.split_at_marker.Goals as goal

pub returns-then-is_marker_line-clause-found : goal.returns-then-is_marker_line-clause-found
returns-then-is_marker_line-clause-found c =
    let text : List ℕ = c.args.text.now in
    let word : List ℕ = c.args.word.now in
    let start : ℕ = c.loop-colon.passed + c.last_line_start.result in
    let n : ℕ = c.line_length.result in
    let so_far : PassesOver word text start =
    to_line word text c.loop-colon.passed c.in-Some.colon c.last_line_start.result c.loop-colon.invariant c.requires (c.in-Some.ensures.0.high, λ k h. c.in-Some.ensures.0.before k (omega arith) h) (c.last_line_start.ensures.within, c.last_line_start.ensures.behind) in
    let marks : is_marker word (take n (drop start text)) ≡ true =
    sym (ap (is_marker word) (line_is text start n)) ∙ sym c.is_marker_line.ensures ∙ c.if-is_marker_line.true in
    rw (rest_is text (start + n)) (finds_marker word text (take n (drop start text)) start n so_far (next_line text start n c.line_length.ensures.line) marks)

pub returns-then-is_marker_line-clause-some : goal.returns-then-is_marker_line-clause-some
returns-then-is_marker_line-clause-some c =
    let text : List ℕ = c.args.text.now in
    let word : List ℕ = c.args.word.now in
    let start : ℕ = c.loop-colon.passed + c.last_line_start.result in
    let n : ℕ = c.line_length.result in
    let so_far : PassesOver word text start =
    to_line word text c.loop-colon.passed c.in-Some.colon c.last_line_start.result c.loop-colon.invariant c.requires (c.in-Some.ensures.0.high, λ k h. c.in-Some.ensures.0.before k (omega arith) h) (c.last_line_start.ensures.within, c.last_line_start.ensures.behind) in
    let marks : is_marker word (take n (drop start text)) ≡ true =
    sym (ap (is_marker word) (line_is text start n)) ∙ sym c.is_marker_line.ensures ∙ c.if-is_marker_line.true in
    sym (has_it word text (take n (drop start text)) _ start so_far (next_line text start n c.line_length.ensures.line) marks)

pub loop-colon-preserved : goal.loop-colon-preserved
loop-colon-preserved c =
    let text : List ℕ = c.args.text.now in
    let word : List ℕ = c.args.word.now in
    let start : ℕ = c.loop-colon.passed + c.last_line_start.result in
    let n : ℕ = c.line_length.result in
    let so_far : PassesOver word text start =
    to_line word text c.loop-colon.passed c.in-Some.colon c.last_line_start.result c.loop-colon.invariant c.requires (c.in-Some.ensures.0.high, λ k h. c.in-Some.ensures.0.before k (omega arith) h) (c.last_line_start.ensures.within, c.last_line_start.ensures.behind) in
    let plain : is_marker word (take n (drop start text)) ≡ false =
    sym (ap (is_marker word) (line_is text start n)) ∙ sym c.is_marker_line.ensures ∙ c.if-is_marker_line.false in
    let within : start + n ≤ length text = search rules in
    passes_line word text (take n (drop start text)) start n so_far (next_line text start n c.line_length.ensures.line) refl within plain

pub returns-clause-some : goal.returns-clause-some
returns-clause-some c = sym (no_more c.args.word.now c.args.text.now c.loop-colon.passed c.loop-colon.invariant c.requires (λ k h. c.in_default.ensures k (omega arith) h))
