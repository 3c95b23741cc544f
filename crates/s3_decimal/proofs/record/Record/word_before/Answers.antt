use Rattle.std.proofs.Common.{List, ℕ, ◌+◌, ◌≤◌, ◌-◌, ap, length, subst, arith}
use Rattle.std.specs.Prelude.{slice_range}
use Rattle.s3_decimal.specs.Inner.Reaching.{EndsWord}
use Rattle.s3_decimal.proofs.BufferLemmas.{ends_word}
use Rattle.s3_decimal.proofs.record.Record.word_before.Goals as goal

pub returns : goal.returns
returns c =
    let P : List ℕ → Type 0 = λ bytes. (start : ℕ) → start ≤ c.args.end → c.args.end - start ≤ 8 → EndsWord (slice_range bytes start c.args.end) c.word_of.result in
    let within : c.args.end ≤ length (slice_range c.self.inside.buffer 8 (8 + c.self.inside.size)) = omega (arith, c.requires, ap (λ (xs : List ℕ). length xs) c.self.view_is) in
    subst P c.self.view_is (ends_word c.self.inside.buffer c.self.inside.size c.args.end c.word_of.result c.self.told c.self.invariant within c.word_of.ensures)
