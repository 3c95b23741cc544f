use Rattle.std.proofs.Common.{sym, ap, ◌∙◌, ◌+◌, ◌*◌, ℕ}
use Rattle.std.specs.Prelude.{pos}
use Rattle.s3_operations.proofs.BeginLemmas.{date_at, month_at, day_at, year_at, dated}
use Rattle.s3_operations.proofs.values.Values.put_date.Goals as goal

pub put_number-requires-clause-fits : goal.put_number-requires-clause-fits
put_number-requires-clause-fits c = (year_at c.args.program.now).number

pub put_number-requires-clause-digits : goal.put_number-requires-clause-digits
put_number-requires-clause-digits c = c.whole.ensures.digits ∙ sym (year_at c.args.program.now).digits_is

pub put_number-requires-clause-decimals : goal.put_number-requires-clause-decimals
put_number-requires-clause-decimals c = c.whole.ensures.decimals ∙ sym (year_at c.args.program.now).decimals_is

pub put_number-requires-2-clause-fits : goal.put_number-requires-2-clause-fits
put_number-requires-2-clause-fits c = (day_at c.args.program.now).number

pub put_number-requires-2-clause-digits : goal.put_number-requires-2-clause-digits
put_number-requires-2-clause-digits c = c.whole-2.ensures.digits ∙ sym (day_at c.args.program.now).digits_is

pub put_number-requires-2-clause-decimals : goal.put_number-requires-2-clause-decimals
put_number-requires-2-clause-decimals c = c.whole-2.ensures.decimals ∙ sym (day_at c.args.program.now).decimals_is

pub put_number-requires-3-clause-fits : goal.put_number-requires-3-clause-fits
put_number-requires-3-clause-fits c = (month_at c.args.program.now).number

pub put_number-requires-3-clause-digits : goal.put_number-requires-3-clause-digits
put_number-requires-3-clause-digits c = c.whole-3.ensures.digits ∙ sym (month_at c.args.program.now).digits_is

pub put_number-requires-3-clause-decimals : goal.put_number-requires-3-clause-decimals
put_number-requires-3-clause-decimals c = c.whole-3.ensures.decimals ∙ sym (month_at c.args.program.now).decimals_is

pub put_number-requires-4-clause-fits : goal.put_number-requires-4-clause-fits
put_number-requires-4-clause-fits c = (date_at c.args.program.now).number

pub put_number-requires-4-clause-digits : goal.put_number-requires-4-clause-digits
put_number-requires-4-clause-digits c = c.whole-4.ensures.digits ∙ sym (date_at c.args.program.now).digits_is

pub put_number-requires-4-clause-decimals : goal.put_number-requires-4-clause-decimals
put_number-requires-4-clause-decimals c = c.whole-4.ensures.decimals ∙ sym (date_at c.args.program.now).decimals_is

pub returns : goal.returns
returns c =
    let p = c.args.program.now in
    dated c.args.date.now p c.args.self.now c.put_number.new.self c.put_number-2.new.self c.put_number-3.new.self c.put_number-4.new.self
    c.whole.result.value c.whole-2.result.value c.whole-3.result.value c.whole-4.result.value _ _ _ _ (year_at p).named (day_at p).named (month_at p).named (date_at p).named
    (c.whole.ensures.value ∙ ap (λ (n : ℕ). pos n) c.date_part-year.ensures) (c.whole-2.ensures.value ∙ ap (λ (n : ℕ). pos n) c.date_part-day.ensures)
    (c.whole-3.ensures.value ∙ ap (λ (n : ℕ). pos n) c.date_part-month.ensures)
    (c.whole-4.ensures.value ∙ (λ i. pos (c.date_part-month.ensures i * 10000 + c.date_part-day.ensures i * 100 + c.date_part-year.ensures i)))
    c.put_number.ensures.change c.put_number-2.ensures.change c.put_number-3.ensures.change c.put_number-4.ensures.change
