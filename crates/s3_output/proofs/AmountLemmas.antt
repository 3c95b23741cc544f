-- Output forms with the style of an amount.
use Rattle.std.proofs.Common.{◌≡◌, ℕ, ◌≤◌, refl, arith, sym, ap, Bool, true, false, if◌then◌else◌, Option, Some, None}
use Rattle.std.specs.Prelude.{is_some, nat_le, unwrap_or}
use Rattle.std.proofs.lemmas.Bool.{true≢false}
use Rattle.std.proofs.lemmas.Bool.Decides.{nat_tests}
use Rattle.s3_edit.specs.declared.code.Amount.{Amount}
use Rattle.s3_edit.specs.declared.code.EditCode.TheVariants.{Edited, Zoned, Date, Suppressed}
use Rattle.s3_lines.specs.declared.sheet.OutputForm.{OutputForm}
use Rattle.s3_lines.specs.declared.sheet.OutputForm.TheVariants as put
use Rattle.s3_output.specs.Inner.Contents.{amount_of}

pub some_known : (o : Option ℕ) (n : ℕ) → is_some o ≡ true → n ≡ unwrap_or o 0 → o ≡ Some n
some_known None n some is = absurd (true≢false (sym some))
some_known (Some w) n some is = ap (λ k. Some k) (sym is)

few_decimals : (decimals : ℕ) → nat_le decimals 6 ≡ true → decimals ≤ 6
few_decimals decimals t = grind (arith, nat_tests, t)

-- a form with the style of an amount
pub amount_known : (form : OutputForm) (decimals : ℕ) (style : Amount) → Some style ≡ amount_of form decimals → (form ≡ put.Edited (Edited style)) × (decimals ≤ 6)
amount_known put.Plain decimals style h = absurd (true≢false (ap (λ o. is_some o) h))
amount_known put.Packed decimals style h = absurd (true≢false (ap (λ o. is_some o) h))
amount_known (put.Edited Zoned) decimals style h = absurd (true≢false (ap (λ o. is_some o) h))
amount_known (put.Edited Date) decimals style h = absurd (true≢false (ap (λ o. is_some o) h))
amount_known (put.Edited Suppressed) decimals style h = absurd (true≢false (ap (λ o. is_some o) h))
amount_known (put.Edited (Edited kept)) decimals style h = by (nat_le decimals 6) refl h
  where
    by : (b : Bool) → nat_le decimals 6 ≡ b → Some style ≡ (if b then Some kept else None) → (put.Edited (Edited kept) ≡ put.Edited (Edited style)) × (decimals ≤ 6)
    by true t h = (ap (λ (o : Option Amount). put.Edited (Edited (unwrap_or o kept))) (sym h), few_decimals decimals t)
    by false t h = absurd (true≢false (ap (λ o. is_some o) h))
