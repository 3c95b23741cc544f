use Rattle.std.proofs.Common.{◌≡◌, ◌-◌, ap, rules, length, take, replicate}
use Rattle.std.specs.Fmt.{decimal}
use Rattle.s3_bureau.proofs.Laying.{number_laid}
use Rattle.s3_bureau.proofs.report.lay_number.Goals as goal

pub returns-clause-laid : goal.returns-clause-laid
returns-clause-laid c =
    let digits : c.as_bytes-digits.result.now ≡ decimal c.args.number = search rules in
    let zeros : take c.saturating_sub-zeros.result (replicate 5 48) ≡ take (c.args.width - length c.as_bytes-digits.result.now) (replicate 5 48) =
    ap (λ n. take n (replicate 5 48)) c.saturating_sub-zeros.ensures in
    number_laid _ _ _ _ _ _ _ _ c.args.width c.args.number c.requires.1 zeros digits c.lay-first.ensures c.lay.ensures
