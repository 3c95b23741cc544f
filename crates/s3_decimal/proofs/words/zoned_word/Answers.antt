use Rattle.std.proofs.Common.{◌/◌, ◌<◌, ◌^◌, ℕ, ◌∙◌, ap, sym, subst, not, length}
use Rattle.s3_decimal.specs.Exact.{signed}
use Rattle.s3_decimal.specs.Records.{is_minus, last_byte}
use Rattle.s3_decimal.proofs.FieldWordLemmas.{zoned_in, zoned_bad, zoned_spelled, zoned_below, zoned_eight}
use Rattle.s3_decimal.proofs.words.zoned_word.Goals as goal

pub has_bad-requires : goal.has_bad-requires
has_bad-requires c = (zoned_in c.args.word c.args.bytes.now c.requires.few c.requires.word).bound

pub returns-then-has_bad-clause-fault : goal.returns-then-has_bad-clause-fault
returns-then-has_bad-clause-fault c =
    let z = zoned_in c.args.word c.args.bytes.now c.requires.few c.requires.word in
    ap not (sym c.if-has_bad.true ∙ (c.has_bad.ensures (zoned_eight c.args.bytes.now) z.eight z.small z.is ∙ zoned_bad c.args.bytes.now))

pub number-requires-clause-within_digits : goal.number-requires-clause-within_digits
number-requires-clause-within_digits c =
    let z = zoned_in c.args.word c.args.bytes.now c.requires.few c.requires.word in
    let bad = c.has_bad.ensures (zoned_eight c.args.bytes.now) z.eight z.small z.is ∙ zoned_bad c.args.bytes.now in
    let is = c.spelled.ensures (zoned_eight c.args.bytes.now) z.eight z.fit z.is ∙ zoned_spelled c.args.bytes.now (sym bad ∙ c.if-has_bad.false) in
    subst (λ (n : ℕ). n < 10 ^ length c.args.bytes.now) (sym is) (zoned_below c.args.bytes.now)

pub returns-clause-fault : goal.returns-clause-fault
returns-clause-fault c =
    let z = zoned_in c.args.word c.args.bytes.now c.requires.few c.requires.word in
    ap not (sym c.if-has_bad.false ∙ (c.has_bad.ensures (zoned_eight c.args.bytes.now) z.eight z.small z.is ∙ zoned_bad c.args.bytes.now))

pub returns-clause-good : goal.returns-clause-good
returns-clause-good c =
    let z = zoned_in c.args.word c.args.bytes.now c.requires.few c.requires.word in
    let bad = c.has_bad.ensures (zoned_eight c.args.bytes.now) z.eight z.small z.is ∙ zoned_bad c.args.bytes.now in
    let is = c.spelled.ensures (zoned_eight c.args.bytes.now) z.eight z.fit z.is ∙ zoned_spelled c.args.bytes.now (sym bad ∙ c.if-has_bad.false) in
    (c.number.ensures.value ∙ ap (λ n. signed (is_minus (last_byte c.args.bytes.now / 16)) n) is, c.number.ensures.digits, c.number.ensures.decimals)
