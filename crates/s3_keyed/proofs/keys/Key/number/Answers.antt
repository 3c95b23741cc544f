use Rattle.std.proofs.Common.{◌≡◌, ◌-◌, length, drop, ◌∙◌, ap, length-drop, arith}
use Rattle.byteorder.specs.Endian.{big_number}
use Rattle.s3_keyed.proofs.KeyNumbers.{big_number-first, big_number-all, number_of-halves}
use Rattle.s3_keyed.proofs.Places.{rest_of}
use Rattle.s3_keyed.proofs.keys.Key.number.Goals as goal

pub returns-clause-high : goal.returns-clause-high
returns-clause-high c = c.read_u128.ensures ∙ big_number-first 16 c.args.self.now.bytes (omega arith)

pub returns-clause-low : goal.returns-clause-low
returns-clause-low c =
    let bytes = c.args.self.now.bytes in
    let long : length bytes ≡ 32 = omega arith in
    c.read_u128-2.ensures
    ∙ ap (big_number 16) (rest_of 32 16 bytes long)
    ∙ big_number-all 16 (drop 16 bytes) (length-drop 16 bytes ∙ ap (λ n. n - 16) long)

pub returns-clause-whole : goal.returns-clause-whole
returns-clause-whole c =
    let bytes = c.args.self.now.bytes in
    let long : length bytes ≡ 32 = omega arith in
    number_of-halves bytes c.read_u128.result c.read_u128-2.result long
    (c.read_u128.ensures ∙ big_number-first 16 bytes (omega arith))
    (c.read_u128-2.ensures ∙ ap (big_number 16) (rest_of 32 16 bytes long) ∙ big_number-all 16 (drop 16 bytes) (length-drop 16 bytes ∙ ap (λ n. n - 16) long))
