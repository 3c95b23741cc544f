use Rattle.std.proofs.Common.{◌≡◌, length, take, drop, ap, ◌∙◌, refl, arith}
use Rattle.std.specs.Ordering.{nat_cmp, ordering_then}
use Rattle.s3_keyed.specs.KeyOrder.{number_of}
use Rattle.s3_keyed.proofs.KeyNumbers.{headed, big_number-first, bytes_from_index}
use Rattle.s3_keyed.proofs.Places.{rest_of}
use Rattle.s3_keyed.proofs.index_sector.compare_words.Goals as goal

pub returns : goal.returns
returns c =
    let one = c.args.one.now in
    let other = c.args.other.now in
    let first : c.read_u64.result ≡ number_of (take 8 one) = c.read_u64.ensures ∙ big_number-first 8 one (omega (arith, c.requires.long)) in
    let first_too : c.read_u64-2.result ≡ number_of (take 8 other) = c.read_u64-2.ensures ∙ big_number-first 8 other (omega (arith, c.requires.long, c.requires.same)) in
    let last : c.few_number.result ≡ number_of (drop 8 one) = c.few_number.ensures ∙ ap number_of (rest_of (length one) 8 one refl) in
    let last_too : c.few_number-2.result ≡ number_of (drop 8 other) = c.few_number-2.ensures ∙ ap number_of (rest_of (length other) 8 other refl) in
    c.then.ensures
    ∙ ap (λ o. ordering_then o c.cmp.result) c.cmp-head.ensures
    ∙ ap (ordering_then (nat_cmp c.read_u64.result c.read_u64-2.result)) c.cmp.ensures
    ∙ rw (first, first_too, last, last_too) (headed 8 one other c.requires.same
    (bytes_from_index one (λ i. omega (arith, c.type_inv.one i)))
    (bytes_from_index other (λ i. omega (arith, c.type_inv.other i))))
