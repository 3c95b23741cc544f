use Rattle.std.proofs.Common.{◌≡◌, ◌∙◌, sym, ap, subst, reverse}
use Rattle.std.proofs.lemmas.List.{nil_from_length}
use Rattle.std.specs.Prelude.{IfOk}
use Rattle.std.specs.String.{string_bytes}
use Rattle.s3_journal.specs.Inner.Digests.{digest_of}
use Rattle.s3_journal.specs.Inner.Decks.{cards_of}
use Rattle.s3_journal.proofs.CardLemmas.{cards_onto, onto_nothing, onto_last}
use Rattle.s3_journal.proofs.decks.checksum_of_deck.Goals as goal

pub loop-last-init : goal.loop-last-init
loop-last-init c = ap (λ kept. cards_onto c.args.text.now (reverse kept)) c.in_ok-kept.ensures.items ∙ onto_nothing c.args.text.now

pub loop-last-preserved : goal.loop-last-preserved
loop-last-preserved c = ap (cards_onto c.in-Some.front.now) c.in_ok-put_before.ensures ∙ sym (onto_last c.in-Some.front.now c.in-Some.last.now (reverse c.loop-last.kept.items)) ∙ ap (λ left. cards_onto left (reverse c.loop-last.kept.items)) (sym c.in-Some.ensures.cases.0) ∙ c.loop-last.invariant

pub returns : goal.returns
returns c =
    let kept_is : reverse c.loop-last.kept.items ≡ cards_of c.args.text.now =
    ap (λ left. cards_onto left (reverse c.loop-last.kept.items)) (sym (nil_from_length c.loop-last.left.now c.in_default.ensures.cases)) ∙ c.loop-last.invariant in
    subst (λ text. IfOk c.checksum_of.result (λ sum. string_bytes sum ≡ digest_of text)) (c.as_slice.ensures.value ∙ c.reverse.ensures.items ∙ kept_is) c.checksum_of.ensures
