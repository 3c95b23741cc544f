use Rattle.std.proofs.Common.{◌≡◌, ◌+◌, ◌-◌, ◌<◌, ◌∙◌, ap, arith, length, replicate, set, take, refl, rules}
use Rattle.s3_cards.specs.Codes.{ebcdic}
use Rattle.s3_cards.specs.declared.ebcdic.TheConstants.{BLANK}
use Rattle.s3_cells.proofs.TextLemmas.{blanks_left, one_more_code}
use Rattle.s3_cells.proofs.texts.put_text.Goals as goal

pub loop-place-init : goal.loop-place-init
unfolding ebcdic
loop-place-init c =
    let all : length c.args.bytes.now ≡ length c.fill.new.self - 0 = omega (arith, c.fill.ensures.len) in
    record { written = refl; blank = c.fill.ensures.after (λ y h. search rules) ∙ ap (λ n. replicate n BLANK) all }

pub loop-place-preserved : goal.loop-place-preserved
loop-place-preserved c =
    let there : c.loop-place.place < length c.loop-place.bytes = omega arith in
    record {
      written = ap (λ v. take (c.loop-place.place + 1) (set c.loop-place.bytes c.loop-place.place v)) c.code_of.ensures ∙ one_more_code c.args.text.now c.loop-place.bytes c.loop-place.place c.loop-place-test.true there c.loop-place.invariant.written;
      blank = blanks_left c.loop-place.bytes c.loop-place.place c.code_of.result there c.loop-place.invariant.blank;
    }
