use Rattle.std.proofs.Common.{◌∙◌, ◌^◌, ◌/◌, ◌%◌, ◌==◌, ap}
use Rattle.s3_operations.proofs.bits.Bits.of.Goals as goal

pub returns : goal.returns
returns c = record {
  word = c.at.ensures.word ∙ ap (λ n. n / 64) c.place_of.ensures.place;
  mask = c.at.ensures.mask ∙ ap (λ n. 2 ^ (n % 64)) c.place_of.ensures.place;
  places = λ place. c.at.ensures.places place ∙ ap (λ n. place == n) c.place_of.ensures.place;
}
