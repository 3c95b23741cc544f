use Rattle.std.proofs.Common.{arith, drop, length-drop}
use Rattle.std.proofs.lemmas.List.{take_all}
use Rattle.s3_decks.proofs.strays.after_slashes.Goals as goal

pub returns : goal.returns
returns c = take_all 94 (drop 2 c.args.card.now) (omega (arith, length-drop 2 c.args.card.now, c.told-card))
