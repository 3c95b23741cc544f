-- What is promised of the deck follows from its definition.
use Rattle.std.proofs.Common.{sym, subst, ◌∙◌}
use Rattle.s3_punch.specs.Inner.Decks.{IsDeck}
use Rattle.s3_punch.proofs.SameLemmas.{comes_out}
use Rattle.s3_punch.proofs.SoundLemmas.{is_deck}
use Rattle.s3_punch.proofs.deck.punch.Goals as goal

pub returns-clause-sound : goal.returns-clause-sound
returns-clause-sound c told =
    subst IsDeck (sym c.in_ok-punched.ensures.text) (is_deck c.args.begun.now c.args.text.now c.requires (sym c.in_ok-punched.ensures.faults ∙ told))

pub returns-clause-same : goal.returns-clause-same
returns-clause-same c keeps punched = c.in_ok-punched.ensures.text ∙ comes_out c.args.begun.now c.args.text.now keeps punched
