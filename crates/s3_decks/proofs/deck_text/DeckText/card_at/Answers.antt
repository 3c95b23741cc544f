use Rattle.std.proofs.Common.{ap, ◌∙◌}
use Rattle.std.specs.Option.{option_map}
use Rattle.std.specs.List.{position_from}
use Rattle.s3_decks.specs.Inner.Decks.{card_of, is_line, line_seen}
use Rattle.s3_decks.proofs.Keeping.{card_seen}
use Rattle.s3_decks.proofs.deck_text.DeckText.card_at.Goals as goal

pub returns-in_ok-place_of_line-in-Some : goal.returns-in_ok-place_of_line-in-Some
returns-in_ok-place_of_line-in-Some c =
    let line = c.args.position.now.line in
    card_seen c.args.position.now.file c.in-Some.file line c.self.inside.text.items c.self.inside.places.items c.in_ok-place_of_line-in-Some.field-0 c.in-Some.is
    (c.in_ok-place_of_line-in-Some.ensures.place ∙ ap (λ places. position_from (λ place. is_line c.in-Some.file.now line (line_seen place)) 0 places) c.deref.ensures.value)
    ∙ ap (λ deck. card_of (option_map (λ file. file.now) c.args.position.now.file) line deck) c.self.view_is
