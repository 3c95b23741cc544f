use Rattle.std.proofs.Common.{[], ◌∷◌}
use Rattle.std.specs.Prelude.{codes, option_map}
use Rattle.json.specs.Json.{array}
use Rattle.s3_day_log.specs.Inner.Events.{file_of, files_of, texts_of}
use Rattle.s3_day_log.specs.Inner.Lines.{deck_pairs, pack_pair, texts_tree}
use Rattle.s3_day_log.proofs.WritingLemmas.{day_written, one}
use Rattle.s3_day_log.proofs.writing.Line.begun.Goals as goal

pub returns : goal.returns
returns c =
    let named = rw c.deref.ensures.value at c.in_ok-members.ensures in
    let decks = rw (c.deref-2.ensures.value, c.deref-3.ensures.value) at c.in_ok-members-2.ensures in
    day_written c.end_object.result _ _ _ _ _ _ ((codes "words", array (texts_tree (texts_of c.args.day.now.words))) ∷ []) (pack_pair (option_map file_of c.args.day.now.pack)) (deck_pairs (files_of c.args.day.now.deck1) (files_of c.args.day.now.deck2))
    (one _ c.in_ok-begin_object.ensures) named c.in_ok-pack.ensures decks (one c.end_object.result c.end_object.ensures)
