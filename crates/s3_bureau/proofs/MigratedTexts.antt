-- A run over a migrated pack gives the texts of the same run over the old one, if no halt is shown because space was lacking.
use Rattle.std.proofs.Common.{◌≡◌, ℕ, false, List, Option, Some, None, Ok, refl, sym, ap, ap₂, ◌∙◌}
use Rattle.s3_cards.specs.Deck.{deck_of}
use Rattle.s3_cards.specs.declared.levels.LevelId.{LevelId}
use Rattle.s3_cards.specs.declared.levels.LevelId.TheVariants.{One, Two}
use Rattle.s3_slots.specs.Header.{mounted}
use Rattle.s3_slots.specs.declared.header.Header.{Header}
use Rattle.s3_labels.specs.Contents.{contents_of}
use Rattle.s3_labels.specs.Inner.Images.{in_second, migrated}
use Rattle.s3_labels.proofs.MigratedPacks.{migrated_mounted}
use Rattle.s3_solo.specs.declared.action.Action.{Action}
use Rattle.s3_solo.specs.Inner.Formats.{over_second, shows_no_space}
use Rattle.s3_solo.specs.Serving.{over}
use Rattle.s3_solo.specs.Solo.{closed, solo}
use Rattle.s3_solo.specs.World.{JobAtWork, World, at_start}
use Rattle.s3_solo.proofs.MigratedStarts.{migrated_run}
use Rattle.s3_solo.proofs.SecondSteps.{end_same}
use Rattle.s3_bureau.specs.declared.entry.Entry.{Entry}
use Rattle.s3_bureau.specs.Entries.{own}
use Rattle.s3_bureau.specs.Runs.{Texts, RunTexts, cards_of, level_texts, refusal_of, run_alone, run_texts, texts_after, texts_of, texts_over}
use Rattle.s3_bureau.specs.Script.{entries_of}

-- the end of a run shows no halt
halts_at_end : (w : World) → (closed w).halts ≡ w.halts
halts_at_end w = by w.job
  where
    by : (o : Option JobAtWork) → (over o w).halts ≡ w.halts
    by None = refl
    by (Some job) = refl

module _ (old new : List ℕ) (header : Header) (mounts : mounted (contents_of old) ≡ Ok header) (is : migrated old ≡ Ok new) where
  pub run_kept : (level : LevelId) (deck : List (List ℕ)) (actions : List Action) → shows_no_space (run_alone level header (contents_of old) deck actions).halts ≡ false
      → run_alone level (in_second header) (contents_of new) deck actions ≡ over_second (run_alone level header (contents_of old) deck actions)
  run_kept level deck actions none =
      let before : World = solo (at_start level header (contents_of old) deck) actions in
      ap closed (migrated_run old new header level deck actions mounts is (sym (ap shows_no_space (halts_at_end before)) ∙ none)) ∙ end_same before

  pub texts_kept : (level : LevelId) (deck : List ℕ) (actions : List Action) → shows_no_space (run_alone level header (contents_of old) (cards_of (deck_of deck)) actions).halts ≡ false
      → level_texts level (in_second header) (contents_of new) deck actions ≡ level_texts level header (contents_of old) deck actions
  unfolding level_texts
  texts_kept level deck actions none = ap (texts_of (refusal_of (deck_of deck))) (run_kept level (cards_of (deck_of deck)) actions none)

  pub both_kept : (deck1 deck2 script : List ℕ) (entries : List Entry) → entries_of script ≡ Ok entries
      → shows_no_space (run_alone One header (contents_of old) (cards_of (deck_of deck1)) (own One entries)).halts ≡ false
      → shows_no_space (run_alone Two header (contents_of old) (cards_of (deck_of deck2)) (own Two entries)).halts ≡ false
      → run_texts new deck1 deck2 script ≡ run_texts old deck1 deck2 script
  both_kept deck1 deck2 script entries reads one two =
      ap (texts_after (contents_of new) deck1 deck2) reads
      ∙ (ap (λ h. texts_over h (contents_of new) deck1 deck2 entries) (migrated_mounted old new header mounts is)
      ∙ (ap₂ (λ (a b : Texts). let texts : RunTexts = record { one = a; two = b } in Ok texts) (texts_kept One deck1 (own One entries) one) (texts_kept Two deck2 (own Two entries) two)
      ∙ (sym (ap (λ h. texts_over h (contents_of old) deck1 deck2 entries) mounts)
      ∙ sym (ap (texts_after (contents_of old) deck1 deck2) reads))))
