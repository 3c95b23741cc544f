-- Two runs by which a level does the same.
use Rattle.std.proofs.Common.{◌≡◌, ℕ, List, Result, Ok, sym, ap, subst, ◌∙◌}
use Rattle.s3_cards.specs.declared.levels.LevelId.{LevelId}
use Rattle.s3_cards.specs.declared.levels.LevelId.TheVariants.{One, Two}
use Rattle.s3_cards.specs.Deck.{deck_of}
use Rattle.s3_slots.specs.Header.{mounted, region_of}
use Rattle.s3_slots.specs.Slots.{slots_of, standing}
use Rattle.s3_slots.specs.declared.header.Header.{Header}
use Rattle.s3_slots.specs.declared.slot.Standing.TheVariants.{Present}
use Rattle.s3_labels.specs.Areas.{area_of}
use Rattle.s3_labels.specs.Contents.{contents_of}
use Rattle.s3_solo.specs.declared.action.Action.{Action}
use Rattle.s3_solo.specs.World.{World}
use Rattle.s3_time.proofs.Courses.{end_same}
use Rattle.s3_bureau.specs.declared.entry.Entry.{Entry}
use Rattle.s3_bureau.specs.declared.outcome.Outcome.{Outcome}
use Rattle.s3_bureau.specs.declared.run_fault.RunFault.{RunFault}
use Rattle.s3_bureau.specs.Entries.{own}
use Rattle.s3_bureau.specs.Runs.{HasFiles, HasSlots, RunTexts, Runs, cards_of, entries_texts, level_texts, outcome_texts, refusal_of, run_alone, run_texts, texts_after, texts_of, texts_over}
use Rattle.s3_bureau.specs.Script.{entries_of}
use Rattle.s3_replay.specs.Inner.Scripts.{DoTheSame, HaveSameFiles, RunsAlike, first_world}

pub worlds_alike : (level : LevelId) (header : Header) (pack deck : List ℕ) (one other : List Action) → DoTheSame (first_world level header pack deck) one other
    → run_alone level header (contents_of pack) (cards_of (deck_of deck)) one ≡ run_alone level header (contents_of pack) (cards_of (deck_of deck)) other
worlds_alike level header pack deck one other same = end_same (first_world level header pack deck) one other same.replies same.one_rests same.other_rests

pub texts_alike : (level : LevelId) (header : Header) (pack deck : List ℕ) (one other : List Action) → DoTheSame (first_world level header pack deck) one other
    → level_texts level header (contents_of pack) deck one ≡ level_texts level header (contents_of pack) deck other
unfolding level_texts
texts_alike level header pack deck one other same = ap (texts_of (refusal_of (deck_of deck))) (worlds_alike level header pack deck one other same)

files_alike : (level : LevelId) (header : Header) (old new_one new_other : List (List ℕ)) (one other : World) → one ≡ other
    → HasSlots level header old new_one one → HasSlots level header old new_other other → HasFiles new_one one → HasFiles new_other other
    → HaveSameFiles level header old new_one new_other
files_alike level header old new_one new_other one other same slots_one slots_other files_one files_other untangled =
    let is_one = slots_one untangled in
    let is_other : slots_of header.format (region_of level header) (area_of level) new_other ≡ one.pack.own.slots =
    slots_other untangled ∙ ap (λ (w : World). w.pack.own.slots) (sym same) in (
      is_one ∙ sym is_other,
      λ label present.
          let there : standing label.name one.pack.own.slots ≡ Present label = ap (standing label.name) (sym is_one) ∙ present in
          sym (files_one label there) ∙ (ap (λ (w : World). w.pack.own.kept label.name) same
          ∙ files_other label (subst (λ (w : World). standing label.name w.pack.own.slots ≡ Present label) same there)),
    )

-- ---- the texts of a run
run_gives : (pack deck1 deck2 script : List ℕ) (header : Header) (entries : List Entry) (outcome : Outcome) → mounted (contents_of pack) ≡ Ok header → entries_of script ≡ Ok entries
    → Runs pack deck1 deck2 script (Ok outcome) → outcome_texts outcome ≡ entries_texts header (contents_of pack) deck1 deck2 entries
run_gives pack deck1 deck2 script header entries outcome mounts reads runs =
    let by_script : run_texts pack deck1 deck2 script ≡ Ok (entries_texts header (contents_of pack) deck1 deck2 entries) =
    ap (texts_after (contents_of pack) deck1 deck2) reads ∙ ap (λ h. texts_over h (contents_of pack) deck1 deck2 entries) mounts in
    given (run_texts pack deck1 deck2 script) (outcome_texts outcome) (entries_texts header (contents_of pack) deck1 deck2 entries) runs.0 by_script
  where
    given : (r : Result RunTexts RunFault) (one other : RunTexts) → r ≡ Ok one → r ≡ Ok other → one ≡ other
    given r one other is_one is_other = cc

pub runs_alike : RunsAlike
runs_alike One pack deck1 deck2 script other_deck1 other_deck2 other_script header entries others outcome other mounts reads other_reads deck same runs other_runs =
    let leaves = (runs.1 header entries mounts reads).0 in
    let other_leaves = (other_runs.1 header others mounts other_reads).0 in
    let world : run_alone One header (contents_of pack) (cards_of (deck_of deck1)) (own One entries) ≡ run_alone One header (contents_of pack) (cards_of (deck_of other_deck1)) (own One others) =
    worlds_alike One header pack deck1 (own One entries) (own One others) same ∙ ap (λ d. run_alone One header (contents_of pack) (cards_of (deck_of d)) (own One others)) deck in
    let texts : level_texts One header (contents_of pack) deck1 (own One entries) ≡ level_texts One header (contents_of pack) other_deck1 (own One others) =
    texts_alike One header pack deck1 (own One entries) (own One others) same ∙ ap (λ d. level_texts One header (contents_of pack) d (own One others)) deck in (
      ap (λ (t : RunTexts). t.one) (run_gives pack deck1 deck2 script header entries outcome mounts reads runs)
          ∙ (texts ∙ sym (ap (λ (t : RunTexts). t.one) (run_gives pack other_deck1 other_deck2 other_script header others other mounts other_reads other_runs))),
      files_alike One header (contents_of pack) (contents_of outcome.pack.items) (contents_of other.pack.items)
          (run_alone One header (contents_of pack) (cards_of (deck_of deck1)) (own One entries)) (run_alone One header (contents_of pack) (cards_of (deck_of other_deck1)) (own One others)) world
          leaves.one_slots other_leaves.one_slots leaves.one other_leaves.one,
    )
runs_alike Two pack deck1 deck2 script other_deck1 other_deck2 other_script header entries others outcome other mounts reads other_reads deck same runs other_runs =
    let leaves = (runs.1 header entries mounts reads).0 in
    let other_leaves = (other_runs.1 header others mounts other_reads).0 in
    let world : run_alone Two header (contents_of pack) (cards_of (deck_of deck2)) (own Two entries) ≡ run_alone Two header (contents_of pack) (cards_of (deck_of other_deck2)) (own Two others) =
    worlds_alike Two header pack deck2 (own Two entries) (own Two others) same ∙ ap (λ d. run_alone Two header (contents_of pack) (cards_of (deck_of d)) (own Two others)) deck in
    let texts : level_texts Two header (contents_of pack) deck2 (own Two entries) ≡ level_texts Two header (contents_of pack) other_deck2 (own Two others) =
    texts_alike Two header pack deck2 (own Two entries) (own Two others) same ∙ ap (λ d. level_texts Two header (contents_of pack) d (own Two others)) deck in (
      ap (λ (t : RunTexts). t.two) (run_gives pack deck1 deck2 script header entries outcome mounts reads runs)
          ∙ (texts ∙ sym (ap (λ (t : RunTexts). t.two) (run_gives pack other_deck1 other_deck2 other_script header others other mounts other_reads other_runs))),
      files_alike Two header (contents_of pack) (contents_of outcome.pack.items) (contents_of other.pack.items)
          (run_alone Two header (contents_of pack) (cards_of (deck_of deck2)) (own Two entries)) (run_alone Two header (contents_of pack) (cards_of (deck_of other_deck2)) (own Two others)) world
          leaves.two_slots other_leaves.two_slots leaves.two other_leaves.two,
    )
