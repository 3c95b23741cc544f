-- Scripts whose replies a level accepts alike.
use Rattle.std.specs.Prelude.{◌≡◌, ℕ, List, Ok}
use Rattle.s3_cards.specs.declared.levels.LevelId.{LevelId}
use Rattle.s3_cards.specs.declared.levels.LevelId.TheVariants.{One, Two}
use Rattle.s3_cards.specs.Deck.{deck_of}
use Rattle.s3_slots.specs.Header.{mounted, region_of}
use Rattle.s3_slots.specs.declared.header.Header.{Header}
use Rattle.s3_slots.specs.Slots.{slots_of, standing}
use Rattle.s3_slots.specs.declared.label.FileLabel.{FileLabel}
use Rattle.s3_slots.specs.declared.slot.Standing.TheVariants.{Present}
use Rattle.s3_labels.specs.Areas.{area_of}
use Rattle.s3_labels.specs.Contents.{contents_of}
use Rattle.s3_labels.specs.Untangled.{IsUntangled}
use Rattle.s3_job_files.specs.Kept.{kept_on}
use Rattle.s3_solo.specs.declared.action.Action.{Action}
use Rattle.s3_solo.specs.World.{World, at_start}
use Rattle.s3_solo.specs.Solo.{solo}
use Rattle.s3_time.specs.Inner.Moves.{IsAtRest, accepted}
use Rattle.s3_bureau.specs.declared.entry.Entry.{Entry}
use Rattle.s3_bureau.specs.declared.outcome.Outcome.{Outcome}
use Rattle.s3_bureau.specs.Entries.{own}
use Rattle.s3_bureau.specs.Runs.{Runs, Texts, cards_of, outcome_texts}
use Rattle.s3_bureau.specs.Script.{entries_of}

-- with either list of entries a level comes to rest, and it accepts the same replies
pub record DoTheSame (w : World) (one other : List Action) : Type 0 where
  pub replies : accepted w one ≡ accepted w other
  pub one_rests : IsAtRest (solo w one)
  pub other_rests : IsAtRest (solo w other)

-- the world of a level before the first entry of a run
abbrev pub first_world : LevelId → Header → (pack deck : List ℕ) → World
first_world level header pack deck = at_start level header (contents_of pack) (cards_of (deck_of deck))

-- a level's deck
abbrev pub deck_at : LevelId → (deck1 deck2 : List ℕ) → List ℕ
deck_at One deck1 deck2 = deck1
deck_at Two deck1 deck2 = deck2

-- a level's texts
abbrev pub texts_at : LevelId → Outcome → Texts
texts_at One outcome = (outcome_texts outcome).one
texts_at Two outcome = (outcome_texts outcome).two

-- If no slot of the level's area had an overlapping or duplicate label, a mount of either pack finds the same slots, and the same records
-- for each label.
abbrev pub HaveSameFiles : LevelId → Header → (old one other : List (List ℕ)) → Type 0
HaveSameFiles level header old one other =
    IsUntangled header.format (region_of level header) (area_of level) old
    → (slots_of header.format (region_of level header) (area_of level) one ≡ slots_of header.format (region_of level header) (area_of level) other)
    × ((label : FileLabel) → standing label.name (slots_of header.format (region_of level header) (area_of level) one) ≡ Present label → kept_on label one ≡ kept_on label other)

-- Two runs over one pack give a level the same texts and files if the level has the same deck and both scripts do the same for it. The
-- other level's deck and entries may differ.
abbrev pub RunsAlike : Type 0
RunsAlike =
    (level : LevelId) (pack deck1 deck2 script other_deck1 other_deck2 other_script : List ℕ) (header : Header) (entries others : List Entry) (outcome other : Outcome)
    → mounted (contents_of pack) ≡ Ok header → entries_of script ≡ Ok entries → entries_of other_script ≡ Ok others
    → deck_at level deck1 deck2 ≡ deck_at level other_deck1 other_deck2
    → DoTheSame (first_world level header pack (deck_at level deck1 deck2)) (own level entries) (own level others)
    → Runs pack deck1 deck2 script (Ok outcome) → Runs pack other_deck1 other_deck2 other_script (Ok other)
    → (texts_at level outcome ≡ texts_at level other) × HaveSameFiles level header (contents_of pack) (contents_of outcome.pack.items) (contents_of other.pack.items)
