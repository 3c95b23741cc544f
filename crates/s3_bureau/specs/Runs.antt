-- What a run makes of a pack, two decks and a script: the texts of both levels and the pack that it leaves, or its refusal.
use Rattle.std.specs.Prelude.{◌≡◌, ◌++◌, ◌∷◌, ℕ, List, [], codes, length, slice_get, Option, None, Result, Ok, Err}
use Rattle.std.specs.List.{concat}
use Rattle.s3_cards.specs.declared.levels.LevelId.{LevelId}
use Rattle.s3_cards.specs.declared.levels.LevelId.TheVariants.{One, Two}
use Rattle.s3_cards.specs.declared.deck.DeckFault.{DeckFault}
use Rattle.s3_cards.specs.Deck.{deck_of, detail_of}
use Rattle.s3_slots.specs.Header.{mounted, region_of}
use Rattle.s3_slots.specs.declared.header.Header.{Header}
use Rattle.s3_slots.specs.declared.header.MountFault.{MountFault}
use Rattle.s3_slots.specs.Slots.{slots_of, standing}
use Rattle.s3_slots.specs.declared.label.FileLabel.{FileLabel}
use Rattle.s3_slots.specs.declared.slot.Standing.TheVariants.{Present}
use Rattle.s3_labels.specs.Areas.{area_of}
use Rattle.s3_labels.specs.Contents.{contents_of}
use Rattle.s3_labels.specs.Untangled.{IsUntangled}
use Rattle.s3_job_files.specs.Kept.{kept_on}
use Rattle.s3_solo.specs.declared.action.Action.{Action}
use Rattle.s3_solo.specs.World.{World, at_start}
use Rattle.s3_solo.specs.Solo.{solo, closed}
use Rattle.s3_bureau.specs.declared.entry.Entry.{Entry}
use Rattle.s3_bureau.specs.declared.outcome.LevelTexts.{LevelTexts}
use Rattle.s3_bureau.specs.declared.outcome.Outcome.{Outcome}
use Rattle.s3_bureau.specs.declared.run_fault.RunFault.{RunFault}
use Rattle.s3_bureau.specs.declared.run_fault.RunFault.TheVariants.{Script, Mount, Device, NoMemory}
use Rattle.s3_bureau.specs.Texts.{report_of, halt_text_of}
use Rattle.s3_bureau.specs.Script.{entries_of}
use Rattle.s3_bureau.specs.Entries.{own}
use Rattle.s3_bureau.specs.Sharing.{IsCommon, IsOwn}

-- a level's report and its halt text
pub record Texts : Type 0 where
  pub report : List ℕ
  pub halts : List ℕ

-- the texts of both levels
pub record RunTexts : Type 0 where
  pub one : Texts
  pub two : Texts

-- a line with its end, the heading of a text, and both reports and halt texts, each after its heading
abbrev pub line : List ℕ → List ℕ
line text = text ++ 10 ∷ []

abbrev pub output_of : RunTexts → List ℕ
output_of texts =
    line (codes ":report1") ++ texts.one.report ++ line (codes ":halts1") ++ texts.one.halts
    ++ line (codes ":report2") ++ texts.two.report ++ line (codes ":halts2") ++ texts.two.halts

-- the cards of a deck; a refused deck counts as empty
abbrev pub cards_of : Result (List (List ℕ)) DeckFault → List (List ℕ)
cards_of (Ok cards) = cards
cards_of (Err fault) = []

-- why a deck was refused: the number of the faulty card, and the number of the fault
abbrev pub refusal_of : Result (List (List ℕ)) DeckFault → Option (ℕ × ℕ)
refusal_of (Ok cards) = None
refusal_of (Err fault) = detail_of fault

-- the texts of a world, after the line for a refused deck if there is one
abbrev pub texts_of : Option (ℕ × ℕ) → World → Texts
texts_of refusal w = record { report = report_of w.lines.printed; halts = halt_text_of refusal w.halts }

-- the world of a level after its own entries over a mounted pack and its own deck, closed
abbrev pub run_alone : LevelId → Header → (contents : List (List ℕ)) → (cards : List (List ℕ)) → List Action → World
run_alone level header contents cards actions = closed (solo (at_start level header contents cards) actions)

-- the texts of a level over a mounted pack, with this deck and its own entries
unfoldable pub level_texts : LevelId → Header → (contents : List (List ℕ)) → (deck : List ℕ) → List Action → Texts
level_texts level header contents deck actions = texts_of (refusal_of (deck_of deck)) (run_alone level header contents (cards_of (deck_of deck)) actions)

-- the texts of both levels after these entries
abbrev pub entries_texts : Header → (contents : List (List ℕ)) → (deck1 deck2 : List ℕ) → List Entry → RunTexts
entries_texts header contents deck1 deck2 entries =
    record { one = level_texts One header contents deck1 (own One entries); two = level_texts Two header contents deck2 (own Two entries) }

-- the texts over a mounted pack, or the error of a refused one
abbrev pub texts_over : Result Header MountFault → (contents : List (List ℕ)) → (deck1 deck2 : List ℕ) → List Entry → Result RunTexts RunFault
texts_over (Ok header) contents deck1 deck2 entries = Ok (entries_texts header contents deck1 deck2 entries)
texts_over (Err fault) contents deck1 deck2 entries = Err (Mount fault)

abbrev pub texts_after : (contents : List (List ℕ)) → (deck1 deck2 : List ℕ) → Result (List Entry) ℕ → Result RunTexts RunFault
texts_after contents deck1 deck2 (Ok entries) = texts_over (mounted contents) contents deck1 deck2 entries
texts_after contents deck1 deck2 (Err line) = Err (Script line)

-- the texts of a run over a pack and two decks; or the error of its script; or else the error of the pack
abbrev pub run_texts : (pack deck1 deck2 script : List ℕ) → Result RunTexts RunFault
run_texts pack deck1 deck2 script = texts_after (contents_of pack) deck1 deck2 (entries_of script)

-- what a contract sees of an outcome
abbrev pub texts_in : LevelTexts → Texts
texts_in texts = record { report = texts.report.items; halts = texts.halts.items }

abbrev pub outcome_texts : Outcome → RunTexts
outcome_texts outcome = record { one = texts_in outcome.one; two = texts_in outcome.two }

-- Each of the level's own files in its world is in these sectors, with its label.
abbrev pub HasFiles : (contents : List (List ℕ)) → World → Type 0
HasFiles contents w = (label : FileLabel) → standing label.name w.pack.own.slots ≡ Present label → w.pack.own.kept label.name ≡ kept_on label contents

-- If no slot of the level's area had an overlapping or duplicate label, a mount of these sectors finds each slot as the world has it.
abbrev pub HasSlots : LevelId → Header → (old new : List (List ℕ)) → World → Type 0
HasSlots level header old new w =
    IsUntangled header.format (region_of level header) (area_of level) old → slots_of header.format (region_of level header) (area_of level) new ≡ w.pack.own.slots

-- What a run makes of a mounted pack. The number of sectors, the sectors of the header and the masters, the unused sectors, and all sectors
-- of a level without an entry are unchanged. The pack has the slots and the files of each level's world. So a mount gives the same header
-- and the same masters, and no label of a level overlaps or is duplicate if none was before.
pub record LeavesSo (header : Header) (deck1 deck2 : List ℕ) (entries : List Entry) (old new : List (List ℕ)) : Type 0 where
  pub count : length new ≡ length old
  pub common : (n : ℕ) → IsCommon header n → slice_get new n ≡ slice_get old n
  pub idle : (level : LevelId) → own level entries ≡ [] → (n : ℕ) → IsOwn level header n → slice_get new n ≡ slice_get old n
  pub mount : mounted new ≡ Ok header
  pub masters : slots_of header.format header.masters 0 new ≡ slots_of header.format header.masters 0 old
  pub one_slots : HasSlots One header old new (run_alone One header old (cards_of (deck_of deck1)) (own One entries))
  pub two_slots : HasSlots Two header old new (run_alone Two header old (cards_of (deck_of deck2)) (own Two entries))
  pub untangled : (level : LevelId) → IsUntangled header.format (region_of level header) (area_of level) old → IsUntangled header.format (region_of level header) (area_of level) new
  pub one : HasFiles new (run_alone One header old (cards_of (deck_of deck1)) (own One entries))
  pub two : HasFiles new (run_alone Two header old (cards_of (deck_of deck2)) (own Two entries))

-- these bytes are whole sectors, with no further byte
abbrev pub AreSectors : (saved : List ℕ) → Type 0
AreSectors saved = saved ≡ concat (contents_of saved)

-- the pack of an outcome
abbrev pub LeavesPack : (pack deck1 deck2 script saved : List ℕ) → Type 0
LeavesPack pack deck1 deck2 script saved =
    (header : Header) (entries : List Entry) → mounted (contents_of pack) ≡ Ok header → entries_of script ≡ Ok entries
    → LeavesSo header deck1 deck2 entries (contents_of pack) (contents_of saved) × AreSectors saved

-- The answer of a run is what its pack, its decks and its script give, unless memory ran out. No device fails: the pack is in memory.
abbrev pub Runs : (pack deck1 deck2 script : List ℕ) → Result Outcome RunFault → Type 0
Runs pack deck1 deck2 script (Ok outcome) = (run_texts pack deck1 deck2 script ≡ Ok (outcome_texts outcome)) × LeavesPack pack deck1 deck2 script outcome.pack.items
Runs pack deck1 deck2 script (Err NoMemory) = Unit {0}
Runs pack deck1 deck2 script (Err Device) = ⊥
Runs pack deck1 deck2 script (Err (Script line)) = run_texts pack deck1 deck2 script ≡ Err (Script line)
Runs pack deck1 deck2 script (Err (Mount fault)) = run_texts pack deck1 deck2 script ≡ Err (Mount fault)
