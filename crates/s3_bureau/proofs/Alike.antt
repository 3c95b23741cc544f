-- What a level reads of packs that are alike for it, and what it gets of runs over them.
use Rattle.std.proofs.Common.{◌≡◌, inl, inr, ℕ, List, [], slice_get, refl, sym, ap, ap₂, subst, ◌∙◌}
use Rattle.std.proofs.Math.Path.{fun_ext}
use Rattle.s3_cards.specs.declared.levels.LevelId.{LevelId}
use Rattle.s3_cards.specs.declared.levels.LevelId.TheVariants.{One, Two}
use Rattle.s3_cards.specs.declared.name.Name.{Name}
use Rattle.s3_cards.specs.Deck.{deck_of}
use Rattle.s3_store.proofs.SectorParts.{sector_bytes-same}
use Rattle.s3_store.specs.declared.stretch.Stretch.{Stretch}
use Rattle.s3_slots.specs.Header.{region_of}
use Rattle.s3_slots.specs.Slots.{slots_of, standing}
use Rattle.s3_slots.specs.Stretches.{IsIn}
use Rattle.s3_slots.specs.declared.header.Format.{Format}
use Rattle.s3_slots.specs.declared.header.Header.{Header}
use Rattle.s3_slots.specs.declared.label.FileLabel.{FileLabel}
use Rattle.s3_slots.specs.declared.slot.Slot.{Slot}
use Rattle.s3_slots.specs.declared.slot.Standing.{Standing}
use Rattle.s3_slots.specs.declared.slot.Standing.TheVariants.{Absent, Blocked, Present}
use Rattle.s3_slots.proofs.Judging.{slots_kept as judged_kept}
use Rattle.s3_labels.specs.Areas.{IsLabelSector, area_of}
use Rattle.s3_labels.specs.Untangled.{IsUntangled}
use Rattle.s3_labels.proofs.Labelled.{slots_kept, untangled_kept}
use Rattle.s3_labels.proofs.MigratedPacks.{file_same}
use Rattle.s3_job_files.specs.Files.{Area, Files, area_of_slots, area_on, files_on}
use Rattle.s3_job_files.specs.Kept.{Kept, kept_in, kept_on, kept_under}
use Rattle.s3_job_files.proofs.Standings.{present_inside, present_named}
use Rattle.s3_solo.specs.declared.action.Action.{Action}
use Rattle.s3_solo.specs.Lines.{no_lines}
use Rattle.s3_solo.specs.Solo.{closed, solo}
use Rattle.s3_solo.specs.World.{World, at_start}
use Rattle.s3_bureau.specs.Entries.{own}
use Rattle.s3_bureau.specs.Runs.{HasFiles, HasSlots, LeavesSo, RunTexts, cards_of, entries_texts, level_texts, outcome_texts, refusal_of, run_alone, texts_after, texts_of, texts_over}
use Rattle.s3_bureau.specs.Inner.CompletedRuns.{CompletedRun, WasUntangled, area_left, contents_after, contents_before, deck_at, masters_left, texts_at, world_at}
use Rattle.s3_bureau.specs.Inner.Confidentiality.{AlikeHaveSameSpace, AlikeMeansSame, AreAlike, BringsSame, GetsSame, MeansSame, NoLevelLearns, RunsLeaveSameSpace, free_in, own_area}
use Rattle.s3_bureau.proofs.Spaces.{free_inside}

-- ---- an area
-- two packs with the same slots have the same in an area, if the files in the slots are the same
pub area_by : (region : Stretch) (slots now : List Slot) (old new : List (List ℕ)) → now ≡ slots
    → ((label : FileLabel) → standing label.name slots ≡ Present label → kept_on label new ≡ kept_on label old)
    → area_of_slots region new now ≡ area_of_slots region old slots
area_by region slots now old new is files =
    ap (area_of_slots region new) is ∙ ap (λ (kept : Name → Kept). let area : Area = record { region = region; slots = slots; kept = kept } in area) (fun_ext each)
  where
    by : (name : Name) (stands : Standing) → standing name slots ≡ stands → kept_under new stands ≡ kept_under old stands
    by name Absent e = refl
    by name Blocked e = refl
    by name (Present label) e = files label (ap (λ (n : Name). standing n slots) (present_named name slots label e) ∙ e)

    each : (name : Name) → kept_under new (standing name slots) ≡ kept_under old (standing name slots)
    each name = by name (standing name slots) refl

-- an area stays where its label sectors and its region do
pub same_area : (format : Format) (region : Stretch) (area : ℕ) (old new : List (List ℕ)) → ((n : ℕ) → IsLabelSector area n → slice_get new n ≡ slice_get old n)
    → ((n : ℕ) → IsIn region n → slice_get new n ≡ slice_get old n) → area_on format region area new ≡ area_on format region area old
same_area format region area old new labels sectors =
    area_by region (slots_of format region area old) (slots_of format region area new) old new (slots_kept format region area old new labels) file
  where
    file : (label : FileLabel) → standing label.name (slots_of format region area old) ≡ Present label → kept_on label new ≡ kept_on label old
    file label stands = ap (kept_in label) (file_same label new old (λ n has. sector_bytes-same old new n
        (sectors n (present_inside region (slots_of format region area old) label.name label n (judged_kept format region area old) stands has))))

-- two packs that have these slots, and under each label what is kept for it, keep the same
pub same_left : (format other_format : Format) (region : Stretch) (area : ℕ) (one two : List (List ℕ)) (slots : List Slot) (kept : Name → Kept)
    → slots_of format region area one ≡ slots → slots_of other_format region area two ≡ slots
    → ((label : FileLabel) → standing label.name slots ≡ Present label → kept label.name ≡ kept_on label one)
    → ((label : FileLabel) → standing label.name slots ≡ Present label → kept label.name ≡ kept_on label two)
    → area_on other_format region area two ≡ area_on format region area one
same_left format other_format region area one two slots kept first second by_one by_two =
    area_by region (slots_of format region area one) (slots_of other_format region area two) one two (second ∙ sym first) (λ label stands.
    let there : standing label.name slots ≡ Present label = sym (ap (standing label.name) first) ∙ stands in
    sym (by_two label there) ∙ by_one label there)

-- ---- packs that are alike for a level
module _ (level : LevelId) (header other_header : Header) (contents other_contents : List (List ℕ)) (alike : AreAlike level header other_header contents other_contents) where
  pub own_alike : area_on other_header.format (region_of level other_header) (area_of level) other_contents ≡ area_on header.format (region_of level header) (area_of level) contents
  own_alike =
      ap (λ (f : Format). area_on f (region_of level other_header) (area_of level) other_contents) alike.format
      ∙ ap (λ (r : Stretch). area_on header.format r (area_of level) other_contents) alike.region
      ∙ same_area header.format (region_of level header) (area_of level) contents other_contents (λ n is. alike.sectors n (inl (inl is))) (λ n is. alike.sectors n (inl (inr is)))

  pub masters_alike : area_on other_header.format other_header.masters 0 other_contents ≡ area_on header.format header.masters 0 contents
  masters_alike =
      ap (λ (f : Format). area_on f other_header.masters 0 other_contents) alike.format
      ∙ ap (λ (r : Stretch). area_on header.format r 0 other_contents) alike.masters
      ∙ same_area header.format header.masters 0 contents other_contents (λ n is. alike.sectors n (inr (inl is))) (λ n is. alike.sectors n (inr (inr is)))

  files_alike : files_on level other_header other_contents ≡ files_on level header contents
  unfolding files_on
  files_alike =
      ap (λ (f : Format). let files : Files = record {
        format = f;
        own = area_on other_header.format (region_of level other_header) (area_of level) other_contents;
        masters = area_on other_header.format other_header.masters 0 other_contents;
      } in files) alike.format
      ∙ ap₂ (λ (own masters : Area). let files : Files = record { format = header.format; own = own; masters = masters } in files) own_alike masters_alike

  start_alike : (cards : List (List ℕ)) → at_start level other_header other_contents cards ≡ at_start level header contents cards
  start_alike cards =
      ap₂ (λ (files : Files) (quota : ℕ). let w : World = record (at_start level header contents cards) { pack = files; lines = no_lines quota } in w) files_alike alike.quota

  world_alike : (cards : List (List ℕ)) (actions : List Action) → run_alone level other_header other_contents cards actions ≡ run_alone level header contents cards actions
  world_alike cards actions = ap (λ (w : World). closed (solo w actions)) (start_alike cards)

  texts_alike : (deck : List ℕ) (actions : List Action) → level_texts level other_header other_contents deck actions ≡ level_texts level header contents deck actions
  unfolding level_texts
  texts_alike deck actions = ap (texts_of (refusal_of (deck_of deck))) (world_alike (cards_of (deck_of deck)) actions)

  pub means_same : MeansSame level header other_header contents other_contents
  means_same = record { start = start_alike; world = world_alike; texts = texts_alike }

  pub untangled_alike : IsUntangled header.format (region_of level header) (area_of level) contents → IsUntangled other_header.format (region_of level other_header) (area_of level) other_contents
  untangled_alike is =
      subst (λ (f : Format). IsUntangled f (region_of level other_header) (area_of level) other_contents) (sym alike.format)
      (subst (λ (r : Stretch). IsUntangled header.format r (area_of level) other_contents) (sym alike.region)
      (untangled_kept header.format (region_of level header) (area_of level) contents other_contents (λ n is_label. alike.sectors n (inl (inl is_label))) is))

pub alike_means_same : AlikeMeansSame
alike_means_same = means_same

-- ---- a run that was completed
module _ (run : CompletedRun) where
  pub leaves_so : LeavesSo run.header run.deck1 run.deck2 run.entries (contents_before run) (contents_after run)
  leaves_so = (run.runs.1 run.header run.entries run.mounts run.reads).0

  pub has_files : (level : LevelId) → HasFiles (contents_after run) (world_at level run)
  has_files One = leaves_so.one
  has_files Two = leaves_so.two

  pub has_slots : (level : LevelId) → HasSlots level run.header (contents_before run) (contents_after run) (world_at level run)
  has_slots One = leaves_so.one_slots
  has_slots Two = leaves_so.two_slots

  pub masters_stay : masters_left run ≡ area_on run.header.format run.header.masters 0 (contents_before run)
  masters_stay =
      same_area run.header.format run.header.masters 0 (contents_before run) (contents_after run) (λ n is. leaves_so.common n (inr (inl is))) (λ n is. leaves_so.common n (inr (inr (inl is))))

  pub idle_stays : (level : LevelId) → own level run.entries ≡ [] → area_left level run ≡ area_on run.header.format (region_of level run.header) (area_of level) (contents_before run)
  idle_stays level none =
      same_area run.header.format (region_of level run.header) (area_of level) (contents_before run) (contents_after run) (λ n is. leaves_so.idle level none n (inl is)) (λ n is. leaves_so.idle level none n (inr is))

  texts_are : entries_texts run.header (contents_before run) run.deck1 run.deck2 run.entries ≡ outcome_texts run.outcome
  texts_are =
      let read = ap (texts_after (contents_before run) run.deck1 run.deck2) run.reads in
      let over = ap (λ h. texts_over h (contents_before run) run.deck1 run.deck2 run.entries) run.mounts in
      let both = sym (read ∙ over) ∙ run.runs.0 in
      cc

  texts_got : (level : LevelId) → texts_at level (outcome_texts run.outcome) ≡ level_texts level run.header (contents_before run) (deck_at level run) (own level run.entries)
  texts_got One = sym (ap (λ (t : RunTexts). t.one) texts_are)
  texts_got Two = sym (ap (λ (t : RunTexts). t.two) texts_are)

-- ---- two runs in which a level brings the same
module _ (level : LevelId) (run other_run : CompletedRun) (brings : BringsSame level run other_run) where
  means : MeansSame level run.header other_run.header (contents_before run) (contents_before other_run)
  means = means_same level run.header other_run.header (contents_before run) (contents_before other_run) brings.pack

  world_same : world_at level other_run ≡ world_at level run
  world_same =
      ap₂ (λ (deck : List ℕ) (actions : List Action). run_alone level other_run.header (contents_before other_run) (cards_of (deck_of deck)) actions) brings.deck brings.entries
      ∙ means.world (cards_of (deck_of (deck_at level run))) (own level run.entries)

  texts_same : texts_at level (outcome_texts other_run.outcome) ≡ texts_at level (outcome_texts run.outcome)
  texts_same =
      texts_got other_run level
      ∙ ap₂ (λ (deck : List ℕ) (actions : List Action). level_texts level other_run.header (contents_before other_run) deck actions) brings.deck brings.entries
      ∙ means.texts (deck_at level run) (own level run.entries) ∙ sym (texts_got run level)

  other_kept : (label : FileLabel) → standing label.name (world_at level run).pack.own.slots ≡ Present label → (world_at level run).pack.own.kept label.name ≡ kept_on label (contents_after other_run)
  other_kept label stands =
      sym (ap (λ (w : World). w.pack.own.kept label.name) world_same)
      ∙ has_files other_run level label (ap (λ (w : World). standing label.name w.pack.own.slots) world_same ∙ stands)

  area_same : WasUntangled level run → area_left level other_run ≡ area_left level run
  area_same was =
      ap (λ (r : Stretch). area_on other_run.header.format r (area_of level) (contents_after other_run)) brings.pack.region
      ∙ same_left run.header.format other_run.header.format (region_of level run.header) (area_of level) (contents_after run) (contents_after other_run) (world_at level run).pack.own.slots
      (world_at level run).pack.own.kept (has_slots run level was)
      (sym (ap (λ (r : Stretch). slots_of other_run.header.format r (area_of level) (contents_after other_run)) brings.pack.region)
      ∙ has_slots other_run level (untangled_alike level run.header other_run.header (contents_before run) (contents_before other_run) brings.pack was)
      ∙ ap (λ (w : World). w.pack.own.slots) world_same)
      (has_files run level) other_kept

  gets_same : GetsSame level run other_run
  gets_same = record {
    texts = texts_same;
    files = λ label stands. sym (other_kept label stands) ∙ has_files run level label stands;
    masters = masters_stay other_run ∙ masters_alike level run.header other_run.header (contents_before run) (contents_before other_run) brings.pack ∙ sym (masters_stay run);
    own_area = area_same;
  }

pub no_level_learns : NoLevelLearns
no_level_learns = gets_same

-- ---- free space
pub same_space : AlikeHaveSameSpace
same_space level header other_header contents other_contents alike = record {
  extents = ap free_in (own_alike level header other_header contents other_contents alike);
  sectors = λ n is. alike.sectors n (inl (inr (free_inside (region_of level header) (own_area level header contents).slots n is)));
}

pub same_space_left : RunsLeaveSameSpace
same_space_left level run other_run brings was = ap free_in ((no_level_learns level run other_run brings).own_area was)
