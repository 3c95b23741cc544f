-- A level begins over a migrated pack as over the old one, apart from the format.
use Rattle.std.proofs.Common.{◌≡◌, ℕ, false, List, slice_get, Some, Ok, refl, sym, ap, ap₂, ◌∙◌}
use Rattle.std.proofs.Math.Path.{fun_ext}
use Rattle.s3_cards.specs.declared.levels.LevelId.{LevelId}
use Rattle.s3_cards.specs.declared.levels.LevelId.TheVariants.{One, Two}
use Rattle.s3_cards.specs.declared.name.Name.{Name}
use Rattle.s3_store.specs.Bytes.{sector_bytes}
use Rattle.s3_store.specs.declared.stretch.Stretch.{Stretch}
use Rattle.s3_slots.specs.Header.{header_in, mounted, quota_of, region_of}
use Rattle.s3_slots.specs.Labels.{file_bytes}
use Rattle.s3_slots.specs.Slots.{slots_of, standing}
use Rattle.s3_slots.specs.declared.header.Format.TheVariants.{First, Second}
use Rattle.s3_slots.specs.declared.header.Header.{Header}
use Rattle.s3_slots.specs.declared.label.FileLabel.{FileLabel}
use Rattle.s3_slots.specs.declared.slot.Slot.{Slot}
use Rattle.s3_slots.specs.declared.slot.Slot.TheVariants.{Sound}
use Rattle.s3_slots.specs.declared.slot.Standing.{Standing}
use Rattle.s3_slots.specs.declared.slot.Standing.TheVariants.{Absent, Blocked, Present}
use Rattle.s3_slots.proofs.Makes.{present_at}
use Rattle.s3_labels.specs.Inner.Areas.{Areas}
use Rattle.s3_labels.specs.Areas.{area_of}
use Rattle.s3_labels.specs.Contents.{contents_of}
use Rattle.s3_labels.specs.Inner.Images.{in_second, migrated}
use Rattle.s3_labels.proofs.Headers.{header_of}
use Rattle.s3_labels.proofs.MigratedPacks.{migrated_areas, migrated_files, migrated_is}
use Rattle.s3_job_files.specs.Files.{Area, Files, area_of_slots, area_on, files_on}
use Rattle.s3_job_files.specs.Kept.{Kept, kept_in, kept_under}
use Rattle.s3_solo.specs.declared.action.Action.{Action}
use Rattle.s3_solo.specs.Lines.{no_lines}
use Rattle.s3_solo.specs.Solo.{solo}
use Rattle.s3_solo.specs.World.{World, at_start}
use Rattle.s3_solo.specs.Inner.Formats.{answers, over_second, shows_no_space}
use Rattle.s3_solo.proofs.SecondFiles.{second}
use Rattle.s3_solo.proofs.SecondSteps.{answers_same, run_same}

-- ---- an area
area_same : (region : Stretch) (slots now : List Slot) (old new : List (List ℕ)) → now ≡ slots
    → ((i : ℕ) (label : FileLabel) → slice_get slots i ≡ Some (Sound label) → file_bytes label new ≡ file_bytes label old)
    → area_of_slots region new now ≡ area_of_slots region old slots
area_same region slots now old new is files =
    ap (area_of_slots region new) is ∙ ap (λ (kept : Name → Kept). let area : Area = record { region = region; slots = slots; kept = kept } in area) (fun_ext each)
  where
    by : (name : Name) (stands : Standing) → standing name slots ≡ stands → kept_under new stands ≡ kept_under old stands
    by name Absent e = refl
    by name Blocked e = refl
    by name (Present label) e = let at = present_at name slots label e in ap (kept_in label) (files at.slot label at.there)

    each : (name : Name) → kept_under new (standing name slots) ≡ kept_under old (standing name slots)
    each name = by name (standing name slots) refl

-- ---- the files of a level
module _ (old new : List ℕ) (header : Header) (mounts : mounted (contents_of old) ≡ Ok header) (is : migrated old ≡ Ok new) where
  masters_same : area_on Second header.masters 0 (contents_of new) ≡ area_on header.format header.masters 0 (contents_of old)
  masters_same = area_same header.masters (slots_of header.format header.masters 0 (contents_of old)) (slots_of Second header.masters 0 (contents_of new)) (contents_of old) (contents_of new)
      (ap (λ (areas : Areas). areas.masters) (migrated_areas old new header mounts is)) (λ i label. migrated_files old new header 0 i label mounts is)

  own_same : (level : LevelId) → area_on Second (region_of level header) (area_of level) (contents_of new) ≡ area_on header.format (region_of level header) (area_of level) (contents_of old)
  own_same One = area_same header.level_one (slots_of header.format header.level_one 1 (contents_of old)) (slots_of Second header.level_one 1 (contents_of new)) (contents_of old) (contents_of new)
      (ap (λ (areas : Areas). areas.level_one) (migrated_areas old new header mounts is)) (λ i label. migrated_files old new header 1 i label mounts is)
  own_same Two = area_same header.level_two (slots_of header.format header.level_two 2 (contents_of old)) (slots_of Second header.level_two 2 (contents_of new)) (contents_of old) (contents_of new)
      (ap (λ (areas : Areas). areas.level_two) (migrated_areas old new header mounts is)) (λ i label. migrated_files old new header 2 i label mounts is)

  region_same : (level : LevelId) → region_of level (in_second header) ≡ region_of level header
  region_same One = refl
  region_same Two = refl

  files_same : (level : LevelId) → files_on level (in_second header) (contents_of new) ≡ second (files_on level header (contents_of old))
  unfolding files_on
  files_same level =
      ap₂ (λ (own masters : Area). let files : Files = record { format = Second; own = own; masters = masters } in files)
      (ap (λ (region : Stretch). area_on Second region (area_of level) (contents_of new)) (region_same level) ∙ own_same level) masters_same

  -- 64 lines may be queued, as in the first format
  quota_same : (level : LevelId) → quota_of level (in_second header) ≡ quota_of level header
  quota_same level =
      by level ∙ sym (ap (quota_of level) ((header_of (contents_of old) header mounts).read ∙ ap (λ f. header_in f (sector_bytes (contents_of old) 0)) (migrated_is old new header mounts is).0))
    where
      by : (level : LevelId) → quota_of level (in_second header) ≡ quota_of level (header_in First (sector_bytes (contents_of old) 0))
      by One = refl
      by Two = refl

  pub start_same : (level : LevelId) (deck : List (List ℕ)) → at_start level (in_second header) (contents_of new) deck ≡ over_second (at_start level header (contents_of old) deck)
  start_same level deck =
      ap₂ (λ (files : Files) (quota : ℕ). let w : World = record (at_start level header (contents_of old) deck) { pack = files; lines = no_lines quota } in w) (files_same level) (quota_same level)

pub migrated_run : (old new : List ℕ) (header : Header) (level : LevelId) (deck : List (List ℕ)) (actions : List Action) → mounted (contents_of old) ≡ Ok header → migrated old ≡ Ok new
    → shows_no_space (solo (at_start level header (contents_of old) deck) actions).halts ≡ false
    → solo (at_start level (in_second header) (contents_of new) deck) actions ≡ over_second (solo (at_start level header (contents_of old) deck) actions)
migrated_run old new header level deck actions mounts is none =
    ap (λ (w : World). solo w actions) (start_same old new header mounts is level deck) ∙ run_same (at_start level header (contents_of old) deck) actions none

pub migrated_answers : (old new : List ℕ) (header : Header) (level : LevelId) (deck : List (List ℕ)) (actions : List Action) → mounted (contents_of old) ≡ Ok header → migrated old ≡ Ok new
    → shows_no_space (solo (at_start level header (contents_of old) deck) actions).halts ≡ false
    → answers (at_start level (in_second header) (contents_of new) deck) actions ≡ answers (at_start level header (contents_of old) deck) actions
migrated_answers old new header level deck actions mounts is none =
    ap (λ (w : World). answers w actions) (start_same old new header mounts is level deck) ∙ answers_same (at_start level header (contents_of old) deck) actions none
