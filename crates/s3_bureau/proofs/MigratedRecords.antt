-- What runs over an old pack and over the migrated one leave.
use Rattle.std.proofs.Common.{◌≡◌, ℕ, ◌+◌, ◌*◌, ◌/◌, ◌<◌, ◌≤◌, ◌&&◌, not, List, [], ◌∷◌, ◌++◌, length, take, Ok, sym, ap, ap₂, subst, ◌∙◌, arith}
use Rattle.s3_cards.specs.declared.levels.LevelId.{LevelId}
use Rattle.s3_cards.specs.declared.levels.LevelId.TheVariants.{One, Two}
use Rattle.s3_cards.specs.Deck.{deck_of}
use Rattle.s3_store.specs.Bytes.{part}
use Rattle.s3_store.specs.declared.stretch.Stretch.{Stretch}
use Rattle.s3_slots.specs.Header.{mounted, region_of}
use Rattle.s3_slots.specs.Slots.{is_entangled, judged, slot_bytes, slots_of, standing}
use Rattle.s3_slots.specs.declared.header.Format.{Format}
use Rattle.s3_slots.specs.declared.header.Format.TheVariants.{First, Second}
use Rattle.s3_slots.specs.declared.header.Header.{Header}
use Rattle.s3_slots.specs.declared.label.FileLabel.{FileLabel}
use Rattle.s3_slots.specs.declared.slot.Slot.{Slot}
use Rattle.s3_slots.specs.declared.slot.Standing.TheVariants.{Present}
use Rattle.s3_labels.specs.Areas.{area_of}
use Rattle.s3_labels.specs.Contents.{contents_of}
use Rattle.s3_labels.specs.Inner.Images.{in_second, migrated_bytes}
use Rattle.s3_labels.specs.Untangled.{IsUntangled}
use Rattle.s3_labels.proofs.Headers.{header_of}
use Rattle.s3_labels.proofs.Makes.{few_areas}
use Rattle.s3_labels.proofs.Migrated.{IsOfOne, behind_same, length_migrated, slot_of_one}
use Rattle.s3_labels.proofs.MigratedPacks.{area_kept, migrated_is, migrated_mounted}
use Rattle.s3_labels.proofs.Sectors.{seen_sector, slot_here}
use Rattle.s3_job_files.specs.Files.{area_on, files_on}
use Rattle.s3_job_files.specs.Kept.{kept_on}
use Rattle.s3_solo.specs.World.{World, at_start}
use Rattle.s3_solo.specs.Inner.Formats.{over_second}
use Rattle.s3_solo.proofs.MigratedStarts.{start_same}
use Rattle.s3_bureau.specs.declared.entry.Entry.{Entry}
use Rattle.s3_bureau.specs.Entries.{own}
use Rattle.s3_bureau.specs.Runs.{cards_of, run_alone}
use Rattle.s3_bureau.specs.Script.{entries_of}
use Rattle.s3_bureau.specs.Inner.CompletedRuns.{CompletedRun, WasUntangled, area_left, contents_after, contents_before, deck_at, world_at}
use Rattle.s3_bureau.specs.Inner.MigratedRuns.{HasSpace, IsMigratedRun, KeepsRecords, MigratedIsUntangled, MigratedRunsKeepRecords}
use Rattle.s3_bureau.proofs.Alike.{has_files, has_slots, idle_stays, masters_stay, same_left}
use Rattle.s3_bureau.proofs.MigratedTexts.{run_kept}
use Rattle.s3_bureau.proofs.Untangled.{entangled_is, is_sound_slot}

-- ---- slots of a migrated pack
like_one : (new old a b : List ℕ) → new ≡ a → old ≡ b → IsOfOne a b → IsOfOne new old
like_one new old a b e f is = subst (λ xs. IsOfOne xs old) (sym e) (subst (λ xs. IsOfOne a xs) (sym f) is)

last_same : (xs : List Slot) (a b : Slot) → xs ++ a ∷ [] ≡ xs ++ b ∷ [] → a ≡ b
last_same [] a b h = cc
last_same (x ∷ xs) a b h = last_same xs a b cc

module _ (old : List ℕ) (region : Stretch) (area : ℕ) (few : area < 3) (room : 25 ≤ length old / 256) where
  of_one : (j : ℕ) → j < 32 → IsOfOne (slot_bytes area (contents_of (migrated_bytes 0 old)) j) (slot_bytes area (contents_of old) j)
  of_one j to =
      like_one _ _ (part (migrated_bytes 0 old) (64 * (4 + 32 * area + j)) 64) (part old (64 * (4 + 32 * area + j)) 64)
      (slot_here (migrated_bytes 0 old) area j few to (omega (arith, room, length_migrated 0 old))) (slot_here old area j few to room)
      (slot_of_one old (4 + 32 * area + j) (omega arith) (omega (arith, few, to)))

  judged_same : (earlier : List Slot) (i : ℕ) → i < 32
      → judged Second region earlier (slot_bytes area (contents_of (migrated_bytes 0 old)) i) ≡ judged First region earlier (slot_bytes area (contents_of old) i)
  judged_same earlier i to =
      last_same earlier _ _ (behind_same region area (contents_of (migrated_bytes 0 old)) (contents_of old) earlier i 1 (λ j from before. of_one j (omega (arith, to, before))))

  still_untangled : IsUntangled First region area (contents_of old) → IsUntangled Second region area (contents_of (migrated_bytes 0 old))
  still_untangled is = λ i to.
      let bytes : List ℕ = slot_bytes area (contents_of (migrated_bytes 0 old)) i in
      let slots : List Slot = slots_of First region area (contents_of old) in
      ap (λ (s : List Slot). is_entangled Second region (take i s) bytes) (area_kept old region area few room)
      ∙ entangled_is Second region (take i slots) bytes
      ∙ ap₂ (λ (alone behind : Slot). is_sound_slot alone && not (is_sound_slot behind)) (judged_same [] i to) (judged_same (take i slots) i to)
      ∙ sym (entangled_is First region (take i slots) (slot_bytes area (contents_of old) i))
      ∙ is i to

room_of : (old : List ℕ) (header : Header) → mounted (contents_of old) ≡ Ok header → 25 ≤ length old / 256
room_of old header m = let is = header_of (contents_of old) header m in let last = seen_sector old 167 (omega (arith, is.room)) in omega (arith, last.1)

pub migrated_untangled : MigratedIsUntangled
migrated_untangled old new header level mounts is untangled =
    let parts = migrated_is old new header mounts is in
    subst (λ (bytes : List ℕ). IsUntangled Second (region_of level header) (area_of level) (contents_of bytes)) (sym parts.1)
    (still_untangled old (region_of level header) (area_of level) (few_areas level) (room_of old header mounts)
    (subst (λ (f : Format). IsUntangled f (region_of level header) (area_of level) (contents_of old)) parts.0 untangled))

-- ---- two runs
module _ (earlier later : CompletedRun) (are : IsMigratedRun earlier later) where
  header_is : later.header ≡ in_second earlier.header
  header_is =
      let both = sym later.mounts ∙ migrated_mounted earlier.pack later.pack earlier.header earlier.mounts are.pack in
      cc

  entries_are : later.entries ≡ earlier.entries
  entries_are =
      let both = sym later.reads ∙ ap entries_of are.script ∙ earlier.reads in
      cc

  deck_is : (level : LevelId) → deck_at level later ≡ deck_at level earlier
  deck_is One = are.deck1
  deck_is Two = are.deck2

  region_is : (level : LevelId) → region_of level later.header ≡ region_of level earlier.header
  region_is One = ap (λ (h : Header). h.level_one) header_is
  region_is Two = ap (λ (h : Header). h.level_two) header_is

  starts : (level : LevelId) → at_start level later.header (contents_before later) [] ≡ over_second (at_start level earlier.header (contents_before earlier) [])
  starts level =
      ap (λ (h : Header). at_start level h (contents_before later) []) header_is
      ∙ start_same earlier.pack later.pack earlier.header earlier.mounts are.pack level []

  masters_begun : area_on later.header.format later.header.masters 0 (contents_before later) ≡ area_on earlier.header.format earlier.header.masters 0 (contents_before earlier)
  unfolding files_on
  masters_begun = ap (λ (w : World). w.pack.masters) (starts One)

  own_begun : (level : LevelId) → area_on later.header.format (region_of level later.header) (area_of level) (contents_before later)
      ≡ area_on earlier.header.format (region_of level earlier.header) (area_of level) (contents_before earlier)
  unfolding files_on
  own_begun level = ap (λ (w : World). w.pack.own) (starts level)

  world_is : (level : LevelId) → HasSpace level earlier → world_at level later ≡ over_second (world_at level earlier)
  world_is level none =
      ap (λ (h : Header). run_alone level h (contents_before later) (cards_of (deck_of (deck_at level later))) (own level later.entries)) header_is
      ∙ ap₂ (λ (deck : List ℕ) (entries : List Entry). run_alone level (in_second earlier.header) (contents_before later) (cards_of (deck_of deck)) (own level entries)) (deck_is level) entries_are
      ∙ run_kept earlier.pack later.pack earlier.header earlier.mounts are.pack level (cards_of (deck_of (deck_at level earlier))) (own level earlier.entries) none

  later_kept : (level : LevelId) → HasSpace level earlier → (label : FileLabel) → standing label.name (world_at level earlier).pack.own.slots ≡ Present label
      → (world_at level earlier).pack.own.kept label.name ≡ kept_on label (contents_after later)
  later_kept level none label stands =
      sym (ap (λ (w : World). w.pack.own.kept label.name) (world_is level none))
      ∙ has_files later level label (ap (λ (w : World). standing label.name w.pack.own.slots) (world_is level none) ∙ stands)

  later_untangled : (level : LevelId) → WasUntangled level earlier → WasUntangled level later
  later_untangled level was =
      subst (λ (h : Header). IsUntangled h.format (region_of level h) (area_of level) (contents_before later)) (sym header_is)
      (by level (migrated_untangled earlier.pack later.pack earlier.header level earlier.mounts are.pack was))
    where
      by : (l : LevelId) → IsUntangled Second (region_of l earlier.header) (area_of l) (contents_before later) → IsUntangled Second (region_of l (in_second earlier.header)) (area_of l) (contents_before later)
      by One is = is
      by Two is = is

  area_same : (level : LevelId) → HasSpace level earlier → WasUntangled level earlier → area_left level later ≡ area_left level earlier
  area_same level none was =
      ap (λ (r : Stretch). area_on later.header.format r (area_of level) (contents_after later)) (region_is level)
      ∙ same_left earlier.header.format later.header.format (region_of level earlier.header) (area_of level) (contents_after earlier) (contents_after later) (world_at level earlier).pack.own.slots
      (world_at level earlier).pack.own.kept (has_slots earlier level was)
      (sym (ap (λ (r : Stretch). slots_of later.header.format r (area_of level) (contents_after later)) (region_is level))
      ∙ has_slots later level (later_untangled level was)
      ∙ ap (λ (w : World). w.pack.own.slots) (world_is level none))
      (has_files earlier level) (later_kept level none)

  keeps_records : KeepsRecords earlier later
  keeps_records = record {
    masters = masters_stay later ∙ masters_begun ∙ sym (masters_stay earlier);
    idle = λ level none. idle_stays later level (ap (own level) entries_are ∙ none) ∙ own_begun level ∙ sym (idle_stays earlier level none);
    untangled = area_same;
    files = λ level none label stands. sym (later_kept level none label stands) ∙ has_files earlier level label stands;
  }

pub migrated_runs_keep : MigratedRunsKeepRecords
migrated_runs_keep = keeps_records
