-- What a call of one level leaves to the other, and to the masters.
use Rattle.std.proofs.Common.{◌≡◌, inl, inr, ℕ, ◌<◌, ◌≤◌, List, ◌++◌, length, map, refl, sym, ap, subst, ◌∙◌, arith}
use Rattle.s3_cards.specs.Inner.Levels.{other}
use Rattle.s3_cards.specs.Printed.{Printed}
use Rattle.s3_cards.specs.declared.levels.LevelId.{LevelId}
use Rattle.s3_cards.specs.declared.levels.LevelId.TheVariants.{One, Two}
use Rattle.s3_store.specs.Inner.State.{KeepsInStep}
use Rattle.s3_store.proofs.Frames.{step_weaker}
use Rattle.s3_slots.specs.Header.{region_of}
use Rattle.s3_slots.specs.Stretches.{IsIn}
use Rattle.s3_slots.specs.declared.header.Header.{Header}
use Rattle.s3_slots.specs.declared.slot.Slot.{Slot}
use Rattle.s3_labels.specs.Inner.Areas.{Areas, ArePlaced, slots_at, with_slots, IsReady as IsPackReady}
use Rattle.s3_labels.specs.Areas.{IsLabelSector, area_of}
use Rattle.s3_labels.specs.Inner.Labelled.{KeepsSaid, SaysSlots}
use Rattle.s3_labels.proofs.Labelled.{says_kept}
use Rattle.s3_labels.proofs.Regions.{accepted_placed}
use Rattle.s3_spool.specs.Inner.Queues.{queue_of, quota_of}
use Rattle.s3_job_files.specs.Files.{FilesInUse}
use Rattle.s3_job_files.specs.Inner.Holds.{Holds as HoldsInUse, seen, job_file_of, IsReady as AreFilesReady}
use Rattle.s3_job_files.proofs.Packs.{header_kept, masters_kept, not_label}
use Rattle.s3_job_files.proofs.Staying.{SeesSame, sees_back, held_over, ready_over}
use Rattle.s3_solo.specs.World.{World}
use Rattle.s3_level.specs.declared.level.Level.{Level}
use Rattle.s3_level.specs.Inner.Holds.{Around, Holds, IsBeyond, IsReady, Spares, open_files}
use Rattle.s3_bureau.specs.Sharing.{IsCommon, IsOwn}
use Rattle.s3_bureau.specs.Inner.Held.{IsForeign}

placed : (areas : Areas) (contents : List (List ℕ)) → IsPackReady areas contents → ArePlaced areas.header (length contents)
placed areas contents pack = accepted_placed (length contents) areas.header pack.header

-- ---- sectors beyond a level
-- a sector of a region
high_beyond : (level : LevelId) (header : Header) (n : ℕ) → 168 ≤ n → (IsIn (region_of level header) n → ⊥) → IsBeyond level header n
high_beyond level header n high out = record {
  files = record { labels = not_label level n (omega (arith, high)); region = out };
  block = λ low few. omega (arith, high, few);
}

-- a sector before the blocks that isn't one of the level's labels
low_beyond : (level : LevelId) (areas : Areas) (contents : List (List ℕ)) (n : ℕ) → IsPackReady areas contents → n < 25 → (IsLabelSector (area_of level) n → ⊥) → IsBeyond level areas.header n
low_beyond level areas contents n pack low out = record {
  files = record { labels = out; region = λ inside. omega (arith, low, ((placed areas contents pack).level level n inside).0) };
  block = λ high few. omega (arith, low, high);
}

pub common_beyond : (level : LevelId) (areas : Areas) (contents : List (List ℕ)) (n : ℕ) → IsPackReady areas contents → IsCommon areas.header n → IsBeyond level areas.header n
common_beyond level areas contents n pack (inl zero_is) = low_beyond level areas contents n pack (omega (arith, zero_is)) (λ is. out level is)
  where
    out : (l : LevelId) → IsLabelSector (area_of l) n → ⊥
    out One is = omega (arith, zero_is, is.0)
    out Two is = omega (arith, zero_is, is.0)
common_beyond level areas contents n pack (inr (inl masters)) = low_beyond level areas contents n pack (omega (arith, masters.1)) (λ is. out level is)
  where
    out : (l : LevelId) → IsLabelSector (area_of l) n → ⊥
    out One is = omega (arith, masters.1, is.0)
    out Two is = omega (arith, masters.1, is.0)
common_beyond level areas contents n pack (inr (inr (inl inside))) =
    high_beyond level areas.header n ((placed areas contents pack).masters n inside).0 (λ here. (placed areas contents pack).masters_apart level n here inside)
common_beyond level areas contents n pack (inr (inr (inr spare))) = record {
  files = record { labels = λ is. spare.own level (inl is); region = λ is. spare.own level (inr is) };
  block = spare.block;
}

pub other_beyond : (level : LevelId) (areas : Areas) (contents : List (List ℕ)) (n : ℕ) → IsPackReady areas contents → IsOwn (other level) areas.header n → IsBeyond level areas.header n
other_beyond One areas contents n pack (inl label) = low_beyond One areas contents n pack (omega (arith, label.1)) (λ is. omega (arith, label.0, is.1))
other_beyond Two areas contents n pack (inl label) = low_beyond Two areas contents n pack (omega (arith, label.1)) (λ is. omega (arith, label.1, is.0))
other_beyond One areas contents n pack (inr inside) =
    high_beyond One areas.header n ((placed areas contents pack).level Two n inside).0 (λ here. (placed areas contents pack).levels_apart n here inside)
other_beyond Two areas contents n pack (inr inside) =
    high_beyond Two areas.header n ((placed areas contents pack).level One n inside).0 (λ here. (placed areas contents pack).levels_apart n inside here)

foreign_beyond : (level : LevelId) (areas : Areas) (contents : List (List ℕ)) (n : ℕ) → IsPackReady areas contents → IsForeign level areas.header n → IsBeyond level areas.header n
foreign_beyond level areas contents n pack (inl common) = common_beyond level areas contents n pack common
foreign_beyond level areas contents n pack (inr own) = other_beyond level areas contents n pack own

-- what a level spares of these sectors
spared : (K : ℕ → Type 0) (level : LevelId) (old new : Around) → ((n : ℕ) → K n → IsBeyond level old.areas.header n) → Spares level old new → KeepsInStep K old.state new.state
spared K level old new beyond spares = step_weaker (IsBeyond level old.areas.header) K old.state new.state beyond spares.sectors

pub foreign_spared : (level : LevelId) (old new : Around) → IsPackReady old.areas old.state.contents → Spares level old new → KeepsInStep (IsForeign level old.areas.header) old.state new.state
foreign_spared level old new pack spares = spared (IsForeign level old.areas.header) level old new (λ n is. foreign_beyond level old.areas old.state.contents n pack is) spares

pub common_spared : (level : LevelId) (old new : Around) → IsPackReady old.areas old.state.contents → Spares level old new → KeepsInStep (IsCommon old.areas.header) old.state new.state
common_spared level old new pack spares = spared (IsCommon old.areas.header) level old new (λ n is. common_beyond level old.areas old.state.contents n pack is) spares

pub other_spared : (level : LevelId) (old new : Around) → IsPackReady old.areas old.state.contents → Spares level old new → KeepsInStep (IsOwn (other level) old.areas.header) old.state new.state
other_spared level old new pack spares = spared (IsOwn (other level) old.areas.header) level old new (λ n is. other_beyond level old.areas old.state.contents n pack is) spares

-- ---- the header stays
pub header_spared : (level : LevelId) (old new : Around) → Spares level old new → new.areas.header ≡ old.areas.header
header_spared level old new spares = header_kept level old.areas new.areas spares.areas

-- ---- the other level
other_with : (level : LevelId) (slots : List Slot) (areas : Areas) → slots_at (other level) (with_slots level slots areas) ≡ slots_at (other level) areas
other_with One slots areas = refl
other_with Two slots areas = refl

-- it sees the same of the pack
other_sees : (level : LevelId) (old new : Around) → IsPackReady old.areas old.state.contents → Spares level old new
    → SeesSame (other level) (seen old.areas old.state.contents) (seen new.areas new.state.contents)
other_sees level old new pack spares = record {
  header = header_spared level old new spares;
  masters = masters_kept level old.areas new.areas spares.areas;
  slots = ap (slots_at (other level)) spares.areas ∙ other_with level (slots_at level new.areas) old.areas;
  own_sectors = λ n inside. spares.sectors.contents n (other_beyond level old.areas old.state.contents n pack (inr inside));
  master_sectors = λ n inside. spares.sectors.contents n (common_beyond level old.areas old.state.contents n pack (inr (inr (inl inside))));
}

-- what a level holds stays held where it sees the same, and its queue and its quota stay
holds_over : (his : Level) (old new : Around) (w : World) → AreFilesReady his.id (open_files his.job) (seen old.areas old.state.contents)
    → SeesSame his.id (seen old.areas old.state.contents) (seen new.areas new.state.contents)
    → queue_of his.id new.blocks new.state.contents ≡ queue_of his.id old.blocks old.state.contents
    → quota_of his.id new.blocks ≡ quota_of his.id old.blocks
    → Holds his old w → Holds his new w
holds_over his old new w ready sees queue quota held = record {
  parts = record {
    cards = held.parts.cards;
    jobs = held.parts.jobs;
    number = held.parts.number;
    library = held.parts.library;
    switches = held.parts.switches;
    date = held.parts.date;
    pack = files.files;
    job = held.parts.job;
    lines = record {
      printed = held.parts.lines.printed ∙ ap (λ (q : List Printed). his.lines.items ++ q) (sym queue);
      drained_lines = held.parts.lines.drained_lines;
      quota = held.parts.lines.quota ∙ sym quota;
    };
    halts = held.parts.halts;
  };
  asked = held.asked;
}
  where
    in_use : FilesInUse
    in_use = record { files = w.pack; job_files = map job_file_of (open_files his.job) }

    files : HoldsInUse his.id (open_files his.job) (seen new.areas new.state.contents) in_use
    files = held_over his.id (open_files his.job) (seen old.areas old.state.contents) (seen new.areas new.state.contents) in_use ready sees (record { files = held.parts.pack; job_files = refl })

-- its labels say its slots as before
pub other_said : (level : LevelId) (old new : Around) → IsPackReady old.areas old.state.contents → Spares level old new
    → KeepsSaid (other level) old.areas old.state.contents new.areas new.state.contents
other_said level old new pack spares = λ said.
    subst (λ (areas : Areas). SaysSlots (other level) areas new.state.contents) (sym spares.areas)
    (beside level (slots_at level new.areas)
    (says_kept (other level) old.areas old.state.contents new.state.contents (λ n is. spares.sectors.contents n (other_beyond level old.areas old.state.contents n pack (inl is))) said))
  where
    beside : (l : LevelId) (slots : List Slot) → SaysSlots (other l) old.areas new.state.contents → SaysSlots (other l) (with_slots l slots old.areas) new.state.contents
    beside One slots said = said
    beside Two slots said = said

-- so the other level can take entries, and holds the same worlds
pub ready_stays : (level : LevelId) (his : Level) (old new : Around) → his.id ≡ other level → IsPackReady old.areas old.state.contents → Spares level old new
    → IsReady his (seen old.areas old.state.contents) → IsReady his (seen new.areas new.state.contents)
ready_stays level his old new id pack spares ready = record {
  files = ready_over his.id (open_files his.job) (seen old.areas old.state.contents) (seen new.areas new.state.contents) ready.files
      (subst (λ (l : LevelId). SeesSame l (seen old.areas old.state.contents) (seen new.areas new.state.contents)) (sym id) (other_sees level old new pack spares)) spares.pack;
  job = ready.job;
  of_library = ready.of_library;
}

pub worlds_stay : (level : LevelId) (his : Level) (old new : Around) (w : World) → his.id ≡ other level → IsReady his (seen old.areas old.state.contents) → Spares level old new
    → Holds his old w → Holds his new w
worlds_stay level his old new w id ready spares held =
    holds_over his old new w ready.files (subst (λ (l : LevelId). SeesSame l (seen old.areas old.state.contents) (seen new.areas new.state.contents)) (sym id) (other_sees level old new ready.files.pack spares))
    (subst (λ (l : LevelId). queue_of l new.blocks new.state.contents ≡ queue_of l old.blocks old.state.contents) (sym id) spares.queue) (spares.quotas his.id) held

pub worlds_stayed : (level : LevelId) (his : Level) (old new : Around) (w : World) → his.id ≡ other level → IsReady his (seen old.areas old.state.contents) → Spares level old new
    → Holds his new w → Holds his old w
worlds_stayed level his old new w id ready spares held =
    holds_over his new old w (ready_stays level his old new id ready.files.pack spares ready).files
    (sees_back his.id (seen old.areas old.state.contents) (seen new.areas new.state.contents)
    (subst (λ (l : LevelId). SeesSame l (seen old.areas old.state.contents) (seen new.areas new.state.contents)) (sym id) (other_sees level old new ready.files.pack spares)))
    (sym (subst (λ (l : LevelId). queue_of l new.blocks new.state.contents ≡ queue_of l old.blocks old.state.contents) (sym id) spares.queue)) (sym (spares.quotas his.id)) held
