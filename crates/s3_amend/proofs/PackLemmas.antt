-- A pack in which a record of a file was amended.
use Rattle.std.proofs.Common.{◌≡◌, ℕ, ◌*◌, ◌<◌, List, ◌++◌, length, drop, sym, subst}
use Rattle.std.specs.List.{concat}
use Rattle.s3_cards.specs.declared.name.Name.{Name}
use Rattle.s3_store.specs.Contents.{sectors_of}
use Rattle.s3_slots.specs.Slots.{standing}
use Rattle.s3_slots.specs.declared.label.FileLabel.{FileLabel}
use Rattle.s3_slots.specs.declared.slot.Standing.TheVariants.{Present}
use Rattle.s3_labels.specs.Contents.{contents_of}
use Rattle.s3_labels.specs.Inner.AreaNumbers.{area_number}
use Rattle.s3_labels.specs.Inner.Areas.{Areas, slots_in}
use Rattle.s3_pack_care.specs.Inner.Frames.{ChangesBytes, ChangesRecords, IsInFile}
use Rattle.s3_pack_care.specs.Inner.Kept.{IsMounted}
use Rattle.s3_pack_care.proofs.Copies.{stands_on}
use Rattle.s3_pack_care.proofs.Frames.{IsSaved, records_only, saved_is}
use Rattle.s3_amend.specs.Inner.Amended.{AmendsFile, IsAmended}
use Rattle.s3_amend.specs.declared.amending.AmendedRecord.{AmendedRecord}
use Rattle.s3_amend.specs.declared.amendment.Amendment.{Amendment}

-- the sectors of a mounted pack
pub store_amended : (amendment : Amendment) (amended : AmendedRecord) (label : FileLabel) (areas : Areas) (begun old new : List (List ℕ)) → IsMounted areas begun → old ≡ begun
    → standing amendment.name (slots_in (area_number amendment.area) areas) ≡ Present label → AmendsFile amendment label amended old new → IsAmended amendment amended begun new
store_amended amendment amended label areas begun old new is same stands file = record {
  header = areas.header;
  mounts = is.mounts;
  label = label;
  stands = stands_on (area_number amendment.area) areas begun amendment.name label is stands areas.header is.mounts;
  file = subst (λ (s : List (List ℕ)). AmendsFile amendment label amended s new) same file;
}

-- the bytes of the pack, with what the old one has after its last sector
module _ (area : ℕ) (name : Name) (pack after bytes : List ℕ) (begun new : List (List ℕ)) (few : area < 3) (same : begun ≡ contents_of pack) (rest : after ≡ drop (256 * length (contents_of pack)) pack)
    (whole : sectors_of (concat new) ≡ new) (is : bytes ≡ concat new ++ after) (changes : ChangesRecords area name begun new) where
  changed : ChangesRecords area name (contents_of pack) new
  changed = subst (λ (s : List (List ℕ)). ChangesRecords area name s new) same changes

  saved_here : IsSaved pack bytes new
  saved_here = saved_is pack bytes after new whole is rest changed.long

  pub only_saved : ChangesBytes (IsInFile area name (contents_of pack)) pack bytes
  only_saved = records_only pack bytes area name new few saved_here changed

  pub amended_saved : (amendment : Amendment) (amended : AmendedRecord) → IsAmended amendment amended begun new → IsAmended amendment amended (contents_of pack) (contents_of bytes)
  amended_saved amendment amended h =
      subst (λ (n : List (List ℕ)). IsAmended amendment amended (contents_of pack) n) (sym saved_here.seen) (subst (λ (s : List (List ℕ)). IsAmended amendment amended s new) same h)
