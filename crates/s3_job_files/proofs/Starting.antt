-- The files of a level before its first job, and files by the names that a program has for them.
use Rattle.std.proofs.Common.{◌≡◌, ℕ, List, [], map, refl, ap, sym, subst, ◌∙◌}
use Rattle.std.specs.Prelude.{Some, None}
use Rattle.s3_cards.specs.declared.levels.LevelId.{LevelId}
use Rattle.s3_cards.specs.declared.levels.LevelId.TheVariants.{One, Two}
use Rattle.s3_cards.specs.declared.name.Name.{Name}
use Rattle.s3_slots.specs.Header.{region_of}
use Rattle.s3_slots.specs.Slots.{slots_of}
use Rattle.s3_slots.specs.declared.header.Header.{Header}
use Rattle.s3_labels.specs.Areas.{area_of}
use Rattle.s3_labels.specs.Inner.Areas.{areas_on, slots_at, IsReady as IsPackReady}
use Rattle.s3_meaning.specs.Requests.{Answer}
use Rattle.s3_job_files.specs.declared.file.OpenFile.{OpenFile}
use Rattle.s3_job_files.specs.Kept.{kept_under}
use Rattle.s3_job_files.specs.Files.{FilesInUse, FileAtWork, file_at, files_on, place_named}
use Rattle.s3_job_files.specs.Requests.{Served, served_named, served_on}
use Rattle.s3_job_files.specs.Inner.Holds.{Seen, seen, IsReady, job_file_of, Holds, Meets, Serves}

-- ---- no file is open
pub ready_none : (level : LevelId) (pack : Seen) → IsPackReady pack.areas pack.contents → IsReady level [] pack
ready_none level pack ready = record {
  pack = ready;
  files = record { stands = λ i file there. absurd cc; distinct = λ i j first second one two named. absurd cc };
}

slots_on : (level : LevelId) (header : Header) (contents : List (List ℕ)) → slots_at level (areas_on header contents) ≡ slots_of header.format (region_of level header) (area_of level) contents
slots_on One header contents = refl
slots_on Two header contents = refl

-- what a level holds of a pack as it is mounted
pub holds_mounted : (level : LevelId) (header : Header) (contents : List (List ℕ)) → Holds level [] (seen (areas_on header contents) contents) (record { files = files_on level header contents; job_files = [] })
unfolding files_on
holds_mounted level header contents = record {
  files = record {
    format = refl;
    own = record { region_of_area = refl; slots_of_area = sym (slots_on level header contents) };
    masters = record { region_of_area = refl; slots_of_area = refl };
    own_files = λ label is closed. ap (kept_under contents) is;
    master_files = λ label is closed. ap (kept_under contents) is;
    records = λ i file there. absurd cc;
  };
  job_files = refl;
}

-- ---- by name
-- a request to the file of a name is one to the file at its place
pub served_at : (level : LevelId) (items : List OpenFile) (pack : Seen) (in_use : FilesInUse) (name : Name) (place : ℕ) (serve : FileAtWork → FilesInUse → Served) → Holds level items pack in_use
    → place_named name (map job_file_of items) ≡ Some place → served_named name serve in_use ≡ served_on serve (file_at in_use (Some place)) in_use
served_at level items pack in_use name place serve held found =
    ap (λ at. served_on serve (file_at in_use at) in_use) (ap (place_named name) held.job_files ∙ found)

-- where no file has the name nothing is served
pub none_served : (level : LevelId) (items : List OpenFile) (pack : Seen) (in_use : FilesInUse) (name : Name) (serve : FileAtWork → FilesInUse → Served) → Holds level items pack in_use
    → place_named name (map job_file_of items) ≡ None → served_named name serve in_use ≡ None
none_served level items pack in_use name serve held none =
    ap (λ at. served_on serve (file_at in_use at) in_use) (ap (place_named name) held.job_files ∙ none)

-- so what a call at that place serves is the request of that name
pub serves_named : (level : LevelId) (items : List OpenFile) (pack : Seen) (name : Name) (place : ℕ) (serve : FileAtWork → FilesInUse → Served) (answer : Answer) (new : FilesInUse → Type 0)
    → place_named name (map job_file_of items) ≡ Some place → Serves serve place answer (Holds level items pack) new
    → (in_use : FilesInUse) → Holds level items pack in_use → Meets answer new (served_named name serve in_use)
serves_named level items pack name place serve answer new found serves in_use held =
    subst (Meets answer new) (sym (served_at level items pack in_use name place serve held found)) (serves in_use held)
