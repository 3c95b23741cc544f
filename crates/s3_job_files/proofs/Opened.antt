-- One open file more.
use Rattle.std.proofs.Common.{◌≡◌, ℕ, inl, inr, Bool, true, false, not, ◌&&◌, ◌||◌, List, [], ◌∷◌, ◌++◌, subst, refl, ap, sym, ◌∙◌}
use Rattle.std.specs.Prelude.{slice_get, Some, Result, Ok, Err}
use Rattle.std.specs.List.{list_any}
use Rattle.std.proofs.lemmas.Bool.{true≢false}
use Rattle.std.proofs.lemmas.List.{map-append}
use Rattle.s3_cards.specs.declared.levels.LevelId.{LevelId}
use Rattle.s3_cards.specs.declared.name.Name.{Name}
use Rattle.s3_cards.specs.Names.{same_name}
use Rattle.s3_slots.proofs.Keeping.{push_cases}
use Rattle.s3_slots.specs.Inner.Making.{file_in, found}
use Rattle.s3_slots.specs.Slots.{standing}
use Rattle.s3_slots.specs.declared.label.FileLabel.{FileLabel}
use Rattle.s3_slots.specs.declared.making.LabelFault.{LabelFault}
use Rattle.s3_slots.specs.declared.slot.Standing.{Standing}
use Rattle.s3_slots.specs.declared.slot.Standing.TheVariants.{Absent, Blocked, Present}
use Rattle.s3_labels.specs.Inner.Areas.{Areas, slots_at}
use Rattle.s3_slots.proofs.Runs.{none_at}
use Rattle.s3_job_files.specs.declared.file.OpenFile.{OpenFile}
use Rattle.s3_job_files.specs.Files.{FilesInUse, area_by}
use Rattle.s3_job_files.specs.Inner.Holds.{Seen, slots_by, Stands, IsReady, job_file_of, HoldsRecords, Holds}
use Rattle.s3_job_files.proofs.Standings.{present_named}
use Rattle.s3_job_files.proofs.Putting.{differ_sym}

-- what no element of a longer list passes, none of the shorter one does
any_shorter : {X : Type 0} (t : X → Bool) (xs : List X) (x : X) → list_any t (xs ++ x ∷ []) ≡ false → list_any t xs ≡ false
any_shorter t [] x none = refl
any_shorter t (y ∷ xs) x none = by (t y) none (any_shorter t xs x)
  where
    by : (b : Bool) → (b || list_any t (xs ++ x ∷ [])) ≡ false → (list_any t (xs ++ x ∷ []) ≡ false → list_any t xs ≡ false) → (b || list_any t xs) ≡ false
    by true e go = absurd (true≢false e)
    by false e go = go e

distinct_from : (items : List OpenFile) (file : OpenFile) → list_any (λ one. same_name one.label.name file.label.name) items ≡ false → (i : ℕ) (one : OpenFile) → slice_get items i ≡ Some one
    → same_name one.label.name file.label.name ≡ false
distinct_from items file none i one there = none_at (λ one. same_name one.label.name file.label.name) items i one none there

pub opened_ready : (level : LevelId) (items later : List OpenFile) (file : OpenFile) (pack : Seen) → later ≡ items ++ file ∷ [] → IsReady level items pack → Stands level pack file
    → list_any (λ one. same_name one.label.name file.label.name) items ≡ false → IsReady level later pack
opened_ready level items later file pack is ready stands none = subst (λ (l : List OpenFile). IsReady level l pack) (sym is) (record {
  pack = ready.pack;
  files = record {
    stands = λ i one there. elim (push_cases items i file one there) [
      | inl here ↦ subst (Stands level pack) (sym here.1) stands
      | inr before ↦ ready.files.stands i one before
    ];
    distinct = λ i j first second one two named. elim (push_cases items i file first one) [
      | inl a ↦ elim (push_cases items j file second two) [
        | inl b ↦ a.0 ∙ sym b.0
        | inr before ↦
            let differs : same_name file.label.name second.label.name ≡ false = differ_sym second.label.name file.label.name (distinct_from items file none j second before) in
            absurd (true≢false (sym named ∙ ap (λ (f : OpenFile). same_name f.label.name second.label.name) a.1 ∙ differs))
      ]
      | inr before ↦ elim (push_cases items j file second two) [
        | inl b ↦
            let differs : same_name first.label.name file.label.name ≡ false = distinct_from items file none i first before in
            absurd (true≢false (sym named ∙ ap (λ (f : OpenFile). same_name first.label.name f.label.name) b.1 ∙ differs))
        | inr other ↦ ready.files.distinct i j first second before other named
      ]
    ];
  };
})

pub opened_holds : (level : LevelId) (items later : List OpenFile) (file : OpenFile) (pack : Seen) (in_use : FilesInUse) → later ≡ items ++ file ∷ [] → Holds level items pack in_use
    → HoldsRecords pack.contents file ((area_by file.is_master in_use.files).kept file.label.name)
    → Holds level later pack (record in_use { job_files = in_use.job_files ++ job_file_of file ∷ [] })
opened_holds level items later file pack in_use is held records = subst (λ (l : List OpenFile). Holds level l pack (record in_use { job_files = in_use.job_files ++ job_file_of file ∷ [] })) (sym is) (record {
  files = record {
    format = held.files.format;
    own = held.files.own;
    masters = held.files.masters;
    own_files = λ label standing closed. held.files.own_files label standing (any_shorter (λ one. not one.is_master && same_name one.label.name label.name) items file closed);
    master_files = held.files.master_files;
    records = λ i one there. elim (push_cases items i file one there) [
      | inl here ↦ subst (λ (f : OpenFile). HoldsRecords pack.contents f ((area_by f.is_master in_use.files).kept f.label.name)) (sym here.1) records
      | inr before ↦ held.files.records i one before
    ];
  };
  job_files = ap (λ files. files ++ job_file_of file ∷ []) held.job_files ∙ sym (map-append job_file_of items (file ∷ []));
})

-- ---- a label that was found
abbrev ok_of : FileLabel → Bool → Result (FileLabel × Bool) LabelFault
ok_of label is_master = Ok (label, is_master)

abbrev stands_by : (is_master : Bool) → (own masters : Standing) → Standing
stands_by true own masters = masters
stands_by false own masters = own

abbrev label_or : FileLabel → Result (FileLabel × Bool) LabelFault → FileLabel
label_or label (Ok file) = file.0
label_or label (Err fault) = label

abbrev master_or : Bool → Result (FileLabel × Bool) LabelFault → Bool
master_or other (Ok file) = file.1
master_or other (Err fault) = other

found_in : (own masters : Standing) (label : FileLabel) (is_master : Bool) → file_in own masters ≡ ok_of label is_master → stands_by is_master own masters ≡ Present label
found_in (Present one) masters label true h = absurd (true≢false (sym (ap (master_or false) h)))
found_in (Present one) masters label false h = ap Present (ap (label_or one) h)
found_in Blocked masters label is_master h = absurd cc
found_in Absent Absent label is_master h = absurd cc
found_in Absent Blocked label is_master h = absurd cc
found_in Absent (Present one) label true h = ap Present (ap (label_or one) h)
found_in Absent (Present one) label false h = absurd (true≢false (ap (master_or false) h))

stands_in : (is_master : Bool) (level : LevelId) (areas : Areas) (name : Name) (label : FileLabel) → stands_by is_master (standing name (slots_at level areas)) (standing name areas.masters) ≡ Present label
    → standing name (slots_by is_master level areas) ≡ Present label
stands_in true level areas name label h = h
stands_in false level areas name label h = h

-- the label is on the pack, with its own name
pub found_sound : (level : LevelId) (areas : Areas) (name : Name) (label : FileLabel) (is_master : Bool) → found name (slots_at level areas) areas.masters ≡ ok_of label is_master
    → standing label.name (slots_by is_master level areas) ≡ Present label
unfolding found
found_sound level areas name label is_master h =
    let stands = stands_in is_master level areas name label (found_in (standing name (slots_at level areas)) (standing name areas.masters) label is_master h) in
    ap (λ n. standing n (slots_by is_master level areas)) (present_named name (slots_by is_master level areas) label stands) ∙ stands

pub found_named : (level : LevelId) (areas : Areas) (name : Name) (label : FileLabel) (is_master : Bool) → found name (slots_at level areas) areas.masters ≡ ok_of label is_master → label.name ≡ name
unfolding found
found_named level areas name label is_master h =
    present_named name (slots_by is_master level areas) label
    (stands_in is_master level areas name label (found_in (standing name (slots_at level areas)) (standing name areas.masters) label is_master h))
