-- One start after another: what is held, and what is left.
use Rattle.std.proofs.Common.{◌≡◌, ◌+◌, ℕ, zero, suc, Bool, true, false, not, ◌&&◌, ◌||◌, List, [], ◌∷◌, ◌++◌, map, length, rules, append-nil, append_assoc, refl, ap, sym, ◌∙◌, subst}
use Rattle.std.specs.Prelude.{slice_get, Some, Result, Ok, Err, IsOk, IfOk, if◌then◌else◌}
use Rattle.std.specs.List.{list_any}
use Rattle.std.proofs.lemmas.Bool.{true≢false}
use Rattle.std.proofs.lemmas.List.{map-append, nil_from_length}
use Rattle.s3_cards.specs.declared.levels.LevelId.{LevelId}
use Rattle.s3_cards.specs.declared.levels.LevelId.TheVariants.{One, Two}
use Rattle.s3_cards.specs.declared.name.Name.{Name}
use Rattle.s3_cards.specs.Names.{same_name}
use Rattle.s3_cards.proofs.NameLemmas.{same_name-self}
use Rattle.s3_operator.specs.declared.halt_code.HaltCode.{HaltCode}
use Rattle.s3_store.specs.Inner.Calls.{Reads}
use Rattle.s3_store.specs.Inner.State.{PoolState, KeepsContents}
use Rattle.s3_store.specs.declared.sector_fault.SectorFault.{SectorFault}
use Rattle.s3_store.specs.declared.stretch.Stretch.{Stretch}
use Rattle.s3_slots.specs.Inner.Making.{and_then, planned}
use Rattle.s3_slots.specs.Making.{made, made as made_by, new_label}
use Rattle.s3_slots.specs.Slots.{standing}
use Rattle.s3_slots.specs.declared.header.Format.{Format}
use Rattle.s3_slots.specs.declared.label.FileLabel.{FileLabel}
use Rattle.s3_slots.specs.declared.making.LabelFault.{LabelFault}
use Rattle.s3_slots.specs.declared.making.NewFile.{NewFile}
use Rattle.s3_slots.specs.declared.slot.Slot.{Slot}
use Rattle.s3_slots.specs.declared.slot.Standing.TheVariants.{Present}
use Rattle.s3_slots.proofs.Runs.{none_at}
use Rattle.s3_labels.specs.Inner.Areas.{Areas, region_at, slots_at, with_slots}
use Rattle.s3_job_files.specs.Kept.{kept_on}
use Rattle.s3_job_files.specs.Files.{Files, FilesInUse, area_by}
use Rattle.s3_job_files.specs.Inner.Holds.{Seen, seen, slots_by, AreOf, Stands, HoldsFiles, HoldsRecords, is_open, job_file_of}
use Rattle.s3_job_files.specs.declared.file.OpenFile.{OpenFile}
use Rattle.s3_job_files.proofs.Opened.{opened_ready, opened_holds}
use Rattle.s3_opening.specs.declared.starts.Start.{Start}
use Rattle.s3_opening.specs.declared.starts.Start.TheVariants.{Opened, ToMake}
use Rattle.s3_opening.specs.Opening.{after_make, first_kept, job_file, make_file, unless_halted, with_file, with_new}
use Rattle.s3_opening.specs.Inner.Tests.{label_of, news_of, taken, taken_one}
use Rattle.s3_opening.specs.Inner.Starts.{step_in, AreRight, IsOpened, IsPlanned, IsRight}
use Rattle.s3_opening.specs.Inner.OpenFiles.{HoldsStarted}
use Rattle.s3_opening.specs.Inner.Starting.{AddsFiles, AreFrom, AreNew, CanStart, HoldsAll, IsMade, IsOpenedNew, Readies, Starts, labels_left, labels_open}
use Rattle.s3_opening.proofs.MadeFiles.{made_files, opened_still, ready_still}
use Rattle.s3_opening.proofs.Steps.{list_any_mapped}

-- ---- names that are new
get_first : {X : Type 0} (xs ys : List X) (k : ℕ) (x : X) → slice_get xs k ≡ Some x → slice_get (xs ++ ys) k ≡ Some x
get_first [] ys k x there = absurd cc
get_first (z ∷ xs) ys zero x there = there
get_first (z ∷ xs) ys (suc k) x there = get_first xs ys k x there

get_last : {X : Type 0} (xs : List X) (x : X) → slice_get (xs ++ x ∷ []) (length xs) ≡ Some x
get_last [] x = refl
get_last (z ∷ xs) x = get_last xs x

-- what is new is none of those before it
new_from : (before names : List Name) (k i : ℕ) (one name : Name) → AreNew before names → slice_get before k ≡ Some one → slice_get names i ≡ Some name → same_name one name ≡ false
new_from before [] k i one name new there here = absurd cc
new_from before (first ∷ names) k zero one name new there here =
    let same : first ≡ name = cc in
    ap (same_name one) (sym same) ∙ none_at (λ n. same_name n first) before k one new.0 there
new_from before (first ∷ names) k (suc i) one name new there here = new_from (before ++ first ∷ []) names k i one name new.1 (get_first before (first ∷ []) k one there) here

left_at : (starts : List Start) (i : ℕ) (start : Start) → slice_get starts i ≡ Some start → slice_get (labels_left starts) i ≡ Some (label_of (step_in start))
left_at [] i start there = absurd cc
left_at (first ∷ starts) zero start there = let same : first ≡ start = cc in ap (λ s. Some (label_of (step_in s))) same
left_at (first ∷ starts) (suc i) start there = left_at starts i start there

-- a start that is left has another label than the one that comes first
later_differs : (level : LevelId) (items : List OpenFile) (s : Seen) (start later : Start) (rest : List Start) (i : ℕ) → CanStart level items s (start ∷ rest) → slice_get rest i ≡ Some later
    → same_name (label_of (step_in start)) (label_of (step_in later)) ≡ false
later_differs level items s start later rest i can there =
    new_from (labels_open items ++ label_of (step_in start) ∷ []) (labels_left rest) (length (labels_open items)) i (label_of (step_in start)) (label_of (step_in later)) can.new.1
    (get_last (labels_open items) (label_of (step_in start))) (left_at rest i later there)

-- no open file has its label
unopened : (level : LevelId) (items : List OpenFile) (s : Seen) (start : Start) (rest : List Start) → CanStart level items s (start ∷ rest)
    → list_any (λ (one : OpenFile). same_name one.label.name (label_of (step_in start))) items ≡ false
unopened level items s start rest can = sym (list_any_mapped (λ (file : OpenFile). file.label.name) (λ n. same_name n (label_of (step_in start))) items) ∙ can.new.0

-- ---- plans
ok_from : (n m : ℕ) (format : Format) (region : Stretch) (masters : List Slot) (news : List NewFile) (slots : List Slot) → IsOk (planned n format region masters news slots) → IsOk (planned m format region masters news slots)
ok_from n m format region masters [] slots ok = ok
ok_from n m format region masters (new ∷ news) slots ok = by (made format region masters new slots) ok (λ after. ok_from (n + 1) (m + 1) format region masters news after)
  where
    by : (came : Result (List Slot) LabelFault) → IsOk (and_then n came (planned (n + 1) format region masters news))
        → ((after : List Slot) → IsOk (planned (n + 1) format region masters news after) → IsOk (planned (m + 1) format region masters news after)) → IsOk (and_then m came (planned (m + 1) format region masters news))
    by (Err fault) ok go = absurd cc
    by (Ok after) ok go = go after ok

first_planned : (format : Format) (region : Stretch) (masters : List Slot) (new : NewFile) (news : List NewFile) (slots : List Slot) → IsOk (planned 0 format region masters (new ∷ news) slots)
    → IsOk (planned 0 format region masters (new ∷ []) slots)
first_planned format region masters new news slots ok = by (made format region masters new slots) ok
  where
    by : (came : Result (List Slot) LabelFault) → IsOk (and_then 0 came (planned (0 + 1) format region masters news)) → IsOk (and_then 0 came (planned (0 + 1) format region masters []))
    by (Err fault) ok = absurd cc
    by (Ok after) ok = search rules

-- the make of a start that is planned isn't refused
pub make_planned : (level : LevelId) (areas : Areas) (name : Name) (new : NewFile) → IsPlanned level areas (step_in (ToMake name new) ∷ [])
    → IsOk (made areas.header.format (region_at level areas) areas.masters new (slots_at level areas))
make_planned level areas name new ok = by (made areas.header.format (region_at level areas) areas.masters new (slots_at level areas)) ok
  where
    by : (came : Result (List Slot) LabelFault) → IsOk (and_then 0 came (planned (0 + 1) areas.header.format (region_at level areas) areas.masters [])) → IsOk came
    by (Err fault) ok = absurd cc
    by (Ok after) ok = search rules

-- the start that comes first, alone
start_planned : (level : LevelId) (areas : Areas) (start : Start) (rest : List Start) → IsPlanned level areas (map step_in (start ∷ rest)) → IsPlanned level areas (step_in start ∷ [])
start_planned level areas (Opened file) rest ok = search rules
start_planned level areas (ToMake name new) rest ok =
    first_planned areas.header.format (region_at level areas) areas.masters new (news_of (map step_in rest)) (slots_at level areas) ok

pub can_first : (level : LevelId) (items : List OpenFile) (s : Seen) (start : Start) (rest : List Start) → CanStart level items s (start ∷ rest) → CanStart level items s (start ∷ [])
can_first level items s start rest can = record {
  ready = can.ready;
  right = λ i one there. first_right i one there;
  planned = start_planned level s.areas start rest can.planned;
  new = (can.new.0, tt);
}
  where
    first_right : (i : ℕ) (one : Start) → slice_get (start ∷ []) i ≡ Some one → IsRight level s one
    first_right zero one there = can.right 0 one there
    first_right (suc i) one there = absurd cc

-- ---- a file that is open already
closed_yet : (items : List OpenFile) (name : Name) → list_any (λ (one : OpenFile). same_name one.label.name name) items ≡ false → is_open name items ≡ false
closed_yet [] name none = refl
closed_yet (file ∷ items) name none = by (not file.is_master) (same_name file.label.name name) none (closed_yet items name)
  where
    by : (own same : Bool) → (same || list_any (λ (one : OpenFile). same_name one.label.name name) items) ≡ false → (list_any (λ (one : OpenFile). same_name one.label.name name) items ≡ false → is_open name items ≡ false)
        → ((own && same) || is_open name items) ≡ false
    by own true none go = absurd (true≢false none)
    by true false none go = go none
    by false false none go = go none

kept_by : (b : Bool) (level : LevelId) (items : List OpenFile) (s : Seen) (files : Files) (label : FileLabel) → HoldsFiles level items s files → standing label.name (slots_by b level s.areas) ≡ Present label
    → is_open label.name items ≡ false → (area_by b files).kept label.name ≡ kept_on label s.contents
kept_by true level items s files label held is closed = held.master_files label (ap (standing label.name) held.masters.slots_of_area ∙ is) refl
kept_by false level items s files label held is closed = held.own_files label (ap (standing label.name) held.own.slots_of_area ∙ is) closed

later_right : (level : LevelId) (items : List OpenFile) (s : Seen) (start : Start) (rest : List Start) → CanStart level items s (start ∷ rest) → AreRight level s rest
later_right level items s start rest can = λ i one there. can.right (suc i) one there

pub readies_opened : (level : LevelId) (file : OpenFile) (s : Seen) → IsOpened level s file → Readies level (Opened file) file s s
readies_opened level file s opened = record {
  from = refl;
  stands = opened.stands;
  label = refl;
  ready = λ items can. can.ready;
  left = λ items rest can. (later_right level items s (Opened file) rest can, can.planned);
  holds = λ items in_use can held. record {
    before = in_use;
    is = refl;
    holds = held;
    records = subst (HoldsRecords s.contents file)
        (sym (kept_by file.is_master level items s in_use.files file.label held.files opened.stands.sound (closed_yet items file.label.name (unopened level items s (Opened file) [] can)))) opened.holds;
  };
}

-- ---- a file that is made
abbrev ok_of : FilesInUse → Result FilesInUse HaltCode
ok_of in_use = Ok in_use

module _ (level : LevelId) (name : Name) (new : NewFile) (label : FileLabel) (areas new_areas : Areas) (old fresh : List (List ℕ)) (file : OpenFile)
    (made : IsMade level new label areas new_areas old fresh) (opened : IsOpenedNew name label fresh file) where
  label_is : file.label ≡ label
  label_is = ap (λ (f : OpenFile). f.label) opened.is

  own : file.is_master ≡ false
  own = ap (λ (f : OpenFile). f.is_master) opened.is

  named : label.name ≡ new.name
  unfolding new_label
  named = ap (λ (l : FileLabel). l.name) made.fresh_label

  called : file.label.name ≡ new.name
  called = ap (λ (l : FileLabel). l.name) label_is ∙ named

  stands : Stands level (seen new_areas fresh) file
  stands = record {
    sound = subst (λ (b : Bool). standing file.label.name (slots_by b level new_areas) ≡ Present file.label) (sym own)
        (subst (λ (l : FileLabel). standing l.name (slots_at level new_areas) ≡ Present l) (sym label_is) made.stands);
    records = subst (λ (l : FileLabel). AreOf l fresh file.records) (sym label_is) opened.of_label;
    master = λ master. absurd (true≢false (sym master ∙ own));
  }

  shown : job_file_of file ≡ job_file name new.name false true
  shown = ap job_file_of opened.is ∙ ap (λ n. job_file name n false true) named

  right_left : (items : List OpenFile) (rest : List Start) → CanStart level items (seen areas old) (ToMake name new ∷ rest) → AreRight level (seen new_areas fresh) rest
  right_left items rest can = λ i one there. by one (later_differs level items (seen areas old) (ToMake name new) one rest i can there) (can.right (suc i) one there)
    where
      by : (one : Start) → same_name new.name (label_of (step_in one)) ≡ false → IsRight level (seen areas old) one → IsRight level (seen new_areas fresh) one
      by (Opened other) differs right = opened_still level new label areas new_areas old fresh made other differs right
      by (ToMake other asked) differs right = right

  plan_left : (rest : List Start) → IsPlanned level areas (map step_in (ToMake name new ∷ rest)) → IsPlanned level new_areas (map step_in rest)
  plan_left rest ok =
      subst (λ (a : Areas). IsOk (planned 0 a.header.format (region_at level a) a.masters (news_of (map step_in rest)) (slots_at level new_areas))) (sym made.alone)
      (same_with level (slots_at level new_areas) (ok_from (0 + 1) 0 areas.header.format (region_at level areas) areas.masters (news_of (map step_in rest)) (slots_at level new_areas)
      (subst (λ came. IsOk (and_then 0 came (planned (0 + 1) areas.header.format (region_at level areas) areas.masters (news_of (map step_in rest))))) made.slots ok)))
    where
      same_with : (l : LevelId) (slots : List Slot) → IsOk (planned 0 areas.header.format (region_at level areas) areas.masters (news_of (map step_in rest)) (slots_at level new_areas))
          → IsOk (planned 0 (with_slots l slots areas).header.format (region_at level (with_slots l slots areas)) (with_slots l slots areas).masters (news_of (map step_in rest)) (slots_at level new_areas))
      same_with One slots ok = ok
      same_with Two slots ok = ok

  made_held : (items : List OpenFile) (in_use : FilesInUse) → HoldsFiles level items (seen areas old) in_use.files
      → make_file name new in_use ≡ Ok (with_file (job_file name new.name false true) (record in_use { files = with_new new (slots_at level new_areas) in_use.files }))
  unfolding make_file
  made_held items in_use held =
      ap (λ f. after_make name new in_use (made_by f in_use.files.own.region in_use.files.masters.slots new in_use.files.own.slots)) held.format
      ∙ ap (λ r. after_make name new in_use (made_by areas.header.format r in_use.files.masters.slots new in_use.files.own.slots)) held.own.region_of_area
      ∙ ap (λ m. after_make name new in_use (made_by areas.header.format (region_at level areas) m new in_use.files.own.slots)) held.masters.slots_of_area
      ∙ ap (λ o. after_make name new in_use (made_by areas.header.format (region_at level areas) areas.masters new o)) held.own.slots_of_area
      ∙ ap (after_make name new in_use) made.slots

  kept_is : (in_use : FilesInUse) → (area_by file.is_master (with_new new (slots_at level new_areas) in_use.files)).kept file.label.name ≡ kept_on label fresh
  kept_is in_use =
      ap (λ (b : Bool). (area_by b (with_new new (slots_at level new_areas) in_use.files)).kept file.label.name) own
      ∙ ap (λ (b : Bool). if b then first_kept new else in_use.files.own.kept file.label.name) (ap (λ n. same_name n new.name) called ∙ same_name-self new.name)
      ∙ sym made.kept

  readies_fresh : Readies level (ToMake name new) file (seen areas old) (seen new_areas fresh)
  readies_fresh = record {
    from = (ap (λ (f : OpenFile). f.name) opened.is, (own, subst (λ (l : FileLabel). l ≡ new_label new l.extents) (sym label_is) made.fresh_label));
    stands = stands;
    label = called;
    ready = λ items can. ready_still level new label areas new_areas old fresh made items (unopened level items (seen areas old) (ToMake name new) [] can) can.ready;
    left = λ items rest can. (right_left items rest can, plan_left rest can.planned);
    holds = λ items in_use can held. record {
      before = record in_use { files = with_new new (slots_at level new_areas) in_use.files };
      is = made_held items in_use held.files
          ∙ ap (λ f. ok_of (with_file f (record in_use { files = with_new new (slots_at level new_areas) in_use.files }))) (sym shown);
      holds = record {
        files = made_files level new label areas new_areas old fresh made items (unopened level items (seen areas old) (ToMake name new) [] can) can.ready in_use.files held.files;
        job_files = held.job_files;
      };
      records = subst (HoldsRecords fresh file) (sym (kept_is in_use)) opened.holds;
    };
  }

readies_made : (level : LevelId) (name : Name) (new : NewFile) (label : FileLabel) (areas new_areas : Areas) (old : List (List ℕ)) (t u : PoolState) (file : OpenFile) → IsMade level new label areas new_areas old t.contents
    → KeepsContents t u → IsOpenedNew name label t.contents file → Readies level (ToMake name new) file (seen areas old) (seen new_areas u.contents)
readies_made level name new label areas new_areas old t u file is keeps opened =
    subst (λ contents. Readies level (ToMake name new) file (seen areas old) (seen new_areas contents)) (sym keeps.contents)
    (readies_fresh level name new label areas new_areas old t.contents file is opened)

pub readies_if_made : (level : LevelId) (name : Name) (new : NewFile) (label : FileLabel) (areas new_areas : Areas) (old : List (List ℕ)) (t u : PoolState) (result : Result OpenFile SectorFault)
    → IsMade level new label areas new_areas old t.contents → Reads result t u → IfOk result (IsOpenedNew name label t.contents)
    → IfOk result (λ file. Readies level (ToMake name new) file (seen areas old) (seen new_areas u.contents))
readies_if_made level name new label areas new_areas old t u (Ok file) is reads opened = readies_made level name new label areas new_areas old t u file is reads.keeps opened
readies_if_made level name new label areas new_areas old t u (Err fault) is reads opened = tt

-- ---- a start by its kind
pub readies_open : (level : LevelId) (start : Start) (file : OpenFile) (s : Seen) → start ≡ Opened file → IsRight level s start → Readies level start file s s
readies_open level start file s is right = subst (λ one. Readies level one file s s) (sym is) (readies_opened level file s (subst (IsRight level s) is right))

-- ---- the file is appended to the others
labels_pushed : (items later : List OpenFile) (file : OpenFile) (label : Name) → later ≡ items ++ file ∷ [] → file.label.name ≡ label → labels_open later ≡ labels_open items ++ label ∷ []
labels_pushed items later file label pushed named =
    ap labels_open pushed ∙ map-append (λ (f : OpenFile). f.label.name) items (file ∷ []) ∙ ap (λ n. labels_open items ++ n ∷ []) named

pub starts_pushed : (level : LevelId) (start : Start) (file : OpenFile) (items later : List OpenFile) (old new : Seen) → Readies level start file old new → later ≡ items ++ file ∷ []
    → Starts level start items later old new
starts_pushed level start file items later old new readies pushed = record {
  adds = record { more = file ∷ []; behind = pushed; from = (readies.from, tt) };
  can = λ rest can.
      let left = readies.left items rest can in
      record {
        ready = opened_ready level items later file new pushed (readies.ready items (can_first level items old start rest can)) readies.stands (free rest can);
        right = left.0;
        planned = left.1;
        new = subst (λ labels. AreNew labels (labels_left rest)) (sym (labels_pushed items later file (label_of (step_in start)) pushed readies.label)) can.new.1;
      };
  holds = λ in_use can held.
      let came = readies.holds items in_use can held in
      subst (HoldsStarted level later new) (sym came.is) (opened_holds level items later file new came.before pushed came.holds came.records);
}
  where
    free : (rest : List Start) → CanStart level items old (start ∷ rest) → list_any (λ (one : OpenFile). same_name one.label.name file.label.name) items ≡ false
    free rest can = ap (λ n. list_any (λ (one : OpenFile). same_name one.label.name n) items) readies.label ∙ unopened level items old start rest can

-- ---- one after another
adds_none : (items : List OpenFile) → AddsFiles [] items items
adds_none items = record { more = []; behind = sym (append-nil items); from = tt }

adds_both : (start : Start) (rest : List Start) (items mid later : List OpenFile) → AddsFiles (start ∷ []) items mid → AddsFiles rest mid later → AddsFiles (start ∷ rest) items later
adds_both start rest items mid later first more = record {
  more = first.more ++ more.more;
  behind = more.behind ∙ ap (λ xs. xs ++ more.more) first.behind ∙ append_assoc items first.more more.more;
  from = both first.more first.from;
}
  where
    both : (files : List OpenFile) → AreFrom (start ∷ []) files → AreFrom (start ∷ rest) (files ++ more.more)
    both [] from = absurd from
    both (file ∷ []) from = (from.0, more.from)
    both (file ∷ (other ∷ files)) from = absurd from.1

pub adds_all : (starts : List Start) (start : Start) (rest : List Start) (items mid later : List OpenFile) (old between : Seen) (level : LevelId) → starts ≡ start ∷ rest → Starts level start items mid old between
    → AddsFiles rest mid later → AddsFiles starts items later
adds_all starts start rest items mid later old between level is first more =
    subst (λ list. AddsFiles list items later) (sym is) (adds_both start rest items mid later first.adds more)

pub can_next : (level : LevelId) (starts : List Start) (start : Start) (rest : List Start) (items mid : List OpenFile) (old between : Seen) → starts ≡ start ∷ rest → Starts level start items mid old between
    → CanStart level items old starts → CanStart level mid between rest
can_next level starts start rest items mid old between is first can = first.can rest (subst (CanStart level items old) is can)

pub can_one : (level : LevelId) (starts : List Start) (start : Start) (rest : List Start) (items : List OpenFile) (old : Seen) → starts ≡ start ∷ rest → CanStart level items old starts → CanStart level items old (start ∷ [])
can_one level starts start rest items old is can = can_first level items old start rest (subst (CanStart level items old) is can)

pub holds_all : (level : LevelId) (starts : List Start) (start : Start) (rest : List Start) (items mid later : List OpenFile) (old between new : Seen) → starts ≡ start ∷ rest → Starts level start items mid old between
    → CanStart level items old starts → HoldsAll level rest mid later between new → HoldsAll level starts items later old new
unfolding taken
holds_all level starts start rest items mid later old between new is first can others in_use held =
    subst (λ list. HoldsStarted level later new (taken (map step_in list) in_use)) (sym is)
    (by (taken_one (step_in start) in_use) (first.holds in_use (can_one level starts start rest items old is can) held))
  where
    by : (came : Result FilesInUse HaltCode) → HoldsStarted level mid between came → HoldsStarted level later new (unless_halted came (taken (map step_in rest)))
    by (Ok next) h = others next h
    by (Err code) h = absurd h

-- ---- no start is left
pub holds_none : (level : LevelId) (starts : List Start) (items : List OpenFile) (s : Seen) → length starts ≡ 0 → HoldsAll level starts items items s s
unfolding taken
holds_none level starts items s none in_use held = subst (λ list. HoldsStarted level items s (taken (map step_in list) in_use)) (sym (nil_from_length starts none)) held

pub adds_nothing : (starts : List Start) (items : List OpenFile) → length starts ≡ 0 → AddsFiles starts items items
adds_nothing starts items none = subst (λ list. AddsFiles list items items) (sym (nil_from_length starts none)) (adds_none items)
