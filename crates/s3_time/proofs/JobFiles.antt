-- The files of a job: each line that the job uses has one, and its label keeps its file from the job's start to its end.
use Rattle.std.proofs.Common.{◌≡◌, ℕ, zero, suc, ◌+◌, Bool, true, false, ◌||◌, true≢false, List, [], ◌∷◌, ◌++◌, if◌then◌else◌, refl, sym, ◌∙◌, ap, subst, arith}
use Rattle.std.specs.Prelude.{Option, Some, None, Result, Ok, Err, cond, slice_get, slice_set}
use Rattle.std.specs.List.{AllByRecursion as Each, list_any, position_from}
use Rattle.s3_cards.specs.declared.name.Name.{Name}
use Rattle.s3_cards.specs.Names.{same_name}
use Rattle.s3_cards.proofs.NameLemmas.{same_name-self}
use Rattle.s3_lines.specs.declared.sheet.FileLine.{FileLine}
use Rattle.s3_meaning.specs.Requests.{Request, Card, Read, Chain, Append, Add, Update, Print, Jump, Ask, End}
use Rattle.s3_ocl.specs.declared.contents.FileStatement.{FileStatement}
use Rattle.s3_operator.specs.declared.halt_code.HaltCode.{HaltCode}
use Rattle.s3_operator.specs.declared.halt_code.HaltCode.TheVariants.{DuplicateLabel}
use Rattle.s3_store.specs.declared.stretch.Stretch.{Stretch}
use Rattle.s3_store.proofs.SectorLists.{slice_get_set_same}
use Rattle.s3_slots.specs.Making.{dropped, is_permanent, made, new_label, put, put_at, put_in, put_over, tracks_of}
use Rattle.s3_slots.specs.Placement.{free_slot, is_free, placed}
use Rattle.s3_slots.specs.Slots.{bears, is_damaged_under, slot_at, standing, standing_with}
use Rattle.s3_slots.specs.declared.header.Format.{Format}
use Rattle.s3_slots.specs.declared.label.FileLabel.{FileLabel}
use Rattle.s3_slots.specs.declared.making.LabelFault.{LabelFault}
use Rattle.s3_slots.specs.declared.making.LabelFault.TheVariants.{Master, Retained}
use Rattle.s3_slots.specs.declared.making.NewFile.{NewFile}
use Rattle.s3_slots.specs.declared.slot.Slot.{Slot}
use Rattle.s3_slots.specs.declared.slot.Slot.TheVariants.{Damaged, Free, Sound}
use Rattle.s3_slots.specs.declared.slot.Standing.{Standing}
use Rattle.s3_slots.specs.declared.slot.Standing.TheVariants.{Absent, Blocked, Present}
use Rattle.s3_slots.proofs.Runs.{none_at}
use Rattle.s3_job_files.specs.Kept.{Kept}
use Rattle.s3_job_files.specs.Files.{FileAtWork, Files, FilesInUse, JobFile, area_by, area_with, as_it_stands, file_at, file_at_work, labelled, place_named, with_job_file}
use Rattle.s3_job_files.specs.Requests as files
use Rattle.s3_job_files.specs.Requests.{Served, files_after_put, record_added, record_appended, record_chained, record_put, record_read, record_updated, served_named, served_on, with_read}
use Rattle.s3_job_files.proofs.Lists.{any_set, found_passes, within_get}
use Rattle.s3_job_files.proofs.Putting.{differ_sym}
use Rattle.s3_job_files.proofs.Standings.{present_named}
use Rattle.s3_opening.specs.Asked.{is_new, is_used, new_file}
use Rattle.s3_opening.specs.Opening.{Settings, after_make, is_taken, job_file, make_file, none_in_use, open_file, open_line, open_lines, open_master, open_own, open_standing, open_stated, opened, refusal_of, statement_of, unless_halted, unless_refused, with_file, with_new}
use Rattle.s3_opening.proofs.Made.{found_at, made_else}
use Rattle.s3_time.proofs.Elements.{each_joined, each_other}

-- ---- lists
any_at : {X : Type 0} (test : X → Bool) (xs : List X) (i : ℕ) (x : X) → slice_get xs i ≡ Some x → test x ≡ true → list_any test xs ≡ true
any_at test [] i x there passes = absurd cc
any_at test (y ∷ xs) zero x there passes = let same : y ≡ x = cc in ap (λ (b : Bool). b || list_any test xs) (ap test same ∙ passes)
any_at test (y ∷ xs) (suc i) x there passes = by (test y) (any_at test xs i x there passes)
  where
    by : (b : Bool) → list_any test xs ≡ true → (b || list_any test xs) ≡ true
    by true later = refl
    by false later = later

any_joined : {X : Type 0} (test : X → Bool) (xs ys : List X) → list_any test xs ≡ true → list_any test (xs ++ ys) ≡ true
any_joined test [] ys some = absurd (true≢false (sym some))
any_joined test (x ∷ xs) ys some = by (test x) some (any_joined test xs ys)
  where
    by : (b : Bool) → (b || list_any test xs) ≡ true → (list_any test xs ≡ true → list_any test (xs ++ ys) ≡ true) → (b || list_any test (xs ++ ys)) ≡ true
    by true some later = refl
    by false some later = later some

any_last : {X : Type 0} (test : X → Bool) (xs : List X) (x : X) → test x ≡ true → list_any test (xs ++ x ∷ []) ≡ true
any_last test [] x passes = ap (λ (b : Bool). b || false) passes
any_last test (y ∷ xs) x passes = by (test y) (any_last test xs x passes)
  where
    by : (b : Bool) → list_any test (xs ++ x ∷ []) ≡ true → (b || list_any test (xs ++ x ∷ [])) ≡ true
    by true later = refl
    by false later = later

-- the first that passes
record IsFirst {X : Type 0} (P : X → Type 0) (test : X → Bool) (start : ℕ) (xs : List X) : Type 0 where
  place : ℕ
  one : X
  found : position_from test start xs ≡ Some (start + place)
  there : slice_get xs place ≡ Some one
  has : P one

first_place : {X : Type 0} (P : X → Type 0) (test : X → Bool) (start : ℕ) (xs : List X) → Each P xs → list_any test xs ≡ true → IsFirst P test start xs
first_place P test start [] each some = absurd (true≢false (sym some))
first_place {X} P test start (x ∷ xs) each some = by (test x) refl some (first_place P test (start + 1) xs each.1)
  where
    by : (b : Bool) → test x ≡ b → (b || list_any test xs) ≡ true → (list_any test xs ≡ true → IsFirst P test (start + 1) xs) → IsFirst P test start (x ∷ xs)
    by true passes some later = record {
      place = 0;
      one = x;
      found = ap (λ (b : Bool). cond b (Some start) (position_from test (start + 1) xs)) passes ∙ ap (λ n. Some n) (omega arith);
      there = refl;
      has = each.0;
    }
    by false fails some later =
        let one = later some in record {
          place = suc one.place;
          one = one.one;
          found = ap (λ (b : Bool). cond b (Some start) (position_from test (start + 1) xs)) fails ∙ (one.found ∙ ap (λ n. Some n) (omega arith));
          there = one.there;
          has = one.has;
        }

each_at : {X : Type 0} (P : X → Type 0) (xs : List X) (i : ℕ) (x : X) → Each P xs → slice_get xs i ≡ Some x → P x
each_at P [] i x each there = absurd cc
each_at P (y ∷ xs) zero x each there = let same : y ≡ x = cc in subst P same each.0
each_at P (y ∷ xs) (suc i) x each there = each_at P xs i x each.1 there

each_set : {X : Type 0} (P : X → Type 0) (xs : List X) (i : ℕ) (x : X) → Each P xs → P x → Each P (slice_set xs i x)
each_set P [] i x each one = tt
each_set P (y ∷ xs) zero x each one = (one, each.1)
each_set P (y ∷ xs) (suc i) x each one = (each.0, each_set P xs i x each.1 one)

each_index : {X : Type 0} (P : X → Type 0) (xs : List X) → ((i : ℕ) (x : X) → slice_get xs i ≡ Some x → P x) → Each P xs
each_index P [] go = tt
each_index P (x ∷ xs) go = (go 0 x refl, each_index P xs (λ i y there. go (suc i) y there))

-- ---- valid labels
record IsThere (name : Name) (slots : List Slot) : Type 0 where
  label : FileLabel
  stands : standing name slots ≡ Present label

-- if a slot has a name, some label is found for it
bearing_stands : (name : Name) (slots : List Slot) (i : ℕ) (label : FileLabel) → slice_get slots i ≡ Some (Sound label) → same_name label.name name ≡ true → IsThere name slots
unfolding standing
bearing_stands name slots i label there named =
    let first = first_place (λ (slot : Slot). Unit {0}) (bears name) 0 slots (each_index (λ (slot : Slot). Unit {0}) slots (λ k slot at. tt)) (any_at (bears name) slots i (Sound label) there named) in
    let at : position_from (bears name) 0 slots ≡ Some first.place = first.found ∙ ap (λ n. Some n) (omega arith) in
    by first.one (found_passes (bears name) slots first.place first.one at first.there) first.place at first.there
  where
    by : (slot : Slot) → bears name slot ≡ true → (place : ℕ) → position_from (bears name) 0 slots ≡ Some place → slice_get slots place ≡ Some slot → IsThere name slots
    by Free bearing place at there = absurd (true≢false (sym bearing))
    by (Damaged other) bearing place at there = absurd (true≢false (sym bearing))
    by (Sound one) bearing place at there = record {
      label = one;
      stands = ap (λ (found : Option ℕ). standing_with (list_any (is_damaged_under name) slots) (slot_at slots found)) at
          ∙ ap (standing_with (list_any (is_damaged_under name) slots)) there;
    }

put_stands : (format : Format) (region : Stretch) (new : NewFile) (slots after : List Slot) → put format region new slots ≡ Ok after → IsThere new.name after
unfolding new_label
put_stands format region new slots after is = by (free_slot slots) refl is
  where
    into : (at : ℕ) → free_slot slots ≡ Some at → (extents : Option (List Stretch)) → put_in new slots at extents ≡ Ok after → IsThere new.name after
    into at free None is = absurd cc
    into at free (Some extents) is =
        let found = found_at is_free 0 slots at free in
        let same : at ≡ found.place = omega (arith, found.is) in
        let there : slice_get slots at ≡ Some found.element = ap (slice_get slots) same ∙ found.there in
        let set : slice_set slots at (Sound (new_label new extents)) ≡ after = cc in
        subst (IsThere new.name) set
        (bearing_stands new.name (slice_set slots at (Sound (new_label new extents))) at (new_label new extents)
        (slice_get_set_same slots at (Sound (new_label new extents)) (within_get slots at found.element there)) (same_name-self new.name))

    by : (at : Option ℕ) → free_slot slots ≡ at → put_at format region new slots at ≡ Ok after → IsThere new.name after
    by None free is = absurd cc
    by (Some at) free is = into at free (placed format region slots (tracks_of new)) is

made_stands : (format : Format) (region : Stretch) (masters : List Slot) (new : NewFile) (slots after : List Slot) → made format region masters new slots ≡ Ok after → IsThere new.name after
unfolding made
made_stands format region masters new slots after is = by (list_any (bears new.name) masters) is
  where
    over : (stands : Standing) → put_over format region new slots stands ≡ Ok after → IsThere new.name after
    over Absent is = put_stands format region new slots after is
    over Blocked is = absurd cc
    over (Present old) is = kept (is_permanent old.retention) is
      where
        kept : (b : Bool) → (if b then Err Retained else put format region new (dropped new.name slots)) ≡ Ok after → IsThere new.name after
        kept true is = absurd cc
        kept false is = put_stands format region new (dropped new.name slots) after is

    by : (b : Bool) → (if b then Err Master else put_over format region new slots (standing new.name slots)) ≡ Ok after → IsThere new.name after
    by true is = absurd cc
    by false is = over (standing new.name slots) is

-- ---- the files of a job
-- some label is found for the name of a file
pub record HasLabel (all : Files) (file : JobFile) : Type 0 where
  pub label : FileLabel
  pub stands : standing file.label (area_with file all).slots ≡ Present label

abbrev pub is_named : Name → JobFile → Bool
is_named name file = same_name file.name name

-- each line that is used has a file, and each file has its label
pub record AreOpen (lines : List FileLine) (switches : ℕ) (in_use : FilesInUse) : Type 0 where
  pub labels : Each (HasLabel in_use.files) in_use.job_files
  pub opens : Each (λ (line : FileLine). is_used switches line ≡ true → list_any (is_named line.name) in_use.job_files ≡ true) lines

-- ---- the start of a job
record Opens (settings : Settings) (line : FileLine) (so_far after : FilesInUse) : Type 0 where
  labels : Each (HasLabel after.files) after.job_files
  keeps : (name : Name) → list_any (is_named name) so_far.job_files ≡ true → list_any (is_named name) after.job_files ≡ true
  opens : is_used settings.switches line ≡ true → list_any (is_named line.name) after.job_files ≡ true

-- one file more
one_more : (settings : Settings) (line : FileLine) (so_far : FilesInUse) (all : Files) (file : JobFile) → file.name ≡ line.name → Each (HasLabel all) so_far.job_files → HasLabel all file
    → Opens settings line so_far (with_file file (record so_far { files = all }))
one_more settings line so_far all file named before here = record {
  labels = each_joined (HasLabel all) so_far.job_files (file ∷ []) before (here, tt);
  keeps = λ name some. any_joined (is_named name) so_far.job_files (file ∷ []) some;
  opens = λ used. any_last (is_named line.name) so_far.job_files file (ap (λ (name : Name). same_name name line.name) named ∙ same_name-self line.name);
}

module _ (settings : Settings) (line : FileLine) (so_far : FilesInUse) (before : Each (HasLabel so_far.files) so_far.job_files) where
  make_opens : (new : NewFile) (after : FilesInUse) → is_taken new.name so_far.job_files ≡ false → make_file line.name new so_far ≡ Ok after → Opens settings line so_far after
  unfolding make_file
  make_opens new after untaken is = by (made so_far.files.format so_far.files.own.region so_far.files.masters.slots new so_far.files.own.slots) refl is
    where
      still : (slots : List Slot) → made so_far.files.format so_far.files.own.region so_far.files.masters.slots new so_far.files.own.slots ≡ Ok slots → (file : JobFile) → same_name file.label new.name ≡ false
          → (b : Bool) → file.is_master ≡ b → HasLabel so_far.files file → HasLabel (with_new new slots so_far.files) file
      still slots came file differs true is has = record {
        label = has.label;
        stands = ap (λ (b : Bool). standing file.label (area_by b (with_new new slots so_far.files)).slots) is
            ∙ (sym (ap (λ (b : Bool). standing file.label (area_by b so_far.files).slots) is) ∙ has.stands);
      }
      still slots came file differs false is has = record {
        label = has.label;
        stands = ap (λ (b : Bool). standing file.label (area_by b (with_new new slots so_far.files)).slots) is
            ∙ (made_else so_far.files.format so_far.files.own.region so_far.files.masters.slots new so_far.files.own.slots slots file.label (differ_sym file.label new.name differs) came
            ∙ (sym (ap (λ (b : Bool). standing file.label (area_by b so_far.files).slots) is) ∙ has.stands));
      }

      by : (came : Result (List Slot) LabelFault) → made so_far.files.format so_far.files.own.region so_far.files.masters.slots new so_far.files.own.slots ≡ came → after_make line.name new so_far came ≡ Ok after
          → Opens settings line so_far after
      by (Err fault) came is = absurd cc
      by (Ok slots) came is =
          let there = made_stands so_far.files.format so_far.files.own.region so_far.files.masters.slots new so_far.files.own.slots slots came in
          let same : with_file (job_file line.name new.name false true) (record so_far { files = with_new new slots so_far.files }) ≡ after = cc in
          subst (Opens settings line so_far) same
          (one_more settings line so_far (with_new new slots so_far.files) (job_file line.name new.name false true) refl
          (each_index (HasLabel (with_new new slots so_far.files)) so_far.job_files
          (λ i file at. still slots came file (none_at (λ (one : JobFile). same_name one.label new.name) so_far.job_files i file untaken at) file.is_master refl
          (each_at (HasLabel so_far.files) so_far.job_files i file before at)))
          (record { label = there.label; stands = there.stands }))

  standing_opens : (is_master : Bool) (label : FileLabel) (kept : Kept) (name : Name) (after : FilesInUse) → standing name (area_by is_master so_far.files).slots ≡ Present label
      → open_standing line is_master label kept so_far ≡ Ok after → Opens settings line so_far after
  standing_opens is_master label kept name after stands is = by (refusal_of line is_master label kept.has_good_index) is
    where
      by : (o : Option HaltCode) → unless_refused o (with_file (job_file line.name label.name is_master false) so_far) ≡ Ok after → Opens settings line so_far after
      by (Some code) is = absurd cc
      by None is =
          let same : with_file (job_file line.name label.name is_master false) so_far ≡ after = cc in
          let named : label.name ≡ name = present_named name (area_by is_master so_far.files).slots label stands in
          subst (Opens settings line so_far) same
          (one_more settings line so_far so_far.files (job_file line.name label.name is_master false) refl before
          (record { label = label; stands = ap (λ (n : Name). standing n (area_by is_master so_far.files).slots) named ∙ stands }))

  open_opens : (name : Name) (after : FilesInUse) → open_file line name so_far ≡ Ok after → Opens settings line so_far after
  unfolding open_file
  open_opens name after is = by (standing name so_far.files.own.slots) refl is
    where
      master : (stands : Standing) → standing name so_far.files.masters.slots ≡ stands → open_master line name so_far stands ≡ Ok after → Opens settings line so_far after
      master Blocked stands is = absurd cc
      master Absent stands is = absurd cc
      master (Present label) stands is = standing_opens true label (so_far.files.masters.kept name) name after stands is

      by : (stands : Standing) → standing name so_far.files.own.slots ≡ stands → open_own line name so_far stands ≡ Ok after → Opens settings line so_far after
      by Blocked stands is = absurd cc
      by Absent stands is = master (standing name so_far.files.masters.slots) refl is
      by (Present label) stands is = standing_opens false label (so_far.files.own.kept name) name after stands is

  line_opens : (after : FilesInUse) → open_line settings line so_far ≡ Ok after → Opens settings line so_far after
  unfolding new_file
  line_opens after is = by (is_used settings.switches line) refl is
    where
      new_or_old : (statement : FileStatement) (b : Bool) → is_taken statement.label so_far.job_files ≡ false
          → (if b then make_file line.name (new_file settings.date line statement) so_far else open_file line statement.label so_far) ≡ Ok after → Opens settings line so_far after
      new_or_old statement true untaken is = make_opens (new_file settings.date line statement) after untaken is
      new_or_old statement false untaken is = open_opens statement.label after is

      stated : (o : Option FileStatement) → open_stated settings.date line so_far o ≡ Ok after → Opens settings line so_far after
      stated None is = absurd cc
      stated (Some statement) is = taken (is_taken statement.label so_far.job_files) refl is
        where
          taken : (b : Bool) → is_taken statement.label so_far.job_files ≡ b
              → (if b then Err DuplicateLabel else (if is_new line then make_file line.name (new_file settings.date line statement) so_far else open_file line statement.label so_far)) ≡ Ok after
              → Opens settings line so_far after
          taken true is_so is = absurd cc
          taken false untaken is = new_or_old statement (is_new line) untaken is

      by : (b : Bool) → is_used settings.switches line ≡ b → (if b then open_stated settings.date line so_far (statement_of line.name settings.statements) else Ok so_far) ≡ Ok after
          → Opens settings line so_far after
      by true used is = stated (statement_of line.name settings.statements) is
      by false unused is =
          let same : so_far ≡ after = cc in
          subst (Opens settings line so_far) same (record { labels = before; keeps = λ name some. some; opens = λ used. absurd (true≢false (sym used ∙ unused)) })

record OpensAll (settings : Settings) (lines : List FileLine) (so_far after : FilesInUse) : Type 0 where
  are_open : AreOpen lines settings.switches after
  keeps : (name : Name) → list_any (is_named name) so_far.job_files ≡ true → list_any (is_named name) after.job_files ≡ true

lines_open : (settings : Settings) (lines : List FileLine) (so_far after : FilesInUse) → Each (HasLabel so_far.files) so_far.job_files → open_lines settings lines so_far ≡ Ok after → OpensAll settings lines so_far after
unfolding open_lines
lines_open settings [] so_far after before is =
    let same : so_far ≡ after = cc in subst (OpensAll settings [] so_far) same (record { are_open = record { labels = before; opens = tt }; keeps = λ name some. some })
lines_open settings (line ∷ lines) so_far after before is = by (open_line settings line so_far) refl is (λ next. lines_open settings lines next after)
  where
    by : (came : Result FilesInUse HaltCode) → open_line settings line so_far ≡ came → unless_halted came (open_lines settings lines) ≡ Ok after
        → ((next : FilesInUse) → Each (HasLabel next.files) next.job_files → open_lines settings lines next ≡ Ok after → OpensAll settings lines next after) → OpensAll settings (line ∷ lines) so_far after
    by (Err code) came is later = absurd cc
    by (Ok next) came is later =
        let one = line_opens settings line so_far before next came in
        let more = later next one.labels is in
        record {
          are_open = record { labels = more.are_open.labels; opens = ((λ used. more.keeps line.name (one.opens used)), more.are_open.opens) };
          keeps = λ name some. more.keeps name (one.keeps name some);
        }

pub opened_are_open : (settings : Settings) (lines : List FileLine) (all : Files) (after : FilesInUse) → opened settings lines all ≡ Ok after → AreOpen lines settings.switches after
opened_are_open settings lines all after is = (lines_open settings lines (none_in_use all) after tt is).are_open

-- ---- requests to files
at_place : (in_use : FilesInUse) (name : Name) (at : FileAtWork) → file_at_work name in_use ≡ Some at → slice_get in_use.job_files at.place ≡ Some at.file
at_place in_use name at is = by (place_named name in_use.job_files) is
  where
    stands : (place : ℕ) (file : JobFile) (records : List (List ℕ)) (s : Standing) → slice_get in_use.job_files place ≡ Some file → labelled place file records s ≡ Some at → slice_get in_use.job_files at.place ≡ Some at.file
    stands place file records Absent there is = absurd cc
    stands place file records Blocked there is = absurd cc
    stands place file records (Present label) there is =
        let same : record { place = place; file = file; label = label; records = records } ≡ at = cc in
        subst (λ (one : FileAtWork). slice_get in_use.job_files one.place ≡ Some one.file) same there

    found : (place : ℕ) (o : Option JobFile) → slice_get in_use.job_files place ≡ o → as_it_stands in_use.files place o ≡ Some at → slice_get in_use.job_files at.place ≡ Some at.file
    found place None there is = absurd cc
    found place (Some file) there is = stands place file _ (standing file.label (area_with file in_use.files).slots) there is

    by : (o : Option ℕ) → file_at in_use o ≡ Some at → slice_get in_use.job_files at.place ≡ Some at.file
    by None is = absurd cc
    by (Some place) is = found place (slice_get in_use.job_files place) refl is

module _ (lines : List FileLine) (switches : ℕ) (in_use : FilesInUse) (are_open : AreOpen lines switches in_use) where
  -- a file of the job changes, apart from its names
  file_stays : (at : FileAtWork) (file : JobFile) → slice_get in_use.job_files at.place ≡ Some at.file → file.name ≡ at.file.name → file.label ≡ at.file.label → file.is_master ≡ at.file.is_master
      → AreOpen lines switches (with_job_file at.place file in_use)
  file_stays at file there name label master =
      let old : HasLabel in_use.files at.file = each_at (HasLabel in_use.files) in_use.job_files at.place at.file are_open.labels there in
      let stands : standing file.label (area_by file.is_master in_use.files).slots ≡ Present old.label =
      ap (λ (n : Name). standing n (area_by file.is_master in_use.files).slots) label ∙ (ap (λ (b : Bool). standing at.file.label (area_by b in_use.files).slots) master ∙ old.stands) in
      record {
        labels = each_set (HasLabel in_use.files) in_use.job_files at.place file are_open.labels (record { label = old.label; stands = stands });
        opens = each_other (λ (line : FileLine). is_used switches line ≡ true → list_any (is_named line.name) in_use.job_files ≡ true)
            (λ (line : FileLine). is_used switches line ≡ true → list_any (is_named line.name) (slice_set in_use.job_files at.place file) ≡ true) lines are_open.opens
            (λ line opens used. any_set (is_named line.name) in_use.job_files at.place at.file file there (ap (λ (n : Name). same_name n line.name) name) ∙ opens used);
      }

  read_stays : (at : FileAtWork) (place : Option ℕ) → slice_get in_use.job_files at.place ≡ Some at.file → AreOpen lines switches (with_job_file at.place (with_read place at.file) in_use)
  read_stays at None there = file_stays at at.file there refl refl refl
  read_stays at (Some place) there = file_stays at (with_read (Some place) at.file) there refl refl refl

  put_stays : (at : FileAtWork) (result : Result (List (List ℕ)) HaltCode) → AreOpen lines switches (record_put result at in_use).in_use
  put_stays at (Err code) = are_open
  put_stays at (Ok records) = record {
    labels = each_other (HasLabel in_use.files) (HasLabel (files_after_put at.file.label (Ok records) in_use.files)) in_use.job_files are_open.labels
        (λ file has. record { label = has.label; stands = by file file.is_master refl ∙ has.stands });
    opens = are_open.opens;
  }
    where
      by : (file : JobFile) (b : Bool) → file.is_master ≡ b
          → standing file.label (area_by file.is_master (files_after_put at.file.label (Ok records) in_use.files)).slots ≡ standing file.label (area_by file.is_master in_use.files).slots
      by file true is = ap (λ (b : Bool). standing file.label (area_by b (files_after_put at.file.label (Ok records) in_use.files)).slots) is
          ∙ sym (ap (λ (b : Bool). standing file.label (area_by b in_use.files).slots) is)
      by file false is = ap (λ (b : Bool). standing file.label (area_by b (files_after_put at.file.label (Ok records) in_use.files)).slots) is
          ∙ sym (ap (λ (b : Bool). standing file.label (area_by b in_use.files).slots) is)

  named_stays : (name : Name) (serve : FileAtWork → FilesInUse → Served) (served : Served) → ((at : FileAtWork) → slice_get in_use.job_files at.place ≡ Some at.file → AreOpen lines switches (serve at in_use).in_use)
      → served_named name serve in_use ≡ Some served → AreOpen lines switches served.in_use
  named_stays name serve served stays is = by (file_at_work name in_use) refl is
    where
      by : (o : Option FileAtWork) → file_at_work name in_use ≡ o → served_on serve o in_use ≡ Some served → AreOpen lines switches served.in_use
      by None at is = absurd cc
      by (Some one) at is = let same : serve one in_use ≡ served = cc in subst (λ (s : Served). AreOpen lines switches s.in_use) same (stays one (at_place in_use name one at))

  -- a request leaves them so
  pub served_stay_open : (request : Request) (served : Served) → files.served request in_use ≡ Some served → AreOpen lines switches served.in_use
  unfolding files.served
  served_stay_open (Read file size) served is = named_stays file record_read served (λ at there. read_stays at _ there) is
  served_stay_open (Chain file size sought) served is = named_stays file (record_chained sought) served (λ at there. file_stays at _ there refl refl refl) is
  served_stay_open (Append file bytes) served is = named_stays file (record_appended bytes) served (λ at there. put_stays at _) is
  served_stay_open (Add file bytes) served is = named_stays file (record_added bytes) served (λ at there. put_stays at _) is
  served_stay_open (Update file current changes) served is = named_stays file (record_updated current changes) served (λ at there. put_stays at _) is
  served_stay_open Card served is = absurd cc
  served_stay_open (Print page line text) served is = absurd cc
  served_stay_open Jump served is = absurd cc
  served_stay_open (Ask code) served is = absurd cc
  served_stay_open (End at_once) served is = absurd cc

  -- each line that is used finds its file
  pub finds : (name : Name) → list_any (is_named name) in_use.job_files ≡ true → (at : FileAtWork) × (file_at_work name in_use ≡ Some at)
  finds name some =
      let first = first_place (HasLabel in_use.files) (is_named name) 0 in_use.job_files are_open.labels some in
      let place : place_named name in_use.job_files ≡ Some first.place = first.found ∙ ap (λ n. Some n) (omega arith) in
      let records : List (List ℕ) = ((area_with first.one in_use.files).kept first.one.label).records in (
        record { place = first.place; file = first.one; label = first.has.label; records = records },
        ap (file_at in_use) place ∙ (ap (as_it_stands in_use.files first.place) first.there ∙ ap (labelled first.place first.one records) first.has.stands),
      )
