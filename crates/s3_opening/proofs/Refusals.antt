-- The tests of one file.
use Rattle.std.proofs.Common.{◌≡◌, ℕ, Bool, true, false, not, ◌&&◌, List, refl, ap, sym, ◌∙◌, subst}
use Rattle.std.specs.Prelude.{Option, Some, None, Result, Ok, Err, IfOk, if◌then◌else◌, is_some, IfSome}
use Rattle.s3_lines.specs.Files.{is_only_read}
use Rattle.s3_cards.specs.declared.levels.LevelId.{LevelId}
use Rattle.s3_cards.specs.declared.name.Name.{Name}
use Rattle.s3_lines.specs.declared.sheet.FileLine.{FileLine}
use Rattle.s3_operator.specs.declared.halt_code.HaltCode.{HaltCode}
use Rattle.s3_operator.specs.declared.halt_code.HaltCode.TheVariants.{MasterForUpdate, LabelMismatch, BadIndex}
use Rattle.s3_slots.specs.Inner.Making.{found, file_in}
use Rattle.s3_slots.specs.Slots.{standing}
use Rattle.s3_slots.specs.declared.label.FileLabel.{FileLabel}
use Rattle.s3_slots.specs.declared.making.LabelFault.{LabelFault}
use Rattle.s3_slots.specs.declared.slot.Standing.{Standing}
use Rattle.s3_slots.specs.declared.slot.Standing.TheVariants.{Absent, Blocked, Present}
use Rattle.s3_labels.specs.Inner.Areas.{Areas, slots_at}
use Rattle.s3_job_files.specs.Kept.{kept_on}
use Rattle.s3_job_files.specs.Files.{JobFile}
use Rattle.s3_job_files.specs.Inner.Holds.{seen, job_file_of, slots_by}
use Rattle.s3_job_files.specs.declared.file.OpenFile.{OpenFile}
use Rattle.s3_job_files.proofs.Standings.{present_named}
use Rattle.s3_opening.specs.Asked.{is_of_layout}
use Rattle.s3_opening.specs.Opening.{job_file, refusal_of}
use Rattle.s3_opening.specs.Inner.Starts.{IsKeptFile, IsOpened, halt_unless_good, index_refusal}
use Rattle.s3_opening.specs.declared.fault.OpeningFault.{OpeningFault}
use Rattle.s3_opening.specs.Inner.Tests.{line_refusal, tested, tested_standing}

-- ---- refusals in their order
abbrev line_by : (changes other : Bool) → Option HaltCode
line_by changes other = if changes then Some MasterForUpdate else (if other then Some LabelMismatch else None)

abbrev all_by : (changes other bad : Bool) → Option HaltCode
all_by changes other bad = if changes then Some MasterForUpdate else (if other then Some LabelMismatch else (if bad then Some BadIndex else None))

line_first : (changes other bad : Bool) (code : HaltCode) → line_by changes other ≡ Some code → all_by changes other bad ≡ Some code
line_first true other bad code h = h
line_first false true bad code h = h
line_first false false bad code h = absurd cc

index_last : (changes other good : Bool) → line_by changes other ≡ None → all_by changes other (not good) ≡ halt_unless_good good
index_last true other good h = absurd cc
index_last false true good h = absurd cc
index_last false false true h = refl
index_last false false false h = refl

pub line_refused : (line : FileLine) (is_master : Bool) (label : FileLabel) (contents : List (List ℕ)) (code : HaltCode) → line_refusal line is_master label ≡ Some code
    → tested_standing line is_master label contents ≡ Err code
unfolding line_refusal refusal_of
line_refused line is_master label contents code h =
    ap (λ refusal. tested refusal (job_file line.name label.name is_master false))
    (line_first (is_master && not (is_only_read line)) (not (is_of_layout line label)) (not (kept_on label contents).has_good_index) code h)

pub line_passed : (line : FileLine) (is_master : Bool) (label : FileLabel) (contents : List (List ℕ)) → line_refusal line is_master label ≡ None
    → tested_standing line is_master label contents ≡ tested (index_refusal label contents) (job_file line.name label.name is_master false)
unfolding line_refusal refusal_of
line_passed line is_master label contents h =
    ap (λ refusal. tested refusal (job_file line.name label.name is_master false))
    (index_last (is_master && not (is_only_read line)) (not (is_of_layout line label)) (kept_on label contents).has_good_index h)

pub index_refused : (line : FileLine) (is_master : Bool) (label : FileLabel) (contents : List (List ℕ)) (code : HaltCode) → line_refusal line is_master label ≡ None
    → index_refusal label contents ≡ Some code → tested_standing line is_master label contents ≡ Err code
index_refused line is_master label contents code h bad =
    line_passed line is_master label contents h ∙ ap (λ refusal. tested refusal (job_file line.name label.name is_master false)) bad

pub none_refused : (line : FileLine) (is_master : Bool) (label : FileLabel) (contents : List (List ℕ)) → line_refusal line is_master label ≡ None
    → index_refusal label contents ≡ None → tested_standing line is_master label contents ≡ Ok (job_file line.name label.name is_master false)
none_refused line is_master label contents h good =
    line_passed line is_master label contents h ∙ ap (λ refusal. tested refusal (job_file line.name label.name is_master false)) good

-- ---- a file that was found and has passed
abbrev standing_by : (is_master : Bool) → (own masters : Standing) → Standing
standing_by true own masters = masters
standing_by false own masters = own

-- what a look-up finds
abbrev IsFound : Standing → Standing → Result (FileLabel × Bool) LabelFault → Type 0
IsFound own masters (Ok found) = standing_by found.1 own masters ≡ Present found.0
IsFound own masters (Err fault) = Unit {0}

is_found : (own masters : Standing) → IsFound own masters (file_in own masters)
is_found Absent Absent = tt
is_found Absent Blocked = tt
is_found Absent (Present label) = refl
is_found Blocked masters = tt
is_found (Present label) masters = refl

at_slots : (is_master : Bool) (level : LevelId) (areas : Areas) (name : Name) → standing_by is_master (standing name (slots_at level areas)) (standing name areas.masters) ≡ standing name (slots_by is_master level areas)
at_slots true level areas name = refl
at_slots false level areas name = refl

pub found_stands : (level : LevelId) (areas : Areas) (name : Name) (label : FileLabel) (is_master : Bool) → found name (slots_at level areas) areas.masters ≡ Ok (label, is_master)
    → standing name (slots_by is_master level areas) ≡ Present label
unfolding found
found_stands level areas name label is_master h =
    sym (at_slots is_master level areas name) ∙ subst (IsFound (standing name (slots_at level areas)) (standing name areas.masters)) h (is_found (standing name (slots_at level areas)) (standing name areas.masters))

pub found_opened : (level : LevelId) (areas : Areas) (contents : List (List ℕ)) (name : Name) (label : FileLabel) (is_master : Bool) (file : OpenFile) → found name (slots_at level areas) areas.masters ≡ Ok (label, is_master)
    → (file.label ≡ label) × (file.is_master ≡ is_master) → IsKeptFile contents label file.records → IsOpened level (seen areas contents) file
found_opened level areas contents name label is_master file found is kept =
    let stands = found_stands level areas name label is_master found in
    let named : label.name ≡ name = present_named name (slots_by is_master level areas) label stands in
    let right : IsKeptFile contents file.label file.records = subst (λ l. IsKeptFile contents l file.records) (sym is.0) kept in
    record {
      stands = record {
        sound = ap (λ l. standing l.name (slots_by file.is_master level areas)) is.0 ∙ ap (λ n. standing n (slots_by file.is_master level areas)) named
            ∙ ap (λ b. standing name (slots_by b level areas)) is.1 ∙ stands ∙ ap Present (sym is.0);
        records = right.of_label;
        master = λ m. right.counted;
      };
      holds = record { records = right.kept; good = right.good };
    }

-- ---- what an opening answers
abbrev ok_of : JobFile → Result JobFile HaltCode
ok_of file = Ok file

pub opened_gives : (line : FileLine) (is_master : Bool) (label : FileLabel) (contents : List (List ℕ)) (opened : Option OpenFile) (file : OpenFile) → opened ≡ Some file → line_refusal line is_master label ≡ None
    → (kept_on label contents).has_good_index ≡ is_some opened
    → IfSome opened (λ file. file ≡ record file { name = line.name; label = label; is_master = is_master; is_made = false; read = 0; updates = 0; chained = None })
    → tested_standing line is_master label contents ≡ Ok (job_file_of file)
opened_gives line is_master label contents opened file there allowed good is =
    let shown : file ≡ record file { name = line.name; label = label; is_master = is_master; is_made = false; read = 0; updates = 0; chained = None } =
    subst (λ o. IfSome o (λ file. file ≡ record file { name = line.name; label = label; is_master = is_master; is_made = false; read = 0; updates = 0; chained = None })) there is in
    none_refused line is_master label contents allowed (ap halt_unless_good (good ∙ ap is_some there)) ∙ ap (λ (f : OpenFile). ok_of (job_file_of f)) (sym shown)

pub bad_gives : (line : FileLine) (is_master : Bool) (label : FileLabel) (contents : List (List ℕ)) (opened : Option OpenFile) → opened ≡ None → line_refusal line is_master label ≡ None
    → (kept_on label contents).has_good_index ≡ is_some opened → tested_standing line is_master label contents ≡ Err BadIndex
bad_gives line is_master label contents opened none allowed good = index_refused line is_master label contents BadIndex allowed (ap halt_unless_good (good ∙ ap is_some none))

-- a file that was found and has passed is open
pub found_ok : (level : LevelId) (areas : Areas) (contents : List (List ℕ)) (name : Name) (label : FileLabel) (is_master : Bool) (result : Result OpenFile OpeningFault) → found name (slots_at level areas) areas.masters ≡ Ok (label, is_master)
    → IfOk result (λ file. (file.label ≡ label) × (file.is_master ≡ is_master)) → IfOk result (λ file. IsKeptFile contents label file.records) → IfOk result (IsOpened level (seen areas contents))
found_ok level areas contents name label is_master (Ok file) found is kept = found_opened level areas contents name label is_master file found is kept
found_ok level areas contents name label is_master (Err fault) found is kept = tt
