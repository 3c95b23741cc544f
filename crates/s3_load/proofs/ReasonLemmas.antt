-- What is reported of rows.
use Rattle.std.proofs.Common.{◌≡◌, ◌≢◌, ℕ, ◌<◌, refl, arith, sym, ◌+◌, ◌∙◌, ap, subst, inl, inr, List, [], ◌∷◌, ◌++◌, length, get_or, append_assoc}
use Rattle.std.specs.List.{Contains}
use Rattle.std.specs.Prelude.{Option, Some}
use Rattle.std.proofs.lemmas.List.{append-nil, get_or_append_left, get_or_push, length-append}
use Rattle.std.proofs.lemmas.List.Elements.{All-append, All-cons, All-nil, Contains-get_or}
use Rattle.csv.specs.Reading.{Ready}
use Rattle.csv.specs.declared.reader.Reader.{Reader}
use Rattle.s3_cells.specs.Inner.Refusals.{IsRefusal}
use Rattle.s3_cells.specs.declared.fault.CellFault.{CellFault}
use Rattle.s3_cells.specs.declared.fault.CellFault.TheVariants.{NoNumber, TooManyDecimals, TooLarge, TooLong, NoCharacter, NoDate, NoMemory}
use Rattle.s3_cells.specs.declared.field.Field.{Field}
use Rattle.s3_record_types.specs.declared.chosen.ChosenRecords.{ChosenRecords}
use Rattle.s3_load.specs.declared.fault.ValueFault.{ValueFault}
use Rattle.s3_load.specs.declared.rows.Faults.{Faults}
use Rattle.s3_load.specs.declared.rows.Row.{Row}
use Rattle.s3_load.specs.Inner.Reasons.{HasReported, HasTried, IsCellFault, IsColumnFault, IsFaultAmong, IsOfOtherType, IsRowFault, IsShapeReason, Reports, ReportsRow, ReportsRows}
use Rattle.s3_load.specs.Inner.Records.{empty_record}
use Rattle.s3_load.specs.Inner.Tables.{FindsEnd, IsReading}
use Rattle.s3_load.proofs.TableLemmas.{reads_all, reads_more}

-- ---- faults that are added
pub none_reported : (is_fault : ValueFault → Type 0) (faults : Faults) → Reports is_fault faults faults
none_reported is_fault faults = record { added = []; kept = sym (append-nil faults.first.items); each = All-nil is_fault; counted = λ counts. counts }

pub one_reported : (fault : ValueFault) (old new : Faults) → new.first.items ≡ old.first.items ++ fault ∷ [] → Reports (λ other. other ≡ fault) old new
one_reported fault old new more =
    let long : length new.first.items ≡ length old.first.items + 1 = ap length more ∙ length-append old.first.items (fault ∷ []) in
    record {
      added = fault ∷ [];
      kept = more;
      each = All-cons (λ other. other ≡ fault) fault [] refl (All-nil (λ other. other ≡ fault));
      counted = λ counts none. absurd (omega (arith, long, none));
    }

pub full_reported : (fault : ValueFault) (old new : Faults) → new.first.items ≡ old.first.items → 0 < length old.first.items → Reports (λ other. other ≡ fault) old new
full_reported fault old new same some =
    let long : length new.first.items ≡ length old.first.items = ap length same in
    record {
      added = [];
      kept = same ∙ sym (append-nil old.first.items);
      each = All-nil (λ other. other ≡ fault);
      counted = λ counts none. absurd (omega (arith, long, none, some));
    }

pub reports_as : (some_fault other_fault : ValueFault → Type 0) (old new : Faults) → ((fault : ValueFault) → some_fault fault → other_fault fault) → Reports some_fault old new → Reports other_fault old new
reports_as some_fault other_fault old new to reports =
    let faults = reports.added in
    record { added = faults; kept = reports.kept; each = λ k d low. to (get_or faults k d) (reports.each k d low); counted = reports.counted }

pub reports_one : (is_fault : ValueFault → Type 0) (fault : ValueFault) (old new : Faults) → is_fault fault → Reports (λ other. other ≡ fault) old new → Reports is_fault old new
reports_one is_fault fault old new is = reports_as (λ other. other ≡ fault) is_fault old new (λ other same. subst is_fault (sym same) is)

pub more_reported : (is_fault : ValueFault → Type 0) (first second third : Faults) → Reports is_fault first second → Reports is_fault second third → Reports is_fault first third
more_reported is_fault first second third one other = record {
  added = one.added ++ other.added;
  kept = other.kept ∙ ap (λ faults. faults ++ other.added) one.kept ∙ append_assoc first.first.items one.added other.added;
  each = All-append is_fault one.added other.added one.each other.each;
  counted = λ counts. other.counted (one.counted counts);
}

-- ---- a cell
pub is_listed : (cells : List (List ℕ)) (column : ℕ) (cell : List ℕ) → column < length cells → cell ≡ get_or cells column [] → Contains cells cell
is_listed cells column cell within is = subst (Contains cells) (sym is) (Contains-get_or cells column [] within)

-- a refusal that isn't for want of memory has its cause
pub cause_of : (cause : Type 0) (fault : CellFault) → (fault ≢ NoMemory) → IsRefusal cause fault → cause
cause_of cause NoMemory other is = absurd (other refl)
cause_of cause NoNumber other is = is
cause_of cause TooManyDecimals other is = is
cause_of cause TooLarge other is = is
cause_of cause TooLong other is = is
cause_of cause NoCharacter other is = is
cause_of cause NoDate other is = is

pub of_column : (columns : List Field) (cells : List (List ℕ)) (column : ℕ) (field : Field) → column < length columns → field ≡ get_or columns column field
    → (fault : ValueFault) → IsCellFault field (get_or cells column []) fault → IsColumnFault columns cells fault
of_column columns cells column field within is fault reason = record { column = column; within = within; field = field; is = is; reason = reason }

-- ---- a row
-- its cells were tried, and then its type
pub row_reported : (record_length : ℕ) (columns filled : List Field) (chosen : ChosenRecords) (cells : List (List ℕ)) (start bytes : List ℕ) (first second third : Faults) → start ≡ empty_record record_length filled chosen
    → HasTried columns cells start (length columns) bytes → Reports (IsColumnFault columns cells) first second → Reports (IsOfOtherType chosen bytes) second third
    → Reports (IsRowFault record_length columns filled chosen cells) first third
row_reported record_length columns filled chosen cells start bytes first second third is tried of_cells of_type =
    let is_fault = IsRowFault record_length columns filled chosen cells in
    more_reported is_fault first second third (reports_as (IsColumnFault columns cells) is_fault first second (λ fault one. inl one) of_cells)
    (reports_as (IsOfOtherType chosen bytes) is_fault second third
    (λ fault one. inr (inl (record { bytes = bytes; made = subst (λ s. HasTried columns cells s (length columns) bytes) is tried; reason = one }))) of_type)

-- .. or it has the wrong shape
pub shape_reported : (record_length : ℕ) (columns filled : List Field) (chosen : ChosenRecords) (cells : List (List ℕ)) (fault : ValueFault) (old new : Faults) → IsShapeReason columns cells fault.reason
    → Reports (λ other. other ≡ fault) old new → Reports (IsRowFault record_length columns filled chosen cells) old new
shape_reported record_length columns filled chosen cells fault old new is = reports_one (IsRowFault record_length columns filled chosen cells) fault old new (inr (inr is))

-- ---- rows, one after another
among_more : (record_length : ℕ) (columns filled : List Field) (chosen : ChosenRecords) (rows : List (List (List ℕ))) (cells : List (List ℕ)) (fault : ValueFault) → IsFaultAmong record_length columns filled chosen rows fault
    → IsFaultAmong record_length columns filled chosen (rows ++ cells ∷ []) fault
among_more record_length columns filled chosen rows cells fault among =
    let long : length (rows ++ cells ∷ []) ≡ length rows + 1 = length-append rows (cells ∷ []) in
    let within = among.within in
    record {
      row = among.row;
      within = omega arith;
      is = subst (λ cs. IsRowFault record_length columns filled chosen cs fault) (sym (get_or_append_left rows (cells ∷ []) [] among.row within)) among.is;
    }

last_among : (record_length : ℕ) (columns filled : List Field) (chosen : ChosenRecords) (rows : List (List (List ℕ))) (cells : List (List ℕ)) (fault : ValueFault) → IsRowFault record_length columns filled chosen cells fault
    → IsFaultAmong record_length columns filled chosen (rows ++ cells ∷ []) fault
last_among record_length columns filled chosen rows cells fault is =
    let long : length (rows ++ cells ∷ []) ≡ length rows + 1 = length-append rows (cells ∷ []) in
    record {
      row = length rows;
      within = omega arith;
      is = subst (λ cs. IsRowFault record_length columns filled chosen cs fault) (sym (get_or_push rows cells [] (length rows) refl)) is;
    }

pub no_row_reported : {R : Type 0} (rem : R → Option (List ℕ)) (text : Option (List ℕ)) (delimiter : ℕ) (heading : List (List ℕ)) (record_length : ℕ) (columns filled : List Field) (chosen : ChosenRecords) (reader : Reader R) (faults : Faults)
    → IsReading rem text delimiter (heading ∷ []) reader → HasReported rem text delimiter heading record_length columns filled chosen reader faults faults
no_row_reported rem text delimiter heading record_length columns filled chosen reader faults reading =
    record { cells = []; reading = reading; reports = none_reported (IsFaultAmong record_length columns filled chosen []) faults }

pub one_more_reported : {R : Type 0} (rem : R → Option (List ℕ)) (text : Option (List ℕ)) (delimiter : ℕ) (heading : List (List ℕ)) (record_length : ℕ) (columns filled : List Field) (chosen : ChosenRecords) (first last : Reader R) (start old new : Faults)
    → HasReported rem text delimiter heading record_length columns filled chosen first start old → Ready last → ReportsRow rem record_length columns filled chosen first last old new
    → HasReported rem text delimiter heading record_length columns filled chosen last start new
one_more_reported rem text delimiter heading record_length columns filled chosen first last start old new before ready one =
    let rows = before.cells in
    let all = rows ++ one.cells ∷ [] in
    let among = IsFaultAmong record_length columns filled chosen in
    record {
      cells = all;
      reading = reads_more rem text delimiter (heading ∷ rows) first last one.cells before.reading ready one.read;
      reports = more_reported (among all) start old new (reports_as (among rows) (among all) start old (among_more record_length columns filled chosen rows one.cells) before.reports)
          (reports_as (IsRowFault record_length columns filled chosen one.cells) (among all) old new (last_among record_length columns filled chosen rows one.cells) one.reports);
    }

pub all_reported : {R : Type 0} (rem : R → Option (List ℕ)) (text : List ℕ) (delimiter : ℕ) (heading : List (List ℕ)) (record_length : ℕ) (columns filled : List Field) (chosen : ChosenRecords) (first last : Reader R) (start old new : Faults) (read_rows new_rows : List Row)
    → HasReported rem (Some text) delimiter heading record_length columns filled chosen first start old → FindsEnd rem first last read_rows new_rows → new ≡ old → ReportsRows text delimiter heading record_length columns filled chosen start new
all_reported rem text delimiter heading record_length columns filled chosen first last start old new read_rows new_rows before end same =
    record {
      cells = before.cells;
      are_records = reads_all rem text delimiter (heading ∷ before.cells) first last end.cells before.reading end.read;
      reports = subst (λ faults. Reports (IsFaultAmong record_length columns filled chosen before.cells) start faults) (sym same) before.reports;
    }
