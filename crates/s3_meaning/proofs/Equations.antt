-- Runs don't depend on the bounds of restarts: `again` satisfies its defining equations without a bound.
use Rattle.std.proofs.Common.{◌≡◌, ℕ, zero, suc, ◌==◌, ◌<◌, ◌≤◌, Bool, true, false, ◌&&◌, ◌||◌, if◌then◌else◌, ℤ, List, [], ◌∷◌, Option, Some, None, length, unsigned_abs, refl, sym, true≢false, arith}
use Rattle.std.specs.List.{list_any}
use Rattle.s3_lines.specs.Files.{is_printer}
use Rattle.s3_meaning.proofs.Selecting.{taken_unread}
use Rattle.s3_cards.specs.declared.name.Name.{Name}
use Rattle.s3_lines.specs.declared.indicator.Indicator.{Indicator}
use Rattle.s3_lines.specs.declared.indicator.Indicator.TheVariants.{LastRecord, Halt}
use Rattle.s3_operator.specs.declared.halt_code.HaltCode.{HaltCode}
use Rattle.s3_operator.specs.declared.halt_code.HaltCode.TheVariants.{HaltIndicator, BadDigit, ZeroDivisor, NoRecordFound, UnidentifiedRecord, OutOfSequence}
use Rattle.s3_lines.specs.declared.sheet.FieldLine.{FieldLine}
use Rattle.s3_lines.specs.declared.sheet.FieldForm.{FieldForm}
use Rattle.s3_lines.specs.declared.sheet.FieldForm.TheVariants.{Alphanumeric, Zoned, Packed, PackedText}
use Rattle.s3_lines.specs.declared.sheet.FileLine.{FileLine}
use Rattle.s3_lines.specs.declared.sheet.OutputKind.{OutputKind}
use Rattle.s3_lines.specs.declared.sheet.Operation.{Operation}
use Rattle.s3_lines.specs.declared.sheet.Operation.TheVariants.{Divide, GoTo, ExecuteSubroutine, Except, Chain}
use Rattle.s3_lines.specs.declared.sheet.CalculationLine.{CalculationLine}
use Rattle.s3_meaning.specs.Requests.{Request, Answer, Found, Nothing, Done, Refused, Reply}
use Rattle.s3_meaning.specs.RecordTypes.{RecordType}
use Rattle.s3_meaning.specs.Calculations.{Calculation, name_in, is_tag}
use Rattle.s3_meaning.specs.OutputLines.{Output}
use Rattle.s3_meaning.specs.Source.{Source, file_named}
use Rattle.s3_meaning.specs.Environment.{Environment}
use Rattle.s3_meaning.specs.Selection.{Head, InputFile, Reading, Selected, head_key, in_sequence, is_unread, select, taken, is_matched, type_of}
use Rattle.s3_meaning.specs.Runs.{goes_to_totals, Run, Rest, Anew, ask, ended, to_totals, replied, halted}
use Rattle.s3_meaning.specs.Moving.{counts, number_moved, field_moved, fields_moved}
use Rattle.s3_meaning.specs.Output.{is_exception, is_heading_or_detail, is_total_line, is_served, line_holds, printed, stored_or_halted, file_line_put, line_put, lines_put}
use Rattle.s3_meaning.specs.Calculating.{has_tag, number_in, first_indicator, calculation_holds, divided, not_found, chained_to, on_chain, chained, performed, calculated}
use Rattle.s3_meaning.specs.Cycle.{halts_shown, headings, cleared, headed, typed, counted_read, on_read, file_read, files_read, totals, last_time, total_time, has_overflowed, overflow_lines, detail_time, record_time, selected_or_last, reading_time, one_cycle, renewed, anew_within, again}

-- two continuations give the same run for at most `most` answers
pub record Agree (most : ℕ) (go go' : Rest) : Type 0 where
  pub at : (e : Environment) (answers : List Answer) → length answers ≤ most → go e answers ≡ go' e answers

pub fewer : {most less : ℕ} {go go' : Rest} → less ≤ most → Agree most go go' → Agree less go go'
fewer h same = record { at = λ e answers few. same.at e answers (omega arith) }

-- two sets of restart points give the same run for fewer than `most` answers, if their continuations do
pub record AgreeAnew (most : ℕ) (a a' : Anew) : Type 0 where
  pub jump : (section lines : List Calculation) (go go' : Rest) (e : Environment) (answers : List Answer) → length answers < most → Agree (length answers) go go' → a.jump section lines go e answers ≡ a'.jump section lines go' e answers
  pub read : (input : InputFile) (go go' : InputFile → Rest) (e : Environment) (answers : List Answer) → length answers < most → ((input' : InputFile) → Agree (length answers) (go input') (go' input')) → a.read input go e answers ≡ a'.read input go' e answers
  pub last : (e : Environment) (answers : List Answer) → length answers < most → a.last e answers ≡ a'.last e answers

pub fewer_anew : {most less : ℕ} {a a' : Anew} → less ≤ most → AgreeAnew most a a' → AgreeAnew less a a'
fewer_anew h same = record {
  jump = λ section lines go go' e answers few agree. same.jump section lines go go' e answers (omega arith) agree;
  read = λ input go go' e answers few agree. same.read input go go' e answers (omega arith) agree;
  last = λ e answers few. same.last e answers (omega arith);
}

choice-agree : (b : Bool) (x x' y y' : Rest) (e : Environment) (answers : List Answer) → x e answers ≡ x' e answers → y e answers ≡ y' e answers → (if b then x else y) e answers ≡ (if b then x' else y') e answers
choice-agree true x x' y y' e answers p q = p
choice-agree false x x' y y' e answers p q = q

ask-agree : (request : Request) (go go' : Answer → Run) (answers : List Answer) → ((answer : Answer) (later : List Answer) → length later < length answers → go answer later ≡ go' answer later) → ask request go answers ≡ ask request go' answers
unfolding ask
ask-agree request go go' [] same = refl
ask-agree request go go' (answer ∷ answers) same = same answer answers (omega arith)

same-agree : (most : ℕ) (go : Rest) → Agree most go go
same-agree most go = record { at = λ e answers few. refl }

module _ (most : ℕ) (a a' : Anew) (same : AgreeAnew most a a') where
  to_totals-agree : (e : Environment) (answers : List Answer) → length answers < most → to_totals a e answers ≡ to_totals a' e answers
  unfolding to_totals
  to_totals-agree e answers few = choice-agree (e.on LastRecord) _ _ _ _ _ answers refl (same.last _ answers few)

  replied-agree : (go go' : Rest) (answer : Answer) (e : Environment) (answers : List Answer) → length answers < most → go e answers ≡ go' e answers → replied a go answer e answers ≡ replied a' go' answer e answers
  unfolding replied
  replied-agree go go' (Reply digit) e answers few agree =
      choice-agree (digit == 0) _ _ _ _ e answers agree
      (choice-agree (goes_to_totals digit) _ _ _ _ e answers (to_totals-agree e answers few) refl)
  replied-agree go go' (Found bytes) e answers few agree = refl
  replied-agree go go' Nothing e answers few agree = refl
  replied-agree go go' Done e answers few agree = refl
  replied-agree go go' (Refused code) e answers few agree = refl

  -- the continuation of a halt follows an answer
  halted-later : (code : HaltCode) (go go' : Rest) → ((e : Environment) (answers : List Answer) → length answers < most → go e answers ≡ go' e answers) → Agree most (halted a code go) (halted a' code go')
  unfolding halted
  halted-later code go go' agree = record {
    at = λ e answers few. ask-agree _ _ _ answers (λ answer later less. replied-agree go go' answer e later (omega arith) (agree e later (omega arith)));
  }

  halted-agree : (code : HaltCode) (go go' : Rest) → Agree most go go' → Agree most (halted a code go) (halted a' code go')
  halted-agree code go go' agree = halted-later code go go' (λ e answers few. agree.at e answers (omega arith))

  -- ---- fields moved
  number_moved-agree : (field : FieldLine Name) (bad : Bool) (value : ℤ) (go go' : Rest) → Agree most go go' → Agree most (number_moved a field bad value go) (number_moved a' field bad value go')
  unfolding number_moved
  number_moved-agree field bad value go go' agree = record {
    at = λ e answers few. choice-agree bad _ _ _ _ e answers
        ((halted-agree BadDigit _ _ (record { at = λ e' bs h. agree.at _ bs h })).at e answers few)
        (agree.at _ answers few);
  }

  field_moved-agree : (field : FieldLine Name) (form : FieldForm) (bytes : List ℕ) (go go' : Rest) → Agree most go go' → Agree most (field_moved a field form bytes go) (field_moved a' field form bytes go')
  unfolding field_moved
  field_moved-agree field Alphanumeric bytes go go' agree = record { at = λ e answers few. agree.at _ answers few }
  field_moved-agree field (Zoned decimals) bytes go go' agree = record { at = λ e answers few. (number_moved-agree field _ _ go go' agree).at e answers few }
  field_moved-agree field (Packed decimals) bytes go go' agree = record { at = λ e answers few. (number_moved-agree field _ _ go go' agree).at e answers few }
  field_moved-agree field PackedText bytes go go' agree = record { at = λ e answers few. agree.at _ answers few }

  fields_moved-agree : (fields : List (FieldLine Name)) (bytes : List ℕ) (go go' : Rest) → Agree most go go' → Agree most (fields_moved a fields bytes go) (fields_moved a' fields bytes go')
  unfolding fields_moved
  fields_moved-agree [] bytes go go' agree = record { at = λ e answers few. agree.at e answers few }
  fields_moved-agree (field ∷ fields) bytes go go' agree =
      let more : Agree most (fields_moved a fields bytes go) (fields_moved a' fields bytes go') = fields_moved-agree fields bytes go go' agree in
      record {
        at = λ e answers few. choice-agree (counts e field) _ _ _ _ e answers
            ((field_moved-agree field field.form _ _ _ more).at e answers few) (more.at e answers few);
      }

  -- ---- output
  stored_or_halted-agree : (go go' : Rest) → Agree most go go' → (answer : Answer) → Agree most (stored_or_halted a go answer) (stored_or_halted a' go' answer)
  unfolding stored_or_halted
  stored_or_halted-agree go go' agree (Refused code) = record { at = λ e answers few. (halted-agree code go go' agree).at e answers few }
  stored_or_halted-agree go go' agree (Found bytes) = record { at = λ e answers few. agree.at e answers few }
  stored_or_halted-agree go go' agree Nothing = record { at = λ e answers few. agree.at e answers few }
  stored_or_halted-agree go go' agree Done = record { at = λ e answers few. agree.at e answers few }
  stored_or_halted-agree go go' agree (Reply digit) = record { at = λ e answers few. agree.at e answers few }

  printed-agree : (source : Source) (line : Output) (text : List ℕ) (go go' : Rest) → Agree most go go' → Agree most (printed source line text go) (printed source line text go')
  unfolding printed
  printed-agree source line text go go' agree = record {
    at = λ e answers few. ask-agree _ _ _ answers (λ answer later less. agree.at _ later (omega arith));
  }

  file_line_put-agree : (source : Source) (line : Output) (file : FileLine) (go go' : Rest) → Agree most go go' → Agree most (file_line_put source a line file go) (file_line_put source a' line file go')
  unfolding file_line_put
  file_line_put-agree source line file go go' agree = record {
    at = λ e answers few. choice-agree (is_printer file.device) _ _ _ _ _ answers
        ((printed-agree source line _ go go' agree).at _ answers few)
        (ask-agree _ _ _ answers (λ answer later less. (stored_or_halted-agree go go' agree answer).at _ later (omega arith)));
  }

  line_put-agree : (source : Source) (line : Output) (file : Option FileLine) (go go' : Rest) → Agree most go go' → Agree most (line_put source a line file go) (line_put source a' line file go')
  unfolding line_put
  line_put-agree source line None go go' agree = record { at = λ e answers few. agree.at e answers few }
  line_put-agree source line (Some file) go go' agree = record {
    at = λ e answers few. choice-agree (is_served e file) _ _ _ _ e answers
        ((file_line_put-agree source line file go go' agree).at e answers few) (agree.at e answers few);
  }

  lines_put-agree : (source : Source) (wanted : OutputKind → Bool) (at_overflow : Bool) (lines : List Output) (go go' : Rest) → Agree most go go' → Agree most (lines_put source a wanted at_overflow lines go) (lines_put source a' wanted at_overflow lines go')
  unfolding lines_put
  lines_put-agree source wanted at_overflow [] go go' agree = record { at = λ e answers few. agree.at e answers few }
  lines_put-agree source wanted at_overflow (line ∷ lines) go go' agree =
      let more : Agree most (lines_put source a wanted at_overflow lines go) (lines_put source a' wanted at_overflow lines go') = lines_put-agree source wanted at_overflow lines go go' agree in
      record {
        at = λ e answers few. choice-agree (wanted line.kind && line_holds source at_overflow e line) _ _ _ _ e answers
            ((line_put-agree source line (file_named source line.file) _ _ more).at e answers few) (more.at e answers few);
      }

  -- ---- calculations
  divided-agree : (source : Source) (line : CalculationLine Name) (go go' : Rest) → Agree most go go' → Agree most (divided source a line go) (divided source a' line go')
  unfolding divided
  divided-agree source line go go' agree = record {
    at = λ e answers few. choice-agree (unsigned_abs ((number_in source e line.factor2).numerator) == 0) _ _ _ _ e answers
        ((halted-agree ZeroDivisor _ _ (record { at = λ e' bs h. agree.at _ bs h })).at e answers few)
        (agree.at _ answers few);
  }

  not_found-agree : (indicator : Option Indicator) (go go' : Rest) → Agree most go go' → Agree most (not_found a indicator go) (not_found a' indicator go')
  unfolding not_found
  not_found-agree (Some indicator) go go' agree = record { at = λ e answers few. agree.at _ answers few }
  not_found-agree None go go' agree = record { at = λ e answers few. (halted-agree NoRecordFound go go' agree).at e answers few }

  chained_to-agree : (file : Name) (bytes : List ℕ) (kind : Option RecordType) (go go' : Rest) → Agree most go go' → Agree most (chained_to a file bytes kind go) (chained_to a' file bytes kind go')
  unfolding chained_to
  chained_to-agree file bytes None go go' agree = record { at = λ e answers few. (halted-agree UnidentifiedRecord go go' agree).at e answers few }
  chained_to-agree file bytes (Some kind) go go' agree = record { at = λ e answers few. (fields_moved-agree kind.fields bytes go go' agree).at _ answers few }

  on_chain-agree : (source : Source) (line : CalculationLine Name) (file : Name) (go go' : Rest) → Agree most go go' → (answer : Answer) → Agree most (on_chain source a line file go answer) (on_chain source a' line file go' answer)
  unfolding on_chain
  on_chain-agree source line file go go' agree (Found bytes) = record { at = λ e answers few. (chained_to-agree file bytes (type_of source file bytes) go go' agree).at _ answers few }
  on_chain-agree source line file go go' agree Nothing = record { at = λ e answers few. (not_found-agree (first_indicator line.indicators) go go' agree).at e answers few }
  on_chain-agree source line file go go' agree Done = record { at = λ e answers few. (not_found-agree (first_indicator line.indicators) go go' agree).at e answers few }
  on_chain-agree source line file go go' agree (Refused code) = record { at = λ e answers few. (not_found-agree (first_indicator line.indicators) go go' agree).at e answers few }
  on_chain-agree source line file go go' agree (Reply digit) = record { at = λ e answers few. (not_found-agree (first_indicator line.indicators) go go' agree).at e answers few }

  chained-agree : (source : Source) (line : CalculationLine Name) (file : Option FileLine) (go go' : Rest) → Agree most go go' → Agree most (chained source a line file go) (chained source a' line file go')
  unfolding chained
  chained-agree source line None go go' agree = record { at = λ e answers few. agree.at e answers few }
  chained-agree source line (Some file) go go' agree = record {
    at = λ e answers few. choice-agree (is_served e file) _ _ _ _ _ answers
        (ask-agree _ _ _ answers (λ answer later less. (on_chain-agree source line file.name go go' agree answer).at _ later (omega arith)))
        ((not_found-agree (first_indicator line.indicators) go go' agree).at _ answers few);
  }

  performed-agree : (source : Source) (section lines : List Calculation) (below below' : Option Name → Rest) → ((sought : Option Name) → Agree most (below sought) (below' sought)) → (go go' : Rest) → Agree most go go' → (line : CalculationLine Name) (operation : Option Operation) → Agree most (performed source a section lines below go line operation) (performed source a' section lines below' go' line operation)
  unfolding performed
  performed-agree source section lines below below' agree go go' after line (Some Divide) = record { at = λ e answers few. (divided-agree source line _ _ (agree None)).at e answers few }
  performed-agree source section lines below below' agree go go' after line (Some GoTo) = record {
    at = λ e answers few. choice-agree (has_tag (name_in line.factor2) lines) _ _ _ _ e answers
        ((agree (Some (name_in line.factor2))).at e answers few)
        (ask-agree _ _ _ answers (λ _ later less. same.jump _ _ go go' e later (omega arith) (fewer (omega arith) after)));
  }
  performed-agree source section lines below below' agree go go' after line (Some ExecuteSubroutine) = record {
    at = λ e answers few. ask-agree _ _ _ answers (λ _ later less. same.jump _ _ _ _ e later (omega arith) (fewer (omega arith) (agree None)));
  }
  performed-agree source section lines below below' agree go go' after line (Some Except) = record {
    at = λ e answers few. ask-agree _ _ _ answers (λ _ later less. (lines_put-agree source is_exception false source.outputs _ _ (agree None)).at e later (omega arith));
  }
  performed-agree source section lines below below' agree go go' after line (Some Chain) = record { at = λ e answers few. (chained-agree source line (file_named source (name_in line.factor2)) _ _ (agree None)).at e answers few }
  performed-agree source section lines below below' agree go go' after line (Some operation) = record { at = λ e answers few. (agree None).at _ answers few }
  performed-agree source section lines below below' agree go go' after line None = record { at = λ e answers few. (agree None).at e answers few }

  calculated-agree : (source : Source) (section : List Calculation) (go go' : Rest) → Agree most go go' → (lines : List Calculation) (sought : Option Name) → Agree most (calculated source a section go sought lines) (calculated source a' section go' sought lines)
  unfolding calculated
  calculated-agree source section go go' agree [] None = record { at = λ e answers few. agree.at e answers few }
  calculated-agree source section go go' agree [] (Some tag) = record { at = λ e answers few. agree.at e answers few }
  calculated-agree source section go go' agree (c ∷ cs) (Some tag) = record {
    at = λ e answers few. choice-agree (is_tag tag c) _ _ _ _ e answers
        ((calculated-agree source section go go' agree cs None).at e answers few)
        ((calculated-agree source section go go' agree cs (Some tag)).at e answers few);
  }
  calculated-agree source section go go' agree (c ∷ cs) None = record {
    at = λ e answers few. choice-agree (calculation_holds e c) _ _ _ _ e answers
        ((performed-agree source section cs _ _ (λ sought. calculated-agree source section go go' agree cs sought) go go' agree c.line c.line.operation).at e answers few)
        ((calculated-agree source section go go' agree cs None).at _ answers few);
  }

  -- ---- step 1
  halts_shown-agree : (numbers : List ℕ) (go go' : Rest) → Agree most go go' → Agree most (halts_shown a numbers go) (halts_shown a' numbers go')
  unfolding halts_shown
  halts_shown-agree [] go go' agree = record { at = λ e answers few. agree.at e answers few }
  halts_shown-agree (n ∷ ns) go go' agree =
      let more : Agree most (halts_shown a ns go) (halts_shown a' ns go') = halts_shown-agree ns go go' agree in
      record {
        at = λ e answers few. choice-agree (e.on (Halt n)) _ _ _ _ e answers
            ((halted-agree (HaltIndicator n) _ _ (record { at = λ e' bs h. more.at _ bs h })).at e answers few) (more.at e answers few);
      }

  headings-agree : (source : Source) (go go' : Rest) → Agree most go go' → Agree most (headings source a go) (headings source a' go')
  unfolding headings
  headings-agree source go go' agree =
      lines_put-agree source is_heading_or_detail false source.outputs _ _
      (record { at = λ e answers few. (halts_shown-agree _ go go' agree).at _ answers few })

  -- ---- step 3
  -- the continuation of reading a file again follows an answer
  read_anew-agree : (code : HaltCode) (input : InputFile) (go go' : InputFile → Rest) → ((input' : InputFile) → Agree most (go input') (go' input')) → Agree most (halted a code (a.read input go)) (halted a' code (a'.read input go'))
  read_anew-agree code input go go' agree = halted-later code _ _ (λ e answers few. same.read input go go' e answers few (λ input'. fewer (omega arith) (agree input')))

  headed-agree : (input : InputFile) (head : Head) (go go' : InputFile → Rest) → ((input' : InputFile) → Agree most (go input') (go' input')) → Agree most (headed a input head go) (headed a' input head go')
  unfolding headed
  headed-agree input head go go' agree = record {
    at = λ e answers few. choice-agree (in_sequence (head_key head) input.last_key) _ _ _ _ e answers
        ((agree _).at e answers few)
        ((read_anew-agree OutOfSequence input go go' agree).at e answers few);
  }

  typed-agree : (input : InputFile) (bytes : List ℕ) (kind : Option RecordType) (go go' : InputFile → Rest) → ((input' : InputFile) → Agree most (go input') (go' input')) → Agree most (typed a input bytes kind go) (typed a' input bytes kind go')
  unfolding typed
  typed-agree input bytes (Some kind) go go' agree = record { at = λ e answers few. (headed-agree input _ go go' agree).at e answers few }
  typed-agree input bytes None go go' agree = record { at = λ e answers few. (read_anew-agree UnidentifiedRecord input go go' agree).at e answers few }

  on_read-agree : (source : Source) (input : InputFile) (go go' : InputFile → Rest) → ((input' : InputFile) → Agree most (go input') (go' input')) → (answer : Answer) → Agree most (on_read source a input go answer) (on_read source a' input go' answer)
  unfolding on_read
  on_read-agree source input go go' agree (Found bytes) = record { at = λ e answers few. (typed-agree (counted_read input) bytes (type_of source input.file.name bytes) go go' agree).at e answers few }
  on_read-agree source input go go' agree Nothing = record { at = λ e answers few. (agree _).at e answers few }
  on_read-agree source input go go' agree Done = record { at = λ e answers few. (agree _).at e answers few }
  on_read-agree source input go go' agree (Refused code) = record { at = λ e answers few. (agree _).at e answers few }
  on_read-agree source input go go' agree (Reply digit) = record { at = λ e answers few. (agree _).at e answers few }

  file_read-agree : (source : Source) (input : InputFile) (go go' : InputFile → Rest) → ((input' : InputFile) → Agree most (go input') (go' input')) → Agree most (file_read source a input go) (file_read source a' input go')
  unfolding file_read
  file_read-agree source input go go' agree = record {
    at = λ e answers few. ask-agree _ _ _ answers (λ answer later less. (on_read-agree source input go go' agree answer).at e later (omega arith));
  }

  files_read-agree : (source : Source) (inputs : List InputFile) (go go' : List InputFile → Rest) → ((inputs' : List InputFile) → Agree most (go inputs') (go' inputs')) → Agree most (files_read source a inputs go) (files_read source a' inputs go')
  unfolding files_read
  files_read-agree source [] go go' agree = record { at = λ e answers few. (agree []).at e answers few }
  files_read-agree source (input ∷ inputs) go go' agree = record {
    at = λ e answers few. choice-agree (is_unread input) _ _ _ _ e answers
        ((file_read-agree source input _ _ (λ input'. files_read-agree source inputs _ _ (λ inputs'. agree (input' ∷ inputs')))).at e answers few)
        ((files_read-agree source inputs _ _ (λ inputs'. agree (input ∷ inputs'))).at e answers few);
  }

  -- ---- steps 6 to 12
  totals-agree : (source : Source) (go go' : Rest) → Agree most go go' → Agree most (totals source a go) (totals source a' go')
  unfolding totals
  totals-agree source go go' agree =
      calculated-agree source _ _ _ (lines_put-agree source is_total_line false source.outputs go go' agree) _ None

  last_time-agree : (source : Source) → Agree most (last_time source a) (last_time source a')
  unfolding last_time
  last_time-agree source = totals-agree source _ _ (same-agree most (ended false))

  total_time-agree : (source : Source) (go go' : Rest) → Agree most go go' → Agree most (total_time source a go) (total_time source a' go')
  unfolding total_time
  total_time-agree source go go' agree = record {
    at = λ e answers few. choice-agree e.totals_due _ _ _ _ e answers
        ((totals-agree source _ _ (record { at = λ e' bs h. choice-agree (e'.on LastRecord) _ _ _ _ e' bs refl (agree.at e' bs h) })).at e answers few)
        (agree.at e answers few);
  }

  overflow_lines-agree : (source : Source) (go go' : Rest) → Agree most go go' → Agree most (overflow_lines source a go) (overflow_lines source a' go')
  unfolding overflow_lines
  overflow_lines-agree source go go' agree = record {
    at = λ e answers few. choice-agree (has_overflowed source e) _ _ _ _ e answers
        ((lines_put-agree source _ true source.outputs _ _ (record { at = λ e' bs h. agree.at _ bs h })).at e answers few)
        (agree.at e answers few);
  }

  detail_time-agree : (source : Source) (selected : Selected) (go go' : Rest) → Agree most go go' → Agree most (detail_time source a selected go) (detail_time source a' selected go')
  unfolding detail_time
  detail_time-agree source selected go go' agree =
      fields_moved-agree _ _ _ _ (calculated-agree source _ _ _ (record { at = λ e answers few. agree.at _ answers few }) _ None)

  record_time-agree : (source : Source) (is_matching : Bool) (selected : Selected) (go go' : Rest) → Agree most go go' → Agree most (record_time source a is_matching selected go) (record_time source a' is_matching selected go')
  unfolding record_time
  record_time-agree source is_matching selected go go' agree = record {
    at = λ e answers few. (total_time-agree source _ _ (overflow_lines-agree source _ _ (record {
      at = λ e' bs h. (detail_time-agree source selected go go' agree).at _ bs h;
    }))).at _ answers few;
  }

  -- the processing of a selected record agrees if the cycles agree for readings with an unread file
  selected_or_last-agree : (source : Source) (reading : Reading) → ((next : Reading) → list_any is_unread next.files ≡ true → Agree most (a.cycle next) (a'.cycle next)) → Agree most (selected_or_last source a reading (select reading)) (selected_or_last source a' reading (select reading))
  unfolding selected_or_last
  selected_or_last-agree source reading cycles = by_choice (select reading) refl
    where
      by_choice : (o : Option Selected) → select reading ≡ o → Agree most (selected_or_last source a reading o) (selected_or_last source a' reading o)
      by_choice None h = record { at = λ e answers few. (last_time-agree source).at _ answers few }
      by_choice (Some selected) h = record {
        at = λ e answers few. (record_time-agree source (is_matched reading selected) selected _ _ (cycles (taken reading selected) (taken_unread reading selected h))).at e answers few;
      }

  reading_time-agree : (source : Source) (reading : Reading) → ((next : Reading) → list_any is_unread next.files ≡ true → Agree most (a.cycle next) (a'.cycle next)) → Agree most (reading_time source a reading) (reading_time source a' reading)
  unfolding reading_time
  reading_time-agree source reading cycles = files_read-agree source reading.files _ _ (λ inputs'. selected_or_last-agree source (record { files = inputs'; primary_key = reading.primary_key }) cycles)

  cleared-agree : (source : Source) (go go' : Rest) → Agree most go go' → Agree most (cleared source go) (cleared source go')
  unfolding cleared
  cleared-agree source go go' agree = record { at = λ e answers few. agree.at _ answers few }

  one_cycle-agree : (source : Source) (reading : Reading) → Agree most (reading_time source a reading) (reading_time source a' reading) → Agree most (one_cycle source a reading) (one_cycle source a' reading)
  unfolding one_cycle
  one_cycle-agree source reading agree =
      headings-agree source _ _ (cleared-agree source _ _ (record {
        at = λ e answers few. choice-agree (e.on LastRecord) _ _ _ _ e answers ((last_time-agree source).at e answers few) (agree.at e answers few);
      }))

-- an unread file consumes an answer first
unread-agree : (most : ℕ) (b rest : Bool) (x x' y y' : Rest) → (b || rest) ≡ true → Agree most x x' → (rest ≡ true → Agree most y y') → Agree most (λ e. (if b then x else y) e) (λ e. (if b then x' else y') e)
unread-agree most true rest x x' y y' h agree other = agree
unread-agree most false rest x x' y y' h agree other = other h

files_read-later : (most : ℕ) (a a' : Anew) → AgreeAnew most a a' → (source : Source) (inputs : List InputFile) → list_any is_unread inputs ≡ true → (go go' : List InputFile → Rest) → ((less : ℕ) → less < most → (inputs' : List InputFile) → Agree less (go inputs') (go' inputs')) → Agree most (files_read source a inputs go) (files_read source a' inputs go')
unfolding files_read file_read
files_read-later most a a' same source [] h go go' agree = absurd (true≢false (sym h))
files_read-later most a a' same source (input ∷ inputs) h go go' agree =
    unread-agree most (is_unread input) (list_any is_unread inputs) _ _ _ _ h now
    (λ g. files_read-later most a a' same source inputs g _ _ (λ less h' inputs'. agree less h' (input ∷ inputs')))
  where
    now : Agree most (file_read source a input (λ input'. files_read source a inputs (λ inputs'. go (input' ∷ inputs')))) (file_read source a' input (λ input'. files_read source a' inputs (λ inputs'. go' (input' ∷ inputs'))))
    now = record {
      at = λ e answers few. ask-agree _ _ _ answers (λ answer later less.
          (on_read-agree (length later) a a' (fewer_anew (omega arith) same) source input _ _
          (λ input'. files_read-agree (length later) a a' (fewer_anew (omega arith) same) source inputs _ _ (λ inputs'. agree (length later) (omega arith) (input' ∷ inputs')))
          answer).at e later (omega arith));
    }

reading_time-later : (most : ℕ) (a a' : Anew) → AgreeAnew most a a' → (source : Source) (reading : Reading) → list_any is_unread reading.files ≡ true → ((less : ℕ) → less < most → (next : Reading) → list_any is_unread next.files ≡ true → Agree less (a.cycle next) (a'.cycle next)) → Agree most (reading_time source a reading) (reading_time source a' reading)
unfolding reading_time
reading_time-later most a a' same source reading h cycles =
    files_read-later most a a' same source reading.files h _ _ (λ less h' inputs'.
    selected_or_last-agree less a a' (fewer_anew (omega arith) same) source (record { files = inputs'; primary_key = reading.primary_key }) (cycles less h'))

-- ---- the bounds don't matter
anew_within-agree : (n m : ℕ) (source : Source) (most : ℕ) → most ≤ n → most ≤ m → AgreeAnew most (anew_within n source) (anew_within m source)
unfolding anew_within
anew_within-agree zero m source most h h' = record {
  jump = λ section lines go go' e answers few agree. absurd (omega arith);
  read = λ input go go' e answers few agree. absurd (omega arith);
  last = λ e answers few. absurd (omega arith);
}
anew_within-agree (suc n) zero source most h h' = record {
  jump = λ section lines go go' e answers few agree. absurd (omega arith);
  read = λ input go go' e answers few agree. absurd (omega arith);
  last = λ e answers few. absurd (omega arith);
}
anew_within-agree (suc n) (suc m) source most h h' = record {
  jump = λ section lines go go' e answers few agree.
      (calculated-agree (length answers) _ _ (anew_within-agree n m source (length answers) (omega arith) (omega arith)) source section go go' agree lines None).at e answers (omega arith);
  read = λ input go go' e answers few agree.
      (file_read-agree (length answers) _ _ (anew_within-agree n m source (length answers) (omega arith) (omega arith)) source input go go' agree).at e answers (omega arith);
  last = λ e answers few.
      (last_time-agree (length answers) _ _ (anew_within-agree n m source (length answers) (omega arith) (omega arith)) source).at e answers (omega arith);
}

-- a cycle with an unread file
cycle_within-agree : (n m : ℕ) (source : Source) (most : ℕ) (reading : Reading) → list_any is_unread reading.files ≡ true → most < n → most < m → Agree most ((anew_within n source).cycle reading) ((anew_within m source).cycle reading)
unfolding anew_within
cycle_within-agree zero m source most reading unread h h' = absurd (omega arith)
cycle_within-agree (suc n) zero source most reading unread h h' = absurd (omega arith)
cycle_within-agree (suc n) (suc m) source most reading unread h h' =
    let same : AgreeAnew most (anew_within n source) (anew_within m source) = anew_within-agree n m source most (omega arith) (omega arith) in
    one_cycle-agree most _ _ same source reading
    (reading_time-later most _ _ same source reading unread (λ less g next unread'. cycle_within-agree n m source less next unread' (omega arith) (omega arith)))

-- `again` agrees with enough bounded restarts
again-agree : (n : ℕ) (source : Source) (most : ℕ) → most ≤ n → AgreeAnew most (anew_within n source) (again source)
unfolding again
again-agree n source most h = record {
  jump = λ section lines go go' e answers few agree. (anew_within-agree n (suc (suc (length answers))) source (suc (length answers)) (omega arith) (omega arith)).jump section lines go go' e answers (omega arith) agree;
  read = λ input go go' e answers few agree. (anew_within-agree n (suc (suc (length answers))) source (suc (length answers)) (omega arith) (omega arith)).read input go go' e answers (omega arith) agree;
  last = λ e answers few. (anew_within-agree n (suc (suc (length answers))) source (suc (length answers)) (omega arith) (omega arith)).last e answers (omega arith);
}

again_cycle-agree : (n : ℕ) (source : Source) (most : ℕ) (reading : Reading) → list_any is_unread reading.files ≡ true → most < n → Agree most ((anew_within n source).cycle reading) ((again source).cycle reading)
unfolding again
again_cycle-agree n source most reading unread h = record {
  at = λ e answers few. (cycle_within-agree n (suc (suc (length answers))) source (length answers) reading unread (omega arith) (omega arith)).at e answers (omega arith);
}

-- ---- the equations
-- a section after a jump
pub again-jump : (source : Source) (section lines : List Calculation) (go : Rest) (e : Environment) (answers : List Answer) → (again source).jump section lines go e answers ≡ calculated source (again source) section go None lines e answers
unfolding again anew_within
again-jump source section lines go e answers =
    (calculated-agree (length answers) _ _ (again-agree (suc (length answers)) source (length answers) (omega arith)) source section go go (same-agree _ go) lines None).at e answers (omega arith)

pub again-read : (source : Source) (input : InputFile) (go : InputFile → Rest) (e : Environment) (answers : List Answer) → (again source).read input go e answers ≡ file_read source (again source) input go e answers
unfolding again anew_within
again-read source input go e answers =
    (file_read-agree (length answers) _ _ (again-agree (suc (length answers)) source (length answers) (omega arith)) source input go go (λ input'. same-agree _ (go input'))).at e answers (omega arith)

pub again-last : (source : Source) (e : Environment) (answers : List Answer) → (again source).last e answers ≡ last_time source (again source) e answers
unfolding again anew_within
again-last source e answers =
    (last_time-agree (length answers) _ _ (again-agree (suc (length answers)) source (length answers) (omega arith)) source).at e answers (omega arith)

pub again-cycle : (source : Source) (reading : Reading) (e : Environment) (answers : List Answer) → (again source).cycle reading e answers ≡ one_cycle source (again source) reading e answers
unfolding again anew_within
again-cycle source reading e answers =
    let same : AgreeAnew (length answers) (anew_within (suc (length answers)) source) (again source) = again-agree (suc (length answers)) source (length answers) (omega arith) in
    (one_cycle-agree (length answers) _ _ same source reading
    (reading_time-agree (length answers) _ _ same source reading (λ next unread. again_cycle-agree (suc (length answers)) source (length answers) next unread (omega arith)))).at e answers (omega arith)

-- `again` satisfies its defining equation without a bound
pub again-renewed : (source : Source) → again source ≡ renewed source (again source)
again-renewed source = λ i. record {
  jump = λ section lines go e answers. again-jump source section lines go e answers i;
  read = λ input go e answers. again-read source input go e answers i;
  last = λ e answers. again-last source e answers i;
  cycle = λ reading e answers. again-cycle source reading e answers i;
}
