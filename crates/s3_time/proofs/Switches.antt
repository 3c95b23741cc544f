-- What sets indicators sets no switch: the switches of a job stay as they were at its start.
use Rattle.std.proofs.Common.{◌≡◌, ℕ, Bool, true, false, not, ◌&&◌, true≢false, List, [], ◌∷◌, if◌then◌else◌, ℤ, refl, sym, ◌∙◌, ap, subst, pos, replicate}
use Rattle.std.specs.Prelude.{Option, Some, None, zip}
use Rattle.std.specs.List.{AllByRecursion as Each, list_any}
use Rattle.std.specs.declared.cmp.Ordering.{Ordering}
use Rattle.std.specs.declared.cmp.Ordering.TheVariants.{Less, Equal, Greater}
use Rattle.s3_cards.specs.declared.name.Name.{Name}
use Rattle.s3_cards.specs.Names.{same_name}
use Rattle.s3_decimal.specs.Exact.{Fraction, quotient_of, stored}
use Rattle.s3_decimal.specs.Records.{moved_number}
use Rattle.s3_decimal.specs.declared.rounding.Rounding.{Rounding}
use Rattle.s3_lines.specs.declared.indicator.Indicator.{Indicator}
use Rattle.s3_lines.specs.declared.indicator.Indicator.TheVariants.{General, Level, LastRecord, Matching, Halt, FirstPage, Overflow, Switch}
use Rattle.s3_lines.specs.declared.sheet.FieldLine.{FieldLine}
use Rattle.s3_lines.specs.declared.sheet.FieldOutput.{FieldOutput}
use Rattle.s3_lines.specs.declared.sheet.OutputContent.{OutputContent}
use Rattle.s3_lines.specs.declared.sheet.OutputContent.TheVariants.{Constant, Field}
use Rattle.s3_lines.specs.declared.sheet.OutputField.{OutputField}
use Rattle.s3_lines.specs.declared.sheet.CalculationLine.{CalculationLine}
use Rattle.s3_lines.specs.declared.sheet.Operation.{Operation}
use Rattle.s3_lines.specs.declared.sheet.Operation.TheVariants as op
use Rattle.s3_lines.specs.Indicators.{is_indicator, same_indicator}
use Rattle.s3_meaning.specs.Names.{entries, page}
use Rattle.s3_meaning.specs.RecordTypes.{RecordType}
use Rattle.s3_meaning.specs.Source.{Source, decimals_of, digits_of, is_numeric, length_of, overflow_of}
use Rattle.s3_meaning.specs.Environment.{Environment, all_hold, no_remainder, put_number, put_remainder, put_text, show, switch_on, turn}
use Rattle.s3_meaning.specs.Moving.{with_number, with_text}
use Rattle.s3_meaning.specs.Carriage.{Carriage}
use Rattle.s3_meaning.specs.Output.{Composed, composed, counted, overflowed, put_carriage, put_out}
use Rattle.s3_meaning.specs.Calculating.{all_turned, bytes_in, changed, factor_order, forgotten, moved_right, not_performed, number_in, order_marks, result_of, rounding_of, with_move, with_quotient, with_result, with_zero_quotient}
use Rattle.s3_meaning.specs.Cycle.{without_overflow, without_types}
use Rattle.s3_time.proofs.Elements.{none_passes}

-- ---- entries that name no switch
abbrev pub is_no_switch : Indicator → Bool
is_no_switch (Switch n) = false
is_no_switch _ = true

abbrev pub NoSwitch : Option Indicator → Type 0
NoSwitch None = Unit {0}
NoSwitch (Some indicator) = is_no_switch indicator ≡ true

-- neither a type of records nor its fields set one
pub record SetsNone (kind : RecordType) : Type 0 where
  pub itself : is_no_switch kind.indicator ≡ true
  pub fields : Each (λ (field : FieldLine Name). Each NoSwitch field.indicators) kind.fields

apart : (n : ℕ) (indicator : Indicator) → is_no_switch indicator ≡ true → same_indicator (Switch n) indicator ≡ false
apart n (Switch m) clear = absurd (true≢false (sym clear))
apart n (General m) clear = refl
apart n (Level m) clear = refl
apart n LastRecord clear = refl
apart n Matching clear = refl
apart n (Halt m) clear = refl
apart n FirstPage clear = refl
apart n (Overflow m) clear = refl

not_named : (n : ℕ) (entry : Option Indicator) → NoSwitch entry → is_indicator (Switch n) entry ≡ false
not_named n None clear = refl
not_named n (Some indicator) clear = apart n indicator clear

abbrev Mark : Type 0
Mark = Option Indicator × Bool

abbrev NoMark : Mark → Type 0
NoMark mark = NoSwitch mark.0

zipped : (indicators : List (Option Indicator)) (shown : List Bool) → Each NoSwitch indicators → Each NoMark (zip indicators shown)
zipped [] shown clear = tt
zipped (indicator ∷ indicators) [] clear = tt
zipped (indicator ∷ indicators) (b ∷ shown) clear = (clear.0, zipped indicators shown clear.1)

and_true : (b : Bool) → (b && true) ≡ b
and_true true = refl
and_true false = refl

and_false : (b : Bool) → (b && false) ≡ false
and_false true = refl
and_false false = refl

-- ---- environments
-- the switches are on as they were set
pub record AreSet (switches : ℕ) (e : Environment) : Type 0 where
  pub as_set : (n : ℕ) → e.on (Switch n) ≡ switch_on switches n

module _ (switches : ℕ) where
  -- where no indicator has changed
  pub set_same : (e e' : Environment) → e'.on ≡ e.on → AreSet switches e → AreSet switches e'
  set_same e e' same set = record { as_set = λ n. ap (λ (on : Indicator → Bool). on (Switch n)) same ∙ set.as_set n }

  pub set_turn : (indicator : Indicator) (to : Bool) (e : Environment) → is_no_switch indicator ≡ true → AreSet switches e → AreSet switches (turn indicator to e)
  set_turn indicator to e clear set =
      record { as_set = λ n. ap (λ (b : Bool). if b then to else e.on (Switch n)) (apart n indicator clear) ∙ set.as_set n }

  pub set_entries : (to : Bool) (indicators : List (Option Indicator)) (e : Environment) → Each NoSwitch indicators → AreSet switches e → AreSet switches (all_turned to (entries indicators) e)
  set_entries to [] e clear set = set
  set_entries to (None ∷ indicators) e clear set = set_entries to indicators e clear.1 set
  set_entries to (Some indicator ∷ indicators) e clear set = set_entries to indicators (turn indicator to e) clear.1 (set_turn indicator to e clear.0 set)

  set_marks : (marks : List Mark) (e : Environment) → Each NoMark marks → AreSet switches e → AreSet switches (show marks e)
  set_marks marks e clear set = record {
    as_set = λ n.
        ap (λ (b : Bool). if b then list_any (λ (mark : Mark). is_indicator (Switch n) mark.0 && mark.1) marks else e.on (Switch n))
        (none_passes NoMark (λ (mark : Mark). is_indicator (Switch n) mark.0) marks clear (λ mark none. not_named n mark.0 none))
        ∙ set.as_set n;
  }

  set_shown : (indicators : List (Option Indicator)) (shown : List Bool) (e : Environment) → Each NoSwitch indicators → AreSet switches e → AreSet switches (show (zip indicators shown) e)
  set_shown indicators shown e clear set = set_marks (zip indicators shown) e (zipped indicators shown clear) set

  -- ---- fields
  pub set_number : (field : FieldLine Name) (value : ℤ) (e : Environment) → Each NoSwitch field.indicators → AreSet switches e → AreSet switches (with_number field value e)
  set_number field value e clear set = set_shown field.indicators _ (put_number field.name value e) clear (set_same e (put_number field.name value e) refl set)

  pub set_text : (field : FieldLine Name) (text : List ℕ) (e : Environment) → Each NoSwitch field.indicators → AreSet switches e → AreSet switches (with_text field text e)
  set_text field text e clear set = set_shown field.indicators _ (put_text field.name text e) clear (set_same e (put_text field.name text e) refl set)

  -- ---- types of records
  pub set_without : (source : Source) (e : Environment) → Each SetsNone source.types → AreSet switches e → AreSet switches (without_types source e)
  set_without source e clear set = record {
    as_set = λ n.
        ap (λ (b : Bool). e.on (Switch n) && not b)
        (none_passes SetsNone (λ (kind : RecordType). same_indicator (Switch n) kind.indicator) source.types clear (λ kind none. apart n kind.indicator none.itself))
        ∙ and_true (e.on (Switch n)) ∙ set.as_set n;
  }

  pub set_forgotten : (source : Source) (file : Name) (e : Environment) → Each SetsNone source.types → AreSet switches e → AreSet switches (forgotten source file e)
  set_forgotten source file e clear set = record {
    as_set = λ n.
        ap (λ (b : Bool). e.on (Switch n) && not b)
        (none_passes SetsNone (λ (kind : RecordType). same_name kind.file file && same_indicator (Switch n) kind.indicator) source.types clear
        (λ kind none. ap (λ (b : Bool). same_name kind.file file && b) (apart n kind.indicator none.itself) ∙ and_false (same_name kind.file file)))
        ∙ and_true (e.on (Switch n)) ∙ set.as_set n;
  }

  -- ---- the overflow indicator
  pub set_carriage : (source : Source) (c : Carriage) (e : Environment) → NoSwitch (overflow_of source.files) → AreSet switches e → AreSet switches (put_carriage source c e)
  set_carriage source c e clear set = by (overflow_of source.files) refl
    where
      placed : Environment
      placed = record e { page = c.page; line = c.line }

      still : AreSet switches placed
      still = set_same e placed refl set

      turned : (indicator : Indicator) (b : Bool) → is_no_switch indicator ≡ true → AreSet switches (if b then turn indicator true placed else placed)
      turned indicator true none = set_turn indicator true placed none still
      turned indicator false none = still

      by : (o : Option Indicator) → overflow_of source.files ≡ o → AreSet switches (overflowed source c placed)
      by None is = rw is still
      by (Some indicator) is = rw is (turned indicator c.overflow (subst NoSwitch is clear))

  pub set_past_overflow : (source : Source) (e : Environment) → NoSwitch (overflow_of source.files) → AreSet switches e → AreSet switches (without_overflow source e)
  set_past_overflow source e clear set = by (overflow_of source.files) refl
    where
      by : (o : Option Indicator) → overflow_of source.files ≡ o → AreSet switches (without_overflow source e)
      by None is = rw is set
      by (Some indicator) is = rw is (set_turn indicator false e (subst NoSwitch is clear) set)

  -- ---- the record that a line puts out
  pub set_composed : (source : Source) (fields : List (OutputField Name)) (c : Composed) → AreSet switches c.after → AreSet switches (composed source fields c).after
  set_composed source [] c set = set
  set_composed source (field ∷ fields) c set = by (all_hold c.after (entries field.conditions)) (λ next. set_composed source fields next)
    where
      counts : (name : Name) (b : Bool) (e : Environment) (value : ℤ) → AreSet switches e → AreSet switches (if b then put_number page value e else e)
      counts name true e value set = set_same e (put_number page value e) refl set
      counts name false e value set = set

      blanks : (output : FieldOutput Name) (b number : Bool) (e : Environment) → AreSet switches e
          → AreSet switches (if not b then e else (if number then put_number output.name (pos 0) e else put_text output.name (replicate (length_of source output.name) 0x40) e))
      blanks output false number e set = set
      blanks output true true e set = set_same e (put_number output.name (pos 0) e) refl set
      blanks output true false e set = set_same e (put_text output.name (replicate (length_of source output.name) 0x40) e) refl set

      puts : (content : OutputContent Name) → AreSet switches (put_out source content field.end c).after
      puts (Constant constant) = set
      puts (Field output) =
          blanks output output.blank_after (is_numeric source output.name) (counted output.name c.after) (counts output.name (same_name output.name page) c.after _ set)

      by : (b : Bool) → ((next : Composed) → AreSet switches next.after → AreSet switches (composed source fields next).after)
          → AreSet switches (composed source fields (if b then put_out source field.content field.end c else c)).after
      by true later = later (put_out source field.content field.end c) (puts field.content)
      by false later = later c set

  -- ---- calculations that ask for nothing
  pub set_result : (source : Source) (line : CalculationLine Name) (rounding : Rounding) (value : Fraction) (e : Environment) → Each NoSwitch line.indicators → AreSet switches e
      → AreSet switches (with_result source line rounding value e)
  set_result source line rounding value e clear set =
      set_shown line.indicators _ (put_number (result_of line) (stored rounding (digits_of source (result_of line)) (decimals_of source (result_of line)) value) e) clear
      (set_same e (put_number (result_of line) (stored rounding (digits_of source (result_of line)) (decimals_of source (result_of line)) value) e) refl set)

  set_ordered : (line : CalculationLine Name) (order : Ordering) (e : Environment) → Each NoSwitch line.indicators → AreSet switches e → AreSet switches (show (order_marks line.indicators order) e)
  set_ordered line Less e clear set = set_shown line.indicators _ e clear set
  set_ordered line Equal e clear set = set_shown line.indicators _ e clear set
  set_ordered line Greater e clear set = set_shown line.indicators _ e clear set

  set_move : (source : Source) (line : CalculationLine Name) (e : Environment) → AreSet switches e → AreSet switches (with_move source line e)
  set_move source line e set = by (is_numeric source (result_of line))
    where
      by : (b : Bool) → AreSet switches (if b then put_number (result_of line) (moved_number (bytes_in source e line.factor2) (digits_of source (result_of line)) (e.numbers (result_of line))) e
          else put_text (result_of line) (moved_right (bytes_in source e line.factor2) (e.texts (result_of line))) e)
      by true = set_same e (put_number (result_of line) _ e) refl set
      by false = set_same e (put_text (result_of line) _ e) refl set

  pub set_changed : (source : Source) (line : CalculationLine Name) (operation : Operation) (e : Environment) → Each NoSwitch line.indicators → AreSet switches e → AreSet switches (changed source line operation e)
  set_changed source line op.Add e clear set = set_result source line _ _ e clear set
  set_changed source line op.Subtract e clear set = set_result source line _ _ e clear set
  set_changed source line op.Multiply e clear set = set_result source line _ _ e clear set
  set_changed source line op.ZeroAdd e clear set = set_result source line _ _ e clear set
  set_changed source line op.ZeroSubtract e clear set = set_result source line _ _ e clear set
  set_changed source line op.MoveRemainder e clear set = set_result source line _ _ e clear set
  set_changed source line op.Compare e clear set = set_ordered line (factor_order source e line) e clear set
  set_changed source line op.Move e clear set = set_move source line e set
  set_changed source line op.MoveLeft e clear set = set_same e (changed source line op.MoveLeft e) refl set
  set_changed source line op.SetOn e clear set = set_entries true line.indicators e clear set
  set_changed source line op.SetOff e clear set = set_entries false line.indicators e clear set
  set_changed source line op.Divide e clear set = set
  set_changed source line op.GoTo e clear set = set
  set_changed source line op.Tag e clear set = set
  set_changed source line op.ExecuteSubroutine e clear set = set
  set_changed source line op.BeginSubroutine e clear set = set
  set_changed source line op.EndSubroutine e clear set = set
  set_changed source line op.Except e clear set = set
  set_changed source line op.Chain e clear set = set
  set_changed source line op.Unknown e clear set = set

  pub set_quotient : (source : Source) (line : CalculationLine Name) (e : Environment) → Each NoSwitch line.indicators → AreSet switches e → AreSet switches (with_quotient source line e)
  set_quotient source line e clear set =
      let quotient : Environment = with_result source line (rounding_of line) (quotient_of (number_in source e line.factor1) (number_in source e line.factor2)) e in
      set_same quotient (with_quotient source line e) refl (set_result source line _ _ e clear set)

  pub set_zero_quotient : (source : Source) (line : CalculationLine Name) (e : Environment) → Each NoSwitch line.indicators → AreSet switches e → AreSet switches (with_zero_quotient source line e)
  set_zero_quotient source line e clear set = set_result source line _ _ (put_remainder no_remainder e) clear (set_same e (put_remainder no_remainder e) refl set)

  pub set_not_performed : (operation : Option Operation) (e : Environment) → AreSet switches e → AreSet switches (not_performed operation e)
  set_not_performed None e set = set
  set_not_performed (Some op.Divide) e set = set_same e (put_remainder no_remainder e) refl set
  set_not_performed (Some op.Add) e set = set
  set_not_performed (Some op.Subtract) e set = set
  set_not_performed (Some op.Multiply) e set = set
  set_not_performed (Some op.ZeroAdd) e set = set
  set_not_performed (Some op.ZeroSubtract) e set = set
  set_not_performed (Some op.MoveRemainder) e set = set
  set_not_performed (Some op.Compare) e set = set
  set_not_performed (Some op.Move) e set = set
  set_not_performed (Some op.MoveLeft) e set = set
  set_not_performed (Some op.SetOn) e set = set
  set_not_performed (Some op.SetOff) e set = set
  set_not_performed (Some op.GoTo) e set = set
  set_not_performed (Some op.Tag) e set = set
  set_not_performed (Some op.ExecuteSubroutine) e set = set
  set_not_performed (Some op.BeginSubroutine) e set = set
  set_not_performed (Some op.EndSubroutine) e set = set
  set_not_performed (Some op.Except) e set = set
  set_not_performed (Some op.Chain) e set = set
  set_not_performed (Some op.Unknown) e set = set
