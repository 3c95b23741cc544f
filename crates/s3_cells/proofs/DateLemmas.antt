-- Dates that are shown and taken.
use Rattle.std.proofs.Common.{◌≡◌, ℕ, ◌-◌, ◌<◌, refl, arith, sym, ◌∙◌, ap, Bool, true, false, ◌&&◌, ◌||◌, cond, List, [], ◌∷◌, ◌++◌, map, length, replicate, subst}
use Rattle.std.specs.Prelude.{Option, Some, None}
use Rattle.std.specs.Option.{option_map}
use Rattle.std.specs.Bool.{◌==◌}
use Rattle.std.proofs.lemmas.Bool.{and_parts, ne_eqb}
use Rattle.std.proofs.lemmas.List.{append-nil}
use Rattle.s3_cards.specs.Codes.{ebcdic, shown_byte}
use Rattle.s3_cells.specs.Inner.Dates.{date_in, date_of, date_read, date_text, has_form, has_no_date, is_date, none_of}
use Rattle.s3_cells.specs.Inner.Texts.{text_bytes}
use Rattle.s3_cards.specs.declared.ebcdic.TheConstants.{BLANK}
use Rattle.s3_cells.specs.Inner.Values.{Characters, GetsValue, SaysNone, Value}
use Rattle.s3_cells.specs.declared.dates.DateField.{DateField}
use Rattle.s3_cells.specs.declared.kind.FieldKind.TheVariants.{Date}
use Rattle.s3_cells.proofs.DateLaws.{dated, some_bytes}

pub none_shown : (form : DateField) (bytes cell : List ℕ) → has_no_date form bytes ≡ true → cell ≡ cell ++ date_text (date_in form bytes)
none_shown form bytes cell none = sym (ap (λ b. cell ++ date_text (cond b [] (map shown_byte bytes))) none ∙ append-nil cell)

pub date_told : (form : DateField) (bytes cell all date : List ℕ) → has_no_date form bytes ≡ false → date ≡ map shown_byte bytes → all ≡ cell ++ date_text date → all ≡ cell ++ date_text (date_in form bytes)
date_told form bytes cell all date some is more = more ∙ ap (λ d. cell ++ date_text d) is ∙ sym (ap (λ b. cell ++ date_text (cond b [] (map shown_byte bytes))) some)

no_length : (cell : List ℕ) → length cell ≡ 0 → (length cell == 0) ≡ true
no_length [] h = refl
no_length (c ∷ cell) h = absurd (omega arith)

pub none_taken : (form : DateField) (width : ℕ) (cell bytes : List ℕ) → length cell ≡ 0 → bytes ≡ replicate width (none_of form) → GetsValue (Date form) cell width bytes
none_taken form width cell bytes empty is = record {
  value = Characters [];
  said = ap (λ b. option_map Characters (cond b (Some []) (cond (has_form cell && is_date (date_of cell)) (Some (date_of cell)) None))) (no_length cell empty);
  held = refl;
  written = is;
}

some_text : (s t : List ℕ) → Some s ≡ Some t → s ≡ t
some_text s t h = cc

date_if : (fits : Bool) (date text : List ℕ) → (fits ≡ true → is_date date ≡ true) → cond fits (Some date) None ≡ Some text → is_date text ≡ true
date_if true date text is h = subst (λ t. is_date t ≡ true) (some_text date text h) (is refl)
date_if false date text is h = absurd cc

some_cell : (cell : List ℕ) → 0 < length cell → (length cell == 0) ≡ false
some_cell cell h = ne_eqb (length cell) 0 (λ e. absurd (omega arith))

said_date : (cell text : List ℕ) → 0 < length cell → date_read cell ≡ Some text → is_date text ≡ true
said_date cell text some h =
    date_if (has_form cell && is_date (date_of cell)) (date_of cell) text (λ fits. (and_parts (has_form cell) (is_date (date_of cell)) fits).1)
    (ap (λ b. cond b (Some []) (cond (has_form cell && is_date (date_of cell)) (Some (date_of cell)) None)) (sym (some_cell cell some)) ∙ h)

or_true : (a b : Bool) → b ≡ true → (a || b) ≡ true
or_true true b h = refl
or_true false b h = h

six_bytes : (width : ℕ) (text : List ℕ) → width ≡ 6 → is_date text ≡ true → text_bytes width text ≡ ebcdic text
six_bytes width text six h =
    let date = dated text h in
    let long : length text ≡ 6 = ap length date.is in
    let none : width - length text ≡ 0 = omega (arith, six, long) in
    ap (λ n. ebcdic text ++ replicate n BLANK) none ∙ append-nil (ebcdic text)

pub date_taken : (form : DateField) (width : ℕ) (cell date bytes : List ℕ) → width ≡ 6 → 0 < length cell → date_read cell ≡ Some date → bytes ≡ text_bytes width date → GetsValue (Date form) cell width bytes
date_taken form width cell date bytes six some said is =
    let day = said_date cell date some said in
    record {
      value = Characters date;
      said = ap (option_map Characters) said;
      held = or_true (length date == 0) (is_date date) day;
      written = is ∙ six_bytes width date six day ∙ sym (some_bytes form width date day);
    }

none_said : (o : Option (List ℕ)) (value : Value) → o ≡ None → option_map Characters o ≡ Some value → ⊥
none_said None value n h = absurd cc
none_said (Some text) value n h = absurd cc

pub no_date_said : (form : DateField) (width : ℕ) (cell : List ℕ) → date_read cell ≡ None → SaysNone (Date form) cell width
no_date_said form width cell none = λ value said. absurd (none_said (date_read cell) value none said)
