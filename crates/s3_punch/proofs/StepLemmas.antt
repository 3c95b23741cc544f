-- The lines of a text, one after another.
use Rattle.std.proofs.Common.{◌≡◌, ℕ, ◌+◌, List, [], ◌∷◌, ◌++◌, ◌==◌, ◌&&◌, Bool, true, false, Option, Some, None, length, map, refl, sym, ap, ◌∙◌, arith, subst, append_assoc, length-append}
use Rattle.std.proofs.lemmas.List.{append-nil, map-append}
use Rattle.std.proofs.lemmas.List.Concat.{flat_map-append}
use Rattle.std.specs.Str.Lines.{lines}
use Rattle.bstr.specs.Utf8.{lossy_chars}
use Rattle.s3_punch.specs.Inner.Decks.{NumberedCard, card_of_bytes, cards_after, cards_from, cards_of, faults_from, faults_of, joined, numbered, part_after, part_from, surplus_fault}
use Rattle.std.specs.Option.{option_map}
use Rattle.s3_punch.specs.Inner.Cards.{card_by, card_of_line, form_of}
use Rattle.s3_punch.specs.Inner.Faults.{card_faults, fault_if, faults_of_line, form_faults}
use Rattle.s3_punch.specs.Inner.Parts.{is_data, is_source, part_behind}
use Rattle.s3_punch.specs.declared.fault.PunchReason.TheVariants.{TooManyCards}
use Rattle.s3_punch.specs.declared.form.LineForm.{LineForm}
use Rattle.s3_punch.specs.Inner.Steps.{AddsLine, HasCards, KeepsCards}
use Rattle.s3_punch.specs.declared.deck.Begun.{Begun}
use Rattle.s3_punch.specs.declared.deck.Punched.{Punched}
use Rattle.s3_punch.specs.declared.part.Part.{Part}

abbrev numbers : List NumberedCard → List ℕ
numbers cards = map (λ card. card.0) cards

-- so many lines of a text are punched, and these are left
pub record IsRead (begun : Begun) (given : List ℕ) (line : ℕ) (punched : Punched) (left : List (List ℕ)) : Type 0 where
  pub text : punched.text.items ++ joined (cards_from begun.blanks_remarks punched.part (line + 1) left) ≡ joined (cards_of begun given)
  pub origins : punched.origins.items ++ map (λ card. card.0) (cards_from begun.blanks_remarks punched.part (line + 1) left) ≡ map (λ card. card.0) (cards_of begun given)
  pub faults : punched.faults.items ++ faults_from begun.blanks_remarks punched.part (begun.cards + length punched.origins.items) (line + 1) left ≡ faults_of begun given
  pub part : part_from begun.blanks_remarks punched.part left ≡ part_from begun.blanks_remarks begun.part (lines given)
  pub count : line + length left ≡ length (lines given)

pub nothing_read : (begun : Begun) (text : List ℕ) (punched : Punched) → punched.text.items ≡ [] → punched.origins.items ≡ [] → punched.faults.items ≡ [] → punched.part ≡ begun.part → IsRead begun text 0 punched (lines text)
nothing_read begun text punched t o f p = record {
  text = ap (λ front. front ++ joined (cards_from begun.blanks_remarks punched.part 1 (lines text))) t ∙ ap (λ part. joined (cards_from begun.blanks_remarks part 1 (lines text))) p;
  origins = ap (λ front. front ++ numbers (cards_from begun.blanks_remarks punched.part 1 (lines text))) o ∙ ap (λ part. numbers (cards_from begun.blanks_remarks part 1 (lines text))) p;
  faults =
      ap (λ front. front ++ faults_from begun.blanks_remarks punched.part (begun.cards + length punched.origins.items) 1 (lines text)) f
      ∙ ap (λ part. faults_from begun.blanks_remarks part (begun.cards + length punched.origins.items) 1 (lines text)) p
      ∙ ap (λ n. faults_from begun.blanks_remarks begun.part n 1 (lines text)) (let e : begun.cards + length punched.origins.items ≡ begun.cards = omega (arith, ap length o) in e);
  part = ap (λ part. part_from begun.blanks_remarks part (lines text)) p;
  count = omega arith;
}

first_card : (b : Bool) (part : Part) (n : ℕ) (bytes : List ℕ) (more : List (List ℕ)) → cards_from b part n (bytes ∷ more) ≡ numbered n (card_of_bytes b part bytes) ++ cards_from b (part_after part (card_of_bytes b part bytes)) (n + 1) more
unfolding cards_from
first_card b part n bytes more = refl

first_faults : (b : Bool) (part : Part) (cards n : ℕ) (bytes : List ℕ) (more : List (List ℕ)) → faults_from b part cards n (bytes ∷ more)
    ≡ (faults_of_line b part n (lossy_chars bytes) ++ surplus_fault cards n (card_of_bytes b part bytes)) ++ faults_from b (part_after part (card_of_bytes b part bytes)) (cards_after cards (card_of_bytes b part bytes)) (n + 1) more
unfolding faults_from
first_faults b part cards n bytes more = refl

first_part : (b : Bool) (part : Part) (bytes : List ℕ) (more : List (List ℕ)) → part_from b part (bytes ∷ more) ≡ part_from b (part_after part (card_of_bytes b part bytes)) more
unfolding part_from
first_part b part bytes more = refl

more_cards : (cards n k : ℕ) (card : Option (List ℕ)) (origins : List ℕ) → cards_after (cards + length origins) card ≡ cards + length (origins ++ numbers (numbered n card))
more_cards cards n k None origins = omega (arith, length-append origins [])
more_cards cards n k (Some card) origins = omega (arith, length-append origins (n ∷ []))

more_text : (found all : List ℕ) (here rest : List NumberedCard) → found ++ joined (here ++ rest) ≡ all → (found ++ joined here) ++ joined rest ≡ all
more_text found all here rest so_far =
    append_assoc found (joined here) (joined rest) ∙ ap (λ x. found ++ x) (sym (flat_map-append (λ card. card.1 ++ 10 ∷ []) here rest)) ∙ so_far

more_numbers : (found all : List ℕ) (here rest : List NumberedCard) → found ++ numbers (here ++ rest) ≡ all → (found ++ numbers here) ++ numbers rest ≡ all
more_numbers found all here rest so_far =
    append_assoc found (numbers here) (numbers rest) ∙ ap (λ x. found ++ x) (sym (map-append (λ card. card.0) here rest)) ∙ so_far

pub one_line : (begun : Begun) (text : List ℕ) (line : ℕ) (old new : Punched) (bytes : List ℕ) (more : List (List ℕ)) → IsRead begun text line old (bytes ∷ more) → AddsLine begun (line + 1) bytes old new
    → IsRead begun text (line + 1) new more
one_line begun text line old new bytes more so_far adds =
    let b = begun.blanks_remarks in
    let card = card_of_bytes b old.part bytes in
    let rest = cards_from b (part_after old.part card) (line + 1 + 1) more in
    record {
      text =
          ap (λ part. new.text.items ++ joined (cards_from b part (line + 1 + 1) more)) adds.part
          ∙ ap (λ front. front ++ joined rest) adds.text
          ∙ more_text old.text.items _ (numbered (line + 1) card) rest (ap (λ cards. old.text.items ++ joined cards) (sym (first_card b old.part (line + 1) bytes more)) ∙ so_far.text);
      origins =
          ap (λ part. new.origins.items ++ numbers (cards_from b part (line + 1 + 1) more)) adds.part
          ∙ ap (λ front. front ++ numbers rest) adds.origins
          ∙ more_numbers old.origins.items _ (numbered (line + 1) card) rest (ap (λ cards. old.origins.items ++ numbers cards) (sym (first_card b old.part (line + 1) bytes more)) ∙ so_far.origins);
      faults =
          ap (λ part. new.faults.items ++ faults_from b part (begun.cards + length new.origins.items) (line + 1 + 1) more) adds.part
          ∙ ap (λ front. front ++ faults_from b (part_after old.part card) (begun.cards + length new.origins.items) (line + 1 + 1) more) adds.faults
          ∙ ap (λ n. (old.faults.items ++ (faults_of_line b old.part (line + 1) (lossy_chars bytes) ++ surplus_fault (begun.cards + length old.origins.items) (line + 1) card)) ++ faults_from b (part_after old.part card) n (line + 1 + 1) more)
          (ap (λ numbers. begun.cards + length numbers) adds.origins ∙ sym (more_cards begun.cards (line + 1) 0 card old.origins.items))
          ∙ append_assoc old.faults.items _ _
          ∙ ap (λ x. old.faults.items ++ x) (sym (first_faults b old.part (begun.cards + length old.origins.items) (line + 1) bytes more))
          ∙ so_far.faults;
      part = ap (λ part. part_from b part more) adds.part ∙ sym (first_part b old.part bytes more) ∙ so_far.part;
      count = let e = so_far.count in omega arith;
    }

pub one_line_at : (begun : Begun) (text : List ℕ) (line : ℕ) (old new : Punched) (bytes : List ℕ) (left more : List (List ℕ)) → IsRead begun text line old left → left ≡ bytes ∷ more → AddsLine begun (line + 1) bytes old new
    → IsRead begun text (line + 1) new more
one_line_at begun text line old new bytes left more so_far is adds = one_line begun text line old new bytes more (subst (λ x. IsRead begun text line old x) is so_far) adds

no_cards : (b : Bool) (part : Part) (n : ℕ) → cards_from b part n [] ≡ []
unfolding cards_from
no_cards b part n = refl

no_faults : (b : Bool) (part : Part) (cards n : ℕ) → faults_from b part cards n [] ≡ []
unfolding faults_from
no_faults b part cards n = refl

same_part : (b : Bool) (part : Part) → part_from b part [] ≡ part
unfolding part_from
same_part b part = refl

none_left : (begun : Begun) (text : List ℕ) (line : ℕ) (punched : Punched) → IsRead begun text line punched [] → HasCards begun text punched line
none_left begun text line punched read = record {
  text = sym (append-nil punched.text.items) ∙ ap (λ cards. punched.text.items ++ joined cards) (sym (no_cards begun.blanks_remarks punched.part (line + 1))) ∙ read.text;
  origins = sym (append-nil punched.origins.items) ∙ ap (λ cards. punched.origins.items ++ numbers cards) (sym (no_cards begun.blanks_remarks punched.part (line + 1))) ∙ read.origins;
  faults = sym (append-nil punched.faults.items) ∙ ap (λ found. punched.faults.items ++ found) (sym (no_faults begun.blanks_remarks punched.part (begun.cards + length punched.origins.items) (line + 1))) ∙ read.faults;
  part = sym (same_part begun.blanks_remarks punched.part) ∙ read.part;
  count = let e = read.count in omega arith;
}

pub all_read : (begun : Begun) (text : List ℕ) (line : ℕ) (punched : Punched) (left : List (List ℕ)) → IsRead begun text line punched left → left ≡ [] → HasCards begun text punched line
all_read begun text line punched left read none = none_left begun text line punched (subst (λ x. IsRead begun text line punched x) none read)

-- ---- a line that has a card
and_true : (b : Bool) → (b && true) ≡ b
and_true true = refl
and_true false = refl

some_card : (b : Bool) (part : Part) (bytes characters card : List ℕ) (form : LineForm) → characters ≡ lossy_chars bytes → Some form ≡ form_of (is_data part) characters → card ≡ card_by b (is_source part) characters form
    → card_of_bytes b part bytes ≡ Some card
unfolding card_of_line
some_card b part bytes characters card form is has laid =
    ap (λ cs. option_map (card_by b (is_source part) cs) (form_of (is_data part) cs)) (sym is) ∙ ap (option_map (card_by b (is_source part) characters)) (sym has) ∙ ap Some (sym laid)

some_faults : (b : Bool) (part : Part) (line : ℕ) (bytes characters card : List ℕ) (form : LineForm) → characters ≡ lossy_chars bytes → Some form ≡ form_of (is_data part) characters → card ≡ card_by b (is_source part) characters form
    → faults_of_line b part line (lossy_chars bytes) ≡ card_faults line characters card form
unfolding faults_of_line
some_faults b part line bytes characters card form is has laid =
    ap (λ cs. form_faults b part line cs (form_of (is_data part) cs)) (sym is) ∙ ap (form_faults b part line characters) (sym has) ∙ ap (λ c. card_faults line characters c form) (sym laid)

pub line_with_card : (begun : Begun) (line : ℕ) (bytes characters card : List ℕ) (form : LineForm) (old kept new : Punched) → characters ≡ lossy_chars bytes → Some form ≡ form_of (is_data old.part) characters
    → card ≡ card_by begun.blanks_remarks (is_source old.part) characters form → KeepsCards old kept → new.text.items ≡ kept.text.items ++ card ++ 10 ∷ [] → new.origins.items ≡ kept.origins.items ++ line ∷ []
    → new.faults.items ≡ (kept.faults.items ++ card_faults line characters card form) ++ fault_if (begun.cards + length kept.origins.items == 9999) line 1 TooManyCards → new.part ≡ part_behind kept.part card
    → AddsLine begun line bytes old new
line_with_card begun line bytes characters card form old kept new is has laid keeps t o f p =
    let b = begun.blanks_remarks in
    let one = some_card b old.part bytes characters card form is has laid in
    let told = some_faults b old.part line bytes characters card form is has laid in
    record {
      text =
          t ∙ ap (λ x. x ++ card ++ 10 ∷ []) keeps.text ∙ append_assoc old.text.items card (10 ∷ []) ∙ ap (λ x. old.text.items ++ x) (sym (append-nil (card ++ 10 ∷ [])))
          ∙ ap (λ c. old.text.items ++ joined (numbered line c)) (sym one);
      origins = o ∙ ap (λ x. x ++ line ∷ []) keeps.origins ∙ ap (λ c. old.origins.items ++ numbers (numbered line c)) (sym one);
      faults =
          f
          ∙ append_assoc kept.faults.items (card_faults line characters card form) _
          ∙ ap (λ x. x ++ (card_faults line characters card form ++ fault_if (begun.cards + length kept.origins.items == 9999) line 1 TooManyCards)) keeps.faults
          ∙ ap (λ n. old.faults.items ++ (card_faults line characters card form ++ fault_if (begun.cards + length n == 9999) line 1 TooManyCards)) keeps.origins
          ∙ ap (λ test. old.faults.items ++ (card_faults line characters card form ++ fault_if test line 1 TooManyCards)) (sym (and_true (begun.cards + length old.origins.items == 9999)))
          ∙ ap (λ found. old.faults.items ++ (found ++ surplus_fault (begun.cards + length old.origins.items) line (Some card))) (sym told)
          ∙ ap (λ c. old.faults.items ++ (faults_of_line b old.part line (lossy_chars bytes) ++ surplus_fault (begun.cards + length old.origins.items) line c)) (sym one);
      part = p ∙ ap (λ part. part_behind part card) keeps.part ∙ ap (part_after old.part) (sym one);
    }
