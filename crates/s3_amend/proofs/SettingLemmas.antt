-- Fields that are named one after another, and their values.
use Rattle.std.proofs.Common.{◌≡◌, ℕ, ◌+◌, ◌<◌, refl, arith, sym, ◌∙◌, ap, subst, false, List, [], ◌∷◌, ◌++◌, length, get_or, inl, inr}
use Rattle.std.specs.List.{All, Contains}
use Rattle.std.proofs.lemmas.List.{get_or-map, get_or_append_left, get_or_default, get_or_push, length-append}
use Rattle.std.proofs.lemmas.List.Elements.{All-contains}
use Rattle.std.proofs.lemmas.Bool.{cases_eq}
use Rattle.s3_slots.specs.declared.label.FileLabel.{FileLabel}
use Rattle.s3_cells.specs.Inner.Fields.{LiesIn, Takes}
use Rattle.s3_cells.specs.declared.field.Field.{Field}
use Rattle.s3_load.specs.Inner.Columns.{IsNamed}
use Rattle.s3_load.proofs.RecordLemmas.{takes_well}
use Rattle.s3_amend.specs.Inner.Settings.{AddsNamed, AreNamed, is_in_key, values_of}
use Rattle.s3_amend.specs.declared.amendment.Setting.{Setting}

pub named_lies : (fields : List Field) (name : List ℕ) (n : ℕ) (field : Field) → All (LiesIn n) fields → IsNamed fields name field → LiesIn n field
named_lies fields name n field all named = All-contains (LiesIn n) fields field all named.there

all_push : (P : Field → Type 0) (old new : List Field) (last : Field) → new ≡ old ++ last ∷ [] → All P old → P last → All P new
all_push P old new last is all one = subst (λ xs. All P xs) (sym is) (λ k d h. elim (cases_eq k (length old)) [
  | inl here ↦ subst P (sym (get_or_push old last d k (sym here))) one
  | inr other ↦
      let long = length-append old (last ∷ []) in
      let few : k < length old = omega (arith, h, other, long) in
      subst P (sym (get_or_append_left old (last ∷ []) d k few)) (all k d few)
])

pub none_named : (fields : List Field) (label : FileLabel) (settings : List Setting) → AreNamed fields label settings 0 []
none_named fields label settings = record { counted = refl; each = λ k d s h. absurd (omega arith); among = λ k d h. absurd (omega arith); unkeyed = λ k d h. absurd (omega arith) }

pub one_more_named : (fields : List Field) (label : FileLabel) (settings : List Setting) (i : ℕ) (setting : Setting) (old new : List Field) → i < length settings → setting ≡ get_or settings i setting
    → AreNamed fields label settings i old → AddsNamed fields label setting old new → AreNamed fields label settings (i + 1) new
one_more_named fields label settings i setting old new low is before adds =
    let counted = before.counted in
    let long : length new ≡ i + 1 = ap length adds.added ∙ length-append old (adds.field ∷ []) ∙ omega arith in
    record {
      counted = long;
      each = λ k d s h. elim (cases_eq k i) [
        | inl here ↦
            let last : get_or new k d ≡ adds.field = ap (λ xs. get_or xs k d) adds.added ∙ get_or_push old adds.field d k (counted ∙ sym here) in
            let one : get_or settings k s ≡ setting = ap (λ n. get_or settings n s) here ∙ get_or_default settings i s setting low ∙ sym is in
            subst (λ f. IsNamed fields (get_or settings k s).name.now f) (sym last) (subst (λ (t : Setting). IsNamed fields t.name.now adds.field) (sym one) adds.named)
        | inr other ↦
            let few : k < i = omega arith in
            let same : get_or new k d ≡ get_or old k d = ap (λ xs. get_or xs k d) adds.added ∙ get_or_append_left old (adds.field ∷ []) d k (omega arith) in
            subst (λ f. IsNamed fields (get_or settings k s).name.now f) (sym same) (before.each k d s few)
      ];
      among = all_push (Contains fields) old new adds.field adds.added before.among adds.named.there;
      unkeyed = all_push (λ field. is_in_key label field ≡ false) old new adds.field adds.added before.unkeyed adds.unkeyed;
    }

pub taken_long : (field : Field) (value old new : List ℕ) → LiesIn (length old) field → Takes field value old new → length new ≡ length old
taken_long field value old new lies takes = (takes_well field value old new lies takes).long

pub value_get : (settings : List Setting) (i : ℕ) (d : Setting) → i < length settings → (get_or settings i d).value.now ≡ get_or (values_of settings) i []
value_get settings i d low = sym (get_or-map (λ (s : Setting). s.value.now) settings i d [] low)

pub one_more_at : (fields : List Field) (label : FileLabel) (settings : List Setting) (i : ℕ) (d : Setting) (old new : List Field) → i < length settings → AreNamed fields label settings i old → AddsNamed fields label (get_or settings i d) old new
    → AreNamed fields label settings (i + 1) new
one_more_at fields label settings i d old new low before adds = one_more_named fields label settings i (get_or settings i d) old new low (get_or_default settings i d (get_or settings i d) low) before adds

pub all_lie : (fields : List Field) (label : FileLabel) (settings : List Setting) (n count : ℕ) (named : List Field) → All (LiesIn n) fields → AreNamed fields label settings count named → All (LiesIn n) named
all_lie fields label settings n count named all are k d h = All-contains (LiesIn n) fields (get_or named k d) all (are.among k d h)
