-- Columns that are named one after another.
use Rattle.std.proofs.Common.{◌≡◌, ℕ, ◌+◌, ◌<◌, refl, arith, sym, ◌∙◌, ap, ap₂, subst, Bool, true, false, ◌&&◌, not, List, [], ◌∷◌, length, take, get_or, inl, inr}
use Rattle.std.specs.Prelude.{Some, None}
use Rattle.csv.specs.Records.{field_at}
use Rattle.csv.proofs.RecordFacts.{field-get, field-there}
use Rattle.std.specs.List.{list_all, list_any}
use Rattle.std.proofs.lemmas.List.{get_or-take, get_or_append_left, get_or_default, get_or_push, length-append, length-take-le}
use Rattle.std.proofs.lemmas.List.Folds.{list_all_more, list_any_at}
use Rattle.std.proofs.lemmas.Bool.{cases_Bool, cases_eq}
use Rattle.s3_cells.specs.declared.field.Field.{Field}
use Rattle.s3_unload.specs.Inner.Tables.{name_text}
use Rattle.s3_load.specs.Inner.Settling.{is_settled}
use Rattle.s3_load.specs.Inner.Columns.{AddsColumn, AreNamed, IsNamed, LieApart, bare, is_clear, is_number, overlap}

pub none_told : {X : Type 0} (xs : List X) (P : Type 0) → 0 < length xs → xs ≡ [] → P
none_told xs P some none = absurd (omega (arith, some, ap length none))

pub all_of_none : (p : Field → Bool) (xs : List Field) → xs ≡ [] → list_all p xs ≡ true
all_of_none p xs none = ap (list_all p) none

-- ---- cells
pub some_cell : (fields : List (List ℕ)) (i : ℕ) (x : List ℕ) → Some x ≡ field_at fields i → x ≡ get_or fields i []
some_cell fields i x h = sym (field-get fields i x (sym h))

pub none_cell : (fields : List (List ℕ)) (i : ℕ) → i < length fields → None ≡ field_at fields i → [] ≡ get_or fields i []
none_cell fields i h none = absurd (field-there fields i h (sym none))

-- ---- names
pub is_one_of : (fields : List Field) (text : List ℕ) (i : ℕ) (f : Field) → i < length fields → f ≡ get_or fields i f → name_text f.name ≡ text → IsNamed fields text f
is_one_of fields text i f h is named = record { there = (i, h, sym is); named = named }

pub none_named : (fields : List Field) (cells : List (List ℕ)) → AreNamed fields cells 0 []
none_named fields cells = record { counted = refl; each = λ k d h. absurd (omega arith) }

pub one_more_named : (fields : List Field) (cells : List (List ℕ)) (i : ℕ) (old new : List Field) → AreNamed fields cells i old → AddsColumn fields (bare (get_or cells i [])) old new → AreNamed fields cells (i + 1) new
one_more_named fields cells i old new before adds =
    let counted = before.counted in
    let long : length new ≡ i + 1 = ap length adds.added ∙ length-append old (adds.field ∷ []) ∙ omega arith in
    record {
      counted = long;
      each = λ k d h. elim (cases_eq k i) [
        | inl here ↦
            let last : get_or new k d ≡ adds.field = ap (λ xs. get_or xs k d) adds.added ∙ get_or_push old adds.field d k (counted ∙ sym here) in
            let cell : bare (get_or cells i []) ≡ bare (get_or cells k []) = ap (λ n. bare (get_or cells n [])) (sym here) in
            subst (λ f. IsNamed fields (bare (get_or cells k [])) f) (sym last) (subst (λ t. IsNamed fields t adds.field) cell adds.column)
        | inr other ↦
            let low : k < i = omega arith in
            let same : get_or new k d ≡ get_or old k d = ap (λ xs. get_or xs k d) adds.added ∙ get_or_append_left old (adds.field ∷ []) d k (omega arith) in
            subst (λ f. IsNamed fields (bare (get_or cells k [])) f) (sym same) (before.each k d low)
      ];
    }

-- ---- numbers that can be 0
pub clear_text : (columns : List Field) (field : Field) → is_number field.kind ≡ false → is_clear columns field ≡ true
clear_text columns field h = ap (λ b. not (b && list_any (λ other. overlap other field) columns)) h

pub clear_number : (columns : List Field) (field : Field) → list_any (λ other. overlap other field) columns ≡ false → is_clear columns field ≡ true
clear_number columns field h = ap (λ b. not (is_number field.kind && b)) h ∙ elim (is_number field.kind) as (λ b. not (b && false) ≡ true) [ true ↦ refl | false ↦ refl ]

pub one_more_clear : (columns fields : List Field) (i : ℕ) (f : Field) → i < length fields → f ≡ get_or fields i f → list_all (is_clear columns) (take i fields) ≡ true → is_clear columns f ≡ true
    → list_all (is_clear columns) (take (i + 1) fields) ≡ true
one_more_clear columns fields i f h is before one =
    list_all_more (is_clear columns) fields i f h ∙ ap₂ (λ a b. a && b) before (sym (ap (is_clear columns) is) ∙ one)

-- no two of the first so many lie over each other
abbrev pub ApartBelow : List Field → ℕ → Type 0
ApartBelow columns count = (i j : ℕ) (d : Field) → i < j → j < count → overlap (get_or columns i d) (get_or columns j d) ≡ false

pub none_apart : (columns : List Field) → ApartBelow columns 0
none_apart columns i j d low high = absurd (omega arith)

none_any : (p : Field → Bool) (xs : List Field) (i : ℕ) (d : Field) → i < length xs → list_any p xs ≡ false → p (get_or xs i d) ≡ false
none_any p xs i d h none = elim (cases_Bool (p (get_or xs i d))) [
  | inl it ↦ absurd (cc (list_any_at p xs i d h it))
  | inr other ↦ other
]

pub one_more_apart : (columns : List Field) (n : ℕ) (f : Field) → n < length columns → f ≡ get_or columns n f → ApartBelow columns n → list_any (λ other. overlap other f) (take n columns) ≡ false → ApartBelow columns (n + 1)
one_more_apart columns n f h is before one i j d low high = elim (cases_eq j n) [
  | inl here ↦
      let long : length (take n columns) ≡ n = length-take-le n columns (omega arith) in
      let at : get_or (take n columns) i d ≡ get_or columns i d = get_or-take n columns i d (omega arith) in
      let other : get_or columns j d ≡ f = ap (λ k. get_or columns k d) here ∙ get_or_default columns n d f h ∙ sym is in
      let apart : overlap (get_or (take n columns) i d) f ≡ false = none_any (λ o. overlap o f) (take n columns) i d (omega arith) one in
      ap₂ overlap (sym at) other ∙ apart
  | inr more ↦ before i j d low (omega arith)
]

pub all_apart : (columns : List Field) → ApartBelow columns (length columns) → LieApart columns
all_apart columns h = h

-- ---- filled
pub one_more_settled : (bytes : List ℕ) (fields : List Field) (i : ℕ) (f : Field) → i < length fields → f ≡ get_or fields i f → list_all (is_settled bytes) (take i fields) ≡ true → is_settled bytes f ≡ true
    → list_all (is_settled bytes) (take (i + 1) fields) ≡ true
one_more_settled bytes fields i f h is before one =
    list_all_more (is_settled bytes) fields i f h ∙ ap₂ (λ a b. a && b) before (sym (ap (is_settled bytes) is) ∙ one)
