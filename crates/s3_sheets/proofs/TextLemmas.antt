-- Lemmas about reading a constant code by code.
use Rattle.std.proofs.Common.{◌≡◌, ℕ, ◌+◌, ◌-◌, ◌<◌, ◌≤◌, List, [], ◌∷◌, ◌++◌, Bool, true, false, cond, refl, sym, ◌∙◌, ap, arith, subst, inl, inr, length, take, drop, get_or, suc, add-one, append_assoc, append-nil, length-append, length-drop, replicate}
use Rattle.std.specs.Prelude.{Option, Some, None, option_map, ◌==◌, nat_le, slice_set, if◌then◌else◌}
use Rattle.std.proofs.Math.Seq.{drop-cons, set-append_seam}
use Rattle.std.proofs.lemmas.Bool.{cases_Bool}
use Rattle.std.proofs.lemmas.List.{drop_all, take_all}
use Rattle.std.proofs.lemmas.Bool.Decides.{nat_tests}
use Rattle.s3_sheets.specs.Columns.{are_blank}
use Rattle.s3_sheets.specs.Entries.{text_of, constant}
use Rattle.s3_sheets.specs.Inner.Literals.{with_code, with_next_code, unended, is_behind_end}
use Rattle.s3_lines.specs.declared.sheet.Constant.{Constant}

-- the text read up to a place, and whether the last code may be its closing apostrophe
pub record TextSoFar (codes : List ℕ) (place : ℕ) (text : Constant) (ended : Bool) : Type 0 where
  pub emitted : List ℕ
  pub is : text ≡ constant emitted
  pub rest : text_of false codes ≡ option_map (λ more. emitted ++ more) (text_of ended (drop place codes))
  pub room : length emitted ≤ place
  pub gap : ended ≡ true → length emitted < place

option_map_id : (o : Option (List ℕ)) → o ≡ option_map (λ more. [] ++ more) o
option_map_id None = refl
option_map_id (Some x) = refl

pub none_read : (codes : List ℕ) → TextSoFar codes 0 (record { codes = replicate 24 0x40; length = 0 }) false
none_read codes = record { emitted = []; is = refl; rest = option_map_id (text_of false codes); room = omega arith; gap = λ e. cc }

-- a constant with space for one more character
longer : (text : List ℕ) (code : ℕ) → length text < 24 → with_code (constant text) code ≡ Some (constant (text ++ code ∷ []))
longer text code small =
    let k : ℕ = 24 - (length text + 1) in
    let e : 24 - length text ≡ suc k = omega arith in
    let fits : nat_le 24 (length text) ≡ false = grind (arith, nat_tests) in
    let n : length (text ++ code ∷ []) ≡ length text + 1 = length-append text (code ∷ []) in
    let placed : slice_set (text ++ replicate (24 - length text) 0x40) (length text) code ≡ (text ++ code ∷ []) ++ replicate k 0x40 =
    rw e (set-append_seam text 0x40 (replicate k 0x40) code ∙ sym (append_assoc text (code ∷ []) (replicate k 0x40))) in
    rw (fits, placed, n) refl

-- a full constant can't get another character
full : (text : List ℕ) (code : ℕ) → nat_le 24 (length text) ≡ true → with_code (constant text) code ≡ None
full text code none = rw none refl

room_of : (text : List ℕ) → nat_le 24 (length text) ≡ false → length text < 24
room_of text some = grind (arith, nat_tests)

same_some : (p q : Constant × Bool) → Some p ≡ Some q → p ≡ q
same_some p q e = let o : Option (Constant × Bool) → Constant × Bool = unwrap_or_with p in ap o e
  where
    unwrap_or_with : Constant × Bool → Option (Constant × Bool) → Constant × Bool
    unwrap_or_with d None = d
    unwrap_or_with d (Some x) = x

pushed : (emitted : List ℕ) (code : ℕ) (o : Option (List ℕ))
    → option_map (λ more. emitted ++ more) (option_map (λ more. code ∷ more) o) ≡ option_map (λ more. (emitted ++ code ∷ []) ++ more) o
pushed emitted code None = refl
pushed emitted code (Some more) = ap Some (sym (append_assoc emitted (code ∷ []) more))

-- the code at a place is appended to the text
put_behind : (codes : List ℕ) (place : ℕ) (text : Constant) (ended : Bool) (code : ℕ) (t : Constant) (e : Bool)
    → TextSoFar codes place text ended
    → text_of ended (drop place codes) ≡ option_map (λ more. code ∷ more) (text_of false (drop (place + 1) codes))
    → option_map unended (with_code text code) ≡ Some (t, e) → TextSoFar codes (place + 1) t e
put_behind codes place text ended code t e so_far one next =
    elim (cases_Bool (nat_le 24 (length so_far.emitted))) [
      | inl none ↦ absurd (let f : with_code text code ≡ None = ap (λ x. with_code x code) so_far.is ∙ full so_far.emitted code none in
          let g : option_map unended (with_code text code) ≡ None = ap (option_map unended) f in cc)
      | inr some ↦
          let f : with_code text code ≡ Some (constant (so_far.emitted ++ code ∷ [])) =
          ap (λ x. with_code x code) so_far.is ∙ longer so_far.emitted code (room_of so_far.emitted some) in
          let g : Some (constant (so_far.emitted ++ code ∷ []), false) ≡ Some (t, e) =
          sym (ap (option_map unended) f) ∙ next in
          let n : length (so_far.emitted ++ code ∷ []) ≡ length so_far.emitted + 1 = length-append so_far.emitted (code ∷ []) in
          let both : (constant (so_far.emitted ++ code ∷ []), false) ≡ (t, e) = same_some _ _ g in
          let h : constant (so_far.emitted ++ code ∷ []) ≡ t = ap (λ p. p.0) both in
          let k : false ≡ e = ap (λ p. p.1) both in
          subst (λ (b : Bool). TextSoFar codes (place + 1) t b) k (record {
            emitted = so_far.emitted ++ code ∷ [];
            is = sym h;
            rest = so_far.rest ∙ (ap (option_map (λ more. so_far.emitted ++ more)) one ∙ pushed so_far.emitted code (text_of false (drop (place + 1) codes)));
            room = (let r = so_far.room in omega arith);
            gap = λ bad. cc;
          })
    ]

at_place : (codes : List ℕ) (place d : ℕ) → place < length codes → drop place codes ≡ get_or codes place d ∷ drop (place + 1) codes
at_place codes place d in' = rw (add-one, drop-cons codes place d) refl

-- an apostrophe after another one
pub twice : (code : ℕ) (codes : List ℕ) → (code == 0x7d) ≡ true → text_of true (code ∷ codes) ≡ option_map (λ more. code ∷ more) (text_of false codes)
unfolding text_of
twice code codes is = rw is refl

-- an apostrophe that may close the text
pub may_end : (code : ℕ) (codes : List ℕ) → (code == 0x7d) ≡ true → text_of false (code ∷ codes) ≡ option_map (λ more. more) (text_of true codes)
unfolding text_of
may_end code codes is = rw is refl

pub other : (code : ℕ) (codes : List ℕ) → (code == 0x7d) ≡ false → text_of false (code ∷ codes) ≡ option_map (λ more. code ∷ more) (text_of false codes)
unfolding text_of
other code codes is = rw is refl

behind : (code : ℕ) (codes : List ℕ) → (code == 0x7d) ≡ false → text_of true (code ∷ codes) ≡ cond (are_blank (code ∷ codes)) (Some []) None
unfolding text_of
behind code codes is = rw is refl

option_map_same : (f : List ℕ → List ℕ) (o : Option (List ℕ)) → option_map f (option_map (λ more. more) o) ≡ option_map f o
option_map_same f None = refl
option_map_same f (Some x) = refl

-- ---- the steps of the reading
next_behind : (codes : List ℕ) (place d : ℕ) (text t : Constant) (e : Bool) → TextSoFar codes place text true → place < length codes
    → (get_or codes place d == 0x7d) ≡ true → with_next_code text true (get_or codes place d) ≡ Some (t, e) → TextSoFar codes (place + 1) t e
next_behind codes place d text t e so_far in' is next =
    let one : text_of true (drop place codes) ≡ option_map (λ more. get_or codes place d ∷ more) (text_of false (drop (place + 1) codes)) =
    ap (text_of true) (at_place codes place d in') ∙ twice (get_or codes place d) (drop (place + 1) codes) is in
    put_behind codes place text true (get_or codes place d) t e so_far one (rw is at next)

next_other : (codes : List ℕ) (place d : ℕ) (text t : Constant) (e : Bool) → TextSoFar codes place text false → place < length codes
    → (get_or codes place d == 0x7d) ≡ false → with_next_code text false (get_or codes place d) ≡ Some (t, e) → TextSoFar codes (place + 1) t e
next_other codes place d text t e so_far in' is next =
    let one : text_of false (drop place codes) ≡ option_map (λ more. get_or codes place d ∷ more) (text_of false (drop (place + 1) codes)) =
    ap (text_of false) (at_place codes place d in') ∙ other (get_or codes place d) (drop (place + 1) codes) is in
    put_behind codes place text false (get_or codes place d) t e so_far one (rw is at next)

next_end : (codes : List ℕ) (place d : ℕ) (text t : Constant) (e : Bool) → TextSoFar codes place text false → place < length codes
    → (get_or codes place d == 0x7d) ≡ true → with_next_code text false (get_or codes place d) ≡ Some (t, e) → TextSoFar codes (place + 1) t e
next_end codes place d text t e so_far in' is next =
    let g : Some (text, true) ≡ Some (t, e) = rw is at next in
    let both : (text, true) ≡ (t, e) = same_some _ _ g in
    let same : text ≡ t = ap (λ p. p.0) both in
    let ends : true ≡ e = ap (λ p. p.1) both in
    let one : text_of false (drop place codes) ≡ option_map (λ more. more) (text_of true (drop (place + 1) codes)) =
    ap (text_of false) (at_place codes place d in') ∙ may_end (get_or codes place d) (drop (place + 1) codes) is in
    subst (λ (b : Bool). TextSoFar codes (place + 1) t b) ends (record {
      emitted = so_far.emitted;
      is = sym same ∙ so_far.is;
      rest = so_far.rest
          ∙ (ap (option_map (λ more. so_far.emitted ++ more)) one ∙ option_map_same (λ more. so_far.emitted ++ more) (text_of true (drop (place + 1) codes)));
      room = (let r = so_far.room in omega arith);
      gap = λ good. (let r = so_far.room in omega arith);
    })

next_if : (codes : List ℕ) (place d : ℕ) (text t : Constant) (ended e : Bool) → TextSoFar codes place text ended → place < length codes
    → is_behind_end ended (get_or codes place d) ≡ false → with_next_code text ended (get_or codes place d) ≡ Some (t, e) → TextSoFar codes (place + 1) t e
next_if codes place d text t true e so_far in' not_behind next = elim (cases_Bool (get_or codes place d == 0x7d)) [
  | inl is ↦ next_behind codes place d text t e so_far in' is next
  | inr is ↦ absurd (let f = rw is at not_behind in cc)
]
next_if codes place d text t false e so_far in' not_behind next = elim (cases_Bool (get_or codes place d == 0x7d)) [
  | inl is ↦ next_end codes place d text t e so_far in' is next
  | inr is ↦ next_other codes place d text t e so_far in' is next
]

-- one more code is read
pub next_read : (codes : List ℕ) (place d : ℕ) (text t : Constant) (ended e : Bool) → TextSoFar codes place text ended → place < length codes
    → is_behind_end ended (get_or codes place d) ≡ false → with_next_code text ended (get_or codes place d) ≡ Some (t, e) → TextSoFar codes (place + 1) t e
next_read = next_if

-- a code after the closing apostrophe
pub closed_at : (codes : List ℕ) (place d : ℕ) (text : Constant) (ended : Bool) → TextSoFar codes place text ended → place < length codes
    → is_behind_end ended (get_or codes place d) ≡ true → (if are_blank (drop place codes) then Some text else None) ≡ option_map constant (text_of false codes)
closed_at codes place d text false so_far in' is_behind = absurd (cc)
closed_at codes place d text true so_far in' is_behind = elim (cases_Bool (get_or codes place d == 0x7d)) [
  | inl is ↦ absurd (let f = rw is at is_behind in cc)
  | inr is ↦
      let one : text_of true (drop place codes) ≡ cond (are_blank (drop place codes)) (Some []) None =
      ap (text_of true) (at_place codes place d in') ∙ (behind (get_or codes place d) (drop (place + 1) codes) is
      ∙ sym (ap (λ xs. cond (are_blank xs) (Some []) None) (at_place codes place d in'))) in
      let all : text_of false codes ≡ option_map (λ more. so_far.emitted ++ more) (cond (are_blank (drop place codes)) (Some []) None) =
      so_far.rest ∙ ap (option_map (λ more. so_far.emitted ++ more)) one in
      elim (cases_Bool (are_blank (drop place codes))) [
        | inl good ↦ (let f = rw good at all in rw good (rw f (ap Some (so_far.is ∙ ap constant (sym (append-nil so_far.emitted))))))
        | inr bad ↦ (let f = rw bad at all in rw bad (rw f refl))
      ]
]

nothing_behind : (codes : List ℕ) (n : ℕ) → length codes ≤ n → drop n codes ≡ []
nothing_behind codes n short = drop_all n codes short

no_text : (codes : List ℕ) → codes ≡ [] → text_of false codes ≡ None
unfolding text_of
no_text codes e = ap (text_of false) e

an_empty_text : (codes : List ℕ) → codes ≡ [] → text_of true codes ≡ Some []
unfolding text_of
an_empty_text codes e = ap (text_of true) e

-- a constant is full only at the last of twenty-five codes, which then isn't an apostrophe
pub no_room_left : (codes : List ℕ) (place d : ℕ) (text : Constant) (ended : Bool) → TextSoFar codes place text ended → place < length codes
    → length codes ≤ 25 → is_behind_end ended (get_or codes place d) ≡ false → with_next_code text ended (get_or codes place d) ≡ None
    → None ≡ option_map constant (text_of false codes)
no_room_left codes place d text true so_far in' short not_behind next =
    let small : length so_far.emitted < place = so_far.gap refl in
    let some : nat_le 24 (length so_far.emitted) ≡ false = grind (arith, nat_tests) in
    let f : with_code text (get_or codes place d) ≡ Some (constant (so_far.emitted ++ get_or codes place d ∷ [])) =
    ap (λ x. with_code x (get_or codes place d)) so_far.is ∙ longer so_far.emitted (get_or codes place d) (room_of so_far.emitted some) in
    elim (cases_Bool (get_or codes place d == 0x7d)) [
      | inl is ↦ absurd (let g = rw is at next in let h : option_map unended (with_code text (get_or codes place d)) ≡ Some (unended (constant (so_far.emitted ++ get_or codes place d ∷ []))) = ap (option_map unended) f in cc)
      | inr is ↦ absurd (let g = rw is at not_behind in cc)
    ]
no_room_left codes place d text false so_far in' short not_behind next =
    elim (cases_Bool (get_or codes place d == 0x7d)) [
      | inl is ↦ absurd (let g = rw is at next in cc)
      | inr is ↦ elim (cases_Bool (nat_le 24 (length so_far.emitted))) [
        | inl none ↦
            let large : 24 ≤ length so_far.emitted = grind (arith, nat_tests) in
            let last : drop (place + 1) codes ≡ [] = nothing_behind codes (place + 1) (let r = so_far.room in omega arith) in
            let one : text_of false (drop place codes) ≡ None =
            ap (text_of false) (at_place codes place d in')
            ∙ (other (get_or codes place d) (drop (place + 1) codes) is
            ∙ ap (option_map (λ more. get_or codes place d ∷ more)) (no_text (drop (place + 1) codes) last)) in
            let all : text_of false codes ≡ None = so_far.rest ∙ ap (option_map (λ more. so_far.emitted ++ more)) one in
            rw all refl
        | inr some ↦ absurd (
            let f : with_code text (get_or codes place d) ≡ Some (constant (so_far.emitted ++ get_or codes place d ∷ [])) =
            ap (λ x. with_code x (get_or codes place d)) so_far.is ∙ longer so_far.emitted (get_or codes place d) (room_of so_far.emitted some) in
            let g = rw is at next in
            let h : option_map unended (with_code text (get_or codes place d)) ≡ Some (unended (constant (so_far.emitted ++ get_or codes place d ∷ []))) = ap (option_map unended) f in cc)
      ]
    ]

-- all codes are read
pub ended_at : (codes : List ℕ) (place : ℕ) (text : Constant) (ended : Bool) → TextSoFar codes place text ended → length codes ≤ place
    → ended ≡ true → Some text ≡ option_map constant (text_of false codes)
ended_at codes place text false so_far whole e = absurd cc
ended_at codes place text true so_far whole e =
    let one : text_of true (drop place codes) ≡ Some [] = an_empty_text (drop place codes) (nothing_behind codes place whole) in
    let all : text_of false codes ≡ Some (so_far.emitted ++ []) = so_far.rest ∙ ap (option_map (λ more. so_far.emitted ++ more)) one in
    rw all (ap Some (so_far.is ∙ ap constant (sym (append-nil so_far.emitted))))

pub unended_at : (codes : List ℕ) (place : ℕ) (text : Constant) (ended : Bool) → TextSoFar codes place text ended → length codes ≤ place
    → ended ≡ false → None ≡ option_map constant (text_of false codes)
unended_at codes place text true so_far whole e = absurd cc
unended_at codes place text false so_far whole e =
    let one : text_of false (drop place codes) ≡ None = no_text (drop place codes) (nothing_behind codes place whole) in
    let all : text_of false codes ≡ None = so_far.rest ∙ ap (option_map (λ more. so_far.emitted ++ more)) one in
    rw all refl

-- a code after the closing apostrophe, with the codes from that place on
pub closed_from : (codes : List ℕ) (place d : ℕ) (text : Constant) (ended : Bool) → TextSoFar codes place text ended → place < length codes
    → is_behind_end ended (get_or codes place d) ≡ true
    → (if are_blank (take (length codes - place) (drop place codes)) then Some text else None) ≡ option_map constant (text_of false codes)
closed_from codes place d text ended so_far in' is_behind =
    rw (take_all (length codes - place) (drop place codes) (omega (arith, length-drop place codes))) (closed_at codes place d text ended so_far in' is_behind)
