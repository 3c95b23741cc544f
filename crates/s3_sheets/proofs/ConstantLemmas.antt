-- A constant is read as the text it was written for, and other columns aren't a constant.
use Rattle.std.proofs.Common.{◌≡◌, ◌≢◌, ℕ, zero, suc, List, [], ◌∷◌, ◌++◌, true, false, refl, sym, ◌∙◌, ap, subst, inl, inr, length, replicate, ◌↔◌}
use Rattle.std.specs.Prelude.{Option, Some, None, option_map, ◌==◌}
use Rattle.std.specs.Option.{option_and_then}
use Rattle.std.proofs.lemmas.Bool.{cases_Bool, eqb-true}
use Rattle.s3_sheets.proofs.TextLemmas.{twice, may_end, other}
use Rattle.s3_sheets.specs.Columns.{are_blank}
use Rattle.s3_sheets.specs.Entries.{text_of, constant_text, unless_empty}
use Rattle.s3_sheets.specs.Inner.Literals.{doubled, written, IsConstant}

blanks_are_blank : (n : ℕ) → are_blank (replicate n 0x40) ≡ true
blanks_are_blank zero = refl
blanks_are_blank (suc n) = blanks_are_blank n

ended_by_blanks : (n : ℕ) → text_of true (replicate n 0x40) ≡ Some []
unfolding text_of
ended_by_blanks zero = refl
ended_by_blanks (suc n) = rw (blanks_are_blank n) refl

option_map_same : (o : Option (List ℕ)) → option_map (λ text. text) o ≡ o
option_map_same None = refl
option_map_same (Some text) = refl

doubled_apostrophe : (code : ℕ) (text more : List ℕ) → (code == 0x7d) ≡ true → doubled (code ∷ text) ++ more ≡ code ∷ code ∷ (doubled text ++ more)
doubled_apostrophe code text more is = rw is refl

doubled_other : (code : ℕ) (text more : List ℕ) → (code == 0x7d) ≡ false → doubled (code ∷ text) ++ more ≡ code ∷ (doubled text ++ more)
doubled_other code text more is = rw is refl

end_read : (n : ℕ) → text_of false (0x7d ∷ replicate n 0x40) ≡ Some []
end_read n = may_end 0x7d (replicate n 0x40) refl ∙ ap (option_map (λ text. text)) (ended_by_blanks n)

-- a written text is read back
read_back : (text : List ℕ) (n : ℕ) → text_of false (doubled text ++ 0x7d ∷ replicate n 0x40) ≡ Some text
read_back [] n = end_read n
read_back (code ∷ text) n = elim (cases_Bool (code == 0x7d)) [
  | inl is ↦
      ap (text_of false) (doubled_apostrophe code text (0x7d ∷ replicate n 0x40) is)
      ∙ (may_end code (code ∷ (doubled text ++ 0x7d ∷ replicate n 0x40)) is
      ∙ (option_map_same (text_of true (code ∷ (doubled text ++ 0x7d ∷ replicate n 0x40)))
      ∙ (twice code (doubled text ++ 0x7d ∷ replicate n 0x40) is ∙ ap (option_map (λ more. code ∷ more)) (read_back text n))))
  | inr is ↦
      ap (text_of false) (doubled_other code text (0x7d ∷ replicate n 0x40) is)
      ∙ (other code (doubled text ++ 0x7d ∷ replicate n 0x40) is ∙ ap (option_map (λ more. code ∷ more)) (read_back text n))
]

pub written_read : (text : List ℕ) (n : ℕ) → text ≢ [] → constant_text (written text n) ≡ Some text
unfolding constant_text
written_read [] n some = absurd (some refl)
written_read (code ∷ text) n some = ap (option_and_then unless_empty) (read_back (code ∷ text) n)

-- the inverse of `option_map`
inverted : (f : List ℕ → List ℕ) (o : Option (List ℕ)) (text : List ℕ) → option_map f o ≡ Some text → (more : List ℕ) × (o ≡ Some more) × (f more ≡ text)
inverted f None text e = absurd cc
inverted f (Some more) text e = (more, refl, same_some (f more) text e)
  where
    value_or : List ℕ → Option (List ℕ) → List ℕ
    value_or d None = d
    value_or d (Some x) = x

    same_some : (x y : List ℕ) → Some x ≡ Some y → x ≡ y
    same_some x y e = ap (value_or x) e

pub all_blank : (codes : List ℕ) → are_blank codes ≡ true → codes ≡ replicate (length codes) 0x40
all_blank [] e = refl
all_blank (code ∷ codes) e = elim (cases_Bool (code == 0x40)) [
  | inl is ↦ (let more : are_blank codes ≡ true = rw is at e in rw (eqb-true code 0x40 is) (ap (λ xs. 0x40 ∷ xs) (all_blank codes more)))
  | inr different ↦ absurd (let f = rw different at e in cc)
]

abbrev pub IsWritten : List ℕ → List ℕ → Type 0
IsWritten codes text = (n : ℕ) × (codes ≡ doubled text ++ 0x7d ∷ replicate n 0x40)

-- an apostrophe within the text
apostrophe_more : (rest more text : List ℕ) (code next : ℕ) → (code == 0x7d) ≡ true → (next == 0x7d) ≡ true → IsWritten rest more → next ∷ more ≡ text
    → IsWritten (code ∷ next ∷ rest) text
apostrophe_more rest more text code next is is' so_far e =
    let same : code ≡ next = eqb-true code 0x7d is ∙ sym (eqb-true next 0x7d is') in (
      so_far.0,
      ap (λ c. c ∷ next ∷ rest) same
          ∙ (ap (λ xs. next ∷ next ∷ xs) so_far.1
          ∙ subst (λ (t : List ℕ). next ∷ next ∷ (doubled more ++ 0x7d ∷ replicate so_far.0 0x40) ≡ doubled t ++ 0x7d ∷ replicate so_far.0 0x40) e (rw is' refl)),
    )

-- another character of the text
character_more : (rest more text : List ℕ) (code : ℕ) → (code == 0x7d) ≡ false → IsWritten rest more → code ∷ more ≡ text → IsWritten (code ∷ rest) text
character_more rest more text code different so_far e = (
  so_far.0,
  ap (λ xs. code ∷ xs) so_far.1
      ∙ subst (λ (t : List ℕ). code ∷ (doubled more ++ 0x7d ∷ replicate so_far.0 0x40) ≡ doubled t ++ 0x7d ∷ replicate so_far.0 0x40) e (rw different refl),
)

-- the end of the text
ends : (rest text : List ℕ) (code : ℕ) → (code == 0x7d) ≡ true → are_blank rest ≡ true → [] ≡ text → IsWritten (code ∷ rest) text
ends rest text code is blank e = (
  length rest,
  ap (λ c. c ∷ rest) (eqb-true code 0x7d is)
      ∙ (ap (λ xs. 0x7d ∷ xs) (all_blank rest blank)
      ∙ subst (λ (t : List ℕ). 0x7d ∷ replicate (length rest) 0x40 ≡ doubled t ++ 0x7d ∷ replicate (length rest) 0x40) e refl),
)

some_nil : (text : List ℕ) → Some [] ≡ Some text → [] ≡ text
some_nil text e = ap value e
  where
    value : Option (List ℕ) → List ℕ
    value None = []
    value (Some x) = x

-- a text that was read was written so
was_written : (codes text : List ℕ) → text_of false codes ≡ Some text → IsWritten codes text
unfolding text_of
was_written [] text e = absurd cc
was_written (code ∷ []) text e = elim (cases_Bool (code == 0x7d)) [
  | inl is ↦ (let f = rw is at e in ends [] text code is refl (some_nil text f))
  | inr different ↦ absurd (let f = rw different at e in cc)
]
was_written (code ∷ next ∷ rest) text e = elim (cases_Bool (code == 0x7d)) [
  | inl is ↦ elim (cases_Bool (next == 0x7d)) [
    | inl is' ↦
        let f = rw (is, is') at e in
        let g : option_map (λ text. next ∷ text) (text_of false rest) ≡ Some text = sym (option_map_same (option_map (λ text. next ∷ text) (text_of false rest))) ∙ f in
        let h : (more : List ℕ) × (text_of false rest ≡ Some more) × (next ∷ more ≡ text) = inverted (λ more. next ∷ more) (text_of false rest) text g in
        apostrophe_more rest h.0 text code next is is' (was_written rest h.0 h.1) h.2
    | inr different ↦
        let f = rw (is, different) at e in
        elim (cases_Bool (are_blank (next ∷ rest))) [
          | inl blank ↦ (let g = rw blank at f in ends (next ∷ rest) text code is blank (some_nil text g))
          | inr filled ↦ absurd (let g = rw filled at f in cc)
        ]
  ]
  | inr different ↦
      let f = rw different at e in
      let h : (more : List ℕ) × (text_of false (next ∷ rest) ≡ Some more) × (code ∷ more ≡ text) = inverted (λ more. code ∷ more) (text_of false (next ∷ rest)) text f in
      character_more (next ∷ rest) h.0 text code different (was_written (next ∷ rest) h.0 h.1) h.2
]

not_empty : (o : Option (List ℕ)) (text : List ℕ) → option_and_then unless_empty o ≡ Some text → (o ≡ Some text) × (text ≢ [])
not_empty None text e = absurd cc
not_empty (Some []) text e = absurd cc
not_empty (Some (code ∷ more)) text e = (e, λ none. absurd (let f : Some (code ∷ more) ≡ Some [] = e ∙ ap Some none in cc))

pub written_constant : (codes text : List ℕ) → constant_text codes ≡ Some text → IsConstant codes text
unfolding constant_text
written_constant [] text e = absurd cc
written_constant (first ∷ codes) text e = elim (cases_Bool (first == 0x7d)) [
  | inl is ↦
      let f : option_and_then unless_empty (text_of false codes) ≡ Some text = rw is at e in
      let g : (text_of false codes ≡ Some text) × (text ≢ []) = not_empty (text_of false codes) text f in
      let h : IsWritten codes text = was_written codes text g.0 in
      (g.1, (h.0, ap (λ c. c ∷ codes) (eqb-true first 0x7d is) ∙ ap (λ xs. 0x7d ∷ xs) h.1))
  | inr different ↦ absurd (let f = rw different at e in cc)
]

pub both_ways : (codes text : List ℕ) → (constant_text codes ≡ Some text) ↔ IsConstant codes text
both_ways codes text = (written_constant codes text, λ is. ap constant_text is.1.1 ∙ written_read text is.1.0 is.0)
