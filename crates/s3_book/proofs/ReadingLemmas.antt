-- What is read of a report that is marked up, and which bytes a value has none of.
use Rattle.std.proofs.Common.{◌≡◌, ℕ, ◌==◌, ◌&&◌, not, Bool, true, false, List, [], ◌∷◌, ◌++◌, refl, sym, ap, ◌∙◌, codes, if◌then◌else◌}
use Rattle.std.proofs.lemmas.Bool.{eqb-true}
use Rattle.std.proofs.lemmas.List.Folds.{list_all-append}
use Rattle.std.specs.List.{flat_map}
use Rattle.s3_book.specs.Inner.Parts.{escaped, marked}
use Rattle.s3_book.specs.Inner.Reading.{at_entity, at_tag, has_none, in_text, read}

-- ---- bytes that a value has none of

none_of_either : (mark : ℕ) (b : Bool) (xs ys : List ℕ) → has_none mark xs ≡ true → (b ≡ false → has_none mark ys ≡ true) → has_none mark (if b then xs else ys) ≡ true
none_of_either mark true xs ys first other = first
none_of_either mark false xs ys first other = other refl

none_of_one : (mark byte : ℕ) → (byte == mark) ≡ false → has_none mark (byte ∷ []) ≡ true
none_of_one mark byte differs = ap (λ same. not same && true) differs

-- the entity of each special byte has none, and a byte that isn't special is none
none_of_byte : (mark byte : ℕ) → has_none mark (codes "&amp;") ≡ true → has_none mark (codes "&lt;") ≡ true → has_none mark (codes "&gt;") ≡ true
    → has_none mark (codes "&quot;") ≡ true → has_none mark (codes "&#39;") ≡ true
    → ((byte == 60) ≡ false → (byte == 62) ≡ false → (byte == 34) ≡ false → (byte == mark) ≡ false) → has_none mark (escaped byte) ≡ true
none_of_byte mark byte amp lt gt quot apos plain =
    none_of_either mark (byte == 38) _ _ amp (λ _.
    none_of_either mark (byte == 60) _ _ lt (λ not_60.
    none_of_either mark (byte == 62) _ _ gt (λ not_62.
    none_of_either mark (byte == 34) _ _ quot (λ not_34.
    none_of_either mark (byte == 39) _ _ apos (λ _. none_of_one mark byte (plain not_60 not_62 not_34))))))

none_of_all : (mark : ℕ) → ((byte : ℕ) → has_none mark (escaped byte) ≡ true) → (value : List ℕ) → has_none mark (flat_map escaped value) ≡ true
none_of_all mark each [] = refl
none_of_all mark each (byte ∷ bytes) =
    list_all-append (λ other. not (other == mark)) (escaped byte) (flat_map escaped bytes)
    ∙ ap (λ b. b && has_none mark (flat_map escaped bytes)) (each byte) ∙ none_of_all mark each bytes

pub none_begins : (value : List ℕ) → has_none 60 (flat_map escaped value) ≡ true
none_begins value = none_of_all 60 (λ byte. none_of_byte 60 byte refl refl refl refl refl (λ not_60 _ _. not_60)) value

pub none_ends : (value : List ℕ) → has_none 62 (flat_map escaped value) ≡ true
none_ends value = none_of_all 62 (λ byte. none_of_byte 62 byte refl refl refl refl refl (λ _ not_62 _. not_62)) value

pub none_quotes : (value : List ℕ) → has_none 34 (flat_map escaped value) ≡ true
none_quotes value = none_of_all 34 (λ byte. none_of_byte 34 byte refl refl refl refl refl (λ _ _ not_34. not_34)) value

-- ---- reading back

read_either : (b : Bool) (mark byte : ℕ) (xs ys rest : List ℕ) → (b ≡ true → byte ≡ mark) → read in_text (xs ++ rest) ≡ mark ∷ read in_text rest
    → (b ≡ false → read in_text (ys ++ rest) ≡ byte ∷ read in_text rest) → read in_text ((if b then xs else ys) ++ rest) ≡ byte ∷ read in_text rest
read_either true mark byte xs ys rest same first other = first ∙ ap (λ n. n ∷ read in_text rest) (sym (same refl))
read_either false mark byte xs ys rest same first other = other refl

read_literal : (mark byte : ℕ) (xs ys rest : List ℕ) → read in_text (xs ++ rest) ≡ mark ∷ read in_text rest
    → ((byte == mark) ≡ false → read in_text (ys ++ rest) ≡ byte ∷ read in_text rest) → read in_text ((if byte == mark then xs else ys) ++ rest) ≡ byte ∷ read in_text rest
read_literal mark byte xs ys rest first other = read_either (byte == mark) mark byte xs ys rest (eqb-true byte mark) first other

-- a byte that begins neither a tag nor an entity is read as it is
plain_gets : (a b : Bool) (byte : ℕ) (rest : List ℕ) → a ≡ false → b ≡ false
    → (if a then [] else if b then [] else byte ∷ []) ++ read (if a then at_tag else if b then at_entity else in_text) rest ≡ byte ∷ read in_text rest
plain_gets a b byte rest not_a not_b =
    ap (λ x. (if x then [] else if b then [] else byte ∷ []) ++ read (if x then at_tag else if b then at_entity else in_text) rest) not_a
    ∙ ap (λ x. (if x then [] else byte ∷ []) ++ read (if x then at_entity else in_text) rest) not_b

read_byte : (byte : ℕ) (rest : List ℕ) → read in_text (marked byte ++ rest) ≡ byte ∷ read in_text rest
read_byte byte rest =
    read_literal 10 byte _ _ rest refl (λ _.
    read_literal 13 byte _ _ rest refl (λ _.
    read_literal 12 byte _ _ rest refl (λ _.
    read_literal 38 byte _ _ rest refl (λ not_38.
    read_literal 60 byte _ _ rest refl (λ not_60.
    read_literal 62 byte _ _ rest refl (λ _.
    read_literal 34 byte _ _ rest refl (λ _.
    read_literal 39 byte _ _ rest refl (λ _. plain_gets (byte == 60) (byte == 38) byte rest not_60 not_38))))))))

-- the parts of a text one after another
append_marked : (byte : ℕ) (bytes : List ℕ) → read in_text (flat_map marked (byte ∷ bytes)) ≡ byte ∷ read in_text (flat_map marked bytes)
append_marked byte bytes = read_byte byte (flat_map marked bytes)

pub read_marked : (text : List ℕ) → read in_text (flat_map marked text) ≡ text
read_marked [] = refl
read_marked (byte ∷ bytes) = append_marked byte bytes ∙ ap (λ more. byte ∷ more) (read_marked bytes)
