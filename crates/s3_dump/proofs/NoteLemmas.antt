-- Notes about fields, written byte by byte.
use Rattle.std.proofs.Common.{◌≡◌, ℕ, ◌+◌, ◌-◌, ◌<◌, ◌≤◌, ◌==◌, true, false, sym, ◌∙◌, ap, subst, List, [], ◌∷◌, ◌++◌, length, map, take, drop, get_or, replicate, append_assoc}
use Rattle.std.specs.Prelude.{filter}
use Rattle.std.specs.List.{All, flat_map}
use Rattle.std.proofs.lemmas.List.{append-nil, drop-replicate, take_all, take_more}
use Rattle.std.proofs.lemmas.Grind.{flat_map-append}
use Rattle.s3_cards.specs.Codes.{shown_byte}
use Rattle.s3_cards.specs.declared.name.Name.{Name}
use Rattle.s3_cells.specs.Inner.Fields.{LiesIn}
use Rattle.s3_cells.specs.declared.field.Field.{Field}
use Rattle.s3_dump.specs.Inner.Notes.{AddsNotes, HasWritten, digits_of, field_text, hexadecimal, is_noted, name_column, name_length, note_line, notes_text}
use Rattle.s3_dump.specs.declared.writing.Writer.{Writer}

-- ---- a value in hexadecimal digits
images_more : {A : Type 0} (f : A → List ℕ) (xs : List A) (i : ℕ) (x : A) → i < length xs → x ≡ get_or xs i x → flat_map f (take (i + 1) xs) ≡ flat_map f (take i xs) ++ f x
images_more f xs i x h is =
    ap (flat_map f) (take_more xs i x h) ∙ flat_map-append f (take i xs) (get_or xs i x ∷ []) ∙ ap (λ t. flat_map f (take i xs) ++ t) (append-nil (f (get_or xs i x)))
    ∙ ap (λ y. flat_map f (take i xs) ++ f y) (sym is)

pub one_more_byte : (bytes start old new : List ℕ) (i b : ℕ) → i < length bytes → b ≡ get_or bytes i b → old ≡ start ++ (88 ∷ 39 ∷ flat_map digits_of (take i bytes)) → new ≡ old ++ digits_of b → new ≡ start ++ (88 ∷ 39 ∷ flat_map digits_of (take (i + 1) bytes))
one_more_byte bytes start old new i b h is before one =
    one ∙ ap (λ t. t ++ digits_of b) before ∙ append_assoc start (88 ∷ 39 ∷ flat_map digits_of (take i bytes)) (digits_of b) ∙ ap (λ t. start ++ (88 ∷ 39 ∷ t)) (sym (images_more digits_of bytes i b h is))

pub all_bytes : (bytes start old new : List ℕ) (i : ℕ) → length bytes ≤ i → old ≡ start ++ (88 ∷ 39 ∷ flat_map digits_of (take i bytes)) → new ≡ old ++ 39 ∷ [] → new ≡ start ++ hexadecimal bytes
all_bytes bytes start old new i h before one =
    one ∙ ap (λ t. t ++ 39 ∷ []) before ∙ append_assoc start (88 ∷ 39 ∷ flat_map digits_of (take i bytes)) (39 ∷ []) ∙ ap (λ b. start ++ (88 ∷ 39 ∷ (flat_map digits_of b ++ 39 ∷ []))) (take_all i bytes h)

-- ---- a name in its column
pub in_column : (name : Name) (old mid new : List ℕ) (count : ℕ) → count ≡ name_length name → mid ≡ old ++ map shown_byte (take count name.codes) → new ≡ mid ++ drop count (replicate 8 32) → new ≡ old ++ name_column name
in_column name old mid new count same first second =
    second ∙ ap (λ t. t ++ drop count (replicate 8 32)) first ∙ append_assoc old (map shown_byte (take count name.codes)) (drop count (replicate 8 32))
    ∙ ap (λ t. old ++ (map shown_byte (take count name.codes) ++ t)) (drop-replicate count 8 32) ∙ ap (λ n. old ++ (map shown_byte (take n name.codes) ++ replicate (8 - n) 32)) same

-- ---- a note
pub note_written : (start old new note : List ℕ) (i : ℕ) → length note ≤ i → (length note == 0) ≡ false → old ≡ start ++ (35 ∷ 32 ∷ filter is_noted (take i note)) → new ≡ old ++ 10 ∷ [] → new ≡ start ++ note_line note
note_written start old new [] i h some before one = absurd (let e : true ≡ false = some in cc)
note_written start old new (c ∷ note) i h some before one =
    one ∙ ap (λ t. t ++ 10 ∷ []) before ∙ append_assoc start (35 ∷ 32 ∷ filter is_noted (take i (c ∷ note))) (10 ∷ []) ∙ ap (λ n. start ++ (35 ∷ 32 ∷ (filter is_noted n ++ 10 ∷ []))) (take_all i (c ∷ note) h)

pub note_added : (old new : Writer) (first note : List ℕ) → new.zeros ≡ 0 → (old.zeros ≡ 0 → first ≡ old.text.items) → new.text.items ≡ first ++ note_line note → AddsNotes old new (note_line note)
note_added old new first note after same line = λ none. record { written = line ∙ ap (λ t. t ++ note_line note) (same none); zeros = after }

-- ---- notes
pub fields_lie : (fields : List Field) (long n : ℕ) → All (LiesIn long) fields → long ≡ n → All (LiesIn n) fields
fields_lie fields long n all same = subst (λ k. All (LiesIn k) fields) same all

pub no_notes : (writer : Writer) (bytes : List ℕ) → AddsNotes writer writer (notes_text [] bytes)
no_notes writer bytes = λ none. record { written = sym (append-nil writer.text.items); zeros = none }

pub one_note : (old new : Writer) (field : Field) (bytes note : List ℕ) → note ≡ field_text field bytes → AddsNotes old new (note_line note) → AddsNotes old new (notes_text (field ∷ []) bytes)
one_note old new field bytes note is adds = λ none. subst (HasWritten old new) (ap note_line is ∙ sym (append-nil (note_line (field_text field bytes)))) (adds none)

pub one_more_note : (first middle last : Writer) (fields : List Field) (bytes : List ℕ) (i : ℕ) (f : Field) → i < length fields → f ≡ get_or fields i f → AddsNotes first middle (notes_text (take i fields) bytes) → AddsNotes middle last (notes_text (f ∷ []) bytes)
    → AddsNotes first last (notes_text (take (i + 1) fields) bytes)
one_more_note first middle last fields bytes i f h is before one = λ none.
    let front = before none in
    let back = one front.zeros in
    let line : Field → List ℕ = λ field. note_line (field_text field bytes) in
    record {
      written = back.written ∙ ap (λ t. t ++ notes_text (f ∷ []) bytes) front.written ∙ append_assoc first.text.items (notes_text (take i fields) bytes) (notes_text (f ∷ []) bytes)
          ∙ ap (λ t. first.text.items ++ (notes_text (take i fields) bytes ++ t)) (append-nil (line f)) ∙ ap (λ t. first.text.items ++ t) (sym (images_more line fields i f h is));
      zeros = back.zeros;
    }
