-- Lines that are written one after another.
use Rattle.std.proofs.Common.{◌≡◌, ℕ, ◌+◌, ◌-◌, ◌<◌, arith, sym, ◌∙◌, ap, ap₂, true, ◌&&◌, List, [], ◌∷◌, ◌++◌, length, take, get_or, append_assoc}
use Rattle.std.specs.Prelude.{Some, slice_get}
use Rattle.std.specs.List.{flat_map, list_all}
use Rattle.std.proofs.lemmas.List.{append-nil, take_more}
use Rattle.std.proofs.lemmas.List.Folds.{list_all_more}
use Rattle.std.proofs.lemmas.Grind.{flat_map-append}
use Rattle.std.proofs.lemmas.Option.{get_or_from_slice_get}
use Rattle.s3_unload.specs.Inner.Lines.{IsLineRefusal, IsUnshown, digits_of, is_line, line_of, lines_text}
use Rattle.s3_unload.specs.declared.fault.UnloadFault.{UnloadFault}
use Rattle.s3_unload.specs.declared.fault.UnloadFault.TheVariants.{Mount, NotFound, DamagedLabel, BadIndex, OtherLength, Hidden, NoCharacter, NoMemory, File}
use Rattle.s3_unload.specs.declared.lines.LineForm.{LineForm}

pub lines_more : (form : LineForm) (records : List (List ℕ)) (n : ℕ) (bytes : List ℕ) → n < length records → slice_get records n ≡ Some bytes → lines_text form (take n records) ++ line_of form bytes ≡ lines_text form (take (n + 1) records)
lines_more form records n bytes h got =
    let one : take (n + 1) records ≡ take n records ++ bytes ∷ [] = take_more records n [] h ∙ ap (λ b. take n records ++ b ∷ []) (get_or_from_slice_get records n bytes [] got) in
    sym (ap (lines_text form) one ∙ flat_map-append (line_of form) (take n records) (bytes ∷ []) ∙ ap (λ t. lines_text form (take n records) ++ t) (append-nil (line_of form bytes)))

pub line_added : (form : LineForm) (records : List (List ℕ)) (n : ℕ) (bytes start old new : List ℕ) → n < length records → slice_get records n ≡ Some bytes → old ≡ start ++ lines_text form (take n records) → new ≡ old ++ line_of form bytes
    → new ≡ start ++ lines_text form (take (n + 1) records)
line_added form records n bytes start old new h got before one =
    one ∙ ap (λ t. t ++ line_of form bytes) before ∙ append_assoc start (lines_text form (take n records)) (line_of form bytes) ∙ ap (λ t. start ++ t) (lines_more form records n bytes h got)

pub line_shown : (form : LineForm) (records : List (List ℕ)) (n : ℕ) (bytes : List ℕ) → n < length records → slice_get records n ≡ Some bytes → list_all (is_line form) (take n records) ≡ true → is_line form bytes ≡ true → list_all (is_line form) (take (n + 1) records) ≡ true
line_shown form records n bytes h got before one =
    list_all_more (is_line form) records n [] h ∙ ap₂ (λ a b. a && b) before (ap (is_line form) (get_or_from_slice_get records n bytes [] got) ∙ one)

pub one_more_byte : (bytes : List ℕ) (start old new : List ℕ) (i b : ℕ) → i < length bytes → b ≡ get_or bytes i b → old ≡ start ++ flat_map digits_of (take i bytes) → new ≡ old ++ digits_of b → new ≡ start ++ flat_map digits_of (take (i + 1) bytes)
one_more_byte bytes start old new i b h is before one =
    let more : flat_map digits_of (take (i + 1) bytes) ≡ flat_map digits_of (take i bytes) ++ digits_of b =
    ap (flat_map digits_of) (take_more bytes i b h) ∙ flat_map-append digits_of (take i bytes) (get_or bytes i b ∷ []) ∙ ap (λ t. flat_map digits_of (take i bytes) ++ t) (append-nil (digits_of (get_or bytes i b)))
    ∙ ap (λ c. flat_map digits_of (take i bytes) ++ digits_of c) (sym is) in
    one ∙ ap (λ t. t ++ digits_of b) before ∙ append_assoc start (flat_map digits_of (take i bytes)) (digits_of b) ∙ ap (λ t. start ++ t) (sym more)

pub line_refused : (form : LineForm) (records : List (List ℕ)) (n : ℕ) (bytes : List ℕ) (fault : UnloadFault) → slice_get records n ≡ Some bytes → IsLineRefusal n form bytes fault → IsUnshown form records fault
line_refused form records n bytes (NoCharacter number position) got refused =
    let at : number - 1 ≡ n = omega (arith, refused.0) in
    record { bytes = bytes; there = ap (slice_get records) at ∙ got; hidden = refused.1 }
line_refused form records n bytes NoMemory got refused = tt
line_refused form records n bytes (Hidden number field fault) got refused = absurd refused
line_refused form records n bytes BadIndex got refused = absurd refused
line_refused form records n bytes (Mount fault) got refused = absurd refused
line_refused form records n bytes NotFound got refused = absurd refused
line_refused form records n bytes DamagedLabel got refused = absurd refused
line_refused form records n bytes (OtherLength long) got refused = absurd refused
line_refused form records n bytes File got refused = absurd refused
