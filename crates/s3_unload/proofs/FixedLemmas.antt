-- Records that are written one after another, in a fixed form.
use Rattle.std.proofs.Common.{◌≡◌, ℕ, ◌+◌, ◌-◌, ◌<◌, arith, sym, ◌∙◌, ap, ap₂, true, false, ◌&&◌, List, [], ◌∷◌, ◌++◌, length, take, append_assoc}
use Rattle.std.specs.Prelude.{Some, slice_get}
use Rattle.std.specs.List.{flat_map, list_all}
use Rattle.std.proofs.lemmas.List.{append-nil}
use Rattle.std.proofs.lemmas.List.Folds.{list_all-append}
use Rattle.std.proofs.lemmas.Grind.{flat_map-append}
use Rattle.s3_record_types.specs.Inner.Chosen.{chosen_of, is_chosen}
use Rattle.s3_record_types.specs.declared.chosen.ChosenRecords.{ChosenRecords}
use Rattle.s3_slots.specs.declared.label.FileLabel.{FileLabel}
use Rattle.s3_unload.specs.Inner.Fixed.{IsUnfit, IsUnfixed, fixed_of, fixed_text, is_fixed}
use Rattle.s3_unload.specs.Inner.Ordered.{in_order}
use Rattle.s3_unload.proofs.RowLemmas.{chosen_more, none_chosen, one_chosen}
use Rattle.s3_unload.specs.declared.fixed.FixedForm.{FixedForm}
use Rattle.s3_unload.specs.declared.fault.UnloadFault.{UnloadFault}
use Rattle.s3_unload.specs.declared.fault.UnloadFault.TheVariants.{Mount, NotFound, DamagedLabel, BadIndex, OtherLength, Hidden, NoCharacter, NoMemory, File}

fixed_more : (form : FixedForm) (chosen : ChosenRecords) (records : List (List ℕ)) (n : ℕ) (bytes : List ℕ) → n < length records → slice_get records n ≡ Some bytes
    → fixed_text form (chosen_of chosen (take n records)) ++ fixed_text form (chosen_of chosen (bytes ∷ [])) ≡ fixed_text form (chosen_of chosen (take (n + 1) records))
fixed_more form chosen records n bytes h got =
    sym (ap (fixed_text form) (chosen_more chosen records n bytes h got)
    ∙ flat_map-append (fixed_of form) (chosen_of chosen (take n records)) (chosen_of chosen (bytes ∷ [])))

pub record_added : (form : FixedForm) (chosen : ChosenRecords) (records : List (List ℕ)) (n : ℕ) (bytes start old new : List ℕ) → n < length records → slice_get records n ≡ Some bytes → old ≡ start ++ fixed_text form (chosen_of chosen (take n records))
    → new ≡ old ++ fixed_text form (chosen_of chosen (bytes ∷ [])) → new ≡ start ++ fixed_text form (chosen_of chosen (take (n + 1) records))
record_added form chosen records n bytes start old new h got before one =
    one ∙ ap (λ t. t ++ fixed_text form (chosen_of chosen (bytes ∷ []))) before
    ∙ append_assoc start (fixed_text form (chosen_of chosen (take n records))) (fixed_text form (chosen_of chosen (bytes ∷ [])))
    ∙ ap (λ t. start ++ t) (fixed_more form chosen records n bytes h got)

pub record_fits : (form : FixedForm) (chosen : ChosenRecords) (records : List (List ℕ)) (n : ℕ) (bytes : List ℕ) → n < length records → slice_get records n ≡ Some bytes
    → list_all (is_fixed form) (chosen_of chosen (take n records)) ≡ true → list_all (is_fixed form) (chosen_of chosen (bytes ∷ [])) ≡ true
    → list_all (is_fixed form) (chosen_of chosen (take (n + 1) records)) ≡ true
record_fits form chosen records n bytes h got before one =
    ap (list_all (is_fixed form)) (chosen_more chosen records n bytes h got)
    ∙ list_all-append (is_fixed form) (chosen_of chosen (take n records)) (chosen_of chosen (bytes ∷ [])) ∙ ap₂ (λ a b. a && b) before one

-- ---- one record
pub chosen_text : (form : FixedForm) (chosen : ChosenRecords) (bytes old new : List ℕ) → is_chosen chosen bytes ≡ true → new ≡ old ++ fixed_of form bytes → new ≡ old ++ fixed_text form (chosen_of chosen (bytes ∷ []))
chosen_text form chosen bytes old new is one =
    one ∙ ap (λ t. old ++ t) (sym (ap (fixed_text form) (one_chosen chosen bytes is) ∙ append-nil (fixed_of form bytes)))

pub other_text : (form : FixedForm) (chosen : ChosenRecords) (bytes old : List ℕ) → is_chosen chosen bytes ≡ false → old ≡ old ++ fixed_text form (chosen_of chosen (bytes ∷ []))
other_text form chosen bytes old is = sym (ap (λ rs. old ++ fixed_text form rs) (none_chosen chosen bytes is) ∙ append-nil old)

pub chosen_fits : (form : FixedForm) (chosen : ChosenRecords) (bytes : List ℕ) → is_chosen chosen bytes ≡ true → is_fixed form bytes ≡ true → list_all (is_fixed form) (chosen_of chosen (bytes ∷ [])) ≡ true
chosen_fits form chosen bytes is fits = ap (list_all (is_fixed form)) (one_chosen chosen bytes is) ∙ ap (λ b. b && true) fits

pub other_fits : (form : FixedForm) (chosen : ChosenRecords) (bytes : List ℕ) → is_chosen chosen bytes ≡ false → list_all (is_fixed form) (chosen_of chosen (bytes ∷ [])) ≡ true
other_fits form chosen bytes is = ap (list_all (is_fixed form)) (none_chosen chosen bytes is)

pub record_refused : (form : FixedForm) (chosen : ChosenRecords) (label : FileLabel) (contents : List (List ℕ)) (n : ℕ) (bytes : List ℕ) (fault : UnloadFault) → slice_get (in_order label contents) n ≡ Some bytes → is_chosen chosen bytes ≡ true → IsUnfit n (is_fixed form bytes) fault → IsUnfixed form chosen label contents fault
record_refused form chosen label contents n bytes (NoCharacter number position) got is refused =
    let at : number - 1 ≡ n = omega (arith, refused.0) in
    record { bytes = bytes; there = ap (slice_get (in_order label contents)) at ∙ got; is_meant = is; hidden = refused.1 }
record_refused form chosen label contents n bytes NoMemory got is refused = tt
record_refused form chosen label contents n bytes (Hidden number field fault) got is refused = absurd refused
record_refused form chosen label contents n bytes BadIndex got is refused = absurd refused
record_refused form chosen label contents n bytes (Mount fault) got is refused = absurd refused
record_refused form chosen label contents n bytes NotFound got is refused = absurd refused
record_refused form chosen label contents n bytes DamagedLabel got is refused = absurd refused
record_refused form chosen label contents n bytes (OtherLength long) got is refused = absurd refused
record_refused form chosen label contents n bytes File got is refused = absurd refused
