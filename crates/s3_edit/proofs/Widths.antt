-- What a width that fits says of a number's form, and of the room for it.
use Rattle.std.proofs.Common.{◌≡◌, ℕ, ◌+◌, ◌<◌, ◌≤◌, Bool, true, false, Some, None, IsSomeAnd, if◌then◌else◌, ◌==◌, ◌&&◌, List, get_or, arith, ◌∙◌, refl, subst}
use Rattle.std.proofs.lemmas.Bool.Decides.{nat_tests}
use Rattle.s3_edit.specs.declared.code.Amount.{Amount}
use Rattle.s3_edit.specs.declared.code.EditCode.{EditCode}
use Rattle.s3_edit.specs.declared.code.EditCode.TheVariants.{Date}
use Rattle.s3_edit.specs.Picture.{body_width, code_width, is_form, width_of}

-- the form of a number, and the width of its code
pub record Fitting (code : EditCode) (digits decimals room : ℕ) : Type 0 where
  pub is_form : is_form digits decimals ≡ true
  pub fits : IsSomeAnd (code_width code digits decimals) (λ w. w ≤ room)

fitting_by : (code : EditCode) (digits decimals room : ℕ) (b : Bool) → is_form digits decimals ≡ b → IsSomeAnd (if b then code_width code digits decimals else None) (λ w. w ≤ room) → Fitting code digits decimals room
fitting_by code digits decimals room true e h = record { is_form = e; fits = h }
fitting_by code digits decimals room false e h = absurd h

pub fitting : (code kind : EditCode) (digits decimals room : ℕ) → code ≡ kind → IsSomeAnd (width_of code digits decimals) (λ w. w ≤ room) → Fitting kind digits decimals room
fitting code kind digits decimals room is h =
    fitting_by kind digits decimals room (is_form digits decimals) refl (subst (λ c. IsSomeAnd (width_of c digits decimals) (λ w. w ≤ room)) is h)

pub width_known : (code kind : EditCode) (digits decimals width : ℕ) → code ≡ kind → is_form digits decimals ≡ true → code_width kind digits decimals ≡ Some width → width_of code digits decimals ≡ Some width
width_known code kind digits decimals width is form known = rw (is, form) known

pub few_digits : (digits decimals : ℕ) → is_form digits decimals ≡ true → digits ≤ 15
few_digits digits decimals h = grind (arith, nat_tests)

pub few_decimals : (digits decimals : ℕ) → is_form digits decimals ≡ true → decimals ≤ 9
few_decimals digits decimals h = grind (arith, nat_tests)

pub units : (style : Amount) (digits decimals : ℕ) → is_form digits decimals ≡ true → decimals < body_width style digits decimals
units style digits decimals h = grind (arith, nat_tests)

date_by : (b : Bool) (room : ℕ) → IsSomeAnd (if b then Some 8 else None) (λ w. w ≤ room) → (b ≡ true) × (8 ≤ room)
date_by true room h = (refl, h)
date_by false room h = absurd h

pub date_fits : (digits decimals room : ℕ) → Fitting Date digits decimals room → (code_width Date digits decimals ≡ Some 8) × (8 ≤ room)
date_fits digits decimals room is =
    let by = date_by (digits == 6 && decimals == 0) room is.fits in
    (rw by.0 refl, by.1)

-- the characters after a body and its sign are unchanged
pub behind_both : (body sign : ℕ) (out middle last : List ℕ) → ((i : ℕ) → body ≤ i → get_or middle i 0 ≡ get_or out i 0) → ((i : ℕ) → body + sign ≤ i → get_or last i 0 ≡ get_or middle i 0) → (i : ℕ) → body + sign ≤ i → get_or last i 0 ≡ get_or out i 0
behind_both body sign out middle last f g i h = g i h ∙ f i (omega arith)
