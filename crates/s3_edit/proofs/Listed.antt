-- The characters at all places as one list.
use Rattle.std.proofs.Common.{◌≡◌, ℕ, ◌-◌, ◌<◌, ◌≤◌, arith, ◌∙◌, ap, Bool, suc, zero, List, ◌∷◌, length, take, drop, get_or, Option, Some, IsSomeAnd, subst}
use Rattle.std.proofs.Math.Seq.{drop-cons}
use Rattle.std.proofs.lemmas.List.{drop_all, get_or-take, length-take-le}
use Rattle.s3_edit.specs.declared.code.EditCode.{EditCode}
use Rattle.s3_edit.specs.Picture.{picture, pictured}

-- the last places of a list that has these characters
last_places : (code : EditCode) (d : ℕ) (negative : Bool) (n : ℕ) (shown : List ℕ) (width k : ℕ) → length shown ≡ width → ((p : ℕ) → p < width → get_or shown (width - 1 - p) 0 ≡ picture code d negative n p) → k ≤ width → drop (width - k) shown ≡ pictured code d negative n k
last_places code d negative n shown width zero e h l = drop_all (width - 0) shown (omega arith)
last_places code d negative n shown width (suc k) e h l =
    let next : suc (width - suc k) ≡ width - k = omega arith in
    let at : width - suc k ≡ width - 1 - k = omega arith in
    drop-cons shown (width - suc k) 0 (omega arith)
    ∙ ap (λ i. get_or shown (width - suc k) 0 ∷ drop i shown) next
    ∙ ap (λ c. c ∷ drop (width - k) shown) (ap (λ i. get_or shown i 0) at ∙ h k (omega arith))
    ∙ ap (λ cs. picture code d negative n k ∷ cs) (last_places code d negative n shown width k e h (omega arith))

pub listed : (code : EditCode) (d : ℕ) (negative : Bool) (n : ℕ) (out : List ℕ) (width : ℕ) → width ≤ length out → ((p : ℕ) → p < width → get_or out (width - 1 - p) 0 ≡ picture code d negative n p) → take width out ≡ pictured code d negative n width
listed code d negative n out width l h =
    let first : 0 ≡ width - width = omega arith in
    ap (λ i. drop i (take width out)) first
    ∙ last_places code d negative n (take width out) width width (length-take-le width out l)
    (λ p b. get_or-take width out (width - 1 - p) 0 (omega arith) ∙ h p b) (omega arith)

-- a width that fits, by its value
pub room_of : (known : Option ℕ) (width most : ℕ) → known ≡ Some width → IsSomeAnd known (λ w. w ≤ most) → width ≤ most
room_of known width most e h = let Fits : Option ℕ → Type 0 = λ o. IsSomeAnd o (λ w. w ≤ most) in subst Fits e h
