-- Lemmas about switches.
use Rattle.std.proofs.Common.{◌≡◌, ℕ, ◌+◌, ◌-◌, ◌<◌, List, [], ◌∷◌, ◌++◌, refl, sym, ◌∙◌, ap, arith, length, take, replicate, append_assoc, suc, get_or, set}
use Rattle.std.specs.Prelude.{map}
use Rattle.std.proofs.lemmas.List.{take_all, length-map, map-append, append-nil, take_more, set-append_right, length-take-le}
use Rattle.s3_ocl.specs.declared.values.Switch.{Switch}
use Rattle.s3_ocl.specs.declared.values.Switch.TheVariants.{Leave}
use Rattle.s3_ocl.specs.Values.{switch_of}

-- one more switch of a text
pub switch_more : (text : List ℕ) (states : List Switch) (i : ℕ) (state : Switch) → i < length text → length text ≡ 8
    → states ≡ map switch_of (take i text) ++ replicate (8 - i) Leave → state ≡ switch_of (get_or text i 0)
    → set states i state ≡ map switch_of (take (i + 1) text) ++ replicate (8 - (i + 1)) Leave
switch_more text states i state in' long so_far is =
    let k : ℕ = 8 - (i + 1) in
    let e : 8 - i ≡ suc k = omega arith in
    let n : length (map switch_of (take i text)) ≡ i = length-map (take i text) switch_of ∙ length-take-le i text (omega arith) in
    let zero' : i - i ≡ 0 = omega arith in
    let tail : set (replicate (8 - i) Leave) (i - i) state ≡ state ∷ replicate k Leave = rw (zero', e) refl in
    let front : map switch_of (take (i + 1) text) ≡ map switch_of (take i text) ++ state ∷ [] =
    ap (map switch_of) (take_more text i 0 in')
    ∙ (map-append switch_of (take i text) (get_or text i 0 ∷ []) ∙ ap (λ x. map switch_of (take i text) ++ x ∷ []) (sym is)) in
    ap (λ x. set x i state) so_far
    ∙ (set-append_right (map switch_of (take i text)) (replicate (8 - i) Leave) i i state n (omega arith)
    ∙ (ap (λ x. map switch_of (take i text) ++ x) tail
    ∙ (sym (append_assoc (map switch_of (take i text)) (state ∷ []) (replicate k Leave)) ∙ sym (ap (λ x. x ++ replicate k Leave) front))))

-- all eight switches
pub all_switches : (text : List ℕ) (states : List Switch) → length text ≡ 8
    → states ≡ map switch_of (take (length text) text) ++ replicate (8 - length text) Leave → states ≡ map switch_of text
all_switches text states long so_far =
    let none : 8 - length text ≡ 0 = omega arith in
    so_far ∙ (ap (λ n. map switch_of (take (length text) text) ++ replicate n Leave) none
    ∙ (append-nil (map switch_of (take (length text) text)) ∙ ap (map switch_of) (take_all (length text) text (omega arith))))
