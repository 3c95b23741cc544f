-- Copying bytes within a text by their two ends.
use Rattle.std.proofs.Common.{◌≡◌, ℕ, ◌+◌, ◌-◌, ◌≤◌, List, ◌++◌, length, take, drop, ap, subst, sym, ◌∙◌, arith}
use Rattle.std.specs.Prelude.{slice_range}
use Rattle.std.specs.List.{copy_within}
use Rattle.std.proofs.lemmas.List.{append_assoc, drop-drop, drop-take, length-drop, length-take-le, take-take}
use borrow.Rule.Slice.PartMut.{put_mid}

pub ends_within : (bytes part first last : List ℕ) (n from end to : ℕ) → from ≤ end → end ≤ length bytes → to + (end - from) ≤ length bytes → n ≤ end - from
    → first ≡ take n (drop from bytes) → last ≡ take n (drop (end - n) bytes)
    → ((text : List ℕ) → length text ≡ length (slice_range bytes to (to + (end - from))) → first ≡ take n text → last ≡ drop (length text - n) text → part ≡ text)
    → put_mid to (to + (end - from) - to) bytes part ≡ copy_within bytes from end to
ends_within bytes part first last n from end to some within room few is_first is_last laid =
    let k : ℕ = end - from in
    let text : List ℕ = take k (drop from bytes) in
    let size : length text ≡ k = length-take-le k (drop from bytes) (omega (arith, length-drop from bytes, some, within)) in
    let over : length (slice_range bytes to (to + k)) ≡ to + k - to = length-take-le (to + k - to) (drop to bytes) (omega (arith, length-drop to bytes, room)) in
    let front : first ≡ take n text = is_first ∙ sym (take-take n k (drop from bytes) few) in
    let whole : k - n + n ≡ k = omega (arith, few) in
    let start : from + (k - n) ≡ end - n = omega (arith, few, some) in
    let back : last ≡ drop (length text - n) text =
    is_last
    ∙ ap (λ m. take n (drop m bytes)) (sym start)
    ∙ ap (take n) (sym (drop-drop (k - n) from bytes))
    ∙ sym (drop-take (k - n) n (drop from bytes))
    ∙ ap (λ m. drop (k - n) (take m (drop from bytes))) whole
    ∙ ap (λ m. drop (m - n) text) (sym size) in
    let is : part ≡ text = laid text (size ∙ omega arith ∙ sym over) front back in
    let long : to + k - to ≡ k = omega arith in
    ap (λ m. put_mid to m bytes part) long ∙ (λ i. take to bytes ++ (is i ++ drop-drop k to bytes i)) ∙ sym (append_assoc (take to bytes) text (drop (to + k) bytes))

-- copying by two ends, with the end of the target given
pub ends_till : (bytes part first last : List ℕ) (n from end to till : ℕ) → till ≡ to + (end - from) → from ≤ end → end ≤ length bytes → till ≤ length bytes → n ≤ end - from
    → first ≡ take n (drop from bytes) → last ≡ take n (drop (end - n) bytes)
    → ((text : List ℕ) → length text ≡ length (slice_range bytes to till) → first ≡ take n text → last ≡ drop (length text - n) text → part ≡ text)
    → put_mid to (till - to) bytes part ≡ copy_within bytes from end to
ends_till bytes part first last n from end to till same some within room few is_first is_last laid =
    ap (λ m. put_mid to (m - to) bytes part) same
    ∙ ends_within bytes part first last n from end to some within (omega (arith, same, room)) few is_first is_last
    (subst (λ (m : ℕ). (text : List ℕ) → length text ≡ length (slice_range bytes to m) → first ≡ take n text → last ≡ drop (length text - n) text → part ≡ text) same laid)
