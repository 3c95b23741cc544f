-- Rows that are read one after another, and written so.
use Rattle.std.proofs.Common.{◌≡◌, ℕ, zero, suc, ◌+◌, ◌-◌, ◌*◌, ◌<◌, ◌≤◌, List, [], ◌∷◌, ◌++◌, length, map, take, drop, slice_get, slice_set, Some, refl, sym, ap, ap₂, ◌∙◌, arith}
use Rattle.std.proofs.lemmas.List.{drop-drop, drop_all, map-append, take_all, take_more}
use Rattle.std.proofs.Math.Nat.{add-mul}
use Rattle.s3_store.specs.Bytes.{bytes_at}
use Rattle.s3_files.specs.Inner.Files.{ChangesRecord, FileShape}
use Rattle.s3_pack_care.specs.Inner.Rows.{KeepsTail}
use Rattle.std.proofs.lemmas.Option.{get_or_from_slice_get, slice_get_within}

pub rows_more : {R A : Type 0} (f : R → A) (rows : List R) (row : R) (all : List A) (i : ℕ) → map f rows ≡ take i all → slice_get all i ≡ Some (f row) → map f (rows ++ row ∷ []) ≡ take (i + 1) all
rows_more f rows row all i so got =
    map-append f rows (row ∷ []) ∙ ap (λ l. l ++ f row ∷ []) so ∙ ap (λ x. take i all ++ x ∷ []) (sym (get_or_from_slice_get all i (f row) (f row) got))
    ∙ sym (take_more all i (f row) (slice_get_within all i (f row) got))

pub rows_all : {A : Type 0} (rows all : List A) (i : ℕ) → rows ≡ take i all → length all ≤ i → rows ≡ all
rows_all rows all i so few = so ∙ take_all i all few

-- an element written over one of the old ones, behind those that were written before
pub put_more : {A : Type 0} (i : ℕ) (old new : List A) (x : A) → length old ≡ length new → slice_get new i ≡ Some x → slice_set (take i new ++ drop i old) i x ≡ take (i + 1) new ++ drop (i + 1) old
put_more i [] [] x same got = absurd cc
put_more i [] (y ∷ new) x same got = absurd (omega (arith, same))
put_more i (z ∷ old) [] x same got = absurd (omega (arith, same))
put_more zero (z ∷ old) (y ∷ new) x same got =
    let e : x ≡ y = cc in
    ap (λ it. it ∷ old) e
put_more (suc i) (z ∷ old) (y ∷ new) x same got =
    let next : suc (i + 1) ≡ suc i + 1 = omega arith in
    ap (λ l. y ∷ l) (put_more i old new x (omega (arith, same)) got) ∙ ap (λ n. take n (y ∷ new) ++ drop n (z ∷ old)) next

nothing_behind : {A : Type 0} (xs : List A) → xs ++ [] ≡ xs
nothing_behind [] = refl
nothing_behind (x ∷ xs) = ap (λ l. x ∷ l) (nothing_behind xs)

pub put_all : {A : Type 0} (n : ℕ) (old new : List A) → length old ≤ n → length new ≤ n → take n new ++ drop n old ≡ new
put_all n old new few small = ap₂ (λ a b. a ++ b) (take_all n new small) (drop_all n old few) ∙ nothing_behind new

pub got_map : {R A : Type 0} (f : R → A) (rows : List R) (i : ℕ) (row : R) → slice_get rows i ≡ Some row → slice_get (map f rows) i ≡ Some (f row)
got_map f [] i row got = absurd cc
got_map f (x ∷ rows) zero row got =
    let e : x ≡ row = cc in
    ap (λ y. Some (f y)) e
got_map f (x ∷ rows) (suc i) row got = got_map f rows i row got

-- ---- the bytes after the last record
past : (bytes : List ℕ) (at n end : ℕ) → end ≡ at + n → drop end bytes ≡ drop n (drop at bytes)
past bytes at n end is = ap (λ k. drop k bytes) is ∙ sym (drop-drop n at bytes)

pub tail_kept : (file : FileShape) (i : ℕ) (old new : List (List ℕ)) → i < file.count → ChangesRecord file i old new → KeepsTail file old new
tail_kept file i old new low outside =
    let long : ℕ = file.record_length in
    let rest : ℕ = file.count - (i + 1) in
    let counted : file.count ≡ i + (1 + rest) = omega (arith, low) in
    let first : (i + (1 + rest)) * long ≡ i * long + (1 + rest) * long = add-mul i (1 + rest) long in
    let next : (1 + rest) * long ≡ 1 * long + rest * long = add-mul 1 rest long in
    let one : 1 * long ≡ long = omega arith in
    let end : file.count * long ≡ (i * long + long) + rest * long = ap (λ n. n * long) counted ∙ first ∙ omega (arith, next, one) in
    past (bytes_at file.sectors new) (i * long + long) (rest * long) (file.count * long) end
    ∙ ap (drop (rest * long)) outside.after
    ∙ sym (past (bytes_at file.sectors old) (i * long + long) (rest * long) (file.count * long) end)
