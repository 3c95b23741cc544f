-- A sector of which a part is changed.
use Rattle.std.proofs.Common.{◌≡◌, ◌≢◌, ℕ, zero, suc, ◌+◌, ◌<◌, ◌≤◌, List, [], ◌++◌, length, take, drop, replicate, slice_get, slice_set, unwrap_or, Some, refl, sym, ap, ◌∙◌, inl, arith, length-set, length-append, length-drop, length-take-le, append_assoc}
use Rattle.std.proofs.lemmas.List.{take_at, drop_at}
use Rattle.s3_store.specs.Bytes.{sector_bytes, part}
use Rattle.s3_store.specs.Inner.Bytes.{with_part, with_piece, SameOutside}
use Rattle.s3_store.specs.Inner.State.{ChangesWithin}
use Rattle.s3_store.proofs.SectorLists.{slice_get_set_same, slice_get_set_other}

-- ---- the bytes of a sector

length-zeros : (n : ℕ) → length {A = ℕ} (replicate n 0) ≡ n
length-zeros zero = refl
length-zeros (suc n) = ap suc (length-zeros n)

length-padded : (n : ℕ) (xs : List ℕ) → length {A = ℕ} (take n (xs ++ replicate n 0)) ≡ n
length-padded n xs = let zeros : List ℕ = replicate n 0 in length-take-le n (xs ++ zeros) (omega (arith, length-append xs zeros, length-zeros n))

pub length-sector_bytes : (contents : List (List ℕ)) (n : ℕ) → length (sector_bytes contents n) ≡ 256
unfolding sector_bytes
length-sector_bytes contents n = length-padded 256 (unwrap_or (slice_get contents n) [])

pub sector_bytes-there : (contents : List (List ℕ)) (n : ℕ) (v : List ℕ) → slice_get contents n ≡ Some v → length v ≡ 256 → sector_bytes contents n ≡ v
unfolding sector_bytes
sector_bytes-there contents n v there len = rw there (take_at v (replicate 256 0) 256 len)

pub sector_bytes-same : (old new : List (List ℕ)) (n : ℕ) → slice_get new n ≡ slice_get old n → sector_bytes new n ≡ sector_bytes old n
unfolding sector_bytes
sector_bytes-same old new n same = ap (λ o. take 256 (unwrap_or o [] ++ replicate 256 0)) same

-- ---- bytes with others over a part

pub length-with_part : (bytes : List ℕ) (at : ℕ) (piece : List ℕ) → at + length piece ≤ length bytes → length (with_part bytes at piece) ≡ length bytes
length-with_part bytes at piece fits =
    omega (arith, length-append (take at bytes ++ piece) (drop (at + length piece) bytes), length-append (take at bytes) piece, length-take-le at bytes (omega arith), length-drop (at + length piece) bytes)

-- the part has the new bytes, and the others stay
pub part-with_part : (bytes : List ℕ) (at : ℕ) (piece : List ℕ) → at + length piece ≤ length bytes → part (with_part bytes at piece) at (length piece) ≡ piece
part-with_part bytes at piece fits =
    let rest = drop (at + length piece) bytes in
    let front : length (take at bytes) ≡ at = length-take-le at bytes (omega arith) in
    ap (λ l. take (length piece) (drop at l)) (append_assoc (take at bytes) piece rest)
    ∙ ap (take (length piece)) (drop_at (take at bytes) (piece ++ rest) at front)
    ∙ take_at piece rest (length piece) refl

pub outside-with_part : (bytes : List ℕ) (at : ℕ) (piece : List ℕ) → at + length piece ≤ length bytes → SameOutside at (length piece) bytes (with_part bytes at piece)
outside-with_part bytes at piece fits =
    let rest = drop (at + length piece) bytes in
    let front : length (take at bytes) ≡ at = length-take-le at bytes (omega arith) in
    let both : length (take at bytes ++ piece) ≡ at + length piece = omega (arith, length-append (take at bytes) piece, front) in
    record {
      before = ap (take at) (append_assoc (take at bytes) piece rest) ∙ take_at (take at bytes) (piece ++ rest) at front;
      after = drop_at (take at bytes ++ piece) rest (at + length piece) both;
    }

-- ---- a store's sector is read, changed and written

pub piece_set : (old mid new : List (List ℕ)) (n at : ℕ) (bytes later piece : List ℕ) → mid ≡ old → new ≡ slice_set mid n later → slice_get old n ≡ Some bytes → length bytes ≡ 256 → later ≡ with_part bytes at piece → new ≡ with_piece old n at piece
piece_set old mid new n at bytes later piece kept set there whole is =
    set
    ∙ ap (λ l. slice_set l n later) kept
    ∙ ap (slice_set old n) (is ∙ ap (λ l. with_part l at piece) (sym (sector_bytes-there old n bytes there whole)))

pub set_within : (old mid new : List (List ℕ)) (m m' n : ℕ) (v : List ℕ) → mid ≡ old → new ≡ slice_set mid n v → ChangesWithin (λ i. i ≡ n) (record { contents = old; stored = old; failures = m }) (record { contents = new; stored = new; failures = m' })
set_within old mid new m m' n v kept set =
    let is : new ≡ slice_set old n v = set ∙ ap (λ l. slice_set l n v) kept in
    let others : (i : ℕ) → i ≢ n → slice_get new i ≡ slice_get old i = λ i other. ap (λ l. slice_get l i) is ∙ slice_get_set_other old n i v other in
    record { count = ap length is ∙ length-set old n v; contents = others; stored = λ i other. inl (others i other) }

-- ---- what a changed piece of a sector leaves

pub piece_there : (contents : List (List ℕ)) (n at : ℕ) (piece : List ℕ) → n < length contents → slice_get (with_piece contents n at piece) n ≡ Some (with_part (sector_bytes contents n) at piece)
piece_there contents n at piece below = slice_get_set_same contents n (with_part (sector_bytes contents n) at piece) below

pub piece_other : (contents : List (List ℕ)) (n at m : ℕ) (piece : List ℕ) → m ≢ n → slice_get (with_piece contents n at piece) m ≡ slice_get contents m
piece_other contents n at m piece other = slice_get_set_other contents n m (with_part (sector_bytes contents n) at piece) other
