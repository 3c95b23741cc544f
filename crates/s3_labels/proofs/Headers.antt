-- The header in the first sector of a pack, as a mount reads it.
use Rattle.std.proofs.Common.{◌≡◌, ℕ, ◌≤◌, Bool, true, false, List, codes, length, take, Option, Some, None, Ok, Err, if◌then◌else◌, refl, sym, ap, ◌∙◌}
use Rattle.std.specs.Prelude.{nat_eq, nat_lt}
use Rattle.std.specs.Cmp.Lexicographic.{pointwise, same_text}
use Rattle.std.proofs.lemmas.Bool.{ltb-false}
use Rattle.s3_store.specs.Bytes.{sector_bytes}
use Rattle.s3_slots.specs.Header.{accepted, are_quotas, are_regions, begins_with, format_in, header_by, header_in, mounted}
use Rattle.s3_slots.specs.declared.header.Format.{Format}
use Rattle.s3_slots.specs.declared.header.Format.TheVariants.{First, Second}
use Rattle.s3_slots.specs.declared.header.Header.{Header}
use Rattle.s3_slots.specs.declared.header.MountFault.TheVariants.{Short}
use Rattle.s3_labels.proofs.Mounts.{tested_same}

-- ---- what a mount has read
pub record IsHeaderOf (contents : List (List ℕ)) (header : Header) : Type 0 where
  pub room : 168 ≤ length contents
  pub format : format_in (sector_bytes contents 0) ≡ Some header.format
  pub read : header ≡ header_in header.format (sector_bytes contents 0)

header_read : (short : Bool) (sectors : ℕ) (bytes : List ℕ) (format : Option Format) (header : Header) → (if short then Err Short else accepted sectors (header_by bytes format)) ≡ Ok header
    → (short ≡ false) × ((format ≡ Some header.format) × (header ≡ header_in header.format bytes))
header_read true sectors bytes format header h = absurd cc
header_read false sectors bytes None header h = absurd cc
header_read false sectors bytes (Some format) header h =
    let found : Header = header_in format bytes in
    let same = tested_same (are_quotas found.quota_one found.quota_two) (are_regions found) (nat_lt sectors found.total) (header_in format bytes) header h in
    let e : format ≡ header.format = ap (λ (one : Header). one.format) same in
    (refl, (ap Some e, sym same ∙ ap (λ f. header_in f bytes) e))

pub header_of : (contents : List (List ℕ)) (header : Header) → mounted contents ≡ Ok header → IsHeaderOf contents header
header_of contents header h =
    let is = header_read (nat_lt (length contents) 168) (length contents) (sector_bytes contents 0) (format_in (sector_bytes contents 0)) header h in
    record { room = ltb-false (length contents) 168 is.0; format = is.1.0; read = is.1.1 }

-- ---- by its first eight bytes
pub first_text : (bytes : List ℕ) → format_in bytes ≡ Some First → take 8 bytes ≡ codes "S3PACK01"
first_text bytes h = by (begins_with (codes "S3PACK01") bytes) (begins_with (codes "S3PACK02") bytes) refl h
  where
    by : (first second : Bool) → first ≡ begins_with (codes "S3PACK01") bytes → (if first then Some First else (if second then Some Second else None)) ≡ Some First → take 8 bytes ≡ codes "S3PACK01"
    by true second e h = same_text (take 8 bytes) (codes "S3PACK01") e
    by false true e h = absurd cc
    by false false e h = absurd cc

pub second_format : (bytes : List ℕ) → take 8 bytes ≡ codes "S3PACK02" → format_in bytes ≡ Some Second
second_format bytes h = ap (λ front. let f : Option Format = if pointwise nat_eq front (codes "S3PACK01") then Some First else (if pointwise nat_eq front (codes "S3PACK02") then Some Second else None) in f) h

-- ---- and a mount that accepts it
pub still_mounted : (short : Bool) (sectors : ℕ) (bytes : List ℕ) (format : Option Format) (header : Header) → short ≡ false → format ≡ Some Second → header_in Second bytes ≡ header
    → accepted sectors (Some header) ≡ Ok header → (if short then Err Short else accepted sectors (header_by bytes format)) ≡ Ok header
still_mounted true sectors bytes format header a b c h = absurd cc
still_mounted false sectors bytes format header a b c h = ap (λ f. accepted sectors (header_by bytes f)) b ∙ ap (λ one. accepted sectors (Some one)) c ∙ h
