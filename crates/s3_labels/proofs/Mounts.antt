-- What a mount gives, and what a store that comes back has.
use Rattle.std.proofs.Common.{◌≡◌, ℕ, suc, ◌≤◌, Bool, true, false, not, List, [], ◌∷◌, length, slice_get, Option, Some, None, Result, Ok, Err, if◌then◌else◌, refl, sym, ap, ap₂, ◌∙◌, inl, inr, subst}
use Rattle.std.specs.Prelude.{nat_lt}
use Rattle.s3_store.specs.Inner.State.{PoolState, KeepsContents}
use Rattle.s3_store.specs.Bytes.{sector_bytes}
use Rattle.s3_slots.specs.Header.{are_quotas, are_regions, accepted, header_by, format_in, mounted}
use Rattle.s3_slots.specs.declared.header.Header.{Header}
use Rattle.s3_slots.specs.declared.header.MountFault.{MountFault}
use Rattle.s3_slots.specs.declared.header.MountFault.TheVariants.{BadHeader, BadRegions, Short}
use Rattle.s3_cards.specs.declared.levels.LevelId.{LevelId}
use Rattle.s3_cards.specs.declared.levels.LevelId.TheVariants.{One, Two}
use Rattle.s3_slots.specs.Inner.Kept.{AreKept}
use Rattle.s3_slots.specs.declared.slot.Slot.{Slot}
use Rattle.s3_slots.proofs.Judging.{slots_kept}
use Rattle.s3_labels.specs.Inner.Areas.{Areas, IsReady, areas_on, region_at, slots_at}

abbrev pub tested : Bool → Bool → Bool → Header → Result Header MountFault
tested quotas regions few header =
    if not quotas then Err BadHeader else (if not regions then Err BadRegions else (if few then Err Short else Ok header))

pub tested_same : (q r f : Bool) (header other : Header) → tested q r f header ≡ Ok other → header ≡ other
tested_same false r f header other h = absurd cc
tested_same true false f header other h = absurd cc
tested_same true true true header other h = absurd cc
tested_same true true false header other h = cc

accepted_itself : (n : ℕ) (found : Option Header) (header : Header) → accepted n found ≡ Ok header → accepted n (Some header) ≡ Ok header
accepted_itself n None header h = absurd cc
accepted_itself n (Some other) header h =
    let same : other ≡ header = tested_same (are_quotas other.quota_one other.quota_two) (are_regions other) (nat_lt n other.total) other header h in
    ap (λ one. accepted n (Some one)) (sym same) ∙ h

mounted_accepted : (short : Bool) (n : ℕ) (found : Option Header) (header : Header) → (if short then Err Short else accepted n found) ≡ Ok header → accepted n (Some header) ≡ Ok header
mounted_accepted true n found header h = absurd cc
mounted_accepted false n found header h = accepted_itself n found header h

pub mounted_itself : (contents : List (List ℕ)) (header : Header) → mounted contents ≡ Ok header → accepted (length contents) (Some header) ≡ Ok header
mounted_itself contents header h = mounted_accepted (nat_lt (length contents) 168) (length contents) (header_by (sector_bytes contents 0) (format_in (sector_bytes contents 0))) header h

own_kept : (level : LevelId) (areas : Areas) (contents : List (List ℕ)) → areas ≡ areas_on areas.header contents → AreKept (region_at level areas) (slots_at level areas)
own_kept One areas contents e = subst (λ (slots : List Slot). AreKept areas.header.level_one slots) (sym (ap (λ (a : Areas). a.level_one) e)) (slots_kept areas.header.format areas.header.level_one 1 contents)
own_kept Two areas contents e = subst (λ (slots : List Slot). AreKept areas.header.level_two slots) (sym (ap (λ (a : Areas). a.level_two) e)) (slots_kept areas.header.format areas.header.level_two 2 contents)

pub mounted_ready : (areas : Areas) (old new : List (List ℕ)) → mounted old ≡ Ok areas.header → areas ≡ areas_on areas.header old → new ≡ old → length old ≤ 65535 → IsReady areas new
mounted_ready areas old new h on same few = record {
  header = rw same (mounted_itself old areas.header h);
  few = rw same few;
  own = λ level. own_kept level areas old on;
  masters = subst (λ (slots : List Slot). AreKept areas.header.masters slots) (sym (ap (λ (a : Areas). a.masters) on)) (slots_kept areas.header.format areas.header.masters 0 old);
}

same_lists : {X : Type 0} (xs ys : List X) → ((i : ℕ) → slice_get xs i ≡ slice_get ys i) → xs ≡ ys
same_lists [] [] each = refl
same_lists [] (y ∷ ys) each = let e = each 0 in absurd cc
same_lists (x ∷ xs) [] each = let e = each 0 in absurd cc
same_lists (x ∷ xs) (y ∷ ys) each = let e = each 0 in let same : x ≡ y = cc in ap₂ (λ z zs. z ∷ zs) same (same_lists xs ys (λ i. each (suc i)))

pub given_back : (s t : PoolState) (contents : List (List ℕ)) → KeepsContents s t → s.contents ≡ contents → s.stored ≡ contents → t.stored ≡ contents
given_back s t contents keeps c d = same_lists t.stored contents (λ i. elim (keeps.stored.each i) [
  | inl e ↦ e ∙ ap (λ l. slice_get l i) d
  | inr e ↦ e ∙ ap (λ l. slice_get l i) c
])
