-- What a refused mount is to a list.
use Rattle.std.proofs.Common.{◌≡◌, ℕ, List, Result, sym, ap, subst, ◌∙◌}
use Rattle.s3_slots.specs.Header.{mounted}
use Rattle.s3_slots.specs.declared.header.Header.{Header}
use Rattle.s3_slots.specs.declared.header.MountFault.{MountFault}
use Rattle.s3_labels.specs.Inner.Areas.{IsRefusal}
use Rattle.s3_labels.specs.Contents.{contents_of}
use Rattle.s3_labels.specs.declared.fault.Refusal.{Refusal}
use Rattle.s3_labels.specs.declared.fault.Refusal.TheVariants.{BadPack, Sectors}
use Rattle.s3_listing.specs.Inner.Faults.{fault_of}
use Rattle.s3_listing.specs.Inner.Listing.{text_if, listing, IsRefused}
use Rattle.s3_listing.specs.declared.fault.ListFault.{ListFault}

refused_by : (contents : List (List ℕ)) (found : Result Header MountFault) (refusal : Refusal) → IsRefusal found refusal
    → IsRefused (text_if contents found) (fault_of refusal)
refused_by contents found (BadPack fault) is_err = ap (text_if contents) is_err
refused_by contents found (Sectors fault) refused = tt

-- the store in memory has the sectors of the pack's bytes
pub refused_list : (pack items : List ℕ) (store : List (List ℕ)) (refusal : Refusal) (fault : ListFault) → items ≡ pack → store ≡ contents_of items
    → IsRefusal (mounted store) refusal → fault ≡ fault_of refusal → IsRefused (listing pack) fault
refused_list pack items store refusal fault same is_store refused is_fault =
    let is_contents : store ≡ contents_of pack = is_store ∙ ap contents_of same in
    subst (λ (f : ListFault). IsRefused (listing pack) f) (sym is_fault)
    (refused_by (contents_of pack) (mounted (contents_of pack)) refusal (subst (λ (s : List (List ℕ)). IsRefusal (mounted s) refusal) is_contents refused))
