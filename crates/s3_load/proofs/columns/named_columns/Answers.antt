use Rattle.std.proofs.Common.{◌≡◌, ◌⊎◌, [], ◌∙◌, ap₂, arith, length, subst, sym, true, vec_len}
use Rattle.std.specs.List.{All, Contains, list_all}
use Rattle.std.proofs.lemmas.Bool.{eqb-true}
use Rattle.csv.specs.Records.{fields_of}
use Rattle.s3_cells.specs.Inner.Fields.{LiesIn}
use Rattle.s3_load.specs.Inner.Columns.{AreNamed, LieApart, is_clear}
use Rattle.s3_load.specs.Inner.Owners.{AreOwners, unowned}
use Rattle.s3_load.proofs.OwnerLemmas.{named_within, none_left, unowned_left}
use Rattle.s3_load.proofs.columns.named_columns.Goals as goal

pub find_overlaps-requires : goal.find_overlaps-requires
find_overlaps-requires c =
    let fields = c.args.layout.now.fields.items in
    let named = c.in_ok-named.named.items in
    let among : All (Contains fields) named = subst (λ fs. All (Contains fs) named) c.deref.ensures.value c.in_ok-named.ensures.among in
    subst (All (LiesIn c.args.layout.now.record_length)) (sym c.deref-2.ensures.value) (named_within c.args.layout.now.record_length fields named c.args.layout.now.within among)

pub returns-then-is_empty-clause-heading : goal.returns-then-is_empty-clause-heading
returns-then-is_empty-clause-heading c =
    let fields = c.args.layout.now.fields.items in
    let named = c.in_ok-named.named.items in
    let owners = c.in_ok-owners.owners.items in
    let cells = fields_of c.args.heading.now in
    let none : vec_len c.tell_missing.new.faults ≡ 0 = eqb-true (vec_len c.tell_missing.new.faults) 0 (sym c.if-is_empty.ensures) in
    let last : c.tell_missing.new.faults.items ≡ [] = none_left c.tell_missing.new.faults.items (omega (arith, none, c.tell_missing.new.faults.ok)) in
    let second = c.in_ok-tell_missing.ensures.before last in
    let first = c.in_ok-owners.ensures.before second in
    record {
      named = subst (λ fs. AreNamed fs cells (length cells) named) c.deref.ensures.value (c.in_ok-named.ensures.named first);
      apart = subst LieApart c.deref-2.ensures.value (c.in_ok-owners.ensures.apart second);
      filled = c.in_ok-missing.ensures ∙ ap₂ unowned c.deref-4.ensures.value c.deref-3.ensures.value ∙ unowned_left named fields owners (subst (λ ns. AreOwners ns owners) c.deref-2.ensures.value c.in_ok-owners.ensures.owners);
      allowed = subst (λ fs. (c.args.fills ≡ true) ⊎ (fs ≡ [])) c.deref-5.ensures.value (c.in_ok-tell_missing.ensures.allowed last);
      clear = subst (λ fs. list_all (is_clear named) fs ≡ true) c.deref-5.ensures.value (subst (λ ns. list_all (is_clear ns) c.deref-5.result.now ≡ true) c.deref-6.ensures.value (c.in_ok-tell_missing.ensures.clear last));
    }
