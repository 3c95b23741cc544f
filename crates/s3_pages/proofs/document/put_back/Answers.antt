use Rattle.std.proofs.Common.{ℕ, List, ◌≡◌, [], ◌∷◌, ◌++◌, ap, ◌∙◌}
use Rattle.s3_pages.specs.Inner.Bodies.{info_body, root_body, tree_body}
use Rattle.s3_pages.specs.Inner.Documents.{tree_number}
use Rattle.s3_pages.proofs.TableLemmas.{putting_as, putting_failed, putting_more}
use Rattle.s3_pages.proofs.document.put_back.Goals as goal

three_same : (a b c x y z : List ℕ) → a ≡ x → b ≡ y → c ≡ z → (a ∷ []) ++ b ∷ c ∷ [] ≡ x ∷ y ∷ z ∷ []
three_same a b c x y z e f g = ap (λ v. v ∷ b ∷ c ∷ []) e ∙ ap (λ v. x ∷ v ∷ c ∷ []) f ∙ ap (λ v. x ∷ y ∷ v ∷ []) g

pub returns : goal.returns
returns g c =
    putting_as _ _ _ _ _ _ _
    (putting_more (c.as_slice.result.now ∷ []) (c.as_slice-2.result.now ∷ c.as_slice-3.result.now ∷ []) _ _ _ _ _ _ _ _ c.in_ok-put_object.ensures c.put_two.ensures)
    (three_same _ _ _ (tree_body c.args.size c.args.count) (root_body (tree_number c.args.count) c.args.count) (info_body c.args.title.now)
    (c.as_slice.ensures.value ∙ c.in_ok-push_tree.ensures ∙ ap (λ text. text ++ tree_body c.args.size c.args.count) c.new-pages.ensures.items)
    (c.as_slice-2.ensures.value ∙ c.in_ok-push_root.ensures ∙ ap (λ text. text ++ root_body c.args.tree c.args.count) c.new-root.ensures.items
    ∙ ap (λ tree. root_body tree c.args.count) c.requires)
    (c.as_slice-3.ensures.value ∙ c.in_ok-push_info.ensures ∙ ap (λ text. text ++ info_body c.args.title.now) c.new-info.ensures.items))

pub returns-in_err-put_object : goal.returns-in_err-put_object
returns-in_err-put_object g c =
    putting_failed (tree_body c.args.size c.args.count ∷ []) (root_body (tree_number c.args.count) c.args.count ∷ info_body c.args.title.now ∷ []) _ _ _ _ _ _
    (putting_as _ _ _ _ _ _ _ c.in_err-put_object.ensures
    (ap (λ body. body ∷ []) (c.as_slice.ensures.value ∙ c.in_ok-push_tree.ensures ∙ ap (λ text. text ++ tree_body c.args.size c.args.count) c.new-pages.ensures.items)))
    c.from_residual-in_err-put_object.ensures.1
