-- Inserting a diagnostic between two lists.
use Rattle.std.proofs.Common.{◌≡◌, List, [], ◌∷◌, ◌++◌, ◌∙◌, ap, append_assoc}
use Rattle.s3_lines.specs.declared.diagnostic.Diagnostic.{Diagnostic}

pub put_round : (before behind one two three : List Diagnostic) (diagnostic : Diagnostic) → one ≡ before → two ≡ one ++ diagnostic ∷ [] → three ≡ two ++ behind
    → three ≡ before ++ diagnostic ∷ behind
put_round before behind one two three diagnostic a b c =
    c ∙ (ap (λ xs. xs ++ behind) (b ∙ ap (λ xs. xs ++ diagnostic ∷ []) a) ∙ append_assoc before (diagnostic ∷ []) behind)
