-- A rule that answers fits.
use Rattle.std.proofs.Common.{◌≡◌, [], ◌∷◌, Bool, true, false, ◌&&◌, cond, Option, Some, refl}
use Rattle.std.specs.Option.{IfSome}
use Rattle.std.specs.List.{find}
use Rattle.s3_cards.specs.declared.levels.LevelId.{LevelId}
use Rattle.s3_cards.specs.declared.name.Name.{Name}
use Rattle.s3_operator.specs.declared.halt_code.HaltCode.{HaltCode}
use Rattle.s3_operator.specs.Replies.{is_allowed}
use Rattle.s3_replies.specs.declared.rule.Rule.{Rule}
use Rattle.s3_replies.specs.Inner.Rules.{AnswersAreAllowed, fits}

last : (a b : Bool) → a && b ≡ true → b ≡ true
last true b e = e
last false true e = refl
last false false e = e

first_allows : (level : LevelId) (code : HaltCode) (program : Option Name) (rule : Rule) (rest : Option Rule) (answer : Bool) → fits level code program rule ≡ answer → IfSome rest (λ r. is_allowed code r.digit ≡ true) → IfSome (cond answer (Some rule) rest) (λ r. is_allowed code r.digit ≡ true)
first_allows level code program rule rest true e later = last _ (is_allowed code rule.digit) e
first_allows level code program rule rest false e later = later

pub allows : AnswersAreAllowed
allows level code program [] = tt
allows level code program (rule ∷ rules) =
    first_allows level code program rule (find (fits level code program) rules) (fits level code program rule) refl (allows level code program rules)
