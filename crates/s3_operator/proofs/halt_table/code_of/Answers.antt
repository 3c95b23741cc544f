use Rattle.std.proofs.Common.{rules, ◌≡◌, option_map, find, ◌∙◌}
use Rattle.std.proofs.lemmas.Iterator.{YieldsList-from_slice}
use Rattle.std.proofs.lemmas.Iterator.Search.{find_from_yields_List}
use Rattle.s3_operator.specs.Inner.Codes.{has_letters}
use Rattle.s3_operator.proofs.CodeLemmas.{all_halts, code_found}
use Rattle.s3_operator.proofs.halt_table.code_of.Goals as goal

pub returns : goal.returns
returns c =
    let found : option_map (λ code. code.now) c.find.result ≡ find (has_letters c.args.letters) all_halts =
    find_from_yields_List (has_letters c.args.letters) _ _ _ c.find.ensures.ran (YieldsList-from_slice all_halts c.iter.ensures.rest) (λ x b q k. search rules) in
    code_found c.args.letters c.copied.result (c.copied.ensures ∙ found)
