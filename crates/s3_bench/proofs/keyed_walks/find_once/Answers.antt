use Rattle.std.proofs.Common.{◌≡◌, List, ℕ, subst, rules}
use Rattle.s3_files.specs.Inner.Files.{AreStored}
use Rattle.s3_keyed.specs.Inner.Keyed.{shown}
use Rattle.s3_bench.proofs.keyed_walks.find_once.Goals as goal

pub find-found-requires-clause-stored : goal.find-found-requires-clause-stored
find-found-requires-clause-stored c =
    let same : c.args.store.inner ≡ c.in_ok-pool.pool.contents = search rules in
    subst (λ (contents : List (List ℕ)). AreStored (shown c.args.file.now).sectors contents) same c.requires.stored
