use Rattle.std.proofs.Common.{◌-◌, Some, take, sym, ap, ◌∙◌}
use Rattle.s3_keyed.specs.Inner.Calls.{or_no_key}
use Rattle.s3_keyed.specs.Index.{index_in, entry_at}
use Rattle.s3_keyed.specs.Inner.Shape.{layout_in, bytes_in}
use Rattle.s3_keyed.specs.Inner.Keyed.{shown, keys_now}
use Rattle.s3_keyed.proofs.Ordered.{get_index, nth_is, nth_none, number_some, length_started}
use Rattle.s3_keyed.proofs.keyed.Keyed.nth_by_key.Goals as goal

pub returns-then-n-self-clause-nth : goal.returns-then-n-self-clause-nth
returns-then-n-self-clause-nth g c =
    let started = c.args.self.now.file.file.count in
    let keys = keys_now (shown c.args.self.now) (g.P.Sectors.state c.args.pool.now).contents in
    ap or_no_key (nth_none (take started keys) c.args.n (length_started started keys c.args.n c.if-n-self.true))

pub overflow_sub-result : goal.overflow_sub-result
overflow_sub-result g c =
    let f = c.args.self.now.file in
    let bytes = bytes_in f (g.P.Sectors.state c.args.pool.now).contents in
    let keys = keys_now (shown c.args.self.now) (g.P.Sectors.state c.args.pool.now).contents in
    let got = get_index (layout_in f) f.file.count c.args.n bytes c.if-n-self.false in
    rw c.in_ok-number.ensures.ok (number_some (take f.file.count keys) (index_in (layout_in f) f.file.count bytes) c.args.n (entry_at (layout_in f) bytes c.args.n) c.requires.ordered.first got)

pub returns-clause-nth : goal.returns-clause-nth
returns-clause-nth g c =
    let f = c.args.self.now.file in
    let bytes = bytes_in f (g.P.Sectors.state c.args.pool.now).contents in
    let keys = keys_now (shown c.args.self.now) (g.P.Sectors.state c.args.pool.now).contents in
    let got = get_index (layout_in f) f.file.count c.args.n bytes c.if-n-self.false in
    ap or_no_key (nth_is (take f.file.count keys) (index_in (layout_in f) f.file.count bytes) c.args.n (entry_at (layout_in f) bytes c.args.n) c.requires.ordered.first got)
    ∙ ap (λ n. or_no_key (Some (n - 1))) (sym c.in_ok-number.ensures.ok)
