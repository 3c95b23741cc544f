use Rattle.std.proofs.Common.{Err, ap, refl, sym, ◌∙◌}
use Rattle.s3_level.specs.Inner.Holds.{around}
use Rattle.s3_level.proofs.Beside.{spares_taken, spool_room}
use Rattle.s3_level.proofs.Draining.{line_drained, none_drained, refused_drain}
use Rattle.s3_level.proofs.level.Level.drain.Goals as goal

pub take-requires : goal.take-requires
take-requires g c = spool_room c.args.pack.now.areas (g.P.Sectors.state c.args.pack.now.pool).contents c.requires.ready.files.pack

pub returns-in_ok-push-in-Ok-clause-step : goal.returns-in_ok-push-in-Ok-clause-step
returns-in_ok-push-in-Ok-clause-step g c =
    line_drained c.args.self.now _ c.args.pack.now.areas c.args.spool.now c.take.new.self (g.P.Sectors.state c.args.pack.now.pool) (g.P.Sectors.state c.take.new.sectors) c.in-Ok.line c.in-Ok.ensures.first c.take.ensures.keeps.contents c.take.ensures.quotas refl
    c.in_ok-push-in-Ok.ensures.items

pub returns-in-Err-Sectors-clause-refused : goal.returns-in-Err-Sectors-clause-refused
returns-in-Err-Sectors-clause-refused g c = λ w number held is.
    let none = (refused_drain c.args.self.now (around c.args.pack.now.areas (g.P.Sectors.state c.args.pack.now.pool) c.args.spool.now) w number held is).0 in
    let empty = c.take.ensures.empty.1 none in
    let clash = sym c.in-Err-Sectors.is ∙ empty in
    cc

pub returns-in-Err-Empty-clause-step : goal.returns-in-Err-Empty-clause-step
returns-in-Err-Empty-clause-step g c =
    none_drained c.args.self.now c.args.pack.now.areas c.args.spool.now c.take.new.self (g.P.Sectors.state c.args.pack.now.pool) (g.P.Sectors.state c.take.new.sectors)
    (c.take.ensures.empty.0 (c.in-Err-Empty.is ∙ cc)) c.in-Err-Empty.ensures.err c.take.ensures.keeps.contents

pub returns-in_ok-push-in-Ok-clause-refused : goal.returns-in_ok-push-in-Ok-clause-refused
returns-in_ok-push-in-Ok-clause-refused g c = λ w number held is.
    let none = (refused_drain c.args.self.now (around c.args.pack.now.areas (g.P.Sectors.state c.args.pack.now.pool) c.args.spool.now) w number held is).0 in
    let empty = c.take.ensures.empty.1 none in
    let clash = sym c.in-Ok.is ∙ empty in
    cc

pub returns-in_err-push-in-Ok-clause-refused : goal.returns-in_err-push-in-Ok-clause-refused
returns-in_err-push-in-Ok-clause-refused g c = λ w number held is.
    let none = (refused_drain c.args.self.now (around c.args.pack.now.areas (g.P.Sectors.state c.args.pack.now.pool) c.args.spool.now) w number held is).0 in
    let empty = c.take.ensures.empty.1 none in
    let clash = sym c.in-Ok.is ∙ empty in
    cc

pub unreachable-unreachable : goal.unreachable-unreachable
unreachable-unreachable g c = c.take.ensures.not_full (c.in-Err-QuotaFull.is ∙ ap (λ fault. Err fault) c.in-Err-QuotaFull.field-0-is)

pub returns-in_ok-push-in-Ok-clause-spares : goal.returns-in_ok-push-in-Ok-clause-spares
returns-in_ok-push-in-Ok-clause-spares g c = spares_taken c.args.self.now.id c.args.pack.now.areas c.args.spool.now c.take.new.self (g.P.Sectors.state c.args.pack.now.pool) (g.P.Sectors.state c.take.new.sectors) c.requires.ready.files.pack c.take.ensures.keeps c.take.ensures.other c.take.ensures.quotas c.take.ensures.blocks

pub returns-in_err-push-in-Ok-clause-spares : goal.returns-in_err-push-in-Ok-clause-spares
returns-in_err-push-in-Ok-clause-spares g c = spares_taken c.args.self.now.id c.args.pack.now.areas c.args.spool.now c.take.new.self (g.P.Sectors.state c.args.pack.now.pool) (g.P.Sectors.state c.take.new.sectors) c.requires.ready.files.pack c.take.ensures.keeps c.take.ensures.other c.take.ensures.quotas c.take.ensures.blocks

pub returns-in-Err-Empty-clause-spares : goal.returns-in-Err-Empty-clause-spares
returns-in-Err-Empty-clause-spares g c = spares_taken c.args.self.now.id c.args.pack.now.areas c.args.spool.now c.take.new.self (g.P.Sectors.state c.args.pack.now.pool) (g.P.Sectors.state c.take.new.sectors) c.requires.ready.files.pack c.take.ensures.keeps c.take.ensures.other c.take.ensures.quotas c.take.ensures.blocks

pub returns-in-Err-Sectors-clause-spares : goal.returns-in-Err-Sectors-clause-spares
returns-in-Err-Sectors-clause-spares g c = spares_taken c.args.self.now.id c.args.pack.now.areas c.args.spool.now c.take.new.self (g.P.Sectors.state c.args.pack.now.pool) (g.P.Sectors.state c.take.new.sectors) c.requires.ready.files.pack c.take.ensures.keeps c.take.ensures.other c.take.ensures.quotas c.take.ensures.blocks
