use Rattle.s3_labels.proofs.Mounts.{mounted_ready}
use Rattle.s3_labels.proofs.pack.Pack.over.Goals as goal

pub returns-in-Ok-clause-ready : goal.returns-in-Ok-clause-ready
returns-in-Ok-clause-ready g c =
    mounted_ready c.in-Ok.areas (g.P.Sectors.state c.args.pool).contents _ c.in-Ok.ensures.ok c.in-Ok.ensures.areas c.in-Ok.ensures.keeps.contents c.in-Ok.ensures.few
