-- What a call on a machine makes of what was before it. A machine is known by relations of its own: from which first state it came by
-- which entries (`after`), and what is kept of a first state (`keeps`).
use Rattle.std.specs.Prelude.{◌≢◌, List, Result, Err}
use Rattle.s3_bureau.specs.declared.entry.Entry.{Entry}
use Rattle.s3_bureau.specs.declared.stop.Stop.{Stop}
use Rattle.s3_bureau.specs.declared.stop.Stop.TheVariants.{Stopped}

-- what came of a first state by entries before, has come by these now
abbrev pub GoesAfter : {M : Type 0} → (after : M → List Entry → M → Type 0) → (was is : List Entry) → (old new : M) → Type 0
GoesAfter {M} after was is old new = (first : M) → after first was old → after first is new

-- what was kept of a first state still is
abbrev pub KeepsFrom : {M : Type 0} → (keeps : M → M → Type 0) → (old new : M) → Type 0
KeepsFrom {M} keeps old new = (first : M) → keeps first old → keeps first new

-- one that takes entries doesn't answer that it is stopped
abbrev pub NeverStopped : {M : Type 0} {V : Type 0} → (after : M → List Entry → M → Type 0) → (was : List Entry) → (old : M) → Result V Stop → Type 0
NeverStopped {M} after was old result = (first : M) → after first was old → result ≢ Err Stopped
