-- Control fields by level.
use Rattle.std.proofs.Common.{◌≡◌, Bool, true, false, refl}
use Rattle.std.specs.Prelude.{Some, None, is_some, if◌then◌else◌}
use Rattle.s3_match.specs.declared.keys.RecordKey.{RecordKey}
use Rattle.s3_match.specs.Inner.Keys.{key_in}

pub given : (key : RecordKey) → is_some (key_in key) ≡ key.is_given
given key = by key.is_given
  where
    by : (b : Bool) → is_some (if b then Some key.bytes else None) ≡ b
    by true = refl
    by false = refl
