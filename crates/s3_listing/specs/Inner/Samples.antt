-- Labels for worked lines.
use Rattle.std.specs.Prelude.{ℕ, [], ◌∷◌, replicate}
use Rattle.s3_cards.specs.Names.{name_of}
use Rattle.s3_cards.specs.declared.retention.Retention.{Retention}
use Rattle.s3_slots.specs.declared.label.FileLabel.{FileLabel}
use Rattle.s3_slots.specs.declared.label.Organization.{Organization}

-- a file of ten records under the label DATA
abbrev pub file : Organization → Retention → (record_length count : ℕ) → FileLabel
file organization retention record_length count =
    record {
      name = name_of (0xc4 ∷ 0xc1 ∷ 0xe3 ∷ 0xc1 ∷ []);
      organization = organization;
      retention = retention;
      record_length = record_length;
      key_length = 0;
      key_start = 0;
      extents = [];
      capacity = 10;
      count = count;
      date = replicate 6 0xf0;
    }
