use Rattle.sporc_words.proofs.Chained.{missing, there}
use Rattle.sporc_words.proofs.keygen.keygen_from.Goals as goal

pub returns-in_default : goal.returns-in_default
returns-in_default c = record { ok = missing _ _ c.in_default.ensures.value }

pub returns-in_default-device_value : goal.returns-in_default-device_value
returns-in_default-device_value c = record { ok = there _ _ _ _ c.in-Some.ensures.value (missing _ _ c.in_default-device_value.ensures.value) }

pub returns-in_default-tree_value : goal.returns-in_default-tree_value
returns-in_default-tree_value c =
    record {
      ok = there _ _ _ _ c.in-Some.ensures.value
          (there _ _ _ _ c.in-Some-device_value.ensures.value (missing _ _ c.in_default-tree_value.ensures.value));
    }

pub returns-in_default-width_value : goal.returns-in_default-width_value
returns-in_default-width_value c =
    record {
      ok = there _ _ _ _ c.in-Some.ensures.value
          (there _ _ _ _ c.in-Some-device_value.ensures.value
          (there _ _ _ _ c.in-Some-tree_value.ensures.value (missing _ _ c.in_default-width_value.ensures.value)));
    }
