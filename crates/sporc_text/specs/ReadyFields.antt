-- A change that was made ready, by its fields.
use Rattle.std.specs.Prelude.{◌≡◌, ◌+◌, ◌*◌, ◌≤◌, [], length}
use Rattle.std.specs.Vec.{vec_len, vec_capacity}
use Rattle.sporc_text.specs.declared.limits.TheConstants.{MAX_CHUNK}
use Rattle.sporc_text.specs.declared.ready.ReadyText.TheInside.{Inside}
use Rattle.sporc_text.specs.Chunks.{HasRoom}
use Rattle.sporc_text.specs.ReadyTextModel.{ReadyTextModel}

abbrev pub ready_of : Inside → ReadyTextModel
ready_of a = record { base = a.base; kept = a.kept; removed = a.removed; middle = a.middle.items }

pub record ReadyInvariant (a : Inside) : Type 0 where
  pub within : a.kept + a.removed ≤ a.base
  pub len_is : a.len + a.removed ≡ a.base + length a.middle.items
  pub empty : a.list.items ≡ []
  pub room : HasRoom (vec_capacity a.list) a.len
  pub spare : length a.middle.items + MAX_CHUNK ≤ MAX_CHUNK * vec_len a.spare
