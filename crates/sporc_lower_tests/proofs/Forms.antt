-- Forms that are appended one by one.
use Rattle.std.proofs.Common.{◌≡◌, ◌+◌, ◌*◌, ◌≤◌, List, [], ◌∷◌, ◌++◌, length, length-append, arith}
use Rattle.sporc_delta.specs.Marks.{Mark, base_len, out_len, inserted_len}
use Rattle.sporc_suffix.specs.Forms.{BlocksModel, Follow, all_inserted, reached}
use Rattle.sporc_suffix.proofs.Following.{all_inserted-append, reached-append}
use Rattle.sporc_suffix.proofs.Passing.{Follow-append}

pub record Appended (b b' : BlocksModel) (f : List Mark) : Type 0 where
  pub len : length b'.forms ≡ length b.forms + 1
  pub follow : Follow b'.base b'.forms
  pub reached_is : reached b'.base b'.forms ≡ out_len f
  pub inserted : all_inserted b'.forms ≤ 10000 * length b'.forms

pub appended : (b b' : BlocksModel) (f : List Mark) → b'.base ≡ b.base → b'.forms ≡ b.forms ++ f ∷ [] → base_len f ≡ reached b.base b.forms → Follow b.base b.forms → inserted_len f ≤ 10000
    → all_inserted b.forms ≤ 10000 * length b.forms → Appended b b' f
appended b b' f base forms is follow few inserted =
    rw (base, forms) record {
      len = omega (arith, length-append b.forms (f ∷ []));
      follow = Follow-append b.base b.forms f follow is;
      reached_is = reached-append b.base b.forms (f ∷ []);
      inserted = omega (arith, all_inserted-append b.forms (f ∷ []), length-append b.forms (f ∷ []), few, inserted);
    }
