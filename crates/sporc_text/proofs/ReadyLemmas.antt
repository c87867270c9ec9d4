-- Changes of a text that were made ready.
use Rattle.std.proofs.Common.{◌≡◌, ◌≢◌, ℕ, List, length, drop, if◌then◌else◌, ap, sym, ◌∙◌}
use Rattle.sporc_text.proofs.Common.{eq-eqb, ne_eqb, Mark, base_len, apply, ReadyTextModel, replaced}
use Rattle.sporc_text.specs.Edit.{IsBetween}
use Rattle.sporc_text.specs.ReadyTextModel.{rewritten}
use Rattle.sporc_text.proofs.EditLemmas.{between_writes}

-- a text of this length is rewritten, and one of another length stays
pub rewritten_here : (r : ReadyTextModel) (text : List ℕ) → length text ≡ r.base → rewritten r text ≡ replaced r.kept r.removed r.middle text
unfolding rewritten
rewritten_here r text is = ap (λ b. if b then replaced r.kept r.removed r.middle text else text) (eq-eqb (length text) r.base is)

pub rewritten_other : (r : ReadyTextModel) (text : List ℕ) → length text ≢ r.base → rewritten r text ≡ text
unfolding rewritten
rewritten_other r text other = ap (λ b. if b then replaced r.kept r.removed r.middle text else text) (ne_eqb (length text) r.base other)

-- what a delta makes of it
pub made : (r : ReadyTextModel) (delta middle : List Mark) (left : ℕ) (text : List ℕ) → IsBetween delta middle r.kept left → base_len delta ≡ length text → r.base ≡ base_len delta → r.removed ≡ base_len middle
    → r.middle ≡ apply middle (drop r.kept text) → rewritten r text ≡ apply delta text
made r delta middle left text between fits base removed is =
    rewritten_here r text (sym fits ∙ sym base) ∙ between_writes delta middle r.kept left r.removed text r.middle between fits removed is
