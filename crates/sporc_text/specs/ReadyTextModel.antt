-- How a part of a text is rewritten, as contracts see it.
use Rattle.std.specs.Prelude.{ℕ, ◌+◌, ◌==◌, List, ◌++◌, length, take, drop, if◌then◌else◌}

-- of a text of `base` characters the first ones are kept, so many behind them give way to these,
-- and the others stay
pub record ReadyTextModel : Type 0 where
  pub base : ℕ
  pub kept : ℕ
  pub removed : ℕ
  pub middle : List ℕ

-- a text with characters in place of so many behind the first ones
abbrev pub replaced : ℕ → ℕ → List ℕ → List ℕ → List ℕ
replaced kept removed middle text = take kept text ++ (middle ++ drop (kept + removed) text)

-- the text after that; one of another length stays
unfoldable pub rewritten : ReadyTextModel → List ℕ → List ℕ
rewritten r text = if length text == r.base then replaced r.kept r.removed r.middle text else text
