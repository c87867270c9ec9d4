-- What contracts see of an entry that was prepared, and when it can be committed.
use Rattle.std.specs.Prelude.{◌≡◌, ℕ, ◌+◌, ◌≤◌, List, [], ◌∷◌, ◌++◌, length, Option, None}
use Rattle.sporc_text.specs.ReadyTextModel.{ReadyTextModel, rewritten}
use Rattle.sporc_delta.specs.Marks.{Mark, apply, inserted_len}
use Rattle.sporc_suffix.specs.Runs.{IsReadyAt, ReadyModel}
use Rattle.sporc_entry.specs.declared.genesis.Genesis.{Genesis}
use Rattle.sporc_entry.specs.declared.limits.TheConstants.{MAX_EDIT_BODY}
use Rattle.sporc_head.specs.CheckedModel.{CheckedModel}
use Rattle.sporc_head.specs.IsChecked.{IsChecked}
use Rattle.sporc_head.specs.History.{epoch_of}
use Rattle.sporc_line.specs.declared.effect.Effect.{Effect}
use Rattle.sporc_line.specs.Kit.{Kit}
use Rattle.sporc_line.specs.Keys.{epoch_key}
use Rattle.sporc_line.specs.Document.{forms_of, next_form, text_of}
use Rattle.sporc_line.specs.LineChecks.{first_fault}

-- the entry that was checked, its form with the runs of forms that it ends, how it rewrites the
-- text, and the key of the last epoch after it
pub record PreparedModel : Type 0 where
  pub checked : CheckedModel
  pub form : List Mark
  pub runs : List (List Mark)
  pub text : ReadyTextModel
  pub key : Option (List ℕ)

-- an entry that was checked does this: it has this form, and this is the key of the last epoch
-- after it
pub record IsEffect (genesis : Genesis) (kit : Kit) (entries : List (List ℕ))
    (checked : CheckedModel) (effect : Effect) : Type 0 where
  pub form_is : effect.form ≡ next_form genesis kit entries checked.bytes
  pub small : inserted_len effect.form ≤ MAX_EDIT_BODY
  pub key_is : effect.key ≡ epoch_key genesis kit (entries ++ checked.bytes ∷ [])
      (epoch_of (entries ++ checked.bytes ∷ []))

-- the form with its runs
abbrev pub ready_form : PreparedModel → ReadyModel
ready_form p = record { form = p.form; runs = p.runs }

-- it was prepared at this history
pub record IsPrepared (genesis : Genesis) (kit : Kit) (entries : List (List ℕ))
    (p : PreparedModel) : Type 0 where
  pub checked : IsChecked genesis entries p.checked
  pub passed : first_fault genesis kit entries (length entries + 1) p.checked.bytes ≡ None
  pub form_is : p.form ≡ next_form genesis kit entries p.checked.bytes
  pub ready : IsReadyAt 0 (forms_of genesis kit entries) (ready_form p)
  pub small : inserted_len p.form ≤ MAX_EDIT_BODY
  pub text_is : rewritten p.text (text_of genesis kit entries)
      ≡ apply p.form (text_of genesis kit entries)
  pub key_is : p.key ≡ epoch_key genesis kit (entries ++ p.checked.bytes ∷ [])
      (epoch_of (entries ++ p.checked.bytes ∷ []))
