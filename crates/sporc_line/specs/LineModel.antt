-- What contracts see of a line, and what holds of its fields at every moment.
use Rattle.std.specs.Prelude.{◌≡◌, ℕ, ◌*◌, ◌≤◌, not, List, length, Option, is_some}
use Rattle.sporc_delta.specs.Marks.{Mark}
use Rattle.sporc_suffix.specs.Forms.{all_inserted}
use Rattle.sporc_entry.specs.declared.genesis.Genesis.{Genesis}
use Rattle.sporc_entry.specs.declared.limits.TheConstants.{MAX_EDIT_BODY}
use Rattle.sporc_head.specs.declared.limits.TheConstants.{MAX_ENTRIES}
use Rattle.sporc_head.specs.History.{epoch_of, is_removed}
use Rattle.sporc_line.specs.Kit.{Kit}
use Rattle.sporc_line.specs.Keys.{epoch_key}
use Rattle.sporc_line.specs.Document.{forms_of, text_of}
use Rattle.sporc_line.specs.Good.{Good}

-- a document's genesis, what a member was given, the entries that it accepted, and how many more
-- take no memory
pub record LineModel : Type 0 where
  pub genesis : Genesis
  pub kit : Kit
  pub entries : List (List ℕ)
  pub spare : ℕ

-- the history is good, and what is kept at hand of it is what the entries say
pub record LineInvariant (genesis : Genesis) (kit : Kit) (entries : List (List ℕ))
    (key : Option (List ℕ)) (base : ℕ) (forms : List (List Mark)) (text : List ℕ) : Type 0 where
  pub good : Good genesis kit entries
  pub room : length entries ≤ MAX_ENTRIES
  pub key_is : key ≡ epoch_key genesis kit entries (epoch_of entries)
  pub keyed : is_some key ≡ not (is_removed kit.me entries)
  pub base_is : base ≡ 0
  pub forms_are : forms ≡ forms_of genesis kit entries
  pub text_is : text ≡ text_of genesis kit entries
  pub few : all_inserted forms ≤ MAX_EDIT_BODY * length entries
