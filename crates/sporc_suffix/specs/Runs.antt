-- Runs of forms, each composed to one delta.
use Rattle.std.specs.Prelude.{◌≡◌, ℕ, zero, suc, ◌+◌, ◌^◌, ◌<◌, List, [], ◌∷◌, ◌++◌, map, length}
use Rattle.std.specs.Prelude.{slice_get, Some, ⊤}
use Rattle.sporc_delta.specs.Marks.{Mark, base_len, out_len}
use Rattle.sporc_delta.specs.Transforms.{compose}
use Rattle.sporc_suffix.specs.Forms.{Follow, reached}

-- each form is stated on the text after the one before it
abbrev pub Joined : List (List Mark) → Type 0
Joined [] = ⊤
Joined (f ∷ fs) = Follow (out_len f) fs

-- each two neighbours in one delta, without a last one that is left over
abbrev pub pairs : List (List Mark) → List (List Mark)
pairs [] = []
pairs (f ∷ []) = []
pairs (f ∷ g ∷ fs) = compose f g ∷ pairs fs

-- each whole aligned run of 2 ^ level forms in one delta
abbrev pub runs_of : ℕ → List (List Mark) → List (List Mark)
runs_of zero forms = forms
runs_of (suc level) forms = pairs (runs_of level forms)

-- the place of the last form of the run at a place
abbrev pub last_of : ℕ → ℕ → ℕ
last_of zero place = place
last_of (suc level) place = last_of level (suc (place + place))

-- these are the runs that end with the form at a place: that of two forms, that of four, and so on
abbrev pub EndWith : List (List Mark) → ℕ → List (List Mark) → Type 0
EndWith forms at runs =
    (level place : ℕ) → place < length (runs_of (suc level) forms) → last_of (suc level) place ≡ at
    → slice_get runs level ≡ slice_get (runs_of (suc level) forms) place

-- a form that is ready to be put, and the runs that end with it
pub record ReadyModel : Type 0 where
  pub form : List Mark
  pub runs : List (List Mark)

-- it was made ready at these forms, over a text of so many characters
pub record IsReadyAt (base : ℕ) (forms : List (List Mark)) (ready : ReadyModel) : Type 0 where
  pub base_is : base_len ready.form ≡ reached base forms
  pub runs_are : EndWith (forms ++ ready.form ∷ []) (length forms) ready.runs

abbrev pub forms_in : List ReadyModel → List (List Mark)
forms_in items = map (λ item. item.form) items

-- each form stands with the runs that end with it
abbrev pub KeepRuns : List ReadyModel → Type 0
KeepRuns items = (i : ℕ) (item : ReadyModel) → slice_get items i ≡ Some item
    → EndWith (forms_in items) i item.runs

-- what holds of blocks at every moment
pub record BlocksInvariant (base : ℕ) (items : List ReadyModel) : Type 0 where
  pub follow : Follow base (forms_in items)
  pub few : length items < 2 ^ 32
  pub runs : KeepRuns items
