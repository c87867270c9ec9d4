-- The forms of a history's entries, and the text that they make.
use Rattle.std.specs.Prelude.{ℕ, List, [], ◌∷◌, ◌++◌, length, drop, fold}
use Rattle.sporc_delta.specs.Marks.{Mark, apply, keep_marks}
use Rattle.sporc_suffix.specs.Forms.{later_over}
use Rattle.sporc_entry.specs.declared.genesis.Genesis.{Genesis}
use Rattle.sporc_line.specs.Kit.{Kit}
use Rattle.sporc_line.specs.Keys.{epoch_key}
use Rattle.sporc_line.specs.Operations.{Operation, What, Edited, Changed, Unread, operation_in}
use Rattle.sporc_line.specs.Operations.{operations}

-- the text after forms, from the empty text on
abbrev pub text_after : List (List Mark) → List ℕ
text_after forms = fold (λ text form. apply form text) [] forms

-- an edit's marks pass the forms after its base; all else keeps the text
abbrev pub form_of_what : List (List Mark) → ℕ → What → List Mark
form_of_what forms base (Edited marks) = later_over marks (drop base forms)
form_of_what forms base (Changed c) = keep_marks (length (text_after forms))
form_of_what forms base Unread = keep_marks (length (text_after forms))

-- the form of an operation behind the forms of those before it
abbrev pub form_of : List (List Mark) → Operation → List Mark
form_of forms o = form_of_what forms o.base o.what

-- the forms of operations behind those before them
unfoldable pub forms_from : List (List Mark) → List Operation → List (List Mark)
forms_from forms [] = forms
forms_from forms (o ∷ os) = forms_from (forms ++ form_of forms o ∷ []) os

-- the forms of a history's entries
abbrev pub forms_of : Genesis → Kit → List (List ℕ) → List (List Mark)
forms_of genesis kit entries = forms_from [] (operations genesis kit entries)

-- the form that an entry gets that comes next
abbrev pub next_form : Genesis → Kit → List (List ℕ) → List ℕ → List Mark
next_form genesis kit entries bytes =
    form_of (forms_of genesis kit entries) (operation_in (epoch_key genesis kit entries) bytes)

-- the committed text
abbrev pub text_of : Genesis → Kit → List (List ℕ) → List ℕ
text_of genesis kit entries = text_after (forms_of genesis kit entries)
