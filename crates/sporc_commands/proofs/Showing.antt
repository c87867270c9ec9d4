-- The line of a key file that `keygen` wrote.
use Rattle.std.proofs.Common.{◌≡◌, ℕ, List, Some, Result, Ok, Err, sym, ap, ◌∙◌, subst}
use Rattle.sporc_commands.proofs.Common.{◌>>=◌, NamedFile, Device, LmsPrivate, lms_public_of, NewKey, key_file_bytes, key_file_of, private_in, key_line}
use Rattle.std.proofs.lemmas.Option.{same_Some}
use Rattle.sporc_keys.specs.declared.key_file.KeyFile.{KeyFile}
use Rattle.sporc_keys.proofs.KeyFileLaws.{key_file_again}
use Rattle.sporc_words.specs.declared.public.Public.{Public}
use Rattle.sporc_commands.specs.KeyShowing.{HasNewKey, IsLineOf}

-- the key that a key file says is its own
own_key : (file : KeyFile) (read : Result KeyFile ℕ) (key : LmsPrivate) → read ≡ Ok file → (read >>= λ f. Ok (private_in f)) ≡ Ok key → private_in file ≡ key
own_key file (Ok f) key again says =
    let same : f ≡ file = cc in
    let is : private_in f ≡ key = cc in
    ap private_in (sym same) ∙ is
own_key file (Err at) key again says = absurd cc

pub one_line : (asked : Public) (key : NewKey) (told : List NamedFile) (line : List ℕ) → HasNewKey told asked key → IsLineOf asked (Some told) line → line ≡ key_line key.public
one_line asked key told line new shows =
    let (bytes, short, holds, parse) = shows.says in
    let same : key_file_bytes key.file ≡ bytes = same_Some (key_file_bytes key.file) bytes (sym new.stands ∙ holds) in
    let read : key_file_of asked.device bytes ≡ Ok key.file =
    subst (λ (b : List ℕ). key_file_of asked.device b ≡ Ok key.file) same
    (subst (λ (d : Device). key_file_of d (key_file_bytes key.file) ≡ Ok key.file) new.device (key_file_again key.file new.is_key_file)) in
    let own = own_key key.file (key_file_of asked.device bytes) shows.key read parse in
    shows.line_is ∙ ap (λ (k : LmsPrivate). key_line (lms_public_of k)) (sym own) ∙ ap (λ (k : NewKey). key_line k.public) (sym new.made)
