-- An entry that was read, within a copy of its bytes.
use Rattle.std.proofs.Common.{◌≡◌, ℕ, List, length, sym, ap, ◌∙◌, subst, Option}
use Rattle.sporc_head.proofs.Common.{ChangeBody, Entry, entry_bytes, change_of, IsEntry}
use Rattle.sporc_entry.specs.declared.header.Header.{Header}
use Rattle.sporc_entry.specs.EntryView.{entry_within, EntryViewInvariant}
use Rattle.sporc_entry.proofs.ViewLaws.{entry_in_place}

pub copied_entry : (e : Entry) (read bytes body : List ℕ) (header : Header) → IsEntry e × (read ≡ entry_bytes e) → header ≡ e.header → body ≡ e.body → bytes ≡ read → entry_within header bytes (length body) ≡ e
copied_entry e read bytes body header is eh eb er =
    ap (λ (h : Header). entry_within h bytes (length body)) eh
    ∙ ap (λ (b : List ℕ). entry_within e.header b (length body)) er
    ∙ ap (λ (b : List ℕ). entry_within e.header read (length b)) eb
    ∙ entry_in_place e read is.0 is.1

pub copied_holds : (e : Entry) (read bytes body : List ℕ) (header : Header) (change : Option ChangeBody) → IsEntry e × (read ≡ entry_bytes e) → header ≡ e.header → body ≡ e.body → bytes ≡ read → change ≡ change_of e
    → EntryViewInvariant (entry_within header bytes (length body)) bytes change
copied_holds e read bytes body header change is eh eb er ec =
    subst (λ (x : Entry). EntryViewInvariant x bytes change) (sym (copied_entry e read bytes body header is eh eb er)) (record { entry = is.0; spelled = er ∙ is.1; change = ec })
