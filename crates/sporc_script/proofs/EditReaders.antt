-- The readers of edits are exact.
use Rattle.std.proofs.Common.{◌≡◌, ◌⊎◌, inl, inr, ℕ, Bool, true, false, List, [], ◌∷◌, ◌++◌, Option, Some, None, option_map, refl, ap, ◌∙◌, subst}
use Rattle.sporc_script.proofs.Common.{codes, if◌then◌else◌, decimal, all_scalars, bytes_eq, bytes_eq-Decides, Device, MemberRole, member_device_of, member_role_of, quoted, device_of, keyed_of}
use Rattle.sporc_script.proofs.Common.{member_of, pair_of, then_read, EditInRange, IsU64, RosterChangeInRange, RosterEditInRange, SeenInRange, TextEditInRange, edit_spelling, member_role_spelling}
use Rattle.sporc_script.proofs.Common.{roster_change_spelling, roster_edit_spelling, roster_word_name, stated_spelling, text_edit_spelling, text_word_name, device_text, member_device_spelling}
use Rattle.sporc_script.proofs.Common.{text_of, cut, number_of, Edit, RosterEdit, Insertion, Removal}
use Rattle.sporc_script.specs.declared.roster_change.RosterChange.{RosterChange}
use Rattle.sporc_script.specs.declared.roster_change.RosterChange.TheVariants as changes
use Rattle.sporc_script.specs.declared.roster_change.RosterWord.{RosterWord}
use Rattle.sporc_script.specs.declared.roster_change.RosterWord.TheVariants as roster_words
use Rattle.sporc_script.specs.declared.text_edit.TextEdit.{TextEdit}
use Rattle.sporc_script.specs.declared.text_edit.TextEdit.TheVariants as edits
use Rattle.sporc_script.specs.declared.text_edit.TextWord.{TextWord}
use Rattle.sporc_script.specs.declared.text_edit.TextWord.TheVariants as text_words
use Rattle.sporc_script.specs.Edits.{edit_of, insertion_of, removal_of, roster_change_of, roster_change_with, roster_edit_of, roster_word_of, stated_of, stated_with, text_edit_of, text_edit_with, text_word_of}
use Rattle.sporc_script.proofs.Cuts.{IsWord, cut_sound, cut_word, word_from_test}
use Rattle.sporc_script.proofs.DeviceWords.{device_exact, device_words}
use Rattle.sporc_script.proofs.Exact.{IsExact, map_exact, map_some, named_exact, pair_exact, range_exact, then_some}
use Rattle.sporc_script.proofs.Keyed.{Begins, IsMoreThan, keyed_exact, lone_exact, variant_sound}
use Rattle.sporc_script.proofs.PlainReaders.{member_device_exact, member_role_exact, number_words}
use Rattle.sporc_script.proofs.TextWords.{member_exact, number_exact, text_exact}

pub text_word_exact : IsExact TextWord (λ _. Unit {0}) text_word_name text_word_of
unfolding text_word_of
text_word_exact = named_exact TextWord text_word_name (text_words.Insert ∷ text_words.Remove ∷ []) (λ w. elim w as (λ w. text_word_of (text_word_name w) ≡ Some w) [ text_words.Insert ↦ refl | text_words.Remove ↦ refl ])

text_word_words : (w : TextWord) → IsWord (text_word_name w)
text_word_words text_words.Insert = word_from_test (codes "insert") refl
text_word_words text_words.Remove = word_from_test (codes "remove") refl

pub roster_word_exact : IsExact RosterWord (λ _. Unit {0}) roster_word_name roster_word_of
unfolding roster_word_of
roster_word_exact = named_exact RosterWord roster_word_name (roster_words.Add ∷ roster_words.Remove ∷ roster_words.Role ∷ roster_words.Device ∷ roster_words.DropDevice ∷ [])
    (λ w. elim w as (λ w. roster_word_of (roster_word_name w) ≡ Some w) [ roster_words.Add ↦ refl | roster_words.Remove ↦ refl | roster_words.Role ↦ refl | roster_words.Device ↦ refl | roster_words.DropDevice ↦ refl ])

roster_word_words : (w : RosterWord) → IsWord (roster_word_name w)
roster_word_words roster_words.Add = word_from_test (codes "add") refl
roster_word_words roster_words.Remove = word_from_test (codes "remove") refl
roster_word_words roster_words.Role = word_from_test (codes "role") refl
roster_word_words roster_words.Device = word_from_test (codes "device") refl
roster_word_words roster_words.DropDevice = word_from_test (codes "drop-device") refl

-- ---- edits of the text

pub insertion_exact : IsExact Insertion (λ e. IsU64 e.at × (all_scalars e.text ≡ true)) (λ e. decimal e.at ++ 32 ∷ quoted e.text) insertion_of
unfolding insertion_of
insertion_exact =
    map_exact (ℕ × List ℕ) Insertion _ _ _
    (pair_exact ℕ (List ℕ) _ _ decimal quoted number_of text_of number_exact number_words text_exact)
    (λ p. record { at = p.0; text = p.1 }) (λ e. (e.at, e.text)) (λ p. refl) (λ e. refl)

pub removal_exact : IsExact Removal (λ e. IsU64 e.at × IsU64 e.count) (λ e. decimal e.at ++ 32 ∷ decimal e.count) removal_of
unfolding removal_of
removal_exact =
    map_exact (ℕ × ℕ) Removal _ _ _
    (pair_exact ℕ ℕ _ _ decimal decimal number_of number_of number_exact number_words number_exact)
    (λ p. record { at = p.0; count = p.1 }) (λ e. (e.at, e.count)) (λ p. refl) (λ e. refl)

text_edit_sound : (w : TextWord) (bytes : List ℕ) (e : TextEdit) → text_edit_with w bytes ≡ Some e → TextEditInRange e × (text_word_name w ++ 32 ∷ bytes ≡ text_edit_spelling e)
text_edit_sound text_words.Insert bytes e is = variant_sound Insertion TextEdit _ _ insertion_of insertion_exact TextEditInRange text_edit_spelling (codes "insert") edits.Insert (λ a h. h) (λ a. refl) bytes e is
text_edit_sound text_words.Remove bytes e is = variant_sound Removal TextEdit _ _ removal_of removal_exact TextEditInRange text_edit_spelling (codes "remove") edits.Remove (λ a h. h) (λ a. refl) bytes e is

text_edit_begins : (e : TextEdit) → TextEditInRange e → Begins TextWord TextEdit text_word_name text_edit_spelling text_edit_with e
text_edit_begins (edits.Insert e) range = record { word = text_words.Insert; rest = decimal e.at ++ 32 ∷ quoted e.text; spelled = refl; reads = ap (option_map edits.Insert) (insertion_exact.complete e range) }
text_edit_begins (edits.Remove e) range = record { word = text_words.Remove; rest = decimal e.at ++ 32 ∷ decimal e.count; spelled = refl; reads = ap (option_map edits.Remove) (removal_exact.complete e range) }

pub text_edit_exact : IsExact TextEdit TextEditInRange text_edit_spelling text_edit_of
unfolding text_edit_of
text_edit_exact = keyed_exact TextWord TextEdit text_word_name text_word_of text_word_exact text_word_words TextEditInRange text_edit_spelling text_edit_with text_edit_sound text_edit_begins

-- ---- an edit, and what it is stated on

abbrev StatedInRange : Option ℕ × TextEdit → Type 0
StatedInRange p = SeenInRange p.0 × TextEditInRange p.1

abbrev stated : Option ℕ × TextEdit → List ℕ
stated p = stated_spelling p.0 p.1

seen_then_edit : IsExact (ℕ × TextEdit) (λ p. IsU64 p.0 × TextEditInRange p.1) (λ p. decimal p.0 ++ 32 ∷ text_edit_spelling p.1) (pair_of number_of text_edit_of)
seen_then_edit = pair_exact ℕ TextEdit _ _ decimal text_edit_spelling number_of text_edit_of number_exact number_words text_edit_exact

stated_sound : (words first rest : List ℕ) (p : Option ℕ × TextEdit) (t : Bool) → bytes_eq first (codes "seen") ≡ t → words ≡ first ++ 32 ∷ rest
    → (if t then option_map (λ q. (Some q.0, q.1)) (pair_of number_of text_edit_of rest) else option_map (λ change. (None, change)) (text_edit_of words)) ≡ Some p
    → StatedInRange p × (words ≡ stated p)
stated_sound words first rest p true seen split e =
    let got = map_some (pair_of number_of text_edit_of rest) (λ q. (Some q.0, q.1)) p e in
    let h = seen_then_edit.sound rest got.0 got.1 in
    let named : first ≡ codes "seen" = (bytes_eq-Decides first (codes "seen")).0 seen in
    subst (λ (q : Option ℕ × TextEdit). StatedInRange q × (words ≡ stated q)) got.2
    (h.0, split ∙ ap (λ w. w ++ 32 ∷ rest) named ∙ ap (λ r. codes "seen" ++ 32 ∷ r) h.1)
stated_sound words first rest p false other split e =
    let got = map_some (text_edit_of words) (λ change. (None, change)) p e in
    let h = text_edit_exact.sound words got.0 got.1 in
    subst (λ (q : Option ℕ × TextEdit). StatedInRange q × (words ≡ stated q)) got.2 ((tt, h.0), h.1)

-- an edit that is stated on nothing does not begin with `seen`
edit_alone : (e : TextEdit) → (w : TextWord) × (rest : List ℕ) × (text_edit_spelling e ≡ text_word_name w ++ 32 ∷ rest)
edit_alone (edits.Insert e) = (text_words.Insert, decimal e.at ++ 32 ∷ quoted e.text, refl)
edit_alone (edits.Remove e) = (text_words.Remove, decimal e.at ++ 32 ∷ decimal e.count, refl)

not_seen : (w : TextWord) → bytes_eq (text_word_name w) (codes "seen") ≡ false
not_seen text_words.Insert = refl
not_seen text_words.Remove = refl

stated_complete : (seen : Option ℕ) (e : TextEdit) → SeenInRange seen → TextEditInRange e → stated_of (stated_spelling seen e) ≡ Some (seen, e)
unfolding stated_of
stated_complete None e _ range =
    let words = text_edit_spelling e in
    let alone = edit_alone e in
    ap (λ (c : Option (List ℕ × List ℕ)). then_read c (λ parts. stated_with words parts.0 parts.1))
    (ap cut alone.2 ∙ cut_word (text_word_name alone.0) alone.1 (text_word_words alone.0))
    ∙ ap (λ (t : Bool). if t then option_map (λ q. (Some q.0, q.1)) (pair_of number_of text_edit_of alone.1) else option_map (λ change. (None, change)) (text_edit_of words)) (not_seen alone.0)
    ∙ ap (option_map (λ change. (None, change))) (text_edit_exact.complete e range)
stated_complete (Some seen) e fits range =
    let words = stated_spelling (Some seen) e in
    let rest = decimal seen ++ 32 ∷ text_edit_spelling e in
    ap (λ (c : Option (List ℕ × List ℕ)). then_read c (λ parts. stated_with words parts.0 parts.1))
    (cut_word (codes "seen") rest (word_from_test (codes "seen") refl))
    ∙ ap (option_map (λ q. (Some q.0, q.1))) (seen_then_edit.complete (seen, e) (fits, range))

pub stated_exact : IsExact (Option ℕ × TextEdit) StatedInRange stated stated_of
unfolding stated_of
stated_exact = record {
  sound = λ words p e.
      let parts = then_some (cut words) (λ c. stated_with words c.0 c.1) p e in
      stated_sound words parts.0.0 parts.0.1 p (bytes_eq parts.0.0 (codes "seen")) refl (cut_sound words parts.0.0 parts.0.1 parts.1) parts.2;
  complete = λ p range. stated_complete p.0 p.1 range.0 range.1;
}

pub edit_exact : IsExact Edit EditInRange edit_spelling edit_of
unfolding edit_of
edit_exact = range_exact Edit _ _ edit_spelling _
    (map_exact (Device × (Option ℕ × TextEdit)) Edit _ _ _
    (pair_exact Device (Option ℕ × TextEdit) _ _ device_text stated device_of stated_of device_exact device_words stated_exact)
    (λ p. record { device = p.0; seen = p.1.0; change = p.1.1 }) (λ e. (e.device, (e.seen, e.change))) (λ p. refl) (λ e. refl))
    (λ e h. (h.0, h.1.0, h.1.1)) (λ e h. (h.0, (h.1, h.2)))

-- ---- changes of the members

-- each but the one that is a word alone
abbrev HasMore : RosterChange → Type 0
HasMore = IsMoreThan (codes "upgrade") RosterChangeInRange roster_change_spelling

roster_change_sound : (w : RosterWord) (bytes : List ℕ) (c : RosterChange) → roster_change_with w bytes ≡ Some c → HasMore c × (roster_word_name w ++ 32 ∷ bytes ≡ roster_change_spelling c)
roster_change_sound roster_words.Add bytes c is = variant_sound MemberRole RosterChange _ _ member_role_of member_role_exact HasMore roster_change_spelling (codes "add") changes.Add (λ a h. (h, refl)) (λ a. refl) bytes c is
roster_change_sound roster_words.Remove bytes c is = variant_sound ℕ RosterChange _ _ member_of member_exact HasMore roster_change_spelling (codes "remove") changes.Remove (λ a h. (h, refl)) (λ a. refl) bytes c is
roster_change_sound roster_words.Role bytes c is = variant_sound MemberRole RosterChange _ _ member_role_of member_role_exact HasMore roster_change_spelling (codes "role") changes.SetRole (λ a h. (h, refl)) (λ a. refl) bytes c is
roster_change_sound roster_words.Device bytes c is = variant_sound Device RosterChange _ _ member_device_of member_device_exact HasMore roster_change_spelling (codes "device") changes.AddDevice (λ a h. (h, refl)) (λ a. refl) bytes c is
roster_change_sound roster_words.DropDevice bytes c is = variant_sound Device RosterChange _ _ member_device_of member_device_exact HasMore roster_change_spelling (codes "drop-device") changes.DropDevice (λ a h. (h, refl)) (λ a. refl) bytes c is

roster_change_begins : (c : RosterChange) → HasMore c → Begins RosterWord RosterChange roster_word_name roster_change_spelling roster_change_with c
roster_change_begins (changes.Add m) range = record { word = roster_words.Add; rest = member_role_spelling m; spelled = refl; reads = ap (option_map changes.Add) (member_role_exact.complete m range.0) }
roster_change_begins (changes.Remove m) range = record { word = roster_words.Remove; rest = decimal m; spelled = refl; reads = ap (option_map changes.Remove) (member_exact.complete m range.0) }
roster_change_begins (changes.SetRole m) range = record { word = roster_words.Role; rest = member_role_spelling m; spelled = refl; reads = ap (option_map changes.SetRole) (member_role_exact.complete m range.0) }
roster_change_begins (changes.AddDevice d) range = record { word = roster_words.Device; rest = member_device_spelling d; spelled = refl; reads = ap (option_map changes.AddDevice) (member_device_exact.complete d range.0) }
roster_change_begins (changes.DropDevice d) range = record { word = roster_words.DropDevice; rest = member_device_spelling d; spelled = refl; reads = ap (option_map changes.DropDevice) (member_device_exact.complete d range.0) }
roster_change_begins changes.Upgrade range = let no : true ≡ false = range.1 in absurd cc

upgrade_or_more : (c : RosterChange) → RosterChangeInRange c → (c ≡ changes.Upgrade) ⊎ (HasMore c × (bytes_eq (roster_change_spelling c) (codes "upgrade") ≡ false))
upgrade_or_more changes.Upgrade range = inl refl
upgrade_or_more c range = inr ((range, refl), refl)

pub roster_change_exact : IsExact RosterChange RosterChangeInRange roster_change_spelling roster_change_of
unfolding roster_change_of
roster_change_exact = lone_exact RosterChange (codes "upgrade") changes.Upgrade RosterChangeInRange HasMore roster_change_spelling (keyed_of roster_word_of roster_change_with)
    (keyed_exact RosterWord RosterChange roster_word_name roster_word_of roster_word_exact roster_word_words HasMore roster_change_spelling roster_change_with roster_change_sound roster_change_begins)
    tt refl (λ c more. more.0) upgrade_or_more

pub roster_edit_exact : IsExact RosterEdit RosterEditInRange roster_edit_spelling roster_edit_of
unfolding roster_edit_of
roster_edit_exact =
    map_exact (Device × RosterChange) RosterEdit _ _ _
    (pair_exact Device RosterChange _ _ device_text roster_change_spelling device_of roster_change_of device_exact device_words roster_change_exact)
    (λ p. record { device = p.0; change = p.1 }) (λ e. (e.device, e.change)) (λ p. refl) (λ e. refl)
