-- The reader of what a script signs is exact.
use Rattle.std.proofs.Common.{◌≡◌, ◌⊎◌, inl, inr, ℕ, true, false, List, [], ◌∷◌, ◌++◌, Option, Some, None, option_map, refl, sym, ap, ◌∙◌, subst, arith}
use Rattle.sporc_script.proofs.Common.{codes, nat_lt, decimal, all_scalars, bytes_eq, and_from, and_parts, Decides-ltb, encode_lower, Device, Role, hex_of, role_of, quoted, behind_of}
use Rattle.sporc_script.proofs.Common.{device_number_of, device_of, keyed_of, member_of, pair_of, then_read, u32_of, IsPayload, forgery_spelling, IsMember, DeviceInRange, IsDeviceNumber, IsU64}
use Rattle.sporc_script.proofs.Common.{device_text, role_name, text_of, cut, number_of, Forgery}
use Rattle.sporc_script.specs.declared.roster_change.RosterChange.TheVariants as changes
use Rattle.sporc_script.specs.declared.sign.LoneWord.{LoneWord}
use Rattle.sporc_script.specs.declared.sign.LoneWord.TheVariants as lone_words
use Rattle.sporc_script.specs.declared.sign.Signed.{Signed}
use Rattle.sporc_script.specs.declared.sign.Suffix.{Suffix}
use Rattle.sporc_script.specs.declared.sign.Suffix.TheVariants as suffixes
use Rattle.sporc_script.specs.declared.sign.SuffixWord.{SuffixWord}
use Rattle.sporc_script.specs.declared.sign.SuffixWord.TheVariants as suffix_words
use Rattle.sporc_script.specs.declared.sign.What.{What}
use Rattle.sporc_script.specs.declared.sign.What.TheVariants as whats
use Rattle.sporc_script.specs.declared.sign.WhatWord.{WhatWord}
use Rattle.sporc_script.specs.declared.sign.WhatWord.TheVariants as what_words
use Rattle.sporc_script.specs.Signs.{ForgeryInRange, IsVersion, MaySuffixInRange, SignedInRange, SuffixInRange, WhatInRange, forgery_of, is_version, last_of, lone_suffix, lone_word_name, lone_word_of, signed_of, signed_spelling, signed_upgrade, signed_with, stated_of, suffix_cut, suffix_fits, suffix_of, suffix_spelling, suffix_with, suffix_word_name, suffix_word_of, version_of, what_word_name, what_word_of, with_suffix}
use Rattle.sporc_script.proofs.Cuts.{IsWord, cut_end, cut_sound, cut_word, quoted_word, is_bare, word_from_test}
use Rattle.sporc_script.proofs.DeviceWords.{device_exact, device_number_exact, device_words}
use Rattle.sporc_script.proofs.Exact.{AreWords, IfIn, IsExact, map_exact, map_some, named_exact, pair_exact, passing_exact, range_exact, then_some, with_exact, with_spelling}
use Rattle.sporc_script.proofs.HexWords.{hex_exact, hex_words}
use Rattle.sporc_script.proofs.Keyed.{Begins, behind_exact, behind_then, keyed_exact, lone_exact, variant_sound}
use Rattle.sporc_script.proofs.PlainReaders.{device_number_words, member_words, number_words, role_exact, role_words}
use Rattle.sporc_script.proofs.TextWords.{member_exact, number_exact, text_exact, u32_exact}

-- ---- suffixes

pub what_word_exact : IsExact WhatWord (λ _. Unit {0}) what_word_name what_word_of
unfolding what_word_of
what_word_exact = named_exact WhatWord what_word_name (what_words.Insert ∷ what_words.Raw ∷ what_words.Add ∷ what_words.Remove ∷ what_words.Role ∷ what_words.Device ∷ what_words.DropDevice ∷ what_words.Upgrade ∷ [])
    (λ w. elim w as (λ w. what_word_of (what_word_name w) ≡ Some w) [ what_words.Insert ↦ refl | what_words.Raw ↦ refl | what_words.Add ↦ refl | what_words.Remove ↦ refl | what_words.Role ↦ refl | what_words.Device ↦ refl | what_words.DropDevice ↦ refl | what_words.Upgrade ↦ refl ])

what_word_words : (w : WhatWord) → IsWord (what_word_name w)
what_word_words w = word_from_test (what_word_name w) (elim w as (λ w. is_bare (what_word_name w) ≡ true) [ what_words.Insert ↦ refl | what_words.Raw ↦ refl | what_words.Add ↦ refl | what_words.Remove ↦ refl | what_words.Role ↦ refl | what_words.Device ↦ refl | what_words.DropDevice ↦ refl | what_words.Upgrade ↦ refl ])

pub suffix_word_exact : IsExact SuffixWord (λ _. Unit {0}) suffix_word_name suffix_word_of
unfolding suffix_word_of
suffix_word_exact = named_exact SuffixWord suffix_word_name (suffix_words.Number ∷ suffix_words.Base ∷ suffix_words.Epoch ∷ suffix_words.Leaf ∷ suffix_words.Wrap ∷ suffix_words.Drop ∷ suffix_words.Version ∷ suffix_words.Device ∷ [])
    (λ w. elim w as (λ w. suffix_word_of (suffix_word_name w) ≡ Some w) [ suffix_words.Number ↦ refl | suffix_words.Base ↦ refl | suffix_words.Epoch ↦ refl | suffix_words.Leaf ↦ refl | suffix_words.Wrap ↦ refl | suffix_words.Drop ↦ refl | suffix_words.Version ↦ refl | suffix_words.Device ↦ refl ])

suffix_word_words : (w : SuffixWord) → IsWord (suffix_word_name w)
suffix_word_words w = word_from_test (suffix_word_name w) (elim w as (λ w. is_bare (suffix_word_name w) ≡ true) [ suffix_words.Number ↦ refl | suffix_words.Base ↦ refl | suffix_words.Epoch ↦ refl | suffix_words.Leaf ↦ refl | suffix_words.Wrap ↦ refl | suffix_words.Drop ↦ refl | suffix_words.Version ↦ refl | suffix_words.Device ↦ refl ])

pub lone_word_exact : IsExact LoneWord (λ _. Unit {0}) lone_word_name lone_word_of
unfolding lone_word_of
lone_word_exact = named_exact LoneWord lone_word_name (lone_words.Commit ∷ lone_words.Previous ∷ []) (λ w. elim w as (λ w. lone_word_of (lone_word_name w) ≡ Some w) [ lone_words.Commit ↦ refl | lone_words.Previous ↦ refl ])

lone_word_words : AreWords LoneWord (λ _. Unit {0}) lone_word_name
lone_word_words w _ = word_from_test (lone_word_name w) (elim w as (λ w. is_bare (lone_word_name w) ≡ true) [ lone_words.Commit ↦ refl | lone_words.Previous ↦ refl ])

pub version_exact : IsExact ℕ IsVersion decimal version_of
unfolding version_of
version_exact = range_exact ℕ _ _ decimal _ (passing_exact ℕ _ decimal number_of is_version number_exact)
    (λ n h. let p = and_parts (nat_lt 0 n) (nat_lt n 3) h.1 in ((Decides-ltb 0 n).0 p.0, (Decides-ltb n 3).0 p.1))
    (λ n h. (omega (arith, h.1), and_from (nat_lt 0 n) (nat_lt n 3) ((Decides-ltb 0 n).1 h.0) ((Decides-ltb n 3).1 h.1)))

-- what stands behind `with`
abbrev tail_spelling : Suffix → List ℕ
tail_spelling (suffixes.Number k) = codes "number " ++ decimal k
tail_spelling (suffixes.Base b) = codes "base " ++ decimal b
tail_spelling (suffixes.Epoch k) = codes "epoch " ++ decimal k
tail_spelling (suffixes.Leaf k) = codes "leaf " ++ decimal k
tail_spelling (suffixes.Wrap n) = codes "wrap " ++ decimal n
tail_spelling (suffixes.Drop n) = codes "drop " ++ decimal n
tail_spelling suffixes.Commit = codes "commit"
tail_spelling suffixes.Previous = codes "previous"
tail_spelling (suffixes.Version k) = codes "version " ++ decimal k
tail_spelling (suffixes.Device d) = codes "device " ++ decimal d

tail_same : (s : Suffix) → codes "with" ++ 32 ∷ tail_spelling s ≡ suffix_spelling s
tail_same (suffixes.Number k) = refl
tail_same _ = refl

counted_sound : (w : SuffixWord) (bytes : List ℕ) (s : Suffix) → suffix_with w bytes ≡ Some s → SuffixInRange s × (suffix_word_name w ++ 32 ∷ bytes ≡ tail_spelling s)
counted_sound suffix_words.Number bytes s is = variant_sound ℕ Suffix _ _ u32_of u32_exact SuffixInRange tail_spelling (codes "number") suffixes.Number (λ a h. h) (λ a. refl) bytes s is
counted_sound suffix_words.Base bytes s is = variant_sound ℕ Suffix _ _ u32_of u32_exact SuffixInRange tail_spelling (codes "base") suffixes.Base (λ a h. h) (λ a. refl) bytes s is
counted_sound suffix_words.Epoch bytes s is = variant_sound ℕ Suffix _ _ u32_of u32_exact SuffixInRange tail_spelling (codes "epoch") suffixes.Epoch (λ a h. h) (λ a. refl) bytes s is
counted_sound suffix_words.Leaf bytes s is = variant_sound ℕ Suffix _ _ u32_of u32_exact SuffixInRange tail_spelling (codes "leaf") suffixes.Leaf (λ a h. h) (λ a. refl) bytes s is
counted_sound suffix_words.Wrap bytes s is = variant_sound ℕ Suffix _ _ member_of member_exact SuffixInRange tail_spelling (codes "wrap") suffixes.Wrap (λ a h. h) (λ a. refl) bytes s is
counted_sound suffix_words.Drop bytes s is = variant_sound ℕ Suffix _ _ member_of member_exact SuffixInRange tail_spelling (codes "drop") suffixes.Drop (λ a h. h) (λ a. refl) bytes s is
counted_sound suffix_words.Version bytes s is = variant_sound ℕ Suffix _ _ version_of version_exact SuffixInRange tail_spelling (codes "version") suffixes.Version (λ a h. h) (λ a. refl) bytes s is
counted_sound suffix_words.Device bytes s is = variant_sound ℕ Suffix _ _ device_number_of device_number_exact SuffixInRange tail_spelling (codes "device") suffixes.Device (λ a h. h) (λ a. refl) bytes s is

lone_range : (w : LoneWord) → SuffixInRange (lone_suffix w)
lone_range lone_words.Commit = tt
lone_range lone_words.Previous = tt

lone_spelled : (w : LoneWord) → lone_word_name w ≡ tail_spelling (lone_suffix w)
lone_spelled lone_words.Commit = refl
lone_spelled lone_words.Previous = refl

tail_sound : (bytes : List ℕ) (s : Suffix) (c : Option (List ℕ × List ℕ)) → cut bytes ≡ c → suffix_cut bytes c ≡ Some s → SuffixInRange s × (bytes ≡ tail_spelling s)
tail_sound bytes s None was e =
    let got = map_some (lone_word_of bytes) lone_suffix s e in
    let h = lone_word_exact.sound bytes got.0 got.1 in
    subst (λ (x : Suffix). SuffixInRange x × (bytes ≡ tail_spelling x)) got.2 (lone_range got.0, h.1 ∙ lone_spelled got.0)
tail_sound bytes s (Some parts) was e =
    let p = then_some (cut bytes) (λ q. then_read (suffix_word_of q.0) (λ k. suffix_with k q.1)) s e in
    let word = then_some (suffix_word_of p.0.0) (λ k. suffix_with k p.0.1) s p.2 in
    let named = suffix_word_exact.sound p.0.0 word.0 word.1 in
    let h = counted_sound word.0 p.0.1 s word.2 in
    (h.0, cut_sound bytes p.0.0 p.0.1 p.1 ∙ ap (λ w. w ++ 32 ∷ p.0.1) named.1 ∙ h.1)

counted_complete : (w : SuffixWord) (n : List ℕ) (s : Suffix) → suffix_with w n ≡ Some s → suffix_cut (suffix_word_name w ++ 32 ∷ n) (cut (suffix_word_name w ++ 32 ∷ n)) ≡ Some s
counted_complete w n s reads =
    let split = cut_word (suffix_word_name w) n (suffix_word_words w) in
    ap (suffix_cut (suffix_word_name w ++ 32 ∷ n)) split
    ∙ ap (λ (c : Option (List ℕ × List ℕ)). then_read c (λ q. then_read (suffix_word_of q.0) (λ k. suffix_with k q.1))) split
    ∙ ap (λ (o : Option SuffixWord). then_read o (λ k. suffix_with k n)) (suffix_word_exact.complete w tt)
    ∙ reads

lone_complete : (w : LoneWord) → suffix_cut (lone_word_name w) (cut (lone_word_name w)) ≡ Some (lone_suffix w)
lone_complete w =
    ap (suffix_cut (lone_word_name w)) (cut_end (lone_word_name w) (lone_word_words w tt)) ∙ ap (option_map lone_suffix) (lone_word_exact.complete w tt)

tail_complete : (s : Suffix) → SuffixInRange s → suffix_cut (tail_spelling s) (cut (tail_spelling s)) ≡ Some s
tail_complete (suffixes.Number k) range = counted_complete suffix_words.Number (decimal k) (suffixes.Number k) (ap (option_map suffixes.Number) (u32_exact.complete k range))
tail_complete (suffixes.Base k) range = counted_complete suffix_words.Base (decimal k) (suffixes.Base k) (ap (option_map suffixes.Base) (u32_exact.complete k range))
tail_complete (suffixes.Epoch k) range = counted_complete suffix_words.Epoch (decimal k) (suffixes.Epoch k) (ap (option_map suffixes.Epoch) (u32_exact.complete k range))
tail_complete (suffixes.Leaf k) range = counted_complete suffix_words.Leaf (decimal k) (suffixes.Leaf k) (ap (option_map suffixes.Leaf) (u32_exact.complete k range))
tail_complete (suffixes.Wrap n) range = counted_complete suffix_words.Wrap (decimal n) (suffixes.Wrap n) (ap (option_map suffixes.Wrap) (member_exact.complete n range))
tail_complete (suffixes.Drop n) range = counted_complete suffix_words.Drop (decimal n) (suffixes.Drop n) (ap (option_map suffixes.Drop) (member_exact.complete n range))
tail_complete suffixes.Commit range = lone_complete lone_words.Commit
tail_complete suffixes.Previous range = lone_complete lone_words.Previous
tail_complete (suffixes.Version k) range = counted_complete suffix_words.Version (decimal k) (suffixes.Version k) (ap (option_map suffixes.Version) (version_exact.complete k range))
tail_complete (suffixes.Device d) range = counted_complete suffix_words.Device (decimal d) (suffixes.Device d) (ap (option_map suffixes.Device) (device_number_exact.complete d range))

tail_exact : IsExact Suffix SuffixInRange tail_spelling (λ words. suffix_cut words (cut words))
tail_exact = record {
  sound = λ bytes s e. tail_sound bytes s (cut bytes) refl e;
  complete = λ s range. tail_complete s range;
}

pub suffix_exact : IsExact Suffix SuffixInRange suffix_spelling suffix_of
unfolding suffix_of
suffix_exact =
    let behind = behind_exact Suffix SuffixInRange tail_spelling (λ words. suffix_cut words (cut words)) tail_exact (codes "with") (word_from_test (codes "with") refl) in
    record {
      sound = λ bytes s e. let h = behind.sound bytes s e in (h.0, h.1 ∙ tail_same s);
      complete = λ s range. ap suffix_of (sym (tail_same s)) ∙ behind.complete s range;
    }

-- a suffix with a number is read word by word
pub suffix_read : (words rest first last : List ℕ) (word : SuffixWord) → behind_of (codes "with") (λ r. Some r) words ≡ Some rest → cut rest ≡ Some (first, last) → Some word ≡ suffix_word_of first
    → suffix_with word last ≡ suffix_of words
unfolding suffix_of
suffix_read words rest first last word behind split named =
    sym (behind_then Suffix (codes "with") (λ r. suffix_cut r (cut r)) words rest behind
    ∙ ap (suffix_cut rest) split
    ∙ ap (λ (c : Option (List ℕ × List ℕ)). then_read c (λ p. then_read (suffix_word_of p.0) (λ k. suffix_with k p.1))) split
    ∙ ap (λ (o : Option SuffixWord). then_read o (λ k. suffix_with k last)) (sym named))

-- ---- what is signed

-- how a word that a suffix may follow is spelled
with_same : {A : Type 0} (spell : A → List ℕ) (a : A) (o : Option Suffix) → with_spelling spell suffix_spelling a o ≡ with_suffix (spell a) o
with_same spell a None = refl
with_same spell a (Some s) = refl

may_suffix_in : (o : Option Suffix) → IfIn SuffixInRange o → MaySuffixInRange o
may_suffix_in None range = tt
may_suffix_in (Some s) range = range

suffix_in : (o : Option Suffix) → MaySuffixInRange o → IfIn SuffixInRange o
suffix_in None range = tt
suffix_in (Some s) range = range

last_exact : (A : Type 0) (In : A → Type 0) (spell : A → List ℕ) (read : List ℕ → Option A) → IsExact A In spell read → AreWords A In spell
    → IsExact (A × Option Suffix) (λ p. In p.0 × IfIn SuffixInRange p.1) (λ p. with_spelling spell suffix_spelling p.0 p.1) (last_of read)
last_exact A In spell read exact words = with_exact A Suffix In SuffixInRange spell suffix_spelling read suffix_of exact words suffix_exact

abbrev IsText : List ℕ → Type 0
IsText text = all_scalars text ≡ true

text_words : AreWords (List ℕ) IsText quoted
text_words text _ = quoted_word text

last_text : IsExact (ℕ × (List ℕ × Option Suffix)) (λ p. IsU64 p.0 × (IsText p.1.0 × IfIn SuffixInRange p.1.1)) (λ p. decimal p.0 ++ 32 ∷ with_spelling quoted suffix_spelling p.1.0 p.1.1) (pair_of number_of (last_of text_of))
last_text = pair_exact ℕ (List ℕ × Option Suffix) _ _ decimal (λ p. with_spelling quoted suffix_spelling p.0 p.1) number_of (last_of text_of) number_exact number_words
    (last_exact (List ℕ) IsText quoted text_of text_exact text_words)

last_hex : IsExact (List ℕ × Option Suffix) (λ p. IsPayload p.0 × IfIn SuffixInRange p.1) (λ p. with_spelling encode_lower suffix_spelling p.0 p.1) (last_of hex_of)
last_hex = last_exact (List ℕ) IsPayload encode_lower hex_of hex_exact hex_words

last_role : IsExact (ℕ × (Role × Option Suffix)) (λ p. IsMember p.0 × (Unit {0} × IfIn SuffixInRange p.1.1)) (λ p. decimal p.0 ++ 32 ∷ with_spelling role_name suffix_spelling p.1.0 p.1.1) (pair_of member_of (last_of role_of))
last_role = pair_exact ℕ (Role × Option Suffix) _ _ decimal (λ p. with_spelling role_name suffix_spelling p.0 p.1) member_of (last_of role_of) member_exact member_words
    (last_exact Role (λ _. Unit {0}) role_name role_of role_exact role_words)

last_member : IsExact (ℕ × Option Suffix) (λ p. IsMember p.0 × IfIn SuffixInRange p.1) (λ p. with_spelling decimal suffix_spelling p.0 p.1) (last_of member_of)
last_member = last_exact ℕ IsMember decimal member_of member_exact member_words

last_number : IsExact (ℕ × (ℕ × Option Suffix)) (λ p. IsMember p.0 × (IsDeviceNumber p.1.0 × IfIn SuffixInRange p.1.1)) (λ p. decimal p.0 ++ 32 ∷ with_spelling decimal suffix_spelling p.1.0 p.1.1) (pair_of member_of (last_of device_number_of))
last_number = pair_exact ℕ (ℕ × Option Suffix) _ _ decimal (λ p. with_spelling decimal suffix_spelling p.0 p.1) member_of (last_of device_number_of) member_exact member_words
    (last_exact ℕ IsDeviceNumber decimal device_number_of device_number_exact device_number_words)

-- the value of what these read
abbrev signed_text : ℕ × (List ℕ × Option Suffix) → Signed
signed_text p = record { what = whats.Insert (record { at = p.0; text = p.1.0 }); suffix = p.1.1 }

abbrev signed_raw : List ℕ × Option Suffix → Signed
signed_raw p = record { what = whats.Raw p.0; suffix = p.1 }

abbrev signed_add : ℕ × (Role × Option Suffix) → Signed
signed_add p = record { what = whats.Change (changes.Add (record { member = p.0; role = p.1.0 })); suffix = p.1.1 }

abbrev signed_removal : ℕ × Option Suffix → Signed
signed_removal p = record { what = whats.Change (changes.Remove p.0); suffix = p.1 }

abbrev signed_role : ℕ × (Role × Option Suffix) → Signed
signed_role p = record { what = whats.Change (changes.SetRole (record { member = p.0; role = p.1.0 })); suffix = p.1.1 }

abbrev signed_device : ℕ × (ℕ × Option Suffix) → Signed
signed_device p = record { what = whats.Change (changes.AddDevice (record { member = p.0; number = p.1.0 })); suffix = p.1.1 }

abbrev signed_drop : ℕ × (ℕ × Option Suffix) → Signed
signed_drop p = record { what = whats.Change (changes.DropDevice (record { member = p.0; number = p.1.0 })); suffix = p.1.1 }

-- its parts are in range
abbrev PartsInRange : Signed → Type 0
PartsInRange s = WhatInRange s.what × MaySuffixInRange s.suffix

-- and it is not a word alone
abbrev IsMore : What → Option Suffix → Type 0
IsMore (whats.Change changes.Upgrade) None = ⊥
IsMore what o = Unit {0}

abbrev HasMore : Signed → Type 0
HasMore s = PartsInRange s × IsMore s.what s.suffix

signed_sound : (w : WhatWord) (bytes : List ℕ) (s : Signed) → signed_with w bytes ≡ Some s → HasMore s × (what_word_name w ++ 32 ∷ bytes ≡ signed_spelling s)
signed_sound what_words.Insert bytes s is =
    variant_sound (ℕ × (List ℕ × Option Suffix)) Signed _ _ (pair_of number_of (last_of text_of)) last_text HasMore signed_spelling (codes "insert") signed_text
    (λ p h. (((h.0, h.1.0), may_suffix_in p.1.1 h.1.1), tt)) (λ p. ap (λ zs. codes "insert " ++ (decimal p.0 ++ 32 ∷ zs)) (with_same quoted p.1.0 p.1.1)) bytes s is
signed_sound what_words.Raw bytes s is =
    variant_sound (List ℕ × Option Suffix) Signed _ _ (last_of hex_of) last_hex HasMore signed_spelling (codes "raw") signed_raw
    (λ p h. ((h.0, may_suffix_in p.1 h.1), tt)) (λ p. ap (λ zs. codes "raw " ++ zs) (with_same encode_lower p.0 p.1)) bytes s is
signed_sound what_words.Add bytes s is =
    variant_sound (ℕ × (Role × Option Suffix)) Signed _ _ (pair_of member_of (last_of role_of)) last_role HasMore signed_spelling (codes "add") signed_add
    (λ p h. ((h.0, may_suffix_in p.1.1 h.1.1), tt)) (λ p. ap (λ zs. codes "add " ++ (decimal p.0 ++ 32 ∷ zs)) (with_same role_name p.1.0 p.1.1)) bytes s is
signed_sound what_words.Remove bytes s is =
    variant_sound (ℕ × Option Suffix) Signed _ _ (last_of member_of) last_member HasMore signed_spelling (codes "remove") signed_removal
    (λ p h. ((h.0, may_suffix_in p.1 h.1), tt)) (λ p. ap (λ zs. codes "remove " ++ zs) (with_same decimal p.0 p.1)) bytes s is
signed_sound what_words.Role bytes s is =
    variant_sound (ℕ × (Role × Option Suffix)) Signed _ _ (pair_of member_of (last_of role_of)) last_role HasMore signed_spelling (codes "role") signed_role
    (λ p h. ((h.0, may_suffix_in p.1.1 h.1.1), tt)) (λ p. ap (λ zs. codes "role " ++ (decimal p.0 ++ 32 ∷ zs)) (with_same role_name p.1.0 p.1.1)) bytes s is
signed_sound what_words.Device bytes s is =
    variant_sound (ℕ × (ℕ × Option Suffix)) Signed _ _ (pair_of member_of (last_of device_number_of)) last_number HasMore signed_spelling (codes "device") signed_device
    (λ p h. (((h.0, h.1.0), may_suffix_in p.1.1 h.1.1), tt)) (λ p. ap (λ zs. codes "device " ++ (decimal p.0 ++ 32 ∷ zs)) (with_same decimal p.1.0 p.1.1)) bytes s is
signed_sound what_words.DropDevice bytes s is =
    variant_sound (ℕ × (ℕ × Option Suffix)) Signed _ _ (pair_of member_of (last_of device_number_of)) last_number HasMore signed_spelling (codes "drop-device") signed_drop
    (λ p h. (((h.0, h.1.0), may_suffix_in p.1.1 h.1.1), tt)) (λ p. ap (λ zs. codes "drop-device " ++ (decimal p.0 ++ 32 ∷ zs)) (with_same decimal p.1.0 p.1.1)) bytes s is
signed_sound what_words.Upgrade bytes s is =
    variant_sound Suffix Signed _ _ suffix_of suffix_exact HasMore signed_spelling (codes "upgrade") (λ suffix. signed_upgrade (Some suffix))
    (λ suffix h. ((tt, h), tt)) (λ suffix. refl) bytes s is

begins_of : (what : What) (o : Option Suffix) → WhatInRange what → MaySuffixInRange o → IsMore what o → Begins WhatWord Signed what_word_name signed_spelling signed_with (record { what = what; suffix = o })
begins_of (whats.Insert e) o range may more = record {
  word = what_words.Insert;
  rest = decimal e.at ++ 32 ∷ with_suffix (quoted e.text) o;
  spelled = refl;
  reads =
      ap (λ zs. signed_with what_words.Insert (decimal e.at ++ 32 ∷ zs)) (sym (with_same quoted e.text o))
      ∙ ap (option_map signed_text) (last_text.complete (e.at, (e.text, o)) (range.0, (range.1, suffix_in o may)));
}
begins_of (whats.Raw bytes) o range may more = record {
  word = what_words.Raw;
  rest = with_suffix (encode_lower bytes) o;
  spelled = refl;
  reads =
      ap (signed_with what_words.Raw) (sym (with_same encode_lower bytes o))
      ∙ ap (option_map signed_raw) (last_hex.complete (bytes, o) (range, suffix_in o may));
}
begins_of (whats.Change (changes.Add m)) o range may more = record {
  word = what_words.Add;
  rest = decimal m.member ++ 32 ∷ with_suffix (role_name m.role) o;
  spelled = refl;
  reads =
      ap (λ zs. signed_with what_words.Add (decimal m.member ++ 32 ∷ zs)) (sym (with_same role_name m.role o))
      ∙ ap (option_map signed_add) (last_role.complete (m.member, (m.role, o)) (range, (tt, suffix_in o may)));
}
begins_of (whats.Change (changes.Remove m)) o range may more = record {
  word = what_words.Remove;
  rest = with_suffix (decimal m) o;
  spelled = refl;
  reads =
      ap (signed_with what_words.Remove) (sym (with_same decimal m o))
      ∙ ap (option_map signed_removal) (last_member.complete (m, o) (range, suffix_in o may));
}
begins_of (whats.Change (changes.SetRole m)) o range may more = record {
  word = what_words.Role;
  rest = decimal m.member ++ 32 ∷ with_suffix (role_name m.role) o;
  spelled = refl;
  reads =
      ap (λ zs. signed_with what_words.Role (decimal m.member ++ 32 ∷ zs)) (sym (with_same role_name m.role o))
      ∙ ap (option_map signed_role) (last_role.complete (m.member, (m.role, o)) (range, (tt, suffix_in o may)));
}
begins_of (whats.Change (changes.AddDevice d)) o range may more = record {
  word = what_words.Device;
  rest = decimal d.member ++ 32 ∷ with_suffix (decimal d.number) o;
  spelled = refl;
  reads =
      ap (λ zs. signed_with what_words.Device (decimal d.member ++ 32 ∷ zs)) (sym (with_same decimal d.number o))
      ∙ ap (option_map signed_device) (last_number.complete (d.member, (d.number, o)) (range.0, (range.1, suffix_in o may)));
}
begins_of (whats.Change (changes.DropDevice d)) o range may more = record {
  word = what_words.DropDevice;
  rest = decimal d.member ++ 32 ∷ with_suffix (decimal d.number) o;
  spelled = refl;
  reads =
      ap (λ zs. signed_with what_words.DropDevice (decimal d.member ++ 32 ∷ zs)) (sym (with_same decimal d.number o))
      ∙ ap (option_map signed_drop) (last_number.complete (d.member, (d.number, o)) (range.0, (range.1, suffix_in o may)));
}
begins_of (whats.Change changes.Upgrade) None range may more = absurd more
begins_of (whats.Change changes.Upgrade) (Some suffix) range may more = record {
  word = what_words.Upgrade;
  rest = suffix_spelling suffix;
  spelled = refl;
  reads = ap (option_map (λ s. signed_upgrade (Some s))) (suffix_exact.complete suffix may);
}

signed_begins : (s : Signed) → HasMore s → Begins WhatWord Signed what_word_name signed_spelling signed_with s
signed_begins s range = begins_of s.what s.suffix range.0.0 range.0.1 range.1

-- ---- what is signed, or the one word that stands alone

alone_or_more : (what : What) (o : Option Suffix) → PartsInRange (record { what = what; suffix = o })
    → (record { what = what; suffix = o } ≡ signed_upgrade None) ⊎ (HasMore (record { what = what; suffix = o }) × (bytes_eq (signed_spelling (record { what = what; suffix = o })) (codes "upgrade") ≡ false))
alone_or_more (whats.Change changes.Upgrade) None range = inl refl
alone_or_more what o range = inr ((range, tt), refl)

stated_exact : IsExact Signed PartsInRange signed_spelling stated_of
unfolding stated_of
stated_exact = lone_exact Signed (codes "upgrade") (signed_upgrade None) PartsInRange HasMore signed_spelling (keyed_of what_word_of signed_with)
    (keyed_exact WhatWord Signed what_word_name what_word_of what_word_exact what_word_words HasMore signed_spelling signed_with signed_sound signed_begins)
    (tt, tt) refl (λ s more. more.0) (λ s range. alone_or_more s.what s.suffix range)

pub signed_exact : IsExact Signed SignedInRange signed_spelling signed_of
unfolding signed_of
signed_exact =
    range_exact Signed _ _ signed_spelling _ (passing_exact Signed PartsInRange signed_spelling stated_of suffix_fits stated_exact)
    (λ s h. (h.0.0, h.0.1, h.1)) (λ s h. ((h.0, h.1), h.2))

-- ---- by whom, and after whose history

abbrev source_of : List ℕ → Option (Device × Signed)
source_of words = behind_of (codes "from") (pair_of device_of signed_of) words

source_exact : IsExact (Device × Signed) (λ p. DeviceInRange p.0 × SignedInRange p.1) (λ p. codes "from" ++ 32 ∷ (device_text p.0 ++ 32 ∷ signed_spelling p.1)) source_of
source_exact = behind_exact (Device × Signed) _ _ (pair_of device_of signed_of)
    (pair_exact Device Signed _ _ device_text signed_spelling device_of signed_of device_exact device_words signed_exact) (codes "from") (word_from_test (codes "from") refl)

pub forgery_exact : IsExact Forgery ForgeryInRange forgery_spelling forgery_of
unfolding forgery_of
forgery_exact = range_exact Forgery _ _ forgery_spelling _
    (map_exact (ℕ × (Device × Signed)) Forgery _ _ _
    (pair_exact ℕ (Device × Signed) _ _ decimal (λ p. codes "from" ++ 32 ∷ (device_text p.0 ++ 32 ∷ signed_spelling p.1)) member_of source_of member_exact member_words source_exact)
    (λ p. record { member = p.0; from = p.1.0; signed = p.1.1 }) (λ f. (f.member, (f.from, f.signed))) (λ p. refl) (λ f. refl))
    (λ f h. (h.0, h.1.0, h.1.1)) (λ f h. (h.0, (h.1, h.2)))
