-- Words that are devices, and their numbers, read exactly.
use Rattle.std.proofs.Common.{◌≡◌, ℕ, ◌<◌, List, ◌∷◌, ◌++◌, Option, Some, None, option_map, refl, sym, ap, ap₂, ◌∙◌, subst, inl, inr, arith}
use Rattle.sporc_script.proofs.Common.{◌^◌, nat_lt, decimal, and_from, and_parts, Decides-ltb, eqb_tells, IsMember, first_device, Device, device_with, fits_u8, is_further, member_of, then_read}
use Rattle.sporc_script.proofs.Common.{with_more, DeviceInRange, IsDeviceNumber, IsFurtherNumber, device_text, Lacks, Splits, number_of, split_at}
use Rattle.sporc_member.specs.declared.device.TheConstants.{FIRST_DEVICE}
use Rattle.sporc_script.specs.Readers.{device_number_of, device_of, further_number_of}
use Rattle.sporc_script.proofs.Cuts.{bare_point, bare_word, decimal_bare, decimal_lacks, decimal_word, split_none, split_some, split_sound}
use Rattle.sporc_script.proofs.Exact.{AreWords, IsExact, map_some, passing_exact, range_exact, then_some}
use Rattle.sporc_script.proofs.TextWords.{member_exact, number_exact}

pub device_number_exact : IsExact ℕ IsDeviceNumber decimal device_number_of
unfolding device_number_of
device_number_exact = range_exact ℕ _ _ decimal _ (passing_exact ℕ _ decimal number_of fits_u8 number_exact)
    (λ n h. (Decides-ltb n (2 ^ 8)).0 h.1)
    (λ n h. (omega (arith, h), (Decides-ltb n (2 ^ 8)).1 h))

pub further_number_exact : IsExact ℕ IsFurtherNumber decimal further_number_of
unfolding further_number_of
further_number_exact = range_exact ℕ _ _ decimal _ (passing_exact ℕ _ decimal number_of is_further number_exact)
    (λ n h. let p = and_parts (nat_lt 0 n) (nat_lt n (2 ^ 8)) h.1 in ((Decides-ltb 0 n).0 p.0, (Decides-ltb n (2 ^ 8)).0 p.1))
    (λ n h. (omega (arith, h.1), and_from (nat_lt 0 n) (nat_lt n (2 ^ 8)) ((Decides-ltb 0 n).1 h.0) ((Decides-ltb n (2 ^ 8)).1 h.1)))

-- ---- how a device is spelled

abbrev device_by : ℕ → ℕ → Device
device_by member number = record { member = member; number = number }

first_text : (member : ℕ) → device_text (first_device member) ≡ decimal member
first_text member = refl

further_text : (member number : ℕ) → 0 < number → device_text (device_by member number) ≡ decimal member ++ 46 ∷ decimal number
further_text member number some =
    elim (eqb_tells number FIRST_DEVICE) [ inl h ↦ absurd (omega (arith, h.1, some)) | inr h ↦ rw h.0 refl ]

-- a first device, or a further one
abbrev pub IsSpelledAs : Device → List ℕ → Type 0
IsSpelledAs d word = DeviceInRange d × (word ≡ device_text d)

first_spelled : (member : ℕ) (word : List ℕ) → IsMember member → word ≡ decimal member → IsSpelledAs (first_device member) word
first_spelled member word range is = ((range, omega arith), is ∙ sym (first_text member))

further_spelled : (member number : ℕ) (word : List ℕ) → IsMember member → IsFurtherNumber number → word ≡ decimal member ++ 46 ∷ decimal number → IsSpelledAs (device_by member number) word
further_spelled member number word range further is = ((range, further.1), is ∙ sym (further_text member number further.0))

-- ---- how it is read

-- what a cut of the word at the '.' gives
abbrev pub read_cut : List ℕ → Option (List ℕ × List ℕ) → Option Device
read_cut word parts = option_map device_with (with_more member_of further_number_of word parts)

cut_sound : (word : List ℕ) (d : Device) (parts : Option (List ℕ × List ℕ)) → split_at 46 word ≡ parts → read_cut word parts ≡ Some d → IsSpelledAs d word
cut_sound word d None was e =
    let read = map_some (with_more member_of further_number_of word None) device_with d e in
    let got = map_some (member_of word) (λ m. (m, None)) read.0 read.1 in
    let h = member_exact.sound word got.0 got.1 in
    subst (λ (x : Device). IsSpelledAs x word) (ap device_with got.2 ∙ read.2) (first_spelled got.0 word h.0 h.1)
cut_sound word d (Some parts) was e =
    let read = map_some (with_more member_of further_number_of word (Some parts)) device_with d e in
    let first = then_some (member_of parts.0) (λ m. option_map (λ n. (m, Some n)) (further_number_of parts.1)) read.0 read.1 in
    let second = map_some (further_number_of parts.1) (λ n. (first.0, Some n)) read.0 first.2 in
    let h = member_exact.sound parts.0 first.0 first.1 in
    let k = further_number_exact.sound parts.1 second.0 second.1 in
    let whole : word ≡ decimal first.0 ++ 46 ∷ decimal second.0 =
    split_sound 46 word parts.0 parts.1 was ∙ ap (λ w. w ++ 46 ∷ parts.1) h.1 ∙ ap (λ r. decimal first.0 ++ 46 ∷ r) k.1 in
    subst (λ (x : Device). IsSpelledAs x word) (ap device_with second.2 ∙ read.2) (further_spelled first.0 second.0 word h.0 k.0 whole)

first_read : (member : ℕ) → IsMember member → read_cut (decimal member) (split_at 46 (decimal member)) ≡ Some (first_device member)
first_read member range =
    ap (read_cut (decimal member)) (split_none 46 (decimal member) (decimal_lacks 46 member (omega arith) (omega (arith, range.1))))
    ∙ ap (λ (o : Option ℕ). option_map device_with (option_map (λ m. (m, None)) o)) (member_exact.complete member range)

further_read : (member number : ℕ) → IsMember member → IsFurtherNumber number
    → read_cut (decimal member ++ 46 ∷ decimal number) (split_at 46 (decimal member ++ 46 ∷ decimal number)) ≡ Some (device_by member number)
further_read member number range further =
    ap (read_cut (decimal member ++ 46 ∷ decimal number)) (split_some 46 (decimal member) (decimal number) (decimal_lacks 46 member (omega arith) (omega (arith, range.1))))
    ∙ ap (λ (o : Option ℕ). option_map device_with (then_read o (λ m. option_map (λ n. (m, Some n)) (further_number_of (decimal number))))) (member_exact.complete member range)
    ∙ ap (λ (o : Option ℕ). option_map device_with (option_map (λ n. (member, Some n)) o)) (further_number_exact.complete number further)

text_read : (d : Device) → DeviceInRange d → read_cut (device_text d) (split_at 46 (device_text d)) ≡ Some d
text_read d range =
    elim (eqb_tells d.number FIRST_DEVICE) [
      | inl h ↦ subst (λ (n : ℕ). read_cut (device_text (device_by d.member n)) (split_at 46 (device_text (device_by d.member n))) ≡ Some (device_by d.member n)) (sym h.1) (first_read d.member range.0)
      | inr h ↦
          let further : IsFurtherNumber d.number = (omega (arith, h.1), range.1) in
          subst (λ (w : List ℕ). read_cut w (split_at 46 w) ≡ Some d) (sym (further_text d.member d.number further.0)) (further_read d.member d.number range.0 further)
    ]

pub device_exact : IsExact Device DeviceInRange device_text device_of
unfolding device_of
device_exact = record {
  sound = λ word d e. cut_sound word d (split_at 46 word) refl e;
  complete = λ d range. text_read d range;
}

pub device_words : AreWords Device DeviceInRange device_text
device_words d range =
    elim (eqb_tells d.number FIRST_DEVICE) [
      | inl h ↦ rw h.0 (decimal_word d.member (omega (arith, range.0.1)))
      | inr h ↦ rw h.0 (bare_word (decimal d.member ++ 46 ∷ decimal d.number) (bare_point (decimal d.member) (decimal d.number) (decimal_bare d.member (omega (arith, range.0.1))) (decimal_bare d.number (omega (arith, range.1)))))
    ]

-- ---- the reader's steps

-- no '.' stands in the word
pub device_alone : (word : List ℕ) → Lacks 46 word → device_of word ≡ read_cut word None
unfolding device_of
device_alone word lacks = ap (read_cut word) (split_none 46 word lacks)

-- one does
pub device_split : (word front rest : List ℕ) (member number : Option ℕ) → Splits 46 word front rest → member ≡ member_of front → number ≡ further_number_of rest
    → then_read member (λ m. option_map (λ n. device_by m n) number) ≡ device_of word
unfolding device_of
device_split word front rest member number split first second =
    let whole : split_at 46 word ≡ Some (front, rest) = ap (split_at 46) split.1 ∙ split_some 46 front rest split.0 in
    shaped member number ∙ ap₂ (λ (m n : Option ℕ). option_map device_with (then_read m (λ a. option_map (λ b. (a, Some b)) n))) first second ∙ sym (ap (read_cut word) whole)
  where
    shaped : (m n : Option ℕ) → then_read m (λ a. option_map (λ b. device_by a b) n) ≡ option_map device_with (then_read m (λ a. option_map (λ b. (a, Some b)) n))
    shaped None n = refl
    shaped (Some m) None = refl
    shaped (Some m) (Some n) = refl
