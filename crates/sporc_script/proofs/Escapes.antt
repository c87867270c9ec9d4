-- Escapes, read byte by byte, and the two laws of reading and writing them.
use Rattle.std.proofs.Common.{◌≡◌, ℕ, ◌+◌, ◌<◌, ◌≤◌, Bool, true, false, List, [], ◌∷◌, ◌++◌, length, drop, get_or, flat_map, Option, Some, None, option_map, refl, sym, ap, ◌∙◌, subst, inl, inr, add-one, drop-cons, append_assoc}
use Rattle.sporc_script.proofs.Common.{eqb_tells, append-nil, append_cancel_right, drop_all, step_of, resume, unescape, escape, quoted, IsUtf8, chars, encode_utf8_all, encodes-chars}
use Rattle.sporc_script.specs.declared.quoted.Step.{Step}
use Rattle.sporc_script.specs.declared.quoted.Step.TheVariants.{Refused, Backslash, Byte}
use Rattle.sporc_script.proofs.CharEscapes.{escape_byte, flat_map-encode_all}

unescape_cons : (e : Bool) (b : ℕ) (bs : List ℕ) → unescape e (b ∷ bs) ≡ resume (step_of e b) (unescape true bs) (unescape false bs)
unescape_cons true b bs = refl
unescape_cons false b bs = refl

unescape-drop : (e : Bool) (xs : List ℕ) (i : ℕ) → i < length xs
    → unescape e (drop i xs) ≡ resume (step_of e (get_or xs i 0)) (unescape true (drop (i + 1) xs)) (unescape false (drop (i + 1) xs))
unescape-drop e xs i low =
    let cut : drop i xs ≡ get_or xs i 0 ∷ drop (i + 1) xs = rw add-one (drop-cons xs i 0 low) in
    ap (unescape e) cut ∙ unescape_cons e (get_or xs i 0) (drop (i + 1) xs)

pub after_backslash : (xs text : List ℕ) (e : Bool) (i : ℕ) → i < length xs → unescape false xs ≡ option_map (λ t. text ++ t) (unescape e (drop i xs))
    → step_of e (get_or xs i 0) ≡ Backslash → unescape false xs ≡ option_map (λ t. text ++ t) (unescape true (drop (i + 1) xs))
after_backslash xs text e i low so_far is = so_far ∙ ap (option_map (λ t. text ++ t)) (rw is at (unescape-drop e xs i low))

pub pushed : (text : List ℕ) (b : ℕ) (o : Option (List ℕ)) → option_map (λ t. text ++ t) (option_map (λ t. b ∷ t) o) ≡ option_map (λ t. (text ++ b ∷ []) ++ t) o
pushed text b None = refl
pushed text b (Some t) = ap Some (sym (append_assoc text (b ∷ []) t))

pub after_byte : (xs text : List ℕ) (e : Bool) (i b : ℕ) → i < length xs → unescape false xs ≡ option_map (λ t. text ++ t) (unescape e (drop i xs))
    → step_of e (get_or xs i 0) ≡ Byte b → unescape false xs ≡ option_map (λ t. (text ++ b ∷ []) ++ t) (unescape false (drop (i + 1) xs))
after_byte xs text e i b low so_far is =
    so_far ∙ ap (option_map (λ t. text ++ t)) (rw is at (unescape-drop e xs i low)) ∙ pushed text b (unescape false (drop (i + 1) xs))

pub refused_here : (xs text : List ℕ) (e : Bool) (i : ℕ) → i < length xs → unescape false xs ≡ option_map (λ t. text ++ t) (unescape e (drop i xs))
    → step_of e (get_or xs i 0) ≡ Refused → unescape false xs ≡ None
refused_here xs text e i low so_far is = so_far ∙ ap (option_map (λ t. text ++ t)) (rw is at (unescape-drop e xs i low))

-- at the end a backslash may be left alone
at_end : (xs text : List ℕ) (e : Bool) (i : ℕ) → length xs ≤ i → unescape false xs ≡ option_map (λ t. text ++ t) (unescape e (drop i xs))
    → unescape false xs ≡ option_map (λ t. text ++ t) (unescape e [])
at_end xs text e i end so_far = so_far ∙ ap (λ (ys : List ℕ). option_map (λ t. text ++ t) (unescape e ys)) (drop_all i xs end)

pub cut_short : (xs text : List ℕ) (e : Bool) (i : ℕ) → length xs ≤ i → unescape false xs ≡ option_map (λ t. text ++ t) (unescape e (drop i xs))
    → e ≡ true → unescape false xs ≡ None
cut_short xs text e i end so_far is = rw is at (at_end xs text e i end so_far)

pub read_whole : (xs text : List ℕ) (e : Bool) (i : ℕ) → length xs ≤ i → unescape false xs ≡ option_map (λ t. text ++ t) (unescape e (drop i xs))
    → e ≡ false → unescape false xs ≡ Some text
read_whole xs text e i end so_far is = rw is at (at_end xs text e i end so_far) ∙ ap Some (append-nil text)

-- the backslash that stands before
abbrev pub before : Bool → List ℕ
before true = 92 ∷ []
before false = []

-- what a step says of the byte
abbrev pub Says : Bool → ℕ → Step → Type 0
Says e b Refused = Unit {0}
Says e b Backslash = (e ≡ false) × (b ≡ 92)
Says e b (Byte c) = before e ++ (b ∷ []) ≡ escape_byte c

step_plain : (b : ℕ) → Says false b (step_of false b)
step_plain b =
    elim (eqb_tells b 92) [
      | inl h ↦ subst (λ c. Says false c (step_of false c)) (sym h.1) (refl, refl)
      | inr n ↦ elim (eqb_tells b 34) [
        | inl h ↦ subst (λ c. Says false c (step_of false c)) (sym h.1) tt
        | inr m ↦ elim (eqb_tells b 10) [
          | inl h ↦ subst (λ c. Says false c (step_of false c)) (sym h.1) tt
          | inr k ↦
              let is : step_of false b ≡ Byte b = rw (n.0, m.0, k.0) refl in
              let same : escape_byte b ≡ b ∷ [] = rw (n.0, m.0, k.0) refl in
              subst (λ (s : Step). Says false b s) (sym is) (sym same)
        ]
      ]
    ]

step_escaped : (b : ℕ) → Says true b (step_of true b)
step_escaped b =
    elim (eqb_tells b 110) [
      | inl h ↦ subst (λ c. Says true c (step_of true c)) (sym h.1) refl
      | inr n ↦ elim (eqb_tells b 92) [
        | inl h ↦ subst (λ c. Says true c (step_of true c)) (sym h.1) refl
        | inr m ↦ elim (eqb_tells b 34) [
          | inl h ↦ subst (λ c. Says true c (step_of true c)) (sym h.1) refl
          | inr k ↦
              let is : step_of true b ≡ Refused = rw (n.0, m.0, k.0) refl in
              subst (λ (s : Step). Says true b s) (sym is) tt
        ]
      ]
    ]

step_says : (e : Bool) (b : ℕ) → Says e b (step_of e b)
step_says true b = step_escaped b
step_says false b = step_plain b

put_first : (b : ℕ) (o : Option (List ℕ)) (t : List ℕ) → option_map (λ t. b ∷ t) o ≡ Some t → (s : List ℕ) × (o ≡ Some s) × (t ≡ b ∷ s)
put_first b None t h = cc
put_first b (Some s) t h = (s, refl, (let e : Some (b ∷ s) ≡ Some t = h in cc))

-- what is read is the escapes of what it stands for
abbrev pub IsSound : List ℕ → Type 0
IsSound xs = (e : Bool) (t : List ℕ) → unescape e xs ≡ Some t → before e ++ xs ≡ flat_map escape_byte t

sound_step : (e : Bool) (b : ℕ) (bs t : List ℕ) (s : Step) → IsSound bs → Says e b s → resume s (unescape true bs) (unescape false bs) ≡ Some t → before e ++ (b ∷ bs) ≡ flat_map escape_byte t
sound_step e b bs t Refused ih says h = cc
sound_step e b bs t Backslash ih says h = rw (says.0, says.1) (ih true t h)
sound_step e b bs t (Byte c) ih says h =
    let read = put_first c (unescape false bs) t h in
    sym (append_assoc (before e) (b ∷ []) bs) ∙ ap (λ zs. zs ++ bs) says ∙ ap (λ zs. escape_byte c ++ zs) (ih false read.0 read.1)
    ∙ ap (flat_map escape_byte) (sym read.2)

pub sound : (xs : List ℕ) → IsSound xs
sound [] false t h = let e : t ≡ [] = cc in subst (λ (zs : List ℕ). [] ≡ flat_map escape_byte zs) (sym e) refl
sound [] true t h = cc
sound (b ∷ bs) e t h = sound_step e b bs t (step_of e b) (sound bs) (step_says e b) (sym (unescape_cons e b bs) ∙ h)

-- the escapes of a text are read as it
pub complete : (t : List ℕ) → unescape false (flat_map escape_byte t) ≡ Some t
complete [] = refl
complete (b ∷ t) =
    let rest = complete t in
    elim (eqb_tells b 92) [
      | inl h ↦ subst (λ (c : ℕ). unescape false (escape_byte c ++ flat_map escape_byte t) ≡ Some (c ∷ t)) (sym h.1) (ap (option_map (λ t. 92 ∷ t)) rest)
      | inr n ↦ elim (eqb_tells b 34) [
        | inl h ↦ subst (λ (c : ℕ). unescape false (escape_byte c ++ flat_map escape_byte t) ≡ Some (c ∷ t)) (sym h.1) (ap (option_map (λ t. 34 ∷ t)) rest)
        | inr m ↦ elim (eqb_tells b 10) [
          | inl h ↦ subst (λ (c : ℕ). unescape false (escape_byte c ++ flat_map escape_byte t) ≡ Some (c ∷ t)) (sym h.1) (ap (option_map (λ t. 10 ∷ t)) rest)
          | inr k ↦
              let is : step_of false b ≡ Byte b = rw (n.0, m.0, k.0) refl in
              let same : escape_byte b ≡ b ∷ [] = rw (n.0, m.0, k.0) refl in
              ap (λ zs. unescape false (zs ++ flat_map escape_byte t)) same
              ∙ ap (λ (s : Step). resume s (unescape true (flat_map escape_byte t)) (unescape false (flat_map escape_byte t))) is
              ∙ ap (option_map (λ t. b ∷ t)) rest
        ]
      ]
    ]

-- what stands between the quotes
pub body_of : (word rest body text : List ℕ) → word ≡ 34 ∷ rest → rest ≡ body ++ 34 ∷ [] → word ≡ quoted text → unescape false body ≡ Some (encode_utf8_all text)
body_of word rest body text first last is =
    let whole : 34 ∷ rest ≡ 34 ∷ (flat_map escape text ++ 34 ∷ []) = sym first ∙ is in
    let inner : rest ≡ flat_map escape text ++ 34 ∷ [] = cc in
    let same : body ≡ flat_map escape text = append_cancel_right body (flat_map escape text) (34 ∷ []) (sym last ∙ inner) in
    ap (unescape false) (same ∙ sym (flat_map-encode_all text)) ∙ complete (encode_utf8_all text)

pub quoted_of : (word rest body bytes : List ℕ) → word ≡ 34 ∷ rest → rest ≡ body ++ 34 ∷ [] → IsUtf8 bytes → unescape false body ≡ Some bytes → word ≡ quoted (chars bytes)
quoted_of word rest body bytes first last utf8 read =
    let inner : body ≡ flat_map escape (chars bytes) =
    sound body false bytes read ∙ ap (flat_map escape_byte) (sym (encodes-chars bytes utf8)) ∙ flat_map-encode_all (chars bytes) in
    first ∙ ap (λ zs. 34 ∷ zs) (last ∙ ap (λ zs. zs ++ 34 ∷ []) inner)

pub no_text : (t : List ℕ) (o : Option (List ℕ)) → o ≡ None → o ≡ Some t → ⊥
no_text t o none some = cc

pub same_text : (s t : List ℕ) (o : Option (List ℕ)) → o ≡ Some s → o ≡ Some t → s ≡ t
same_text s t o first then = cc
