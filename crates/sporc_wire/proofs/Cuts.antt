-- What the codec cuts off, in the words of the stream.
use Rattle.std.proofs.Common.{◌≡◌, ℕ, zero, suc, ◌<◌, ◌≤◌, ◌^◌, List, [], ◌∷◌, ◌++◌, length, take, drop, Some, refl, sym, ap, ◌∙◌, subst, inl, inr, arith, pos}
use Rattle.sporc_wire.proofs.Common.{take-append-drop, length-take-le, cases_lt, w32, to_be_bytes, from_be_bytes, IsBytes, MAX_BODY, first_frame, partial, too_long, whole, our_layout, rest_of}
use Rattle.sporc_wire.proofs.Common.{IsWithin, be_bytes_4, DecodeState, Head, Data, cut_payload, cut_adjusted, cut_frame, Cut, frame, too_big, overflows, unfinished, cut_in, cut_payload_whole}
use Rattle.sporc_wire.proofs.Common.{cut_payload_short, cut_frame_short, cut_frame_big, cut_frame_head}
use Rattle.std.proofs.lemmas.Bool.Decides.{nat_tests}
use Rattle.tokio_util.specs.Codec.LengthField.{field_value, add_adjustment}
use Rattle.sporc_wire.specs.Stream as stream
use Rattle.sporc_wire.proofs.Fronts.{frame_of_len-big, frame_of_len-short, frame_of_len-whole, first_frame-short, first_frame-long, first_frame-length}

-- the length that the head says
abbrev pub head_of : List ℕ → ℕ
head_of xs = from_be_bytes w32 (take 4 xs)

field_is_head : (xs : List ℕ) → 4 ≤ length xs → field_value our_layout xs ≡ head_of xs
field_is_head (a ∷ b ∷ c ∷ d ∷ rest) h = omega arith
field_is_head xs h = absurd (omega arith)

head_fits : (xs : List ℕ) → IsBytes xs → 4 ≤ length xs → head_of xs < 2 ^ 32
head_fits (a ∷ b ∷ c ∷ d ∷ rest) fits h = omega (arith, fits 0, fits 1, fits 2, fits 3)
head_fits xs fits h = absurd (omega arith)

four_fit : (a b c d : ℕ) (rest : List ℕ) → IsBytes (a ∷ b ∷ c ∷ d ∷ rest) → IsBytes (a ∷ b ∷ c ∷ d ∷ [])
four_fit a b c d rest fits zero = fits 0
four_fit a b c d rest fits (suc zero) = fits 1
four_fit a b c d rest fits (suc (suc zero)) = fits 2
four_fit a b c d rest fits (suc (suc (suc zero))) = fits 3
four_fit a b c d rest fits (suc (suc (suc (suc i)))) = omega arith

head_back : (xs : List ℕ) → IsBytes xs → 4 ≤ length xs → xs ≡ to_be_bytes w32 (head_of xs) ++ drop 4 xs
head_back (a ∷ b ∷ c ∷ d ∷ rest) fits h =
    ap (λ zs. zs ++ rest) (sym (be_bytes_4 (a ∷ b ∷ c ∷ d ∷ []) (head_of (a ∷ b ∷ c ∷ d ∷ rest)) refl (four_fit a b c d rest fits) refl))
head_back xs fits h = absurd (omega arith)

-- what a cut says of the bytes that it was made in
abbrev pub Means : DecodeState → List ℕ → Cut → Type 0
Means s xs (frame payload rest) = (length payload ≤ MAX_BODY) × (rest_of s xs ≡ stream.frame payload ++ rest) × (first_frame (rest_of s xs) ≡ whole payload rest)
Means s xs too_big = (4 ≤ length xs) × (first_frame (rest_of s xs) ≡ too_long (head_of xs)) × (s ≡ Head)
Means s xs overflows = ⊥
Means s xs (unfinished state kept) = IsWithin state × (rest_of state kept ≡ rest_of s xs) × (first_frame (rest_of s xs) ≡ partial)

pub payload_means : (n : ℕ) (xs : List ℕ) → n < 2 ^ 32 → n ≤ MAX_BODY → Means (Data n) xs (cut_in our_layout (Data n) xs)
payload_means n xs fits small =
    elim (cases_lt (length xs) n) [
      | inl short ↦ subst (Means (Data n) xs) (sym (cut_payload_short n xs short))
          (small, refl, first_frame-length n xs fits ∙ frame_of_len-short n xs small short)
      | inr long ↦ subst (Means (Data n) xs) (sym (cut_payload_whole n xs long))
          (let len = length-take-le n xs long in
          (omega arith, rw (len, take-append-drop), first_frame-length n xs fits ∙ frame_of_len-whole n xs small long))
    ]

-- the head stands before the payload
with_head : (n : ℕ) (xs ys : List ℕ) → xs ≡ to_be_bytes w32 n ++ ys → (c : Cut) → Means (Data n) ys c → Means Head xs c
with_head n xs ys e (frame payload rest) m = (m.0, e ∙ m.1, ap first_frame e ∙ m.2)
with_head n xs ys e too_big m = let no : Data n ≡ Head = m.2 in cc
with_head n xs ys e overflows m = m
with_head n xs ys e (unfinished state kept) m = (m.0, m.1 ∙ sym e, ap first_frame e ∙ m.2)

no_adjustment : (n : ℕ) → n ≤ MAX_BODY → add_adjustment n (pos 0) ≡ Some n
no_adjustment n small = grind (arith, nat_tests)

pub head_means : (xs : List ℕ) → IsBytes xs → Means Head xs (cut_in our_layout Head xs)
head_means xs fits =
    elim (cases_lt (length xs) 4) [
      | inl short ↦ subst (Means Head xs) (sym (cut_frame_short our_layout xs short)) (tt, refl, first_frame-short xs short)
      | inr long ↦ elim (cases_lt MAX_BODY (head_of xs)) [
        | inl big ↦ subst (Means Head xs) (sym (cut_frame_big our_layout xs long (rw (field_is_head xs long) big)))
            (long, first_frame-long xs long ∙ frame_of_len-big (head_of xs) (drop 4 xs) big, refl)
        | inr small ↦
            let e : cut_frame our_layout xs ≡ cut_payload (head_of xs) (drop 4 xs) =
            cut_frame_head our_layout xs long (rw (field_is_head xs long) small)
            ∙ ap (λ v. cut_adjusted (add_adjustment v (pos 0)) (drop 4 xs)) (field_is_head xs long)
            ∙ ap (λ o. cut_adjusted o (drop 4 xs)) (no_adjustment (head_of xs) small) in
            subst (Means Head xs) (sym e)
            (with_head (head_of xs) xs (drop 4 xs) (head_back xs fits long) _
            (payload_means (head_of xs) (drop 4 xs) (head_fits xs fits long) small))
      ]
    ]

-- what a codec of our layout finds, it finds as the stream says
pub cut_means : (s : DecodeState) (xs : List ℕ) → IsBytes xs → IsWithin s → Means s xs (cut_in our_layout s xs)
cut_means Head xs fits within = head_means xs fits
cut_means (Data n) xs fits within = payload_means n xs (omega arith) within
