-- A text spells its characters.
use Rattle.std.proofs.Common.{◌≡◌, ℕ, ◌+◌, ◌<◌, ◌≤◌, List, [], ◌∷◌, ◌++◌, length, take, get_or, String, ap, sym, ◌∙◌, append_assoc, append-nil, encode_utf8}
use Rattle.sporc_text.proofs.Common.{concat, take_all, take_more}
use Rattle.std.specs.String.{string_bytes}
use Rattle.std.specs.Str.{chars, encode_utf8_all}
use Rattle.std.proofs.lemmas.Str.{chars_from_encodes, encodes-append, IsUtf8-string_bytes}
use Rattle.sporc_text.proofs.ChunkLemmas.{concat-push}

pub spelled : {Z : Type 0} (t : String Z) (cs : List ℕ) → string_bytes t ≡ encode_utf8_all cs → chars (string_bytes t) ≡ cs
spelled t cs is = sym (chars_from_encodes cs (string_bytes t) (IsUtf8-string_bytes t) (sym is))

-- one character more
pub spelled_more : (before now next : List ℕ) (cs : List ℕ) (i x : ℕ) → now ≡ before ++ encode_utf8_all (take i cs) → x ≡ get_or cs i x → i < length cs → next ≡ now ++ encode_utf8 x → next ≡ before ++ encode_utf8_all (take (i + 1) cs)
spelled_more before now next cs i x h is l e =
    e ∙ ap (λ (t : List ℕ). t ++ encode_utf8 x) h ∙ append_assoc before (encode_utf8_all (take i cs)) (encode_utf8 x)
    ∙ ap (λ (t : List ℕ). before ++ (encode_utf8_all (take i cs) ++ t)) (sym (append-nil (encode_utf8 x)))
    ∙ ap (λ (t : List ℕ). before ++ t) (sym (encodes-append (take i cs) (x ∷ [])))
    ∙ ap (λ (t : List ℕ). before ++ encode_utf8_all t) (ap (λ (y : ℕ). take i cs ++ y ∷ []) is ∙ sym (take_more cs i x l))

-- one chunk more
pub chunk_spelled : (now next : List ℕ) (cs : List (List ℕ)) (i : ℕ) (c : List ℕ) → now ≡ encode_utf8_all (concat (take i cs)) → c ≡ get_or cs i c → i < length cs → next ≡ now ++ encode_utf8_all c
    → next ≡ encode_utf8_all (concat (take (i + 1) cs))
chunk_spelled now next cs i c h is l e =
    e ∙ ap (λ (t : List ℕ). t ++ encode_utf8_all c) h ∙ sym (encodes-append (concat (take i cs)) c)
    ∙ ap encode_utf8_all (sym (concat-push (take i cs) c)) ∙ ap (λ (l : List (List ℕ)). encode_utf8_all (concat l)) (ap (λ (d : List ℕ). take i cs ++ d ∷ []) is ∙ sym (take_more cs i c l))

-- all chunks
pub all_spelled : (bytes : List ℕ) (cs ds : List (List ℕ)) (i : ℕ) (text : List ℕ) → bytes ≡ encode_utf8_all (concat (take i cs)) → length cs ≤ i → cs ≡ ds → concat ds ≡ text → bytes ≡ encode_utf8_all text
all_spelled bytes cs ds i text h l is whole = h ∙ ap (λ (l : List (List ℕ)). encode_utf8_all (concat l)) (take_all i cs l ∙ is) ∙ ap encode_utf8_all whole
