-- Chunks that are moved from one list to another.
use Rattle.std.proofs.Common.{◌≡◌, ℕ, zero, suc, ◌+◌, ◌-◌, ◌≤◌, List, [], ◌∷◌, ◌++◌, length, take, drop, get_or, set, refl, ap, sym, ◌∙◌, append_assoc, append-nil, add-one, arith, length-append}
use Rattle.std.proofs.Common.{length-drop}
use Rattle.sporc_text.proofs.Common.{drop-drop, get_or_default, take_all, take-append-le, drop-append-le, concat, AreChunks, IsAt, IsWithin, replaced}
use Rattle.std.proofs.Math.Seq.{drop-append-add}
use Rattle.std.proofs.lemmas.List as lists
use Rattle.sporc_text.proofs.ChunkLemmas.{chunks-set, concat-at, concat-drop, concat-set}
use Rattle.sporc_text.proofs.CutLemmas.{length-replaced, replaced-behind, replaced-front}

-- n of the chunks stand behind those of the list, and the others are left
pub record AreMoved (cs : List (List ℕ)) (before : ℕ) (from : List (List ℕ)) (n : ℕ) (ds : List (List ℕ)) (after : ℕ) (left : List (List ℕ)) : Type 0 where
  pub chunks : AreChunks ds
  pub value : concat ds ≡ concat cs ++ concat (take n from)
  pub rest : left ≡ drop n from
  pub capacity : before ≤ after

-- one more of them
pub drop-next : {A : Type 0} (from : List A) (n : ℕ) → drop 1 (drop n from) ≡ drop (n + 1) from
drop-next from n = drop-drop 1 n from

drop-suc : {A : Type 0} (from : List A) (n : ℕ) → drop 1 (drop n from) ≡ drop (suc n) from
drop-suc from n = drop-next from n ∙ rw add-one refl

pub take-next : (from : List (List ℕ)) (n : ℕ) → concat (take (suc n) from) ≡ concat (take n from) ++ get_or (drop n from) 0 []
take-next [] zero = refl
take-next [] (suc n) = refl
take-next (d ∷ from) zero = append-nil d
take-next (d ∷ from) (suc n) = ap (λ (t : List ℕ). d ++ t) (take-next from n) ∙ sym (append_assoc d (concat (take n from)) (get_or (drop n from) 0 []))

-- the characters of fewer chunks are fewer
pub length-take-fewer : (from : List (List ℕ)) (m n : ℕ) → m ≤ n → length (concat (take m from)) ≤ length (concat (take n from))
length-take-fewer (c ∷ from) (suc m) (suc n) le = omega (arith, length-take-fewer from m n (omega arith), length-append c (concat (take m from)), length-append c (concat (take n from)))
length-take-fewer from (suc m) zero le = absurd (omega arith)
length-take-fewer from m n le = omega arith

pub more_moved : (cs : List (List ℕ)) (before : ℕ) (from : List (List ℕ)) (n : ℕ) (ds : List (List ℕ)) (after : ℕ) (left : List (List ℕ)) (es : List (List ℕ)) (room : ℕ) (rest : List (List ℕ)) → AreMoved cs before from n ds after left
    → AreChunks es → concat es ≡ concat ds ++ get_or left 0 [] → rest ≡ drop 1 left → after ≤ room → AreMoved cs before from (n + 1) es room rest
more_moved cs before from n ds after left es room rest h chunks value next le =
    rw add-one record {
      chunks = chunks;
      value = value ∙ ap (λ (t : List ℕ). t ++ get_or left 0 []) h.value ∙ append_assoc (concat cs) (concat (take n from)) (get_or left 0 [])
          ∙ ap (λ (l : List (List ℕ)). concat cs ++ (concat (take n from) ++ get_or l 0 [])) h.rest ∙ ap (λ (t : List ℕ). concat cs ++ t) (sym (take-next from n));
      rest = next ∙ ap (λ (l : List (List ℕ)). drop 1 l) h.rest ∙ drop-suc from n;
      capacity = omega (arith, h.capacity);
    }

-- ---- a text that is written anew from a chunk on

pub record AreRewritten (cs : List (List ℕ)) (i kept removed : ℕ) (middle : List ℕ) (ds : List (List ℕ)) : Type 0 where
  pub chunks : AreChunks ds
  pub value : concat ds ≡ concat (take i cs) ++ replaced kept removed middle (concat (drop i cs))

-- in this chunk alone
pub rewritten_within : (cs : List (List ℕ)) (i kept removed : ℕ) (middle old new : List ℕ) → AreChunks cs → IsWithin cs i kept removed (length middle) → old ≡ get_or cs i old → new ≡ replaced kept removed middle old
    → AreRewritten cs i kept removed middle (set cs i new)
rewritten_within cs i kept removed middle old new h w is anew =
    let here : old ≡ get_or cs i [] = is ∙ get_or_default cs i old [] w.index in
    let fit : kept + removed ≤ length old = omega (arith, w.within, ap length here) in
    let size : length new ≡ length (get_or cs i []) - removed + length middle = omega (arith, ap length anew, length-replaced old middle kept removed fit, ap length here) in
    let rest = concat (drop (suc i) cs) in
    record {
      chunks = chunks-set cs i new h w.index (omega (arith, w.fits.some)) (omega (arith, w.fits.most))
          (λ j l. let place : i - 1 ≡ j = omega arith in omega (arith, w.fits.front (omega arith), ap (λ (k : ℕ). length (get_or cs k [])) place))
          (λ l. let place : i + 1 ≡ suc i = omega arith in omega (arith, w.fits.back (omega arith), ap (λ (k : ℕ). length (get_or cs k [])) place));
      value = concat-set cs i new w.index
          ∙ ap (λ (t : List ℕ). concat (take i cs) ++ (t ++ rest)) anew
          ∙ ap (λ (t : List ℕ). concat (take i cs) ++ t) (sym (replaced-front old rest middle kept removed fit)
          ∙ ap (λ (t : List ℕ). replaced kept removed middle (t ++ rest)) here
          ∙ ap (λ (t : List ℕ). replaced kept removed middle t) (sym (concat-drop cs i)));
    }

-- from this chunk on, up to one behind it
pub rewritten_from : (cs : List (List ℕ)) (kept removed more gone : ℕ) (middle : List ℕ) → kept ≤ length (get_or cs 0 []) → IsAt cs (kept + removed) more gone
    → replaced kept removed middle (concat cs) ≡ take kept (get_or cs 0 []) ++ (middle ++ (drop gone (get_or cs more []) ++ concat (drop (suc more) cs)))
rewritten_from cs kept removed more gone middle first at =
    let t : take kept (concat cs) ≡ take kept (get_or cs 0 []) = ap (λ (l : List ℕ). take kept l) (concat-drop cs 0) ∙ take-append-le kept (get_or cs 0 []) (concat (drop 1 cs)) first in
    let d : drop (kept + removed) (concat cs) ≡ drop gone (get_or cs more []) ++ concat (drop (suc more) cs) =
    ap (λ (l : List ℕ). drop (kept + removed) l) (concat-at cs more) ∙ ap (λ (k : ℕ). drop k (concat (take more cs) ++ concat (drop more cs))) (sym at.before)
    ∙ drop-append-add (concat (take more cs)) (concat (drop more cs)) gone ∙ ap (λ (l : List ℕ). drop gone l) (concat-drop cs more)
    ∙ drop-append-le gone (get_or cs more []) (concat (drop (suc more) cs)) at.within in
    ap (λ (l : List ℕ). l ++ (middle ++ drop (kept + removed) (concat cs))) t ∙ ap (λ (l : List ℕ). take kept (get_or cs 0 []) ++ (middle ++ l)) d

-- from this chunk on is from this place on
pub rewritten_at : (cs : List (List ℕ)) (place i offset removed : ℕ) (middle : List ℕ) → IsAt cs place i offset → concat (take i cs) ++ replaced offset removed middle (concat (drop i cs)) ≡ replaced place removed middle (concat cs)
rewritten_at cs place i offset removed middle at =
    sym (ap (λ (t : List ℕ). replaced place removed middle t) (concat-at cs i) ∙ replaced-behind (concat (take i cs)) (concat (drop i cs)) middle place offset removed at.before)

pub get_or-drop : (cs : List (List ℕ)) (i : ℕ) → get_or (drop i cs) 0 [] ≡ get_or cs i []
get_or-drop cs i = lists.get_or-drop i cs 0 [] ∙ ap (λ (k : ℕ). get_or cs k []) (omega arith)

-- what a text is moved to, piece by piece
pub rebuilt_value : (cs ds : List (List ℕ)) (i kept removed more gone : ℕ) (front middle last whole : List ℕ) → kept ≤ length (get_or cs i []) → ds ≡ drop i cs → IsAt ds (kept + removed) more gone
    → front ≡ concat (take i cs) ++ take kept (get_or cs i []) → last ≡ drop gone (get_or ds more []) → whole ≡ ((front ++ middle) ++ last) ++ concat (drop more (drop (i + 1) cs))
    → whole ≡ concat (take i cs) ++ replaced kept removed middle (concat (drop i cs))
rebuilt_value cs ds i kept removed more gone front middle last whole first is at f l w =
    let here : get_or ds 0 [] ≡ get_or cs i [] = ap (λ (x : List (List ℕ)). get_or x 0 []) is ∙ get_or-drop cs i in
    let rest : drop (suc more) ds ≡ drop more (drop (i + 1) cs) = sym (drop-suc ds more) ∙ drop-drop 1 more ds ∙ ap (λ (k : ℕ). drop k ds) (omega arith) ∙ sym (drop-drop more 1 ds)
    ∙ ap (λ (x : List (List ℕ)). drop more (drop 1 x)) is ∙ ap (λ (x : List (List ℕ)). drop more x) (drop-next cs i) in
    let back = concat (drop more (drop (i + 1) cs)) in
    let anew : replaced kept removed middle (concat ds) ≡ take kept (get_or cs i []) ++ (middle ++ (last ++ back)) =
    rewritten_from ds kept removed more gone middle (omega (arith, first, ap length here)) at
    ∙ ap (λ (t : List ℕ). take kept t ++ (middle ++ (drop gone (get_or ds more []) ++ concat (drop (suc more) ds)))) here
    ∙ ap (λ (t : List ℕ). take kept (get_or cs i []) ++ (middle ++ (t ++ concat (drop (suc more) ds)))) (sym l)
    ∙ ap (λ (x : List (List ℕ)). take kept (get_or cs i []) ++ (middle ++ (last ++ concat x))) rest in
    w
    ∙ append_assoc (front ++ middle) last back
    ∙ append_assoc front middle (last ++ back)
    ∙ ap (λ (t : List ℕ). t ++ (middle ++ (last ++ back))) f
    ∙ append_assoc (concat (take i cs)) (take kept (get_or cs i [])) (middle ++ (last ++ back))
    ∙ ap (λ (t : List ℕ). concat (take i cs) ++ t) (sym anew)
    ∙ ap (λ (x : List (List ℕ)). concat (take i cs) ++ replaced kept removed middle (concat x)) is

-- `&xs[i..]`
pub slice_from : (xs : List (List ℕ)) (i : ℕ) → take (length xs - i) (drop i xs) ≡ drop i xs
slice_from xs i = take_all (length xs - i) (drop i xs) (omega (arith, length-drop i xs))
