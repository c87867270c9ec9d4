-- What is kept of authors names them as all of them would.
use Rattle.std.proofs.Common.{◌≡◌, ℕ, ◌+◌, ◌≤◌, Bool, true, false, List, [], ◌∷◌, ◌++◌, length, take, refl, sym, ap, ap₂, ◌∙◌, inl, inr, arith}
use Rattle.std.specs.Prelude.{fold, if◌then◌else◌, nat_lt}
use Rattle.std.specs.List.{list_any}
use Rattle.std.proofs.lemmas.Bool.{cases_lt}
use Rattle.std.proofs.lemmas.Bool.Decides.{Decides-ltb}
use Rattle.std.proofs.lemmas.List.{length-take-le, take-append-le, take-take, take_all}
use Rattle.sporc_member.specs.declared.device.Device.{Device}
use Rattle.sporc_member.specs.Device.{same_device}
use Rattle.sporc_editor.specs.declared.limits.TheConstants.{MAX_AUTHORS}
use Rattle.sporc_editor.specs.Authors.{authors_text, distinct, kept_with, listed, with_device}

-- one more adds nothing to the first n, if there are as many
front_stays : (n : ℕ) (all : List Device) (d : Device) → n ≤ length all → take n (with_device all d) ≡ take n all
front_stays n all d long = by (list_any (λ other. same_device other d) all)
  where
    by : (t : Bool) → take n (if t then all else all ++ d ∷ []) ≡ take n all
    by true = refl
    by false = take-append-le n all (d ∷ []) long

one_more : (n : ℕ) (all : List Device) (d : Device) → take n (with_device (take n all) d) ≡ take n (with_device all d)
one_more n all d =
    elim (cases_lt (length all) n) [
      | inl short ↦ ap (λ (front : List Device). take n (with_device front d)) (take_all n all (omega (arith, short)))
      | inr long ↦ front_stays n (take n all) d (omega (arith, length-take-le n all long)) ∙ take-take n n all (omega arith) ∙ sym (front_stays n all d long)
    ]

kept_from : (devices all : List Device) → fold kept_with (take (MAX_AUTHORS + 1) all) devices ≡ take (MAX_AUTHORS + 1) (fold with_device all devices)
kept_from [] all = refl
kept_from (d ∷ devices) all =
    ap (λ (front : List Device). fold kept_with front devices) (one_more (MAX_AUTHORS + 1) all d) ∙ kept_from devices (with_device all d)

pub kept_all : (devices : List Device) → fold kept_with [] devices ≡ take (MAX_AUTHORS + 1) (distinct devices)
kept_all devices = kept_from devices []

more_seen : (n : ℕ) (all : List Device) → nat_lt n (length (take (n + 1) all)) ≡ nat_lt n (length all)
more_seen n all =
    elim (cases_lt n (length all)) [
      | inl long ↦ (Decides-ltb n (length (take (n + 1) all))).1 (omega (arith, length-take-le (n + 1) all (omega (arith, long)))) ∙ sym ((Decides-ltb n (length all)).1 long)
      | inr short ↦ ap (λ (front : List Device). nat_lt n (length front)) (take_all (n + 1) all (omega (arith, short)))
    ]

pub named_all : (devices : List Device) → authors_text (fold kept_with [] devices) ≡ authors_text (distinct devices)
named_all devices =
    ap authors_text (kept_all devices)
    ∙ ap₂ (λ (front : List Device) (more : Bool). listed front ++ (if more then 44 ∷ 46 ∷ 46 ∷ [] else []))
    (take-take MAX_AUTHORS (MAX_AUTHORS + 1) (distinct devices) (omega arith)) (more_seen MAX_AUTHORS (distinct devices))
