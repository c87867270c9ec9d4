-- The address that is asked for hints.
use Rattle.std.proofs.Common.{◌≡◌, ◌≤◌, ℕ, List, Option, Some, None, sym, subst, arith}
use Rattle.sporc_device.proofs.Common.{is_none, if◌then◌else◌, RingFile, MayAppend, AsksAtMost, links_for_hints}
use Rattle.sporc_files.proofs.Asking.{asks_once}

pub asks_for_hints : (ring : RingFile) (a b : Option (List (List ℕ))) (address : List ℕ) → ring.epoch_key ≡ None → MayAppend a b address → AsksAtMost (links_for_hints ring) a b address
asks_for_hints ring a b address none may =
    subst (λ (key : Option (List ℕ)). AsksAtMost (if is_none key then 1 else 0) a b address) (sym none) (asks_once a b address may)

one_at_most : (key : Option (List ℕ)) → (if is_none key then 1 else 0) ≤ 1
one_at_most None = omega arith
one_at_most (Some key) = omega arith

pub one_for_hints : (ring : RingFile) → links_for_hints ring ≤ 1
one_for_hints ring = one_at_most ring.epoch_key
