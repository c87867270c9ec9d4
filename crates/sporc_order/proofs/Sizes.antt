-- The entries of one answer fit a frame.
use Rattle.std.proofs.Common.{◌≡◌, ℕ, suc, ◌+◌, ◌-◌, ◌≤◌, Bool, true, false, leb, List, [], ◌∷◌, length, map, drop, ap, refl, arith, if◌then◌else◌, flat_map, length-append}
use Rattle.sporc_order.proofs.Common.{Vec, leb-true, length-map, counted, MAX_PULLED, MAX_PULLED_BYTES, longest_batch, batch_after}
use Rattle.std.specs.Int.{w32, to_be_bytes}
use Rattle.sporc_wire.specs.declared.cutter.TheConstants.{MAX_BODY}
use Rattle.sporc_wire.specs.declared.to_client.ToClient.TheVariants.{Entries}
use Rattle.sporc_wire.specs.ToClient.{to_client_bytes}

pub batch_len : (n room : ℕ) (es : List (List ℕ)) → length (longest_batch n room es) ≤ n
batch_len (suc n) room (e ∷ es) = go (leb (length e + 4) room) (batch_len n (room - (length e + 4)) es)
  where
    go : (b : Bool) → length (longest_batch n (room - (length e + 4)) es) ≤ n
        → length (if b then e ∷ longest_batch n (room - (length e + 4)) es else []) ≤ suc n
    go true le = omega (arith, le)
    go false le = omega arith
batch_len n room es = omega arith

pub is_few : (vs : List (Vec ℕ)) (entries : List (List ℕ)) (from : ℕ) → map (λ v. v.items) vs ≡ batch_after entries from → length vs ≤ MAX_PULLED
is_few vs entries from is =
    omega (arith, length-map vs (λ v. v.items), ap length is, batch_len MAX_PULLED MAX_PULLED_BYTES (drop from entries))

pub counted_len : (e : List ℕ) → length (counted e) ≡ length e + 4
counted_len e = omega (arith, length-append (to_be_bytes w32 (length e)) e)

pub batch_bytes : (n room : ℕ) (es : List (List ℕ)) → length (flat_map counted (longest_batch n room es)) ≤ room
batch_bytes (suc n) room (e ∷ es) = go (leb (length e + 4) room) refl (batch_bytes n (room - (length e + 4)) es)
  where
    go : (b : Bool) → leb (length e + 4) room ≡ b → length (flat_map counted (longest_batch n (room - (length e + 4)) es)) ≤ room - (length e + 4)
        → length (flat_map counted (if b then e ∷ longest_batch n (room - (length e + 4)) es else [])) ≤ room
    go true h le =
        let rest = longest_batch n (room - (length e + 4)) es in
        let fits : length e + 4 ≤ room = leb-true (length e + 4) room h in
        omega (arith, length-append (counted e) (flat_map counted rest), counted_len e, fits, le)
    go false h le = omega arith
batch_bytes n room es = omega arith

pub entries_fit : (first : ℕ) (es : List (List ℕ)) → length (flat_map counted es) ≤ MAX_PULLED_BYTES → length (to_client_bytes (Entries first es)) ≤ MAX_BODY
entries_fit first es fits = omega (arith, length-append (to_be_bytes w32 first) (length es ∷ flat_map counted es), fits)
