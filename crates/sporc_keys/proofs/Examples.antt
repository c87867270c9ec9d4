-- Worked examples of the definitions.
use Rattle.std.proofs.Common.{◌≡◌, ℕ, ◌+◌, List, [], ◌∷◌, ◌++◌, length, Some, None, refl}
use Rattle.sporc_keys.proofs.Common.{codes, replicate, Device, first_device, epoch_key_of, in_order, pair_keys_of, pairs_of, shared_keys, KeyFile, place_of_other, W4, H5, MAX_MEMBERS}
use Rattle.sporc_keys.specs.declared.named.Named.TheVariants as named
use Rattle.sporc_keys.specs.Founding.{row}
use Rattle.sporc_keys.specs.KeyFile.{key_file_bytes}
use Rattle.sporc_keys.specs.RingFile.{ring_file_bytes}

-- ---- key files

-- a key of this device
abbrev key_of : Device → List ℕ → List ℕ → KeyFile
key_of device id seed = record { device = device; lms = H5; ots = W4; id = id; seed = seed }

key_of_member_3 : (id seed : List ℕ) → key_file_bytes (key_of (first_device 3) id seed)
    ≡ 0x53 ∷ 0x50 ∷ 0x4b ∷ 0x31 ∷ 0 ∷ 3 ∷ 0 ∷ 0 ∷ 0 ∷ 5 ∷ 0 ∷ 0 ∷ 0 ∷ 3 ∷ id ++ seed
unfolding key_file_bytes
key_of_member_3 id seed = refl

-- its format and a byte more
key_of_its_device_255 : (id seed : List ℕ) → key_file_bytes (key_of (record { member = 3; number = 255 }) id seed)
    ≡ 0x53 ∷ 0x50 ∷ 0x4b ∷ 0x32 ∷ 0 ∷ 3 ∷ 255 ∷ 0 ∷ 0 ∷ 0 ∷ 5 ∷ 0 ∷ 0 ∷ 0 ∷ 3 ∷ id ++ seed
unfolding key_file_bytes
key_of_its_device_255 id seed = refl

-- of another member, of another further device, and of a further one in place of the first
places_of_others : place_of_other (first_device 3) (first_device 2) ∷ place_of_other (record { member = 3; number = 1 }) (record { member = 3; number = 2 })
    ∷ place_of_other (first_device 3) (record { member = 3; number = 1 }) ∷ [] ≡ 4 ∷ 6 ∷ 0 ∷ []
places_of_others = refl

-- ---- ring files

ring_of_a_joiner : ring_file_bytes (record { member = 7; epoch_key = None; pairs = [] }) ≡ codes "SPR1" ++ 0 ∷ 7 ∷ 0 ∷ 0 ∷ 0 ∷ []
unfolding ring_file_bytes
ring_of_a_joiner = refl

ring_of_a_founder : (key pair : List ℕ) → ring_file_bytes (record { member = 7; epoch_key = Some key; pairs = record { member = 258; key = pair } ∷ [] })
    ≡ codes "SPR1" ++ (0 ∷ 7 ∷ 1 ∷ (key ++ (0 ∷ 1 ∷ 1 ∷ 2 ∷ (pair ++ []))))
unfolding ring_file_bytes
ring_of_a_founder key pair = refl

-- ---- who shares which key

six_pairs : pairs_of (2 ∷ 5 ∷ 9 ∷ []) ≡ (2, 2) ∷ (2, 5) ∷ (2, 9) ∷ (5, 5) ∷ (5, 9) ∷ (9, 9) ∷ []
unfolding row
six_pairs = refl

-- the most that a document can have, beside the words of its number and of the key of epoch 0
all_pairs : length (pairs_of (replicate MAX_MEMBERS 0)) + 2 ≡ 2082
unfolding row
all_pairs = refl

keys_of_5 : (a b c d e f : List ℕ) → pair_keys_of 5 (shared_keys (2 ∷ 5 ∷ 9 ∷ []) (a ∷ b ∷ c ∷ d ∷ e ∷ f ∷ []))
    ≡ record { member = 2; key = b } ∷ record { member = 5; key = d } ∷ record { member = 9; key = e } ∷ []
unfolding row
keys_of_5 a b c d e f = refl

keys_of_2 : (a b c d e f : List ℕ) → pair_keys_of 2 (shared_keys (2 ∷ 5 ∷ 9 ∷ []) (a ∷ b ∷ c ∷ d ∷ e ∷ f ∷ []))
    ≡ record { member = 2; key = a } ∷ record { member = 5; key = b } ∷ record { member = 9; key = c } ∷ []
unfolding row
keys_of_2 a b c d e f = refl

three_in_order : in_order (named.Joiner 5 ∷ named.Joiner 9 ∷ named.Joiner 2 ∷ []) ≡ named.Joiner 2 ∷ named.Joiner 5 ∷ named.Joiner 9 ∷ []
three_in_order = refl

a_joiner_has_no_epoch_key : (key : List ℕ) → epoch_key_of key (named.Joiner 9) ≡ None
a_joiner_has_no_epoch_key key = refl
