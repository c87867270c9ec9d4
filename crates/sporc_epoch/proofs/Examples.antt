-- Worked examples of the definitions.
use Rattle.std.proofs.Common.{◌≡◌, ℕ, true, false, List, [], ◌∷◌, Some, None, refl}
use Rattle.sporc_epoch.proofs.Common.{Ok, Err, insert, empty, gets, mask_of, Wrap, EpochStart, Keys, entry_stream, previous_stream, least_unpaired, wraps_sealed, is_committed, WrongKey, wrap_for}
use Rattle.sporc_member.specs.declared.role.Role.TheVariants.{Editor}
use Rattle.sporc_member.specs.declared.change.Change.TheVariants.{Add, Remove, AddDevice}
use Rattle.sporc_member.specs.Device.{first_device}
use Rattle.sporc_epoch.specs.Hints.{adds, keys_back}

-- leaf 5 of member 3, by its first device and by device 7
stream_of_an_entry : entry_stream (first_device 3) 5 ≡ 0x030000000005
stream_of_an_entry = refl

stream_of_a_device : entry_stream (record { member = 3; number = 7 }) 5 ≡ 0x030700000005
stream_of_a_device = refl

stream_of_the_key_before_epoch_2 : previous_stream 2 ≡ 0x1000000000000002
stream_of_the_key_before_epoch_2 = refl

-- of two wraps for member 4 the first counts
abbrev wraps : List Wrap
wraps =
    record { member = 1; sealed = 10 ∷ [] } ∷ record { member = 4; sealed = 20 ∷ [] }
    ∷ record { member = 4; sealed = 30 ∷ [] } ∷ []

first_of_two : wrap_for 4 wraps ≡ Some (record { member = 4; sealed = 20 ∷ [] })
first_of_two = refl

none_for_5 : wrap_for 5 wraps ≡ None
none_for_5 = refl

-- keys with members 1 and 4
abbrev pairs : Keys
pairs = insert (insert empty 1 (7 ∷ [])) 4 (8 ∷ [])

-- the least of the members without one, whatever their order
least_of_three : least_unpaired pairs (5 ∷ 4 ∷ 3 ∷ 9 ∷ []) ≡ Some 3
least_of_three = simp gets

all_have_one : least_unpaired pairs (4 ∷ 1 ∷ []) ≡ None
all_have_one = simp gets

-- each wrap is masked under the key with its member
two_wraps : (key : List ℕ)
    → wraps_sealed 5 key pairs (1 ∷ 4 ∷ []) ≡ record { member = 1; sealed = mask_of (7 ∷ []) 5 key } ∷ record { member = 4; sealed = mask_of (8 ∷ []) 5 key } ∷ []
two_wraps key = simp gets

adds_4 : adds 4 (Add 4 Editor []) ≡ true
adds_4 = refl

removes_4 : adds 4 (Remove 4) ≡ false
removes_4 = refl

-- a further device is no joining
device_of_4 : adds 4 (AddDevice 4 1 []) ≡ false
device_of_4 = refl

-- two epochs back from epoch 2, past a change that started epoch 7: the key of epoch 0 ends the walk
abbrev first_start : EpochStart
first_start = record { ended = 0; document = []; commitment = 1 ∷ []; previous = 40 ∷ [] }

abbrev other_start : EpochStart
other_start = record { ended = 6; document = []; commitment = 2 ∷ []; previous = 41 ∷ [] }

abbrev second_start : EpochStart
second_start = record { ended = 1; document = []; commitment = 3 ∷ []; previous = 42 ∷ [] }

abbrev key_1 : List ℕ → List ℕ
key_1 key = mask_of key (previous_stream 2) (42 ∷ [])

three_keys : (key : List ℕ) → is_committed second_start 2 key ≡ true → is_committed first_start 1 (key_1 key) ≡ true
    → keys_back 2 key (second_start ∷ other_start ∷ first_start ∷ [])
    ≡ Ok ((2, key) ∷ (1, key_1 key) ∷ (0, mask_of (key_1 key) (previous_stream 1) (40 ∷ [])) ∷ [])
unfolding keys_back
three_keys key second first = rw (second, first)

-- the walk ends where a key is not the one committed to
wrong_key : (key : List ℕ) → is_committed second_start 2 key ≡ false → keys_back 2 key (second_start ∷ first_start ∷ []) ≡ Err (WrongKey 2)
unfolding keys_back
wrong_key key second = rw second
