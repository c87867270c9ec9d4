-- Worked examples: an entry of each version, and the kinds of change that each has.
use Rattle.std.proofs.Common.{◌≡◌, ℕ, false, [], ◌∷◌, ◌++◌, Ok, Err, refl, replicate}
use Rattle.sporc_entry.proofs.Common.{AddDevice, DropDevice, Upgrade, Entry, Header, fits_version, body_place}
use Rattle.std.specs.Str.{bytes_eq}
use Rattle.sporc_bytes.specs.Fields.{bytes_at, number_at, number_within, counted_at}
use Rattle.sporc_entry.specs.ChangeBody.{kind_at, change_of_device, change_of_member, change_of_kind, change_at}
use Rattle.sporc_entry.specs.Entry.{header_at, header_bytes, entry_of, entry_bytes}

-- an edit of two bytes by a device of member 258
abbrev edit : ℕ → ℕ → Entry
edit version device =
    let header : Header = record {
      version = version;
      document = replicate 16 7;
      author = 258;
      device = device;
      number = 3;
      base = 4;
      base_hash = replicate 32 9;
      epoch = 5;
      leaf = 6;
      kind = 1;
    } in
    record { header = header; body = 20 ∷ 21 ∷ []; signature = 30 ∷ [] }

-- version 1 names no device
first_spelling : entry_bytes (edit 1 0) ≡ 1 ∷ replicate 16 7 ++ (1 ∷ 2 ∷ 0 ∷ 0 ∷ 0 ∷ 3 ∷ 0 ∷ 0 ∷ 0 ∷ 4 ∷ []) ++ replicate 32 9 ++ (0 ∷ 0 ∷ 0 ∷ 5 ∷ 0 ∷ 0 ∷ 0 ∷ 6 ∷ 1 ∷ 0 ∷ 0 ∷ 0 ∷ 2 ∷ 20 ∷ 21 ∷ 0 ∷ 0 ∷ 0 ∷ 1 ∷ 30 ∷ [])
unfolding entry_bytes header_bytes
first_spelling = refl

-- version 2 names it behind the author
second_spelling : entry_bytes (edit 2 0) ≡ 2 ∷ replicate 16 7 ++ (1 ∷ 2 ∷ 0 ∷ 0 ∷ 0 ∷ 0 ∷ 3 ∷ 0 ∷ 0 ∷ 0 ∷ 4 ∷ []) ++ replicate 32 9 ++ (0 ∷ 0 ∷ 0 ∷ 5 ∷ 0 ∷ 0 ∷ 0 ∷ 6 ∷ 1 ∷ 0 ∷ 0 ∷ 0 ∷ 2 ∷ 20 ∷ 21 ∷ 0 ∷ 0 ∷ 0 ∷ 1 ∷ 30 ∷ [])
unfolding entry_bytes header_bytes
second_spelling = refl

-- they differ, also by device 0, and both read back
they_differ : bytes_eq (entry_bytes (edit 1 0)) (entry_bytes (edit 2 0)) ≡ false
unfolding entry_bytes header_bytes
they_differ = refl

first_again : entry_of (entry_bytes (edit 1 0)) ≡ Ok (edit 1 0)
unfolding entry_of header_at entry_bytes header_bytes bytes_at number_at number_within counted_at
first_again = refl

second_again : entry_of (entry_bytes (edit 2 0)) ≡ Ok (edit 2 0)
unfolding entry_of header_at entry_bytes header_bytes bytes_at number_at number_within counted_at
second_again = refl

another_device_again : entry_of (entry_bytes (edit 2 255)) ≡ Ok (edit 2 255)
unfolding entry_of header_at entry_bytes header_bytes bytes_at number_at number_within counted_at
another_device_again = refl

-- there is no third version, and in the first each entry is by device 0
no_third : fits_version 3 0 ≡ false
no_third = refl

no_device_in_the_first : fits_version 1 5 ≡ false
no_device_in_the_first = refl

bodies_begin : (body_place 1 ≡ 72) × (body_place 2 ≡ 73)
bodies_begin = (refl, refl)

-- an Upgrade is a change of version 1 alone, and takes one byte
upgrade_of_the_first : change_at 1 (record { rest = 6 ∷ 50 ∷ []; at = 72 }) ≡ Ok (Upgrade, record { rest = 50 ∷ []; at = 73 })
unfolding change_at kind_at change_of_kind number_at bytes_at
upgrade_of_the_first = refl

no_upgrade_of_the_second : change_at 2 (record { rest = 6 ∷ 50 ∷ []; at = 73 }) ≡ Err 73
unfolding change_at kind_at change_of_kind number_at bytes_at
no_upgrade_of_the_second = refl

-- changes of devices are of version 2 alone
drop_of_the_second : change_at 2 (record { rest = 5 ∷ 1 ∷ 2 ∷ 9 ∷ []; at = 73 }) ≡ Ok (DropDevice 258 9, record { rest = []; at = 77 })
unfolding change_at kind_at change_of_kind change_of_member change_of_device number_within number_at bytes_at
drop_of_the_second = refl

no_drop_of_the_first : change_at 1 (record { rest = 5 ∷ 1 ∷ 2 ∷ 9 ∷ []; at = 72 }) ≡ Err 72
unfolding change_at kind_at change_of_kind change_of_member change_of_device number_within number_at bytes_at
no_drop_of_the_first = refl

device_of_the_second : change_at 2 (record { rest = 4 ∷ 1 ∷ 2 ∷ 9 ∷ replicate 56 8; at = 73 }) ≡ Ok (AddDevice 258 9 (replicate 56 8), record { rest = []; at = 133 })
unfolding change_at kind_at change_of_kind change_of_member change_of_device number_within number_at bytes_at
device_of_the_second = refl
