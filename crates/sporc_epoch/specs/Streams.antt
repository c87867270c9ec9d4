-- The numbers of the ChaCha20 streams that mask bodies and seal keys.
use Rattle.std.specs.Prelude.{ℕ, ◌+◌, ◌*◌, ◌^◌}
use Rattle.sporc_member.specs.declared.device.Device.{Device}
use Rattle.sporc_entry.specs.declared.header.Header.{Header}
use Rattle.sporc_entry.specs.Entry.{author_device}

-- that of an entry, by the device that signs it and its leaf
abbrev pub entry_stream : Device → ℕ → ℕ
entry_stream device leaf = device.member * 2 ^ 40 + device.number * 2 ^ 32 + leaf

-- that of the entry with this header
abbrev pub stream_of : Header → ℕ
stream_of h = entry_stream (author_device h) h.leaf

-- that which seals the key of the epoch before this one
abbrev pub previous_stream : ℕ → ℕ
previous_stream epoch = 2 ^ 60 + epoch
