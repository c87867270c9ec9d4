-- The numbers of the limits.
use Rattle.std.specs.Prelude.{◌≡◌, ◌^◌, refl}
use Rattle.sporc_client.specs.declared.limits.TheConstants.{MAX_EDIT_BYTES, MAX_EVENTS}
use Rattle.sporc_client.specs.declared.limits.TheConstants.{MAX_HEAD_BYTES, MAX_PENDING}
use Rattle.sporc_client.specs.declared.limits.TheConstants.{MAX_SHOWN_LEN}

pending_items : MAX_PENDING ≡ 1024
pending_items = refl

journal_events : MAX_EVENTS ≡ 1048576
journal_events = refl

characters_of_a_shown_text : MAX_SHOWN_LEN ≡ 2 ^ 35
characters_of_a_shown_text = refl

bytes_of_an_edit : MAX_EDIT_BYTES ≡ 65536
bytes_of_an_edit = refl

bytes_of_a_head : MAX_HEAD_BYTES ≡ 1048576
bytes_of_a_head = refl
