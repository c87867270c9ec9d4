-- Points of a log: moments of a client's journal.
use Rattle.std.specs.Prelude.{◌≡◌, ℕ, ◌≤◌, List, length, take}
use Rattle.sporc_turn.specs.Log.{own}
use Rattle.sporc_client.specs.PlainClient.{PlainClient}
use Rattle.sporc_shared.specs.Items.{Item, Past, by_of, client_of, items_of}

-- Of the items after the start, the first n of the log have these of the pass with this number, and
-- no others of it. So n is a moment after the pass had made them, and before it made its next one
pub record IsPoint (log : List Item) (start number : ℕ) (mine : List Item) (n : ℕ) : Type 0 where
  pub after_start : start ≤ n
  pub within : n ≤ length log
  pub mine_are : own by_of number start (take n log) ≡ mine

-- the first n items of the log led to this client
pub record IsClientAt (log : List Item) (n : ℕ) (client : PlainClient) : Type 0 where
  pub past : Past
  pub past_is : take n log ≡ items_of past
  pub client_is : client_of past ≡ client
