-- How an entry can come to be submitted.
use Rattle.std.specs.Prelude.{◌≡◌, ℕ, ◌<◌, ◌^◌, List, length, Ok}
use Rattle.lms_tree.specs.LmsType.{height_of}
use Rattle.sporc_client.specs.declared.submitted.Submitted.TheVariants.{Entry}
use Rattle.sporc_client.specs.PlainClient.{PlainClient}
use Rattle.sporc_client.specs.Submissions.{submission}

-- a leaf of the client's key and 64 random bytes with which a submission answers this entry
pub record CanMake (c : PlainClient) (entry : List ℕ) : Type 0 where
  pub leaf : ℕ
  pub within : leaf < 2 ^ height_of c.opening.key.lms
  pub random : List ℕ
  pub size : length random ≡ 64
  pub answer : submission c random (Ok leaf) ≡ Ok (Entry entry)
