-- A key that is made of random words.
use Rattle.std.specs.Prelude.{◌≡◌, ℕ, List, [], ◌∷◌, take, replicate, Option}
use Rattle.lms_ots.specs.declared.ots_type.OtsType.{OtsType}
use Rattle.lms_tree.specs.declared.lms_type.LmsType.{LmsType}
use Rattle.lms_tree.specs.LmsPrivate.{lms_public_of}
use Rattle.lms_tree.specs.LmsType.{height_of}
use Rattle.lms_leaf.specs.LeafFile.{block_count}
use Rattle.sporc_member.specs.declared.device.Device.{Device}
use Rattle.sporc_keys.specs.declared.key_file.KeyFile.{KeyFile}
use Rattle.sporc_keys.specs.declared.new_key.NewKey.{NewKey}
use Rattle.sporc_keys.specs.KeyFile.{private_in}
use Rattle.sporc_keys.specs.Drawn.{DrawsWords}

-- the key file of two words: I is the first 16 bytes of the first, SEED the second
abbrev pub key_file_by : Device → LmsType → OtsType → List ℕ → List ℕ → KeyFile
key_file_by device lms ots first second =
    record { device = device; lms = lms; ots = ots; id = take 16 first; seed = second }

-- a key file, its public key, and its leaf file, of which no leaf is taken
abbrev pub made_of : KeyFile → NewKey
made_of file = record {
  file = file;
  public = lms_public_of (private_in file);
  leaves = replicate (block_count (height_of file.lms)) 0;
}

-- the key of a device, by two words
abbrev pub keygen_of : Device → LmsType → OtsType → List ℕ → List ℕ → NewKey
keygen_of device lms ots first second = made_of (key_file_by device lms ots first second)

-- a key that was made of the two words that a chance gave
abbrev pub IsKeygen : Option (List (List ℕ)) → Option (List (List ℕ)) → Device → LmsType → OtsType
    → NewKey → Type 0
IsKeygen before after device lms ots key = (first second : List ℕ)
    × DrawsWords before after (first ∷ second ∷ []) × (key ≡ keygen_of device lms ots first second)
