-- The keys of trees that were built.
use Rattle.std.proofs.Common.{◌≡◌, List, [], ◌∷◌, ◌++◌}
use Rattle.std.specs.List.{All}
use Rattle.std.proofs.lemmas.List.Elements.{All-push}
use Rattle.sporc_member.specs.declared.device.KeyedDevice.{KeyedDevice}
use Rattle.sporc_play.proofs.Common.{Tree, public_of}

pub keys_more : (sizes : Tree) (keys : List KeyedDevice) (one : KeyedDevice) → All (λ k. k.key ≡ public_of sizes k.device) keys → one.key ≡ public_of sizes one.device
    → All (λ k. k.key ≡ public_of sizes k.device) (keys ++ one ∷ [])
keys_more sizes keys one all is = All-push (λ (k : KeyedDevice). k.key ≡ public_of sizes k.device) keys one all is
