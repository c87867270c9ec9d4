-- What contracts see of a net in memory.
use Rattle.std.specs.Prelude.{◌≡◌, ℕ, false, List, [], Some, map, reverse}
use Rattle.std.specs.List.{All}
use Rattle.sporc_memory.specs.CallsModel.{CallsModel}
use Rattle.sporc_memory.specs.MemoryStreams.{link_told}
use Rattle.sporc_outside.specs.Nets.{NetTold}
use Rattle.sporc_memory.specs.declared.memory_link.MemoryLink.{MemoryLink}

-- the addresses asked for, the links that are still to come, those that were taken back, how many
-- are out, the calls, and the faults of the links that were taken back
pub record MemoryNetModel : Type 0 where
  pub asked : List (List ℕ)
  pub coming : List MemoryLink
  pub returned : List MemoryLink
  pub out : ℕ
  pub calls : CallsModel
  pub link_faults : ℕ

-- a net with these links, the last of them first, of which nothing was asked yet
abbrev pub net_of : List MemoryLink → CallsModel → MemoryNetModel
net_of links calls = record {
  asked = [];
  coming = reverse links;
  returned = [];
  out = 0;
  calls = calls;
  link_faults = 0;
}

-- no call of a link failed, and it was not shut
abbrev pub IsFresh : MemoryLink → Type 0
IsFresh link = (link.calls.faults ≡ 0) × (link.is_shut ≡ false)

abbrev pub AreFresh : List MemoryLink → Type 0
AreFresh links = All IsFresh links

abbrev pub net_told : MemoryNetModel → NetTold
net_told n = record {
  asked = Some n.asked;
  coming = Some (map (λ (l : MemoryLink). link_told l) n.coming);
  out = Some n.out;
  returned = Some (map (λ (l : MemoryLink). link_told l) n.returned);
  link_faults = n.link_faults;
  faults = n.calls.faults;
}
