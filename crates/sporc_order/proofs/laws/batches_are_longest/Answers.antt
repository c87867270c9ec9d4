use Rattle.std.proofs.Common.{drop}
use Rattle.sporc_order.proofs.Common.{MAX_PULLED, MAX_PULLED_BYTES}
use Rattle.sporc_order.proofs.Longest.{is_prefix, longest}
use Rattle.sporc_order.proofs.Sizes.{batch_bytes, batch_len}
use Rattle.sporc_order.proofs.laws.batches_are_longest.Goals as goal

pub returns : goal.returns
returns c = record {
  prefix = λ entries from. is_prefix MAX_PULLED MAX_PULLED_BYTES (drop from entries);
  number_within = λ entries from. batch_len MAX_PULLED MAX_PULLED_BYTES (drop from entries);
  bytes_within = λ entries from. batch_bytes MAX_PULLED MAX_PULLED_BYTES (drop from entries);
  longest = λ entries from n within few small. longest MAX_PULLED MAX_PULLED_BYTES (drop from entries) n within few small;
}
