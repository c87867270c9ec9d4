use Rattle.std.proofs.Common.{arith}
use Rattle.sporc_client.proofs.Common.{leaves_of}
use Rattle.sporc_client.proofs.Leaves.{rise_once}
use Rattle.sporc_client.proofs.laws.leaves_sign_once.Goals as goal

pub returns : goal.returns
returns c = record {
  once = λ first end log rise. rise_once first end (leaves_of log) rise;
  streams = λ author leaf other same. omega (arith, same);
}
