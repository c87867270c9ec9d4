use Rattle.sporc_wire.proofs.Common.{stream_of, to_server_of}
use Rattle.sporc_wire.proofs.Readings.{HandsOut-fed, HandsOut-next, next_stays}
use Rattle.sporc_wire.proofs.laws.any_pieces_to_a_server.Goals as goal

pub returns-clause-fed : goal.returns-clause-fed
returns-clause-fed c = λ bytes more ms s r. HandsOut-fed to_server_of (stream_of bytes) more ms s r

pub returns-clause-next : goal.returns-clause-next
returns-clause-next c = λ bytes ms s m r e. HandsOut-next to_server_of (stream_of bytes) ms s m r e

pub returns-clause-stays : goal.returns-clause-stays
returns-clause-stays c = λ s f e. next_stays to_server_of s f e
