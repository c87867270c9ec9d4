-- What streams in memory tell.
use Rattle.std.specs.Prelude.{None, Some}
use Rattle.sporc_memory.specs.MemoryBytesModel.{MemoryBytesModel}
use Rattle.sporc_memory.specs.MemoryLinkModel.{MemoryLinkModel}
use Rattle.sporc_outside.specs.Streams.{StreamTold}

abbrev pub source_told : MemoryBytesModel → StreamTold
source_told s =
    record { left = Some s.bytes; written = None; is_shut = None; faults = s.calls.faults }

abbrev pub sink_told : MemoryBytesModel → StreamTold
sink_told s =
    record { left = None; written = Some s.bytes; is_shut = None; faults = s.calls.faults }

abbrev pub link_told : MemoryLinkModel → StreamTold
link_told l = record {
  left = Some l.left;
  written = Some l.written;
  is_shut = Some l.is_shut;
  faults = l.calls.faults;
}
