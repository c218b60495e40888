-- The names of faults.
use Rattle.std.specs.Prelude.{ℕ, List, codes}
use Rattle.pcap_files.specs.declared.fault.CaptureFault.{CaptureFault}
use Rattle.pcap_files.specs.declared.fault.CaptureFault.TheVariants.{NoHead, Magic, Link, RecordTooLong, Torn, CaptureTooLong, Stamp}

-- the name of a fault of a capture
unfoldable pub name_of : CaptureFault → List ℕ
name_of NoHead = codes "NoHead"
name_of Magic = codes "Magic"
name_of Link = codes "Link"
name_of RecordTooLong = codes "RecordTooLong"
name_of Torn = codes "Torn"
name_of CaptureTooLong = codes "CaptureTooLong"
name_of Stamp = codes "Stamp"
