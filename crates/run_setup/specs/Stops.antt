-- The status of a part that stopped.
use Rattle.gate_desk.specs.declared.whole.TakeStop.{TakeStop}
use Rattle.gate_desk.specs.declared.whole.TakeStop.TheVariants as takes
use Rattle.settings_file.specs.declared.fault.ReadSettings.{ReadSettings}
use Rattle.settings_file.specs.declared.fault.ReadSettings.TheVariants as reads
use Rattle.pcap_merge.specs.declared.stop.MergeStop.{MergeStop}
use Rattle.pcap_merge.specs.declared.stop.MergeStop.TheVariants as merges
use Rattle.run_setup.specs.declared.status.Status.{Status}
use Rattle.run_setup.specs.declared.status.Status.TheVariants.{SettingsRefused, CaptureRefused, ReadFault, OutOfMemory}

abbrev pub status_of_take : TakeStop → Status
status_of_take (takes.Desk slot) = ReadFault slot
status_of_take takes.OutOfMemory = OutOfMemory

abbrev pub status_of_settings : ReadSettings → Status
status_of_settings (reads.Fault fault) = SettingsRefused fault
status_of_settings reads.OutOfMemory = OutOfMemory

abbrev pub status_of_merge : MergeStop → Status
status_of_merge (merges.Fault side fault place) = CaptureRefused side fault place
status_of_merge (merges.Desk slot) = ReadFault slot
status_of_merge merges.OutOfMemory = OutOfMemory
