-- The exit status, and the line about what went wrong.
use Rattle.std.specs.Prelude.{ℕ, List, [], ◌++◌, codes, decimal}
use Rattle.gate_base.specs.Prelude.{name_of}
use Rattle.gate_desk.specs.Slots.{name_of as slot_name}
use Rattle.settings_file.specs.Faults.{text_of}
use Rattle.pcap_files.specs.Faults.{name_of as fault_name}
use Rattle.run_setup.specs.declared.status.Status.{Status}
use Rattle.run_setup.specs.declared.status.Status.TheVariants.{Done, Usage, SettingsRefused, CaptureRefused, ReadFault, WriteFault, OpenFault, OutOfMemory, Unlawful}

-- the exit status
abbrev pub code_of : Status → ℕ
code_of Done = 0
code_of Usage = 2
code_of (SettingsRefused fault) = 3
code_of (CaptureRefused side fault place) = 4
code_of (ReadFault slot) = 5
code_of (WriteFault slot) = 6
code_of (OpenFault slot) = 7
code_of OutOfMemory = 8
code_of (Unlawful number reason) = 9

-- the line on the slot of errors
unfoldable pub error_line : Status → List ℕ
error_line Done = []
error_line Usage =
    codes "usage: run SETTINGS LEFT_IN RIGHT_IN LEFT_OUT RIGHT_OUT REPORT | make NUMBER COUNT REPORT | audit SETTINGS LEFT_IN RIGHT_IN LEFT_GIVEN RIGHT_GIVEN REPORT_GIVEN REPORT\n"
error_line (SettingsRefused fault) = codes "settings: " ++ text_of fault ++ codes "\n"
error_line (CaptureRefused side fault place) =
    codes "capture " ++ name_of side ++ codes ": " ++ fault_name fault ++ codes " at " ++ decimal place ++ codes "\n"
error_line (ReadFault slot) = codes "read failed: " ++ slot_name slot ++ codes "\n"
error_line (WriteFault slot) = codes "write failed: " ++ slot_name slot ++ codes "\n"
error_line (OpenFault slot) = codes "open failed: " ++ slot_name slot ++ codes "\n"
error_line OutOfMemory = codes "out of memory\n"
error_line (Unlawful number reason) = []
