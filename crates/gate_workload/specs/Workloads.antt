-- A whole workload.
use Rattle.std.specs.Prelude.{◌≡◌, ℕ, List, ◌++◌, codes}
use Rattle.pcap_files.specs.Prelude.{Good, Whole, head_of, capture_of}
use Rattle.gate_workload.specs.declared.workload.Workload.{Workload}
use Rattle.gate_workload.specs.Captures.{capture_form}
use Rattle.gate_workload.specs.Rounds.{made}

-- the settings: both links raw, pools of 254 addresses, and three static bindings
abbrev pub settings : List ℕ
settings =
    codes "left.pool_first = \"192.168.200.1\"\n"
    ++ codes "left.pool_last = \"192.168.200.254\"\n"
    ++ codes "left.link = \"raw\"\n"
    ++ codes "right.pool_first = \"172.16.9.1\"\n"
    ++ codes "right.pool_last = \"172.16.9.254\"\n"
    ++ codes "right.link = \"raw\"\n"
    ++ codes "static = [\n"
    ++ codes "{ side = \"left\", host = \"10.0.0.5\", alias = \"172.16.9.1\" },\n"
    ++ codes "{ side = \"right\", host = \"10.0.0.5\", alias = \"192.168.200.1\" },\n"
    ++ codes "{ side = \"right\", host = \"10.0.0.53\", alias = \"192.168.200.53\" },\n"
    ++ codes "]\n"

-- the settings, and the captures after so many rounds
abbrev pub workload : ℕ → ℕ → Workload
workload number count = record { settings = settings; left = (made number count).left; right = (made number count).right }

-- a capture of the workload that is read to its end without a fault
abbrev pub IsWhole : List ℕ → Type 0
IsWhole all = (head_of all ≡ Good capture_form) × ((capture_of all).ending ≡ Whole)
