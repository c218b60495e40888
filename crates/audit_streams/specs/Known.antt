-- A session whose dialogues learn: the entries of both, and streams all of whose addresses are listed.
use Rattle.std.specs.Prelude.{List}
use Rattle.gate_base.specs.declared.host.Host.{Host}
use Rattle.gate_base.specs.declared.host.Host.TheVariants.{Client, Server}
use Rattle.dialogue.specs.Prelude.{Entry}
use Rattle.audit_streams.specs.Hosts.{HeardStreams}

-- the entries of a host's dialogue
abbrev pub entries_of : {C S : Type 0} → (C → List Entry) → (S → List Entry) → Host → HeardStreams C S → List Entry
entries_of of_client of_server Client w = of_client w.client_dialogue
entries_of of_client of_server Server w = of_server w.server_dialogue
