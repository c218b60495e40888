-- The two hosts of a session.
use Rattle.gate_base.specs.declared.host.Host.{Host}
use Rattle.gate_base.specs.declared.host.Host.TheVariants.{Client, Server}

-- the other host
abbrev pub peer : Host → Host
peer Client = Server
peer Server = Client
