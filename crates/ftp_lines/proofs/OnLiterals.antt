-- The words that a row unfolds to compute lines.
use Rattle.std.specs.Prelude.{⊤}
use Rattle.std.specs.Fmt.{digits}
use Rattle.ftp_lines.specs.Numbers.{number, four, six}
use Rattle.ftp_lines.specs.Grammar.{port, eprt, delimited, passive, client_text, server_text}
use Rattle.ftp_lines.specs.Renaming.{spelled}

-- what a row unfolds to compute which lines bear an address, and their images
unfoldable pub lines_on_literals : ⊤
unfolding number four six port eprt delimited passive client_text server_text spelled digits
lines_on_literals = tt
