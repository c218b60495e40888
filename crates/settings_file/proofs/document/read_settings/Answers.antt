use Rattle.std.proofs.Common.{sym, ◌∙◌}
use Rattle.settings_file.proofs.Forms.{formed}
use Rattle.settings_file.proofs.Sound.{sound}
use Rattle.settings_file.proofs.document.read_settings.Goals as goal

pub returns-in-None-clause-sound : goal.returns-in-None-clause-sound
returns-in-None-clause-sound c = sound c.in_ok-given.given (sym c.in_ok-fault.ensures ∙ c.in-None.is)

pub returns-in-None-clause-forms : goal.returns-in-None-clause-forms
returns-in-None-clause-forms c = (formed c.args.octets.now c.in_ok-given.given c.in_ok-given.ensures.value).0
