use Rattle.settings_file.proofs.Accepted.{accepted}
use Rattle.settings_file.proofs.laws.accepted_settings.Goals as goal

pub returns-clause-sound : goal.returns-clause-sound
returns-clause-sound c octets settings is = (accepted octets settings is).sound

pub returns-clause-forms : goal.returns-clause-forms
returns-clause-forms c octets settings is = (accepted octets settings is).forms

pub returns-clause-macs : goal.returns-clause-macs
returns-clause-macs c octets settings is = (accepted octets settings is).macs
