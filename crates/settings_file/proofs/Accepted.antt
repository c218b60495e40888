-- Settings that octets give fit one another and have their forms.
use Rattle.std.proofs.Common.{◌≡◌, ℕ, List, Option, Some, None, Ok, Err, refl, subst}
use Rattle.settings_file.specs.Accepting.{first_fault, settings_of, unless}
use Rattle.settings_file.specs.Document.{keys_of}
use Rattle.settings_file.specs.Firsts.{◌>>=◌, Found}
use Rattle.gate_settings.specs.Prelude.{HasForms, HaveMacAddresses, IsSound}
use Rattle.settings_file.specs.declared.fault.SettingsFault.{SettingsFault}
use Rattle.settings_file.specs.declared.given.Given.{Given}
use Rattle.gate_settings.specs.declared.settings.Settings.{Settings}
use Rattle.settings_file.proofs.Sound.{sound}
use Rattle.settings_file.proofs.Forms.{formed, HasGivenForms}

-- fit one another, have their forms, and MAC addresses of six octets
pub record IsAccepted (settings : Settings) : Type 0 where
  pub sound : IsSound settings
  pub forms : HasForms settings
  pub macs : HaveMacAddresses settings

from_given : (fault : Option SettingsFault) (given : Given) (settings : Settings) → (fault ≡ None → IsSound given.settings)
    → HasGivenForms given → unless fault given.settings ≡ Ok settings → IsAccepted settings
from_given None given settings fits forms is = let e : given.settings ≡ settings = cc in
    subst IsAccepted e (record { sound = fits refl; forms = forms.0; macs = forms.1 })
from_given (Some fault) given settings fits forms is = cc

pub accepted : (octets : List ℕ) (settings : Settings) → settings_of octets ≡ Ok settings → IsAccepted settings
unfolding settings_of
accepted octets settings is = from (keys_of octets) refl is
  where
    from : (found : Found Given) → keys_of octets ≡ found → (found >>= (λ given. unless (first_fault given) given.settings)) ≡ Ok settings
        → IsAccepted settings
    from (Ok given) was is = from_given (first_fault given) given settings (sound given) (formed octets given was) is
    from (Err fault) was is = cc
