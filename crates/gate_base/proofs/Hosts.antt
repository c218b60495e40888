-- What holds of the hosts of a session.
use Rattle.std.proofs.Common.{◌≡◌, sym, subst}
use Rattle.gate_base.specs.declared.host.Host.{Host}
use Rattle.gate_base.specs.declared.host.Host.TheVariants.{Client, Server}
use Rattle.gate_base.specs.Prelude.{peer}

-- what holds of one host and of the other one holds of each
pub both : (P : Host → Type 0) (one : Host) → P one → P (peer one) → (host : Host) → P host
both P Client mine theirs Client = mine
both P Client mine theirs Server = theirs
both P Server mine theirs Client = theirs
both P Server mine theirs Server = mine

-- what holds of one host by what one function says holds of the host that is meant, by what another one says
pub at_host : {X : Type 0} (P : Host → X → Type 0) (one host : Host) (a w : X) → host ≡ one → a ≡ w → P one a → P host w
at_host P one host a w h e p = subst (P host) e (subst (λ (x : Host). P x a) (sym h) p)

-- and the reverse
pub of_host : {X : Type 0} (P : Host → X → Type 0) (one host : Host) (a w : X) → host ≡ one → a ≡ w → P host w → P one a
of_host P one host a w h e p = subst (λ (x : Host). P x a) h (subst (P host) (sym e) p)
