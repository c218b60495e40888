-- The form that a message needs to be written, and what is known of each message.
use Rattle.std.specs.Prelude.{◌≡◌, [], length, ◌⊎◌}
use Rattle.std.specs.List.{AllByRecursion}
use Rattle.dns_messages.specs.declared.form.Form.{Form}
use Rattle.dns_messages.specs.declared.form.Form.TheVariants as form
use Rattle.dns_messages.specs.declared.message.Content.{Content}
use Rattle.dns_messages.specs.declared.message.Content.TheVariants.{Address, One, Soa, Two, Mx, Octets}
use Rattle.dns_messages.specs.declared.message.Resource.{Resource}
use Rattle.dns_messages.specs.declared.message.Message.{Message}
use Rattle.dns_messages.specs.Forms.{form_of}

-- Data that a form may hold: no octets suit each form.
abbrev pub Suits : Form → Content → Type 0
Suits f (Address a) = f ≡ form.Address
Suits f (One n) = f ≡ form.One
Suits f (Soa n m octets) = (f ≡ form.Soa) × (length octets ≡ 20)
Suits f (Two n m) = f ≡ form.Two
Suits f (Mx p n) = f ≡ form.Mx
Suits f (Octets octets) = (octets ≡ []) ⊎ (f ≡ form.Octets)

-- the data is what the record's type and class hold
abbrev pub ResourceSuits : Resource → Type 0
ResourceSuits r = Suits (form_of r.kind r.class) r.content

-- the data of each record is what its type and class hold
pub record MessageSuits (m : Message) : Type 0 where
  pub answers : AllByRecursion ResourceSuits m.answers
  pub authority : AllByRecursion ResourceSuits m.authority
  pub additional : AllByRecursion ResourceSuits m.additional
