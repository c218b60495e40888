-- Renamed data suits the same types.
use Rattle.std.proofs.Common.{◌≡◌, ℕ, ◌+◌, List, [], ◌∷◌, length, Option, Some, None}
use Rattle.std.specs.List.{AllByRecursion}
use Rattle.std.specs.Prelude.{option_to_list}
use Rattle.gate_base.specs.declared.address.Addr.{Addr}
use Rattle.dns_names.specs.Prelude.{full_reverse}
use Rattle.dns_messages.specs.declared.form.Form.{Form}
use Rattle.dns_messages.specs.declared.form.Form.TheVariants as form
use Rattle.dns_messages.specs.declared.message.Content.{Content}
use Rattle.dns_messages.specs.declared.message.Content.TheVariants.{Address, One, Soa, Two, Mx, Octets}
use Rattle.dns_messages.specs.declared.message.Resource.{Resource}
use Rattle.dns_messages.specs.Forms.{form_of}
use Rattle.dns_messages.specs.Suits.{Suits, ResourceSuits}
use Rattle.dns_gateway.specs.Addresses.{content_address, resource_addresses}
use Rattle.dns_gateway.specs.Renaming.{image_at, image_of, content_to, resources_renamed}

address-suits : (f : Form) (a : Addr) (image : Option Addr) → f ≡ form.Address → Suits f (content_to image (Address a))
address-suits f a None ok = ok
address-suits f a (Some image) ok = ok

content-suits : (f : Form) (c : Content) (images : List (Option Addr)) (place : ℕ) → Suits f c
    → Suits f (content_to (image_of (content_address c) images place) c)
content-suits f (Address a) images place ok = address-suits f a (image_at images place) ok
content-suits f (One n) images place ok = ok
content-suits f (Soa n m octets) images place ok = ok
content-suits f (Two n m) images place ok = ok
content-suits f (Mx p n) images place ok = ok
content-suits f (Octets octets) images place ok = ok

pub resources-suit : (images : List (Option Addr)) (place : ℕ) (rs : List Resource) → AllByRecursion ResourceSuits rs
    → AllByRecursion ResourceSuits (resources_renamed images place rs)
resources-suit images place [] ok = tt
resources-suit images place (r ∷ rs) ok = (
  content-suits (form_of r.kind r.class) r.content images (place + length (option_to_list (full_reverse r.name))) ok.0,
  resources-suit images (place + length (resource_addresses r)) rs ok.1,
)
