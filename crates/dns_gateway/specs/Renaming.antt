-- A message with the images of its addresses.
use Rattle.std.specs.Prelude.{ℕ, ◌+◌, ◌||◌, if◌then◌else◌, is_some, List, [], ◌∷◌, length, slice_index_or, Option, Some, None, option_to_list}
use Rattle.gate_base.specs.declared.address.Addr.{Addr}
use Rattle.dns_names.specs.Prelude.{full_reverse, with_address}
use Rattle.dns_messages.specs.declared.message.Content.{Content}
use Rattle.dns_messages.specs.declared.message.Content.TheVariants.{Address}
use Rattle.dns_messages.specs.declared.message.Question.{Question}
use Rattle.dns_messages.specs.declared.message.Resource.{Resource}
use Rattle.dns_messages.specs.declared.message.Message.{Message}
use Rattle.dns_gateway.specs.Addresses.{content_address, question_addresses, resource_addresses, resources_addresses}

-- the image at a place of the list, if there is one
abbrev pub image_at : List (Option Addr) → ℕ → Option Addr
image_at images place = slice_index_or images place None

-- the image of an address that stands at a place of the list
abbrev pub image_of : Option ℕ → List (Option Addr) → ℕ → Option Addr
image_of None images place = None
image_of (Some address) images place = image_at images place

-- a reverse name with the image of its address: no image keeps it
abbrev pub name_to : Option Addr → List (List ℕ) → List (List ℕ)
name_to None labels = labels
name_to (Some image) labels = with_address image.0 labels

-- data with the image of its address
abbrev pub content_to : Option Addr → Content → Content
content_to None content = content
content_to (Some image) content = Address image

-- a record whose images stand from a place on, its owner's before its data's: its lifetime becomes 0 if there is one
abbrev pub resource_renamed : List (Option Addr) → ℕ → Resource → Resource
resource_renamed images place r =
    let owner = image_of (full_reverse r.name) images place in
    let value = image_of (content_address r.content) images (place + length (option_to_list (full_reverse r.name))) in
    let lifetime = if is_some owner || is_some value then 0 else r.lifetime in
    record r { name = name_to owner r.name; lifetime = lifetime; content = content_to value r.content }

-- records whose images stand from a place on, one after the other
abbrev pub resources_renamed : List (Option Addr) → ℕ → List Resource → List Resource
resources_renamed images place [] = []
resources_renamed images place (r ∷ rs) = resource_renamed images place r ∷ resources_renamed images (place + length (resource_addresses r)) rs

-- a question whose image stands first
abbrev pub question_renamed : List (Option Addr) → Option Question → Option Question
question_renamed images None = None
question_renamed images (Some q) = Some (record q { name = name_to (image_of (full_reverse q.name) images 0) q.name })

-- A message with the images of its addresses, in the order of the addresses.
abbrev pub message_renamed : List (Option Addr) → Message → Message
message_renamed images m =
    let answers = length (question_addresses m.question) in
    let authority = answers + length (resources_addresses m.answers) in
    let additional = authority + length (resources_addresses m.authority) in
    record m {
      question = question_renamed images m.question;
      answers = resources_renamed images answers m.answers;
      authority = resources_renamed images authority m.authority;
      additional = resources_renamed images additional m.additional;
    }
