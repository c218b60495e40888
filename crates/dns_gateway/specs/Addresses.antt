-- The addresses in a message that are renamed.
use Rattle.std.specs.Prelude.{ℕ, List, [], ◌++◌, Option, Some, None, option_to_list}
use Rattle.std.specs.List.{flat_map}
use Rattle.dns_names.specs.Prelude.{full_reverse}
use Rattle.dns_messages.specs.declared.message.Content.{Content}
use Rattle.dns_messages.specs.declared.message.Content.TheVariants.{Address}
use Rattle.dns_messages.specs.declared.message.Question.{Question}
use Rattle.dns_messages.specs.declared.message.Resource.{Resource}
use Rattle.dns_messages.specs.declared.message.Message.{Message}

-- the address in data of type 1 in class 1; names inside data aren't renamed
abbrev pub content_address : Content → Option ℕ
content_address (Address a) = Some a.0
content_address _ = None

-- of a question: the address whose full reverse name it asks for
abbrev pub question_addresses : Option Question → List ℕ
question_addresses None = []
question_addresses (Some q) = option_to_list (full_reverse q.name)

-- of a record: the address whose full reverse name owns it, and then the one in its data
abbrev pub resource_addresses : Resource → List ℕ
resource_addresses r = option_to_list (full_reverse r.name) ++ option_to_list (content_address r.content)

-- of records, one after the other
abbrev pub resources_addresses : List Resource → List ℕ
resources_addresses rs = flat_map resource_addresses rs

-- of a message, in its order
abbrev pub message_addresses : Message → List ℕ
message_addresses m = question_addresses m.question ++ resources_addresses m.answers ++ resources_addresses m.authority
    ++ resources_addresses m.additional
