-- Reading from a place on: what stands there, and the place after it.
use Rattle.std.specs.Prelude.{ℕ, zero, suc, ◌+◌, ◌-◌, ◌==◌, if◌then◌else◌, nat_lt, List, [], ◌∷◌, length, take, drop, Option, Some, None}
use Rattle.byteorder.specs.Endian.{big_number}
use Rattle.gate_base.specs.Prelude.{◌>>=◌}
use Rattle.dns_names.specs.Prelude.{name_at}
use Rattle.dns_messages.specs.declared.form.Form.{Form}
use Rattle.dns_messages.specs.declared.form.Form.TheVariants as form
use Rattle.dns_messages.specs.declared.message.Content.{Content}
use Rattle.dns_messages.specs.declared.message.Content.TheVariants.{Address, One, Soa, Two, Mx, Octets}
use Rattle.dns_messages.specs.declared.message.Question.{Question}
use Rattle.dns_messages.specs.declared.message.Resource.{Resource}
use Rattle.dns_messages.specs.declared.message.Message.{Message}
use Rattle.dns_messages.specs.Forms.{form_at}

-- the number of so many octets, the highest first
abbrev pub number_at : ℕ → List ℕ → ℕ → Option (ℕ × ℕ)
number_at count message place = if nat_lt (length message) (place + count) then None else Some (big_number count (drop place message), place + count)

-- so many octets
abbrev pub octets_at : List ℕ → ℕ → ℕ → Option (List ℕ × ℕ)
octets_at message place count = if nat_lt (length message) (place + count) then None else Some (take count (drop place message), place + count)

-- data ends exactly where its length says
abbrev pub ending : ℕ → ℕ → Content → Option Content
ending end after content = if after == end then Some content else None

-- the data of a form, from a place to an end
unfoldable pub content_by : Form → List ℕ → ℕ → ℕ → Option Content
content_by form.Address message place end = do
  number ← number_at 4 message place
  ending end number.1 (Address (record { 0 = number.0 }))
content_by form.One message place end = do
  name ← name_at message place
  ending end name.1 (One name.0)
content_by form.Soa message place end = do
  first ← name_at message place
  second ← name_at message first.1
  octets ← octets_at message second.1 20
  ending end octets.1 (Soa first.0 second.0 octets.0)
content_by form.Two message place end = do
  first ← name_at message place
  second ← name_at message first.1
  ending end second.1 (Two first.0 second.0)
content_by form.Mx message place end = do
  preference ← number_at 2 message place
  name ← name_at message preference.1
  ending end name.1 (Mx preference.0 name.0)
content_by form.Octets message place end = do
  octets ← octets_at message place (end - place)
  ending end octets.1 (Octets octets.0)

-- a record
unfoldable pub resource_at : List ℕ → ℕ → Option (Resource × ℕ)
resource_at message place = do
  name ← name_at message place
  kind ← number_at 2 message name.1
  class ← number_at 2 message kind.1
  lifetime ← number_at 4 message class.1
  count ← number_at 2 message lifetime.1
  rest ← octets_at message count.1 count.0
  content ← content_by (form_at kind.0 class.0 count.0) message count.1 (count.1 + count.0)
  Some (record { name = name.0; kind = kind.0; class = class.0; lifetime = lifetime.0; content = content }, rest.1)

-- so many records
unfoldable pub resources_at : ℕ → List ℕ → ℕ → Option (List Resource × ℕ)
resources_at zero message place = Some ([], place)
resources_at (suc n) message place = do
  first ← resource_at message place
  others ← resources_at n message first.1
  Some (first.0 ∷ others.0, others.1)

-- a question
unfoldable pub question_at : List ℕ → ℕ → Option (Question × ℕ)
question_at message place = do
  name ← name_at message place
  kind ← number_at 2 message name.1
  class ← number_at 2 message kind.1
  Some (record { name = name.0; kind = kind.0; class = class.0 }, class.1)

-- so many questions: at most one
unfoldable pub questions_at : ℕ → List ℕ → ℕ → Option (Option Question × ℕ)
questions_at count message place = if count == 0 then Some (None, place) else if count ==
    1 then (question_at message place >>= λ q. Some (Some q.0, q.1)) else None

-- the message that octets are, with nothing behind it
unfoldable pub message_at : List ℕ → Option Message
message_at message = do
  id ← number_at 2 message 0
  flags ← number_at 2 message id.1
  asked ← number_at 2 message flags.1
  answered ← number_at 2 message asked.1
  backed ← number_at 2 message answered.1
  added ← number_at 2 message backed.1
  question ← questions_at asked.0 message added.1
  answers ← resources_at answered.0 message question.1
  authority ← resources_at backed.0 message answers.1
  additional ← resources_at added.0 message authority.1
  let read : Message =
      record { id = id.0; flags = flags.0; question = question.0; answers = answers.0; authority = authority.0; additional = additional.0 }
  if additional.1 == length message then Some read else None
