-- How a message is written.
use Rattle.std.specs.Prelude.{ℕ, ◌+◌, List, [], ◌∷◌, ◌++◌, length, Option, Some, None}
use Rattle.std.specs.Option.{option_len}
use Rattle.byteorder.specs.Endian.{big_bytes}
use Rattle.dns_names.specs.Prelude.{Start, Added, spell}
use Rattle.dns_messages.specs.declared.message.Content.{Content}
use Rattle.dns_messages.specs.declared.message.Content.TheVariants.{Address, One, Soa, Two, Mx, Octets}
use Rattle.dns_messages.specs.declared.message.Question.{Question}
use Rattle.dns_messages.specs.declared.message.Resource.{Resource}
use Rattle.dns_messages.specs.declared.message.Message.{Message}

-- what is written at a place, where the label starts before it are known
abbrev pub Writer : Type 0
Writer = List Start → ℕ → Added

-- a name
abbrev pub name : List (List ℕ) → Writer
name labels starts place = spell starts place labels

-- octets that are no name
abbrev pub put : List ℕ → Writer
put octets starts place = record { octets = octets; starts = [] }

-- one behind the other
abbrev pub join : Added → Added → Added
join x y = record { octets = x.octets ++ y.octets; starts = x.starts ++ y.starts }

infixr 10 ◌⨟◌
-- one behind the other, with the label starts of the first known to the second
abbrev pub ◌⨟◌ : Writer → Writer → Writer
(v ⨟ w) starts place = let x = v starts place in join x (w (starts ++ x.starts) (place + length x.octets))

-- the length before it
abbrev pub behind_length : Added → Added
behind_length x = record { octets = big_bytes 2 (length x.octets) ++ x.octets; starts = x.starts }

-- behind its length in two octets
abbrev pub sized : Writer → Writer
sized w starts place = behind_length (w starts (place + 2))

-- data
abbrev pub content_written : Content → Writer
content_written (Address a) = put (big_bytes 4 a.0)
content_written (One n) = name n
content_written (Soa n m octets) = name n ⨟ name m ⨟ put octets
content_written (Two n m) = name n ⨟ name m
content_written (Mx p n) = put (big_bytes 2 p) ⨟ name n
content_written (Octets octets) = put octets

-- a record up to its length
abbrev pub head_written : Resource → Writer
head_written r = name r.name ⨟ put (big_bytes 2 r.kind) ⨟ put (big_bytes 2 r.class) ⨟ put (big_bytes 4 r.lifetime)

-- a record
abbrev pub resource_written : Resource → Writer
resource_written r = name r.name ⨟ put (big_bytes 2 r.kind) ⨟ put (big_bytes 2 r.class) ⨟ put (big_bytes 4 r.lifetime) ⨟ sized
    (content_written r.content)

-- records
abbrev pub resources_written : List Resource → Writer
resources_written [] = put []
resources_written (r ∷ rs) = resource_written r ⨟ resources_written rs

-- a question, if there is one
abbrev pub questions_written : Option Question → Writer
questions_written None = put []
questions_written (Some q) = name q.name ⨟ put (big_bytes 2 q.kind) ⨟ put (big_bytes 2 q.class)

-- the header
abbrev pub header_written : Message → Writer
header_written m = put (big_bytes 2 m.id) ⨟ put (big_bytes 2 m.flags) ⨟ put (big_bytes 2 (option_len m.question)) ⨟ put
    (big_bytes 2 (length m.answers)) ⨟ put (big_bytes 2 (length m.authority)) ⨟ put (big_bytes 2 (length m.additional))

-- the whole message
abbrev pub message_written : Message → Writer
message_written m = header_written m ⨟ questions_written m.question ⨟ resources_written m.answers ⨟ resources_written m.authority ⨟ resources_written
    m.additional

-- the octets of a message
unfoldable pub spelling : Message → List ℕ
spelling m = Added.octets (message_written m [] 0)
