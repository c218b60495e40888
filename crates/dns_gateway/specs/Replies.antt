-- What is sent for a message.
use Rattle.std.specs.Prelude.{ℕ, ◌||◌, if◌then◌else◌, nat_lt, max, bit_or, List, [], length}
use Rattle.dns_messages.specs.declared.message.Message.{Message}
use Rattle.dns_messages.specs.Writing.{spelling}
use Rattle.dns_gateway.specs.declared.replies.TheConstants.{LONGEST_PLAIN, TRUNCATED}
use Rattle.dns_names.specs.declared.TheConstants.{LONGEST_MESSAGE}

-- The header with the flag TC set and the counts of records 0, and the question (RFC 1035, 4.1.1).
abbrev pub cut : Message → Message
cut m = record { id = m.id; flags = bit_or m.flags TRUNCATED; question = m.question; answers = []; authority = []; additional = [] }

-- The message, cut where it is longer than LONGEST_PLAIN octets and longer than the message that came in, or too long to be written.
abbrev pub reply_of : Message → ℕ → List ℕ
reply_of m incoming = if nat_lt (max LONGEST_PLAIN incoming) (length (spelling m)) || nat_lt LONGEST_MESSAGE (length (spelling m))
    then spelling (cut m) else spelling m
