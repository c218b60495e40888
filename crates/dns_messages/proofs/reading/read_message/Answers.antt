use Rattle.dns_messages.proofs.Fitting.{message-can_be_written}
use Rattle.dns_messages.proofs.Exact.{message-found, message-none}
use Rattle.dns_messages.proofs.reading.read_message.Goals as goal

pub returns-clause-found : goal.returns-clause-found
returns-clause-found c = message-found (λ m. m) c.args.octets.now c.message_of.result (rw c.in_ok-reader.ensures at c.message_of.ensures.reads)

pub returns-clause-none : goal.returns-clause-none
returns-clause-none c = λ e w is. message-none (λ m. m) c.args.octets.now c.message_of.result
    (rw c.in_ok-reader.ensures at c.message_of.ensures.reads) e w is

pub returns-clause-suits : goal.returns-clause-suits
returns-clause-suits c = message-can_be_written c.args.octets.now c.message_of.result
    (message-found (λ m. m) c.args.octets.now c.message_of.result (rw c.in_ok-reader.ensures at c.message_of.ensures.reads))
