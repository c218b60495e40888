-- What goes out, by the places of its octets in the image.
use Rattle.std.specs.Prelude.{cond, nat_lt, []}
use Rattle.stream_model.specs.Standing.{Standing}
use Rattle.stream_model.specs.Sending.{Sent}
use Rattle.stream_model.specs.declared.step.Going.{Going}

-- All that goes out, with its octets out of the image of the sender with this standing.
abbrev pub sent_with : Standing → Going → Sent
sent_with s g = record {
  sequence = g.sequence;
  acknowledgement = g.acknowledgement;
  flags = g.flags;
  limit = g.limit;
  octets = cond (nat_lt g.first g.past) (s.part g.first g.past) [];
}
