-- Segments of hosts that keep to their own streams and to what they were sent: none of them is refused.
use Rattle.std.specs.Prelude.{◌≡◌, ◌≤◌, ◌<◌, ◌+◌, ◌-◌, ◌⊎◌, true, false, length, is_some}
use Rattle.dialogue.specs.declared.TheConstants.{MOST_RECENT}
use Rattle.tcp_segments.specs.Prelude.{one_if}
use Rattle.stream_model.specs.Session.{Sender, Segment, extent, arrival, start_of, repeats_unlike}
use Rattle.stream_model.specs.Refusals.{is_data, past_end, ack_ahead}
use Rattle.stream_model.specs.Progress.{acknowledged_of, BeginsBy}
use Rattle.stream_model.specs.declared.refusals.TheConstants.{STREAM_LIMIT}

-- a segment g of a, to b:
pub record KeepsTo (a b : Sender) (g : Segment) : Type 0 where
  -- it has ACK and neither SYN nor RST, after both SYNs,
  pub kind : is_data (arrival g) ≡ true
  pub ack : g.flags.ack ≡ true
  pub own_known : is_some a.initial ≡ true
  pub other_known : is_some b.initial ≡ true
  -- begins nowhere behind what was taken of its sender so far, and its end,
  pub begins : BeginsBy a g (length a.octets + one_if a.ended)
  -- and, where it adds octets, not behind the first that isn't acknowledged to its sender;
  pub adds : (length g.octets ≤ (start_of a g).before) ⊎ BeginsBy a g (acknowledged_of a)
  pub few : length g.octets ≤ MOST_RECENT
  -- what it repeats is as before, and nothing stands behind an end;
  pub alike : repeats_unlike a g ≡ false
  pub ends : past_end (extent a) (arrival g) ≡ false
  -- it acknowledges no more than was sent,
  pub acknowledges : ack_ahead (extent b) (arrival g) ≡ false
  -- and its sender has sent fewer than STREAM_LIMIT octets with it
  pub short : length a.octets + (length g.octets - (start_of a g).before) < STREAM_LIMIT
