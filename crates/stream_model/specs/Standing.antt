-- What a step asks of a sender, however its octets are kept. Its receiver gets their image in their place. Places of both are counted from
-- 0 on, and place 0 has the number after the initial one (RFC 9293, 3.4). The end counts as one octet more, as FIN does.
use Rattle.std.specs.Prelude.{ℕ, List, slice_range}
use Rattle.dialogue.specs.Prelude.{image, back, fore, rear}
use Rattle.stream_model.specs.Session.{Sender, extent}
use Rattle.stream_model.specs.declared.refusals.Extent.{Extent}

-- What a sender answers.
pub record Standing : Type 0 where
  -- What decides a refusal: among others how many octets it has sent, how many octets of the image are due, and whether it has ended.
  pub extent : Extent
  -- The largest segment that it takes: the MSS of its SYN (RFC 9293, 3.7.1).
  pub mss : ℕ
  -- The first place of its image that its receiver has not acknowledged (SND.UNA of RFC 9293, 3.3.1). Where the end is acknowledged too, it is
  -- one more than what is due.
  pub acked : ℕ
  -- How many of its octets, from the first on, have all of their image before a place. So many are acknowledged to it once its image is
  -- acknowledged up to there.
  pub back : ℕ → ℕ
  -- The place at which the image of an octet begins. It is at most what is due, and just that behind the last octet.
  pub fore : ℕ → ℕ
  -- The place at which the image of the octets before one ends. It is at most what is due, and just that behind the last octet's end.
  pub rear : ℕ → ℕ
  -- The octets of its image from one place to before another.
  pub part : ℕ → ℕ → List ℕ

-- A sender whose octets are all known answers by all of them.
abbrev pub standing : Sender → Standing
standing a = record {
  extent = extent a;
  mss = a.mss;
  acked = a.acked;
  back = back a.meaning a.ended a.octets;
  fore = fore a.meaning a.ended a.octets;
  rear = rear a.meaning a.ended a.octets;
  part = slice_range (image a.meaning a.octets);
}

-- The first octet that is not acknowledged to its sender. From this one on octets are recent: they may be sent again (RFC 9293, 3.8.1).
abbrev pub first_recent : Standing → ℕ
first_recent s = s.back s.acked
