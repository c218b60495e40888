-- A frame that is judged by itself.
use Rattle.std.specs.Prelude.{◌≡◌, ◌≤◌, ℕ, List, length, Some, None, Result, Ok, Err}
use Rattle.gate_base.specs.Prelude.{Event}
use Rattle.verdicts.specs.Prelude.{first_that_holds}
use Rattle.verdicts.specs.declared.refusal.Refusal.{Refusal}
use Rattle.gate_base.specs.declared.protocol.TheConstants.{LONGEST_DATAGRAM}
use Rattle.ipv4_frames.specs.Ipv4.{Datagram}
use Rattle.twice_translate.specs.Renamed.{CanGoOn, datagram_of}
use Rattle.gate_model.specs.Prelude.{datagram_in}
use Rattle.event_frame.specs.Judged.{IsContentOf, front_tests}
use Rattle.event_frame.specs.declared.content.Content.{Content}
use Rattle.event_frame.specs.declared.judged.Judged.{Judged}

-- a datagram whose tests of its header and its transport don't hold, in just its octets
pub record IsJudged (octets : List ℕ) (d : Datagram) (content : Content) : Type 0 where
  pub same : datagram_of octets ≡ d
  pub can : CanGoOn octets
  pub few : length octets ≤ LONGEST_DATAGRAM
  pub content_is : IsContentOf d content

-- of a frame that passes by itself
pub record Judges (e : Event) (j : Judged) : Type 0 where
  pub none : first_that_holds (front_tests e) ≡ None
  pub datagram_is : j.datagram ≡ datagram_in e
  pub judged : IsJudged j.octets.now (datagram_in e) j.content

-- its first test holds, or it passes by itself
abbrev pub JudgedBy : Event → Result Judged Refusal → Type 0
JudgedBy e (Ok j) = Judges e j
JudgedBy e (Err refusal) = first_that_holds (front_tests e) ≡ Some refusal
