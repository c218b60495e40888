-- A frame that passes by itself.
use Rattle.std.proofs.Common.{◌≡◌, ◌≤◌, ◌<◌, ℕ, List, take, None, Ok, sym, ap, ◌∙◌, arith, is_ok, length-take-le}
use Rattle.ipv4_frames.specs.Ipv4.{Datagram, total_length_of, read_datagram}
use Rattle.twice_translate.specs.Renamed.{IsAccepted, datagram_of}
use Rattle.twice_translate.specs.Content.{read_content}
use Rattle.twice_translate.proofs.Accepted.{reads}
use Rattle.twice_translate.proofs.Cut.{cut_goes_on, cut_same}
use Rattle.verdicts.specs.Prelude.{first_that_holds}
use Rattle.gate_model.specs.Prelude.{datagram_tests, transport_tests}
use Rattle.event_frame.specs.declared.content.Content.{Content}
use Rattle.event_frame.specs.Frames.{IsJudged}
use Rattle.event_frame.specs.Judged.{IsContentOf}
use Rattle.event_frame.proofs.Tests.{accepted}

pub is_judged : (octets : List ℕ) (d : Datagram) (content : Content) → read_datagram octets ≡ Ok d → d ≡ datagram_of octets
    → first_that_holds (datagram_tests d) ≡ None → first_that_holds (transport_tests d) ≡ None → 2 ≤ d.lifetime → total_length_of octets ≤ 65535
    → IsContentOf d content → IsJudged (take (total_length_of octets) octets) d content
is_judged octets d content read same known none alive few content_is =
    let a : IsAccepted octets =
    record {
      header = ap is_ok read;
      payload = ap (λ (x : Datagram). is_ok (read_content x.protocol x.source x.destination x.payload)) (sym same)
          ∙ accepted d known none;
    } in
    let life : 1 < (datagram_of octets).lifetime = omega (arith, alive, ap (λ (x : Datagram). x.lifetime) same) in
    record {
      same = cut_same octets a ∙ sym same;
      can = cut_goes_on octets a life;
      few = omega (arith, few, length-take-le (total_length_of octets) octets (reads octets (ap is_ok read)).within);
      content_is = content_is;
    }
