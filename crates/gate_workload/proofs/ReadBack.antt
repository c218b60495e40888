-- Datagrams that were written, and how they read back.
use Rattle.std.proofs.Common.{◌≡◌, ℕ, ◌+◌, ◌*◌, ◌/◌, ◌%◌, ◌^◌, ◌<◌, ◌≤◌, ◌||◌, ◌==◌, true, false, not, nat_lt, List, ◌++◌, length, Ok, refl, ap, ◌∙◌, arith}
use Rattle.std.proofs.lemmas.Bool.Decides.{nat_tests}
use Rattle.ipv4_frames.specs.Ipv4.{spelled_head}
use Rattle.ipv4_frames.proofs.Heads.{reads_written}
use Rattle.udp_icmp.specs.Udp.{Udp, sealed_udp}
use Rattle.udp_icmp.proofs.Sealed.{sealed_udp_reads}
use Rattle.gate_workload.specs.declared.flow.Flow.{Flow}
use Rattle.gate_workload.specs.Datagrams.{ip_model, udp_header, udp_datagram, ReadsBack}

-- a number of 16 bits, by its octets
number_16 : (n : ℕ) → n < 2 ^ 16 → n / 256 % 256 * 256 + (n % 256 * 1 + 0) ≡ n
number_16 n small = omega arith

-- the length field is right
good_length : (field count : ℕ) → field ≡ count → 8 ≤ count → field < 2 ^ 16
    → (nat_lt count 8 || not (field / 256 % 256 * 256 + (field % 256 * 1 + 0) == count)) ≡ false
good_length field count same long small = grind (arith, nat_tests)

-- a checksum takes no room
pub sealed_long : (flow : Flow) (payload : List ℕ) → length
    (sealed_udp flow.source.0 flow.destination.0 (udp_header flow (8 + length payload) ++ payload)) ≡ 8 + length payload
unfolding sealed_udp
sealed_long flow payload = omega arith

fields : (a b x y : ℕ) (payload : List ℕ) → a ≡ b → x ≡ y → ◌≡◌ {A = Udp}
    record { source_port = a; destination_port = x; has_sum = true; payload = payload }
    record { source_port = b; destination_port = y; has_sum = true; payload = payload }
fields a b x y payload e f = cc

pub udp_reads : (flow : Flow) (payload : List ℕ) → flow.source.0 < 2 ^ 32 → flow.destination.0 < 2 ^ 32 → flow.source_port < 2 ^ 16
    → flow.destination_port < 2 ^ 16 → length payload ≤ 1000 → ReadsBack flow payload
unfolding udp_datagram
udp_reads flow payload s d sp dp short =
    let unsealed = udp_header flow (8 + length payload) ++ payload in
    let segment = sealed_udp flow.source.0 flow.destination.0 unsealed in
    let long : length segment ≡ 8 + length payload = sealed_long flow payload in
    record {
      datagram = record {
        source = flow.source.0;
        destination = flow.destination.0;
        protocol = 17;
        lifetime = 64;
        header = spelled_head (ip_model 17) (20 + length segment) 64 flow.source.0 flow.destination.0;
        payload = segment;
      };
      source = refl;
      destination = refl;
      header = reads_written (ip_model 17) segment 64 flow.source.0 flow.destination.0 refl (refl, refl) (omega arith) s d;
      content =
          sealed_udp_reads flow.source.0 flow.destination.0 unsealed s d (omega arith)
          (good_length (8 + length payload) (length unsealed) (omega arith) (omega arith) (omega arith))
          ∙ ap Ok (fields _ _ _ _ payload (number_16 flow.source_port sp) (number_16 flow.destination_port dp));
    }
