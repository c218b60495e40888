-- The words of the law that two senders send alike if they answer alike.
use Rattle.std.specs.Prelude.{◌≡◌, ◌≤◌, ◌<◌, ◌+◌, ℕ, Bool}
use Rattle.tcp_segments.specs.Prelude.{one_if}
use Rattle.stream_model.specs.Standing.{Standing, first_recent}
use Rattle.stream_model.specs.Sending.{low, high}
use Rattle.stream_model.specs.declared.numbers.Offset.{Offset}
use Rattle.stream_model.specs.declared.refusals.Extent.{Extent}

-- Both answer alike from what is not acknowledged on: a step asks for nothing else.
pub record Agree (s t : Standing) : Type 0 where
  -- All that decides a refusal is the same, and so are the largest segment and what is acknowledged.
  pub extent : s.extent ≡ t.extent
  pub mss : s.mss ≡ t.mss
  pub acked : s.acked ≡ t.acked
  -- No more is acknowledged than was sent.
  pub within : s.acked ≤ s.extent.due + one_if s.extent.ended
  -- Back is the same from the first place that is not acknowledged to the one behind all that was sent.
  pub back : (q : ℕ) → s.acked ≤ q → q ≤ s.extent.due + one_if s.extent.ended → s.back q ≡ t.back q
  -- Fore and Rear are the same from the first octet on that is not acknowledged.
  pub fore : (p : ℕ) → first_recent s ≤ p → s.fore p ≡ t.fore p
  pub rear : (e : ℕ) → first_recent s ≤ e → s.rear e ≡ t.rear e
  -- The image is the same from where the image of that octet begins to the end of what is due.
  pub part : (first past : ℕ) → s.fore (first_recent s) ≤ first → first < past → past ≤ s.extent.due
      → s.part first past ≡ t.part first past

-- Where octets go out, none stands before the image of the first octet that is not acknowledged, and none behind what is due.
abbrev pub SendsRecent : Extent → Standing → Offset → ℕ → Bool → Type 0
SendsRecent old s start count fin = low old s start < high old s start count fin
    → (s.fore (first_recent s) ≤ low old s start) × (high old s start count fin ≤ s.extent.due)
