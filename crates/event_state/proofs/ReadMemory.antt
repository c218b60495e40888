-- Worlds whose sessions are read as others want memory at the same frames.
use Rattle.std.proofs.Common.{◌≡◌, ◌≤◌, ◌&&◌, ℕ, Bool, List, Option, Some, None, inl, inr, is_none, length, option_map, refl, sym, ap, subst, ◌∙◌}
use Rattle.std.specs.Prelude.{unwrap_or}
use Rattle.gate_base.specs.Prelude.{Event}
use Rattle.verdicts.specs.Prelude.{first_that_holds}
use Rattle.gate_base.specs.declared.host.Host.{Host}
use Rattle.gate_base.specs.declared.side.Side.{Side}
use Rattle.ipv4_frames.specs.Ipv4.{Datagram}
use Rattle.stream_model.specs.Prelude.{Segment}
use Rattle.gate_model.specs.Prelude.{Kind, Stream, SessionRules, Reads, Agree, AreRelated, World, Tracked, at_moment, begins, connection_as, found_in, datagram_in, host_on, is_opening, is_tracked_port, kind_of, segment_of, session_in, session_refusal, tcp_of, tracked_as, units_in, world_as}
use Rattle.gate_model.specs.Reading.{Both}
use Rattle.gate_model.proofs.ReadWorlds.{found_as, holder_as, later_as, moment_as, units_as}
use Rattle.gate_model.proofs.Related.{both_rules, first_reads, second_reads}
use Rattle.event_segments.specs.Prelude.{CompletesUnit, refusal_as}
use Rattle.event_state.specs.Lost.{SessionMayWant, SegmentMayWant, KindMayWant, EventMayWant}

-- ## A segment

refused_as : {S T : Type 0} (h : S → T) (a : SessionRules S) (b : SessionRules T) → Reads h a b → (live : World S) (side : Side) (d : Datagram)
    → refusal_as b Stream (world_as h live) side d ≡ refusal_as a Stream live side d
refused_as h a b r live side d = ap first_that_holds (later_as h a b r live side live.clock d Stream)

none_as : {A B : Type 0} (f : A → B) (o : Option A) → is_none (option_map f o) ≡ is_none o
none_as f None = refl
none_as f (Some x) = refl

begun_as : {S T : Type 0} (h : S → T) (live : World S) (side : Side) (d : Datagram)
    → begins (found_in (world_as h live) side d) d ≡ begins (found_in live side d) d
begun_as h live side d =
    ap (λ f. begins f d) (found_as h live side d)
    ∙ ap (λ (n : Bool). n && (is_opening (tcp_of d).flags && is_tracked_port (tcp_of d).destination_port))
    (none_as (connection_as h) (found_in live side d))

-- what is read as this
record IsReadFrom {A B : Type 0} (f : A → B) (o : Option A) (y : B) : Type 0 where
  from : A
  there : o ≡ Some from
  same : f from ≡ y

read_from : {A B : Type 0} (f : A → B) (o : Option A) (y : B) → option_map f o ≡ Some y → IsReadFrom f o y
read_from f None y e = absurd (cc)
read_from {B = B} f (Some x) y e = record { from = x; there = refl; same = ap (λ (o : Option B). unwrap_or o (f x)) e }

-- ## From sessions to what they are read as

inside_on : {S T : Type 0} (h : S → T) (a : SessionRules S) (b : SessionRules T) → Reads h a b
    → (P : Host → S → Segment → Type 0) (Q : Host → T → Segment → Type 0)
    → ((from : Host) (s : S) (g : Segment) → a.refusal from s g ≡ None → P from s g → Q from (h s) g)
    → (live : World S) (side : Side) (d : Datagram) → SessionMayWant a P live side d → SessionMayWant b Q (world_as h live) side d
inside_on h a b r P Q on live side d m =
    let t = m.tracked in
    record {
      tracked = tracked_as h t;
      found = holder_as h live side d ∙ ap (option_map (tracked_as h)) m.found;
      refusal = r.refusal (host_on side t) t.session (segment_of d) ∙ m.refusal;
      wants = on (host_on side t) t.session (segment_of d) m.refusal m.wants;
    }

unit_on : {S T : Type 0} (h : S → T) (a : SessionRules S) (b : SessionRules T) → Reads h a b
    → (live : World S) (side : Side) (d : Datagram) → CompletesUnit a live side d → CompletesUnit b (world_as h live) side d
unit_on h a b r live side d c = record {
  tracked = tracked_as h c.tracked;
  found = holder_as h live side d ∙ ap (option_map (tracked_as h)) c.found;
  completes = subst (λ (us : List (List ℕ)). 1 ≤ length us) (sym (units_as h a b r side d (Some c.tracked))) c.completes;
}

segment_on : {S T : Type 0} (h : S → T) (a : SessionRules S) (b : SessionRules T) → Reads h a b
    → (P : Host → S → Segment → Type 0) (Q : Host → T → Segment → Type 0)
    → ((from : Host) (s : S) (g : Segment) → a.refusal from s g ≡ None → P from s g → Q from (h s) g)
    → (live : World S) (side : Side) (d : Datagram) → SegmentMayWant a P live side d → SegmentMayWant b Q (world_as h live) side d
segment_on h a b r P Q on live side d (inl (none, inl begun)) = inl (refused_as h a b r live side d ∙ none, inl (begun_as h live side d ∙ begun))
segment_on h a b r P Q on live side d (inl (none, inr m)) = inl (refused_as h a b r live side d ∙ none, inr (inside_on h a b r P Q on live side d m))
segment_on h a b r P Q on live side d (inr c) = inr (unit_on h a b r live side d c)

needs_on : {S T : Type 0} (h : S → T) (a : SessionRules S) (b : SessionRules T) → Reads h a b
    → (P : Host → S → Segment → Type 0) (Q : Host → T → Segment → Type 0)
    → ((from : Host) (s : S) (g : Segment) → a.refusal from s g ≡ None → P from s g → Q from (h s) g)
    → (kind : Kind) (live : World S) (side : Side) (d : Datagram) → KindMayWant a P kind live side d → KindMayWant b Q kind (world_as h live) side d
needs_on h a b r P Q on kind live side d (inl dns) = inl dns
needs_on h a b r P Q on kind live side d (inr (stream, wants)) = inr (stream, segment_on h a b r P Q on live side d wants)

-- at an event, by what lives at its moment
pub memory_as : {S T : Type 0} (h : S → T) (a : SessionRules S) (b : SessionRules T) → Reads h a b
    → (P : Host → S → Segment → Type 0) (Q : Host → T → Segment → Type 0)
    → ((from : Host) (s : S) (g : Segment) → a.refusal from s g ≡ None → P from s g → Q from (h s) g)
    → (w : World S) (e : Event) → EventMayWant a P (at_moment w e.moment) e → EventMayWant b Q (at_moment (world_as h w) e.moment) e
memory_as {T = T} h a b r P Q on w e m =
    subst (λ (x : World T). EventMayWant b Q x e) (sym (moment_as h w e.moment))
    (record { early = m.early; needs = needs_on h a b r P Q on (kind_of (datagram_in e)) (at_moment w e.moment) e.side (datagram_in e) m.needs })

-- ## And back

inside_from : {S T : Type 0} (h : S → T) (a : SessionRules S) (b : SessionRules T) → Reads h a b
    → (Q : Host → T → Segment → Type 0) (live : World S) (side : Side) (d : Datagram)
    → SessionMayWant b Q (world_as h live) side d → SessionMayWant a (λ from s g. Q from (h s) g) live side d
inside_from {T = T} h a b r Q live side d m =
    let x = read_from (tracked_as h) (session_in (found_in live side d)) m.tracked (sym (holder_as h live side d) ∙ m.found) in
    let t = x.from in
    record {
      tracked = t;
      found = x.there;
      refusal = sym (r.refusal (host_on side t) t.session (segment_of d))
          ∙ subst (λ (y : Tracked T). session_refusal b side d (Some y) ≡ None) (sym x.same) m.refusal;
      wants = subst (λ (y : Tracked T). Q (host_on side y) y.session (segment_of d)) (sym x.same) m.wants;
    }

unit_from : {S T : Type 0} (h : S → T) (a : SessionRules S) (b : SessionRules T) → Reads h a b
    → (live : World S) (side : Side) (d : Datagram) → CompletesUnit b (world_as h live) side d → CompletesUnit a live side d
unit_from {T = T} h a b r live side d c =
    let x = read_from (tracked_as h) (session_in (found_in live side d)) c.tracked (sym (holder_as h live side d) ∙ c.found) in
    record {
      tracked = x.from;
      found = x.there;
      completes = subst (λ (us : List (List ℕ)). 1 ≤ length us) (units_as h a b r side d (Some x.from))
          (subst (λ (y : Tracked T). 1 ≤ length (units_in b side d (Some y))) (sym x.same) c.completes);
    }

segment_from : {S T : Type 0} (h : S → T) (a : SessionRules S) (b : SessionRules T) → Reads h a b
    → (Q : Host → T → Segment → Type 0) (live : World S) (side : Side) (d : Datagram)
    → SegmentMayWant b Q (world_as h live) side d → SegmentMayWant a (λ from s g. Q from (h s) g) live side d
segment_from h a b r Q live side d (inl (none, inl begun)) =
    inl (sym (refused_as h a b r live side d) ∙ none, inl (sym (begun_as h live side d) ∙ begun))
segment_from h a b r Q live side d (inl (none, inr m)) =
    inl (sym (refused_as h a b r live side d) ∙ none, inr (inside_from h a b r Q live side d m))
segment_from h a b r Q live side d (inr c) = inr (unit_from h a b r live side d c)

needs_from : {S T : Type 0} (h : S → T) (a : SessionRules S) (b : SessionRules T) → Reads h a b
    → (Q : Host → T → Segment → Type 0) (kind : Kind) (live : World S) (side : Side) (d : Datagram)
    → KindMayWant b Q kind (world_as h live) side d → KindMayWant a (λ from s g. Q from (h s) g) kind live side d
needs_from h a b r Q kind live side d (inl dns) = inl dns
needs_from h a b r Q kind live side d (inr (stream, wants)) = inr (stream, segment_from h a b r Q live side d wants)

memory_from : {S T : Type 0} (h : S → T) (a : SessionRules S) (b : SessionRules T) → Reads h a b
    → (Q : Host → T → Segment → Type 0) (w : World S) (e : Event)
    → EventMayWant b Q (at_moment (world_as h w) e.moment) e → EventMayWant a (λ from s g. Q from (h s) g) (at_moment w e.moment) e
memory_from {T = T} h a b r Q w e m =
    let there = subst (λ (x : World T). EventMayWant b Q x e) (moment_as h w e.moment) m in
    record { early = there.early; needs = needs_from h a b r Q (kind_of (datagram_in e)) (at_moment w e.moment) e.side (datagram_in e) there.needs }

-- ## Worlds of related sessions

-- from the second to the first
pub memory_of_second : {S T : Type 0} (R : S → T → Type 0) (a : SessionRules S) (b : SessionRules T) → Agree R a b
    → (P : Host → S → Segment → Type 0) (Q : Host → T → Segment → Type 0)
    → ((from : Host) (s : S) (t : T) (g : Segment) → R s t → a.refusal from s g ≡ None → Q from t g → P from s g)
    → (w : World S) (v : World T) → AreRelated R w v → (e : Event)
    → EventMayWant b Q (at_moment v e.moment) e → EventMayWant a P (at_moment w e.moment) e
memory_of_second {S = S} {T = T} R a b agree P Q on w v h e m =
    let both = both_rules R a b agree in
    let there = subst (λ (x : World T). EventMayWant b Q (at_moment x e.moment) e) (sym h.two) m in
    let pairs = memory_from (λ (x : Both R). x.two) both b (second_reads R a b agree) Q h.pairs e there in
    subst (λ (x : World S). EventMayWant a P (at_moment x e.moment) e) h.one
    (memory_as (λ (x : Both R). x.one) both a (first_reads R a b agree) (λ from x g. Q from x.two g) P
    (λ from x g none wants. on from x.one x.two g x.related none wants) h.pairs e pairs)

-- and back
pub memory_of_first : {S T : Type 0} (R : S → T → Type 0) (a : SessionRules S) (b : SessionRules T) → Agree R a b
    → (P : Host → S → Segment → Type 0) (Q : Host → T → Segment → Type 0)
    → ((from : Host) (s : S) (t : T) (g : Segment) → R s t → a.refusal from s g ≡ None → P from s g → Q from t g)
    → (w : World S) (v : World T) → AreRelated R w v → (e : Event)
    → EventMayWant a P (at_moment w e.moment) e → EventMayWant b Q (at_moment v e.moment) e
memory_of_first {S = S} {T = T} R a b agree P Q on w v h e m =
    let both = both_rules R a b agree in
    let there = subst (λ (x : World S). EventMayWant a P (at_moment x e.moment) e) (sym h.one) m in
    let pairs = memory_from (λ (x : Both R). x.one) both a (first_reads R a b agree) P h.pairs e there in
    subst (λ (x : World T). EventMayWant b Q (at_moment x e.moment) e) h.two
    (memory_as (λ (x : Both R). x.two) both b (second_reads R a b agree) (λ from x g. P from x.one g) Q
    (λ from x g none wants. on from x.one x.two g x.related none wants) h.pairs e pairs)
