-- Worlds whose sessions are read as others become alike, and send the same.
use Rattle.std.proofs.Common.{◌≡◌, ℕ, Bool, true, false, if◌then◌else◌, max, List, [], ◌∷◌, map, Option, Some, None, option_map, refl, ◌∙◌, ap, fold}
use Rattle.gate_base.specs.Prelude.{Event}
use Rattle.gate_base.specs.declared.address.Addr.{Addr}
use Rattle.verdicts.specs.declared.verdict.Verdict.{Verdict}
use Rattle.verdicts.specs.declared.verdict.Verdict.TheVariants.{Pass, Refused, Held}
use Rattle.gate_base.specs.declared.side.Side.{Side}
use Rattle.binding_table.specs.Prelude.{Bindings}
use Rattle.icmp_errors.specs.Inner.{inner_fields}
use Rattle.ipv4_frames.specs.Ipv4.{Datagram}
use Rattle.stream_model.specs.Prelude.{Outgoing}
use Rattle.tcp_tracker.specs.Prelude.{after, place_of, changed, with_session}
use Rattle.tcp_tracker.specs.declared.connection.Connection.{Connection}
use Rattle.gate_model.specs.Prelude.{Whole, Kind, Error, Stream, datagram_in, kind_of, SessionRules, Tracked, World, at_moment, called, source_of}
use Rattle.gate_model.specs.Prelude.{destination_of, host_on, tracked_as, connection_as, world_as, Reads, tcp_of, segment_of, key_in, found_in}
use Rattle.gate_model.specs.Prelude.{session_in, session_refusal, stepped, ends_by, connection_after, pending_by}
use Rattle.gate_model.specs.Prelude.{sent_as, inside, table_after, image_in, verdict, taker_in, with_connection, after_kind, next_by, next}
use Rattle.gate_model.specs.Prelude.{stream_out, out_between, out_kind, out_by, out}
use Rattle.gate_model.proofs.ReadLists.{place_of_as, after_as, changed_as}
use Rattle.gate_model.proofs.ReadWorlds.{found_as, session_as, ends_as, table_as, image_as, taker_as, inner_number_as, moment_as, verdict_as}
use Rattle.gate_model.proofs.Passing.{Passes, passes, stream_passes}

-- ## Afterwards

stepped_as : {S T : Type 0} (h : S → T) (a : SessionRules S) (b : SessionRules T) → Reads h a b
    → (image : Addr → Option Addr) (side : Side) (d : Datagram) (t : Option (Tracked S)) → session_refusal a side d t ≡ None
    → option_map (stepped b image side d) (option_map (tracked_as h) t) ≡ option_map (tracked_as h) (option_map (stepped a image side d) t)
stepped_as h a b r image side d None e = refl
stepped_as {T = T} h a b r image side d (Some t) e =
    ap (λ (s : T). Some (record { client = t.client; pair = t.pair; session = s })) (r.next image (host_on side t) t.session (segment_of d) e)

connection_after_as : {S T : Type 0} (h : S → T) (a : SessionRules S) (b : SessionRules T) → Reads h a b
    → (image : Addr → Option Addr) (live : World S) (side : Side) (moment : ℕ) (d : Datagram) (t : Option (Tracked S))
    → session_refusal a side d t ≡ None
    → connection_after b image (world_as h live) side moment d (option_map (tracked_as h) t) ≡ option_map (connection_as h)
    (connection_after a image live side moment d t)
connection_after_as {S = S} {T = T} h a b r image live side moment d t e =
    let key = key_in live.table side d in
    let left = after key side (tcp_of d).flags t (record { 0 = moment }) (found_in live side d) in
    let found : after key side (tcp_of d).flags (option_map (tracked_as h) t) (record { 0 = moment }) (found_in (world_as h live) side d) ≡ option_map
    (connection_as h) left =
    ap (after key side (tcp_of d).flags (option_map (tracked_as h) t) (record { 0 = moment })) (found_as h live side d)
    ∙ after_as h key side (tcp_of d).flags t (record { 0 = moment }) (found_in live side d) in
    ap (λ (x : Bool). if x then None else option_map (with_session (option_map (stepped b image side d) (option_map (tracked_as h) t)))
    (after key side (tcp_of d).flags (option_map (tracked_as h) t) (record { 0 = moment }) (found_in (world_as h live) side d)))
    (ends_as h a b r side d t)
    ∙ ap (λ (s : Option (Tracked T)). if ends_by a side d t then None else option_map (with_session s)
    (after key side (tcp_of d).flags (option_map (tracked_as h) t) (record { 0 = moment }) (found_in (world_as h live) side d)))
    (stepped_as h a b r image side d t e)
    ∙ ap (λ (o : Option (Connection (Tracked T))). if ends_by a side d t then None else option_map
    (with_session (option_map (tracked_as h) (option_map (stepped a image side d) t))) o) found
    ∙ by_test (ends_by a side d t) (option_map (stepped a image side d) t) left
  where
    by_test : (x : Bool) (s : Option (Tracked S)) (o : Option (Connection (Tracked S)))
        → (if x then None else option_map (with_session (option_map (tracked_as h) s)) (option_map (connection_as h) o)) ≡ option_map
        (connection_as h) (if x then None else option_map (with_session s) o)
    by_test true s o = refl
    by_test false s None = refl
    by_test false s (Some c) = refl

pending_as : {S T : Type 0} (h : S → T) (a : SessionRules S) (b : SessionRules T) → Reads h a b → (c : Option (Connection (Tracked S)))
    → pending_by b (session_in (option_map (connection_as h) c)) ≡ pending_by a (session_in c)
pending_as {S = S} h a b r c = ap (pending_by b) (session_as h c) ∙ by_session (session_in c)
  where
    by_session : (t : Option (Tracked S)) → pending_by b (option_map (tracked_as h) t) ≡ pending_by a t
    by_session None = refl
    by_session (Some t) = r.pending t.session

with_connection_as : {S T : Type 0} (h : S → T) (a : SessionRules S) (b : SessionRules T) → Reads h a b
    → (live : World S) (side : Side) (d : Datagram) (table : Bindings) (c : Option (Connection (Tracked S)))
    → with_connection b (world_as h live) side d table (option_map (connection_as h) c) ≡ world_as h (with_connection a live side d table c)
with_connection_as {T = T} h a b r live side d table c =
    let key = key_in live.table side d in
    let mine = changed live.connections (place_of key live.connections) c in
    let all : changed (map (connection_as h) live.connections) (place_of key (map (connection_as h) live.connections))
    (option_map (connection_as h) c) ≡ map (connection_as h) mine =
    ap (λ place. changed (map (connection_as h) live.connections) place (option_map (connection_as h) c)) (place_of_as h key live.connections)
    ∙ changed_as h live.connections (place_of key live.connections) c in
    ap (λ (xs : List (Connection (Tracked T))). record {
      clock = live.clock;
      table = table;
      connections = xs;
      pending = max live.pending (pending_by b (session_in (option_map (connection_as h) c)));
    }) all
    ∙ ap (λ (n : ℕ). record
    { clock = live.clock; table = table; connections = map (connection_as h) mine; pending = max live.pending n })
    (pending_as h a b r c)

after_kind_as : {S T : Type 0} (h : S → T) (a : SessionRules S) (b : SessionRules T) → Reads h a b
    → (live : World S) (side : Side) (moment : ℕ) (d : Datagram) (kind : Kind) → Passes a live side moment d kind
    → after_kind b (world_as h live) side moment d kind ≡ world_as h (after_kind a live side moment d kind)
after_kind_as h a b r live side moment d (Whole payload) p = refl
after_kind_as h a b r live side moment d Stream p =
    let taken = (stream_passes a live side moment d p.content).taken in
    let table = table_after a live side moment d Stream in
    let image = image_in a live side moment d in
    let left : connection_after b (image_in b (world_as h live) side moment d) (world_as h live) side moment d
    (taker_in b (world_as h live) side moment d) ≡ option_map (connection_as h)
    (connection_after a image live side moment d (taker_in a live side moment d)) =
    ap (λ (i : Addr → Option Addr). connection_after b i (world_as h live) side moment d (taker_in b (world_as h live) side moment d))
    (image_as h a b r live side moment d)
    ∙ ap (connection_after b image (world_as h live) side moment d) (taker_as h a b r live side moment d)
    ∙ connection_after_as h a b r image live side moment d (taker_in a live side moment d) taken in
    ap (λ x. with_connection b (world_as h live) side d x
    (connection_after b (image_in b (world_as h live) side moment d) (world_as h live) side moment d
    (taker_in b (world_as h live) side moment d))) (table_as h a b r live side moment d Stream)
    ∙ ap (with_connection b (world_as h live) side d table) left
    ∙ with_connection_as h a b r live side d table (connection_after a image live side moment d (taker_in a live side moment d))

pub next_as : {S T : Type 0} (h : S → T) (a : SessionRules S) (b : SessionRules T) → Reads h a b → (w : World S) (e : Event)
    → next b (world_as h w) e ≡ world_as h (next a w e)
next_as {S = S} h a b r w e =
    ap (λ v. next_by b (at_moment (world_as h w) e.moment) e v) (verdict_as h a b r w e)
    ∙ ap (λ live. next_by b live e (verdict a w e)) (moment_as h w e.moment)
    ∙ by_verdict (verdict a w e) refl
  where
    by_verdict : (v : Verdict) → verdict a w e ≡ v
        → next_by b (world_as h (at_moment w e.moment)) e v ≡ world_as h (next_by a (at_moment w e.moment) e v)
    by_verdict Pass p = after_kind_as h a b r (at_moment w e.moment) e.side e.moment (datagram_in e) (kind_of (datagram_in e)) (passes a w e p)
    by_verdict (Refused refusal) p = refl
    by_verdict Held p = refl

-- ## What goes out

stream_out_as : {S T : Type 0} (h : S → T) (a : SessionRules S) (b : SessionRules T) → Reads h a b
    → (image : Addr → Option Addr) (side : Side) (d : Datagram) (source destination : ℕ) (t : Option (Tracked S)) → session_refusal a side d t ≡ None
    → stream_out b image side d source destination (option_map (tracked_as h) t) ≡ stream_out a image side d source destination t
stream_out_as h a b r image side d source destination None e = refl
stream_out_as h a b r image side d source destination (Some t) e =
    ap (λ (os : List Outgoing). map (sent_as d source destination) os) (r.out image (host_on side t) t.session (segment_of d) e)

out_between_as : {S T : Type 0} (h : S → T) (a : SessionRules S) (b : SessionRules T) → Reads h a b
    → (live : World S) (table : Bindings) (side : Side) (moment : ℕ) (d : Datagram) (source destination : ℕ) (kind : Kind)
    → Passes a live side moment d kind
    → out_between b (world_as h live) table side moment d source destination kind ≡ out_between a live table side moment d source destination kind
out_between_as h a b r live table side moment d source destination (Whole Error) p =
    rw (inner_number_as h a b r live side (inner_fields (inside d))) refl
out_between_as h a b r live table side moment d source destination (Whole _) p = refl
out_between_as h a b r live table side moment d source destination Stream p =
    ap (λ (i : Addr → Option Addr). stream_out b i side d source destination (taker_in b (world_as h live) side moment d))
    (image_as h a b r live side moment d)
    ∙ ap (stream_out b (image_in a live side moment d) side d source destination) (taker_as h a b r live side moment d)
    ∙ stream_out_as h a b r (image_in a live side moment d) side d source destination (taker_in a live side moment d)
    (stream_passes a live side moment d p.content).taken

out_kind_as : {S T : Type 0} (h : S → T) (a : SessionRules S) (b : SessionRules T) → Reads h a b
    → (live : World S) (side : Side) (moment : ℕ) (d : Datagram) (kind : Kind) → Passes a live side moment d kind
    → out_kind b (world_as h live) side moment d kind ≡ out_kind a live side moment d kind
out_kind_as h a b r live side moment d kind p =
    let table = table_after a live side moment d kind in
    ap (λ (x : Bindings). out_between b (world_as h live) x side moment d (called x side (source_of d)).0 (called x side (destination_of d)).0 kind)
    (table_as h a b r live side moment d kind)
    ∙ out_between_as h a b r live table side moment d (called table side (source_of d)).0 (called table side (destination_of d)).0 kind p

pub out_as : {S T : Type 0} (h : S → T) (a : SessionRules S) (b : SessionRules T) → Reads h a b → (w : World S) (e : Event)
    → out b (world_as h w) e ≡ out a w e
out_as {S = S} h a b r w e =
    ap (λ v. out_by b (at_moment (world_as h w) e.moment) e v) (verdict_as h a b r w e)
    ∙ ap (λ live. out_by b live e (verdict a w e)) (moment_as h w e.moment)
    ∙ by_verdict (verdict a w e) refl
  where
    by_verdict : (v : Verdict) → verdict a w e ≡ v → out_by b (world_as h (at_moment w e.moment)) e v ≡ out_by a (at_moment w e.moment) e v
    by_verdict Pass p = out_kind_as h a b r (at_moment w e.moment) e.side e.moment (datagram_in e) (kind_of (datagram_in e)) (passes a w e p)
    by_verdict (Refused refusal) p = refl
    by_verdict Held p = refl

-- ## Many events

pub run_as : {S T : Type 0} (h : S → T) (a : SessionRules S) (b : SessionRules T) → Reads h a b → (events : List Event) (w : World S)
    → fold (next b) (world_as h w) events ≡ world_as h (fold (next a) w events)
run_as h a b r [] w = refl
run_as h a b r (e ∷ events) w = ap (λ v. fold (next b) v events) (next_as h a b r w e) ∙ run_as h a b r events (next a w e)
