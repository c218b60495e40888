-- A segment with neither SYN nor RST, by what the functions find of it.
use Rattle.std.proofs.Common.{◌≡◌, ◌<◌, ◌+◌, ◌^◌, ℕ, List, ◌++◌, length, drop, ◌∙◌, ap, arith, ◌||◌, max, length-drop, Result, Ok, Err, OnOk}
use Rattle.dialogue.specs.Prelude.{Meaning}
use Rattle.tcp_segments.specs.declared.flags.Flags.{Flags}
use Rattle.stream_model.specs.Prelude.{Sender, Segment, extent, arrival, start_of, place_acknowledged, taken, acknowledged, standing, other_sent}
use Rattle.stream_model.specs.declared.numbers.Offset.{Offset}
use Rattle.stream_model.specs.declared.refusals.Arrival.{Arrival}
use Rattle.stream_model.specs.declared.refusals.Extent.{Extent}
use Rattle.audit_streams.specs.Inside.Hosts.{HeardStream, sender_of}
use Rattle.audit_streams.specs.Sending.{CanTake}

-- the sender after its segment
pub taken_is : {D : Type 0} (M : D → Meaning) (x y : HeardStream D) (g : Segment) (start : Offset) (xs t : List ℕ) (flags : Flags)
    → x ≡ record y { heard = record y.heard { octets = y.heard.octets ++ t; ended = y.heard.ended || flags.fin } } → t ≡ drop start.before xs
    → start ≡ start_of (sender_of M y) g → xs ≡ g.octets → flags ≡ g.flags → sender_of M x ≡ taken (sender_of M y) g
taken_is M x y g start xs t flags is fresh at all same =
    let a : Sender = sender_of M y in
    ap (sender_of M) is
    ∙ ap (λ (ys : List ℕ). record a { octets = a.octets ++ ys; ended = a.ended || flags.fin })
    (fresh ∙ ap (λ (o : Offset). drop o.before xs) at ∙ ap (drop (start_of a g).before) all)
    ∙ ap (λ (h : Flags). record a { octets = a.octets ++ drop (start_of a g).before g.octets; ended = a.ended || h.fin }) same

-- the receiver after it
pub acknowledged_is : {D : Type 0} (M : D → Meaning) (x y : HeardStream D) (g : Segment) (old : Extent) (comes : Arrival) (place : ℕ)
    → x ≡ record y { heard = record y.heard { acked = max y.heard.acked place } } → place ≡ place_acknowledged old comes
    → old ≡ extent (sender_of M y) → comes ≡ arrival g → sender_of M x ≡ acknowledged (sender_of M y) g
acknowledged_is M x y g old comes place is at e s =
    let b : Sender = sender_of M y in
    ap (sender_of M) is
    ∙ ap (λ (q : ℕ). record b { acked = max b.acked q })
    (at ∙ ap (λ (o : Extent). place_acknowledged o comes) e ∙ ap (place_acknowledged (extent b)) s)

-- what holds anyway holds where all went well
pub on_ok : {X E : Type 0} (r : Result X E) (P : Type 0) → P → OnOk r P
on_ok (Ok x) P p = p
on_ok (Err x) P p = tt

-- what is taken stays below the limit
pub few_taken : (a : Sender) (g : Segment) (start : Offset) (xs t : List ℕ) → CanTake a g → t ≡ drop start.before xs → start ≡ start_of a g
    → xs ≡ g.octets → length a.octets + length t < 2 ^ 30
few_taken a g start xs t can fresh at all =
    let e : t ≡ drop (start_of a g).before g.octets = fresh ∙ ap (λ (o : Offset). drop o.before xs) at ∙ ap (drop (start_of a g).before) all in
    omega (arith, can.limit, ap length e, length-drop (start_of a g).before g.octets)

-- what goes out by the sender before its segment and after it
pub data_is : (a n : Sender) (g : Segment) (old : Extent) (start : Offset) (ack k limit l : ℕ) → old ≡ extent a → start ≡ start_of a g → n ≡ taken a g
    → ack ≡ k → limit ≡ l → other_sent old (standing n) start g ack limit ≡ other_sent (extent a) (standing (taken a g)) (start_of a g) g k l
data_is a n g old start ack k limit l o s e i j =
    ap (λ (x : Extent). other_sent x (standing n) start g ack limit) o
    ∙ ap (λ (x : Offset). other_sent (extent a) (standing n) x g ack limit) s
    ∙ ap (λ (x : Sender). other_sent (extent a) (standing x) (start_of a g) g ack limit) e
    ∙ ap (λ (x : ℕ). other_sent (extent a) (standing (taken a g)) (start_of a g) g x limit) i
    ∙ ap (λ (x : ℕ). other_sent (extent a) (standing (taken a g)) (start_of a g) g k x) j
