-- A session that takes a segment, by what is seen of it.
use Rattle.std.proofs.Common.{◌≡◌, ℕ, Bool, List, Option, Some, None, sym, ap, ◌∙◌, if◌then◌else◌}
use Rattle.gate_base.specs.declared.address.Addr.{Addr}
use Rattle.gate_base.specs.declared.event.Pair.{Pair}
use Rattle.gate_base.specs.declared.side.Side.{Side}
use Rattle.gate_base.specs.declared.host.Host.{Host}
use Rattle.dialogue.specs.Prelude.{Entry}
use Rattle.ipv4_frames.specs.Ipv4.{Datagram}
use Rattle.gate_model.specs.Prelude.{addresses_in, segment_of, stepped, Tracked, host_on, SessionRules}
use Rattle.dns_plans.specs.Prelude.{beside}
use Rattle.event_segments.specs.Prelude.{AreCalled, waiting_after}

abbrev pub seen_as : {S : Type 0} → Side → Pair → S → Tracked S
seen_as client pair session = record { client = client; pair = pair; session = session }

-- the session that is seen, which host sends, and what the addresses are called that its units name
pub record IsSeen {S : Type 0} (rules : SessionRules S) (client : Side) (pair : Pair) (session : S) (f : Host) (side : Side) (d : Datagram)
    (t : Tracked S) (image : Addr → Option Addr) (entries : List Entry) : Type 0 where
  pub seen : seen_as client pair session ≡ t
  pub sender : f ≡ host_on side t
  pub called : AreCalled rules image side d t entries

pub called_is : {S : Type 0} (rules : SessionRules S) (client : Side) (pair : Pair) (session : S) (f : Host) (side : Side) (d : Datagram)
    (t : Tracked S) (image : Addr → Option Addr) (entries : List Entry) → IsSeen rules client pair session f side d t image entries
    → entries ≡ beside image (addresses_in (rules.units f session (segment_of d)))
called_is {S = S} rules client pair session f side d t image entries i =
    i.called
    ∙ ap (λ (b : Host). beside image (addresses_in (rules.units b t.session (segment_of d)))) (sym i.sender)
    ∙ ap (λ (x : Tracked S). beside image (addresses_in (rules.units f x.session (segment_of d)))) (sym i.seen)

pub next_is : {S : Type 0} (rules : SessionRules S) (client : Side) (pair : Pair) (session new : S) (f : Host) (side : Side) (d : Datagram)
    (t : Tracked S) (image : Addr → Option Addr) (entries : List Entry) → IsSeen rules client pair session f side d t image entries
    → new ≡ rules.next image f session (segment_of d) → seen_as client pair new ≡ stepped rules image side d t
next_is {S = S} rules client pair session new f side d t image entries i e =
    ap (seen_as client pair) e
    ∙ ap (λ (x : Tracked S). let y : Tracked S = record x { session = rules.next image f x.session (segment_of d) } in y) i.seen
    ∙ ap (λ (b : Host). let y : Tracked S = record t { session = rules.next image b t.session (segment_of d) } in y) i.sender

pub waits_is : {S : Type 0} (rules : SessionRules S) (client : Side) (pair : Pair) (session new : S) (f : Host) (side : Side) (d : Datagram)
    (t : Tracked S) (image : Addr → Option Addr) (entries : List Entry) (over : Bool) (waiting : Option ℕ)
    → IsSeen rules client pair session f side d t image entries → new ≡ rules.next image f session (segment_of d)
    → over ≡ rules.ends f session (segment_of d) → waiting ≡ (if over then None else Some (rules.pending new))
    → waiting ≡ waiting_after rules image side d t
waits_is {S = S} rules client pair session new f side d t image entries over waiting i e o w =
    let W : Bool → S → Option ℕ = λ b k. if b then None else Some (rules.pending k) in
    w
    ∙ ap (λ (b : Bool). W b new)
    (o ∙ ap (λ (x : Tracked S). rules.ends f x.session (segment_of d)) i.seen ∙ ap (λ (b : Host). rules.ends b t.session (segment_of d)) i.sender)
    ∙ ap (λ (x : Tracked S). W (rules.ends (host_on side t) t.session (segment_of d)) x.session)
    (next_is rules client pair session new f side d t image entries i e)
