-- A connection of DNS that has learned what a segment's units name, and passes the segment.
use Rattle.std.proofs.Common.{◌≡◌, ◌≤◌, ℕ, true, false, List, [], ◌∷◌, ◌++◌, length, Option, Some, refl, sym, ◌∙◌, ap, subst, arith, Result, Ok, Err, OnOk}
use Rattle.gate_base.specs.declared.address.Addr.{Addr}
use Rattle.gate_base.specs.declared.event.Pair.{Pair}
use Rattle.gate_base.specs.declared.host.Host.{Host}
use Rattle.gate_base.specs.declared.host.Host.TheVariants.{Client, Server}
use Rattle.dialogue.specs.Prelude.{Entry, is_listed, ReadAlike, AllUnitsListed, cut}
use Rattle.dialogue.proofs.Alike.{learned_alike}
use Rattle.dns_stream.specs.Prelude.{unit_addresses, dns_units, dns_units-learning}
use Rattle.stream_model.specs.Prelude.{session_sent, Session, Segment, session_next, session_ends, segment_refusal}
use Rattle.audit_streams.specs.Hosts.{Heard}
use Rattle.audit_streams.specs.Sending.{handed}
use Rattle.gate_model.specs.Prelude.{addresses_in, WholeSession, whole_learned}
use Rattle.gate_model.proofs.Entering.{listed_units_more}
use Rattle.gate_model.proofs.RememberedSessions.{verdict_alike}
use Rattle.dns_plans.specs.Prelude.{beside, enter_one, entered_all}
use Rattle.dns_plans.proofs.EnteredLemmas.{all_grown, list_after}
use Rattle.audit_sessions.specs.Heard.{HeardSession, session_in, heard_of, heard_in, heard_rules, heard_sent, IsSession}
use Rattle.audit_sessions.specs.Inside.Sessions.{DnsHeard, listed_of, streams_of, IsListedSide, with_entered, HasPassed, dns_session}
use Rattle.audit_sessions.proofs.HeardLaws.{next_session}

-- ## Entries that are entered

same_dns : (c d s t : List Entry) (a b x y : Heard) → c ≡ d → s ≡ t → a ≡ b → x ≡ y
    → (let p : DnsHeard = record { client_dialogue = c; server_dialogue = s; client = a; server = x } in p)
    ≡ (let q : DnsHeard = record { client_dialogue = d; server_dialogue = t; client = b; server = y } in q)
same_dns c d s t a b x y e f h k =
    ap (λ (es : List Entry). let p : DnsHeard = record { client_dialogue = es; server_dialogue = s; client = a; server = x } in p) e
    ∙ ap (λ (es : List Entry). let p : DnsHeard = record { client_dialogue = d; server_dialogue = es; client = a; server = x } in p) f
    ∙ ap (λ (z : Heard). let p : DnsHeard = record { client_dialogue = d; server_dialogue = t; client = z; server = x } in p) h
    ∙ ap (λ (z : Heard). let p : DnsHeard = record { client_dialogue = d; server_dialogue = t; client = b; server = z } in p) k

-- nothing changes where the address is listed already
pub known_already : (f : Host) (d : DnsHeard) (one : Entry) → is_listed (listed_of f d) one.0.0 ≡ true → d ≡ with_entered f (one ∷ []) d
known_already Client d one e =
    ap (λ (es : List Entry). let x : DnsHeard = record d { client_dialogue = es } in x)
    (let same : d.client_dialogue ≡ enter_one d.client_dialogue one = rw e refl in same)
known_already Server d one e =
    ap (λ (es : List Entry). let x : DnsHeard = record d { server_dialogue = es } in x)
    (let same : d.server_dialogue ≡ enter_one d.server_dialogue one = rw e refl in same)

pub newly_known : (f : Host) (d e : DnsHeard) (one : Entry) → is_listed (listed_of f d) one.0.0 ≡ false → listed_of f e ≡ listed_of f d ++ one ∷ []
    → e.client ≡ d.client → e.server ≡ d.server → (f ≡ Client → e.server_dialogue ≡ d.server_dialogue)
    → (f ≡ Server → e.client_dialogue ≡ d.client_dialogue) → e ≡ with_entered f (one ∷ []) d
newly_known Client d e one new l c s t u =
    same_dns e.client_dialogue (enter_one d.client_dialogue one) e.server_dialogue d.server_dialogue e.client d.client e.server d.server
    (let same : d.client_dialogue ++ one ∷ [] ≡ enter_one d.client_dialogue one = rw new refl in l ∙ same) (t refl) c s
newly_known Server d e one new l c s t u =
    same_dns e.client_dialogue d.client_dialogue e.server_dialogue (enter_one d.server_dialogue one) e.client d.client e.server d.server (u refl)
    (let same : d.server_dialogue ++ one ∷ [] ≡ enter_one d.server_dialogue one = rw new refl in l ∙ same) c s

pub with_listed : (f : Host) (named : List Entry) (d : DnsHeard) → listed_of f (with_entered f named d) ≡ entered_all (listed_of f d) named
with_listed Client named d = refl
with_listed Server named d = refl

listed_longer : (es named : List Entry) (s : List ℕ) → AllUnitsListed unit_addresses (dns_units es) es s
    → AllUnitsListed unit_addresses (dns_units (entered_all es named)) (entered_all es named) s
listed_longer es named s h =
    let more = all_grown es named in
    subst (λ (xs : List Entry). AllUnitsListed unit_addresses (dns_units xs) xs s) (sym more.1)
    (listed_units_more es more.0 (cut (dns_units es) s).units h)

-- what is listed stays listed
pub side_longer : (f : Host) (named : List Entry) (d : DnsHeard) → IsListedSide f d → IsListedSide f (with_entered f named d)
side_longer Client named d h = listed_longer d.client_dialogue named d.client.octets h
side_longer Server named d h = listed_longer d.server_dialogue named d.server.octets h

-- ## The segment passes with these entries too

read_alike : (es named : List Entry) (s : List ℕ) → AllUnitsListed unit_addresses (dns_units es) es s
    → ReadAlike (dns_units es) (dns_units (entered_all es named)) s
read_alike es named s h =
    let more = all_grown es named in
    subst (λ (xs : List Entry). ReadAlike (dns_units es) (dns_units xs) s) (sym more.1)
    (learned_alike unit_addresses dns_units es more.0 s dns_units-learning h)

pub still_passes : (f : Host) (named : List Entry) (d : DnsHeard) (g : Segment) → IsListedSide f d
    → segment_refusal f (streams_of (with_entered f named d)) g ≡ segment_refusal f (streams_of d) g
still_passes Client named d g h =
    verdict_alike Client (streams_of d).client (streams_of d).server (dns_units (entered_all d.client_dialogue named)) g
    (read_alike d.client_dialogue named d.client.octets h)
still_passes Server named d g h =
    verdict_alike Server (streams_of d).server (streams_of d).client (dns_units (entered_all d.server_dialogue named)) g
    (read_alike d.server_dialogue named d.server.octets h)

-- what becomes of it is told by the session that has learned
pub has_passed : {X E : Type 0} (r : Result X E) (f : Host) (d w new : DnsHeard) (g : Segment) → d ≡ w → new.client_dialogue ≡ d.client_dialogue
    → new.server_dialogue ≡ d.server_dialogue → OnOk r (streams_of new ≡ session_next f (streams_of d) g) → OnOk r (HasPassed f w new g)
has_passed (Ok x) f d w new g is c s n = subst (λ (y : DnsHeard). HasPassed f y new g) is (record { client = c; server = s; session = n })
has_passed (Err e) f d w new g is c s n = tt

-- ## What it becomes, and what it sends

-- the entries are the addresses in the units of a segment beside what they are called
abbrev pub AreNamed : (Addr → Option Addr) → Host → HeardSession → Segment → List Entry → Type 0
AreNamed image f h g entries = entries ≡ beside image (addresses_in (heard_rules.units f h g))

has_learned : (image : Addr → Option Addr) (pair : Pair) (d : DnsHeard) (f : Host) (g : Segment) (entries : List Entry)
    → AreNamed image f (dns_session pair d) g entries
    → session_in (dns_session pair (with_entered f entries d)) ≡ whole_learned image f (session_in (dns_session pair d)) g
has_learned image pair d Client g entries e =
    ap (λ (es : List Entry). session_in (dns_session pair (record d { client_dialogue = es })))
    (list_after image (heard_rules.listed Client (dns_session pair d)) entries (addresses_in (heard_rules.units Client (dns_session pair d) g)) e)
has_learned image pair d Server g entries e =
    ap (λ (es : List Entry). session_in (dns_session pair (record d { server_dialogue = es })))
    (list_after image (heard_rules.listed Server (dns_session pair d)) entries (addresses_in (heard_rules.units Server (dns_session pair d) g)) e)

-- what was heard, by both lists and the session
abbrev seen_by : Pair → List Entry → List Entry → Session → HeardSession
seen_by pair c s x = record { pair = pair; lists = Some (record { client = c; server = s }); client = heard_of x.client; server = heard_of x.server }

pub next_units : (image : Addr → Option Addr) (pair : Pair) (d new : DnsHeard) (f : Host) (g : Segment) (entries : List Entry)
    → AreNamed image f (dns_session pair d) g entries → HasPassed f (with_entered f entries d) new g
    → dns_session pair new ≡ heard_rules.next image f (dns_session pair d) g
next_units image pair d new f g entries e p =
    let w : DnsHeard = with_entered f entries d in
    ap (λ (es : List Entry). seen_by pair es new.server_dialogue (streams_of new)) p.client
    ∙ ap (λ (es : List Entry). seen_by pair w.client_dialogue es (streams_of new)) p.server
    ∙ ap (seen_by pair w.client_dialogue w.server_dialogue) p.session
    ∙ ap (λ (y : WholeSession). heard_in pair (record { lists = y.lists; session = session_next f y.session g }))
    (has_learned image pair d f g entries e)

ends_same : (f : Host) (entries : List Entry) (d : DnsHeard) (g : Segment)
    → session_ends f (streams_of (with_entered f entries d)) g ≡ session_ends f (streams_of d) g
ends_same Client entries d g = refl
ends_same Server entries d g = refl

pub sent_units : (image : Addr → Option Addr) (pair : Pair) (d : DnsHeard) (f : Host) (g : Segment) (entries : List Entry)
    → AreNamed image f (dns_session pair d) g entries
    → (let w = streams_of (with_entered f entries d) in
    handed (session_sent f w g) (session_ends f w g) ≡ handed (heard_sent image f (dns_session pair d) g) (heard_rules.ends f (dns_session pair d) g))
sent_units image pair d f g entries e =
    ap (λ (y : WholeSession). handed (session_sent f y.session g) (session_ends f (streams_of (with_entered f entries d)) g))
    (has_learned image pair d f g entries e)
    ∙ ap (handed (heard_sent image f (dns_session pair d) g)) (ends_same f entries d g)

-- what holds of it holds of it afterwards
pub units_stay : (pair : Pair) (d new : DnsHeard) (f : Host) (g : Segment) (entries : List Entry) → IsSession (dns_session pair d)
    → ((image : Addr → Option Addr) × AreNamed image f (dns_session pair d) g entries)
    → length (entered_all (heard_rules.listed f (dns_session pair d)) entries) ≤ 256 → HasPassed f (with_entered f entries d) new g
    → IsSession (dns_session pair new)
units_stay pair d new f g entries h named few p =
    subst IsSession (sym (next_units named.0 pair d new f g entries named.1 p))
    (next_session named.0 f (dns_session pair d) g h
    (omega (
      arith,
      few,
      ap length
          (list_after named.0 (heard_rules.listed f (dns_session pair d)) entries
          (addresses_in (heard_rules.units f (dns_session pair d) g)) named.1),
    )))
