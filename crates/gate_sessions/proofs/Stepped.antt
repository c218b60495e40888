-- A session that takes a segment.
use Rattle.std.proofs.Common.{◌≡◌, ◌≤◌, ℕ, List, [], ◌∷◌, ◌++◌, length, drop, Option, None, sym, ◌∙◌, ap, subst, arith, inl, inr, map, Result, Ok, Err, OnOk, OnErr}
use Rattle.std.proofs.lemmas.Bool.{cases_Bool, cond-true, cond-false}
use Rattle.std.proofs.lemmas.Result.{on_ok_weaker}
use Rattle.gate_base.specs.declared.address.Addr.{Addr}
use Rattle.gate_base.specs.declared.event.Pair.{Pair}
use Rattle.gate_base.specs.declared.host.Host.{Host}
use Rattle.gate_base.specs.declared.host.Host.TheVariants.{Client, Server}
use Rattle.dialogue.specs.Prelude.{Entry, cut}
use Rattle.dialogue.proofs.CutLemmas.{none_or_some}
use Rattle.dns_stream.specs.Prelude.{dns_units, dns_units-lawful, unit_end}
use Rattle.ftp_lines.specs.Renaming.{client_lines, server_lines}
use Rattle.ftp_lines.specs.declared.lines.ClientLines.{ClientLines}
use Rattle.ftp_lines.specs.declared.lines.ServerLines.{ServerLines}
use Rattle.stream_model.specs.Prelude.{Segment, Outgoing, arrival, is_data}
use Rattle.stream_model.proofs.PassLemmas.{data_is}
use Rattle.compact_stream.specs.Prelude.{CompactSender, start_kept, CompactState, kept_next}
use Rattle.stream_gate.specs.Prelude.{GateKept, OneBears, units_behind, CompletesBy}
use Rattle.stream_gate.proofs.MemoryLemmas.{released_none}
use Rattle.gate_model.specs.Prelude.{addresses_in, entered}
use Rattle.gate_sessions.specs.Compact.{CompactSession, compact_rules, kept_units, kept_completed, IsListedStream}
use Rattle.gate_sessions.proofs.Witness.{streams_listed}
use Rattle.dns_plans.specs.Prelude.{beside, entered_all}
use Rattle.dns_plans.proofs.EnteredLemmas.{list_after}
use Rattle.dns_plans.proofs.NamedLemmas.{units-first}
use Rattle.gate_sessions.specs.Inside.Directions.{DnsKept, IsListedSide, with_entered, dns_next, dns_out, DnsCompletes, dns_session}
use Rattle.gate_sessions.specs.Sessions.{KeptMayWant}
use Rattle.gate_sessions.specs.Inside.Sessions.{IsSession}
use Rattle.gate_sessions.proofs.SessionLemmas.{next_session}

-- each direction is kept of a stream all of whose addresses are listed
pub side_of : (pair : Pair) (d : DnsKept) (b : Host) → IsSession (dns_session pair d) → IsListedSide b d
side_of pair d Client h = streams_listed (dns_session pair d) Client h.some
side_of pair d Server h = streams_listed (dns_session pair d) Server h.some

-- ## What the session is, and what goes out

-- the entries are the addresses in the units of a segment beside what they are called
abbrev pub AreNamed : (Addr → Option Addr) → Host → CompactSession → Segment → List Entry → Type 0
AreNamed image f k g entries = entries ≡ beside image (addresses_in (compact_rules.units f k g))

next_units : (image : Addr → Option Addr) (pair : Pair) (d : DnsKept) (f : Host) (g : Segment) (entries : List Entry)
    → AreNamed image f (dns_session pair d) g entries
    → dns_session pair (dns_next f (with_entered f entries d) g) ≡ compact_rules.next image f (dns_session pair d) g
next_units image pair d Client g entries e =
    ap (λ (es : List Entry). dns_session pair (dns_next Client (record d { client_dialogue = es }) g))
    (list_after image d.client_dialogue entries (addresses_in (kept_units Client (dns_session pair d) g)) e)
next_units image pair d Server g entries e =
    ap (λ (es : List Entry). dns_session pair (dns_next Server (record d { server_dialogue = es }) g))
    (list_after image d.server_dialogue entries (addresses_in (kept_units Server (dns_session pair d) g)) e)

out_units : (image : Addr → Option Addr) (pair : Pair) (d : DnsKept) (f : Host) (g : Segment) (entries : List Entry)
    → AreNamed image f (dns_session pair d) g entries → dns_out f (with_entered f entries d) g ≡ compact_rules.out image f (dns_session pair d) g
out_units image pair d Client g entries e =
    ap (λ (es : List Entry). dns_out Client (record d { client_dialogue = es }) g)
    (list_after image d.client_dialogue entries (addresses_in (kept_units Client (dns_session pair d) g)) e)
out_units image pair d Server g entries e =
    ap (λ (es : List Entry). dns_out Server (record d { server_dialogue = es }) g)
    (list_after image d.server_dialogue entries (addresses_in (kept_units Server (dns_session pair d) g)) e)

-- the same of a session that is seen so
pub next_seen : {X E : Type 0} (r : Result X E) (image : Addr → Option Addr) (pair : Pair) (d new : DnsKept) (k : CompactSession) (f : Host)
    (g : Segment) (entries : List Entry) → dns_session pair d ≡ k → AreNamed image f k g entries
    → OnOk r (new ≡ dns_next f (with_entered f entries d) g) → OnOk r (dns_session pair new ≡ compact_rules.next image f k g)
next_seen r image pair d new k f g entries seen named =
    on_ok_weaker r
    (λ n. ap (dns_session pair) n
    ∙ subst (λ (x : CompactSession). AreNamed image f x g entries
    → dns_session pair (dns_next f (with_entered f entries d) g) ≡ compact_rules.next image f x g) seen
    (next_units image pair d f g entries) named)

out_at : (image : Addr → Option Addr) (pair : Pair) (d : DnsKept) (k : CompactSession) (f : Host) (g : Segment) (entries : List Entry)
    → dns_session pair d ≡ k → AreNamed image f k g entries → dns_out f (with_entered f entries d) g ≡ compact_rules.out image f k g
out_at image pair d k f g entries seen =
    let P : CompactSession → Type 0 = λ x. AreNamed image f x g entries → dns_out f (with_entered f entries d) g ≡ compact_rules.out image f x g in
    subst P seen (out_units image pair d f g entries)

sent_alike : {X E : Type 0} (r : Result X E) (sent : Outgoing → List ℕ) (out : List (List ℕ)) (a b : List Outgoing) → a ≡ b
    → OnOk r (out ≡ map sent a) → OnOk r (out ≡ map sent b)
sent_alike r sent out a b e h = subst (λ (os : List Outgoing). OnOk r (out ≡ map sent os)) e h

pub out_seen : {X E : Type 0} (r : Result X E) (image : Addr → Option Addr) (pair : Pair) (d : DnsKept) (k : CompactSession) (f : Host) (g : Segment)
    (entries : List Entry) (sent : Outgoing → List ℕ) (out : List (List ℕ)) → dns_session pair d ≡ k → AreNamed image f k g entries
    → OnOk r (out ≡ map sent (dns_out f (with_entered f entries d) g)) → OnOk r (out ≡ map sent (compact_rules.out image f k g))
out_seen r image pair d k f g entries sent out seen named h =
    sent_alike r sent out (dns_out f (with_entered f entries d) g) (compact_rules.out image f k g) (out_at image pair d k f g entries seen named) h

few_after : (image : Addr → Option Addr) (f : Host) (k : CompactSession) (g : Segment) (entries : List Entry) → AreNamed image f k g entries
    → length (entered_all (compact_rules.listed f k) entries) ≤ 256
    → length (entered image (compact_rules.listed f k) (addresses_in (compact_rules.units f k g))) ≤ 256
few_after image f k g entries e few =
    omega (arith, few, ap length (list_after image (compact_rules.listed f k) entries (addresses_in (compact_rules.units f k g)) e))

-- what holds of a session of DNS holds of it afterwards
pub units_stay : {X E : Type 0} (r : Result X E) (pair : Pair) (d new : DnsKept) (f : Host) (g : Segment) (entries : List Entry)
    → IsSession (dns_session pair d) → compact_rules.refusal f (dns_session pair d) g ≡ None
    → ((image : Addr → Option Addr) × AreNamed image f (dns_session pair d) g entries)
    → length (entered_all (compact_rules.listed f (dns_session pair d)) entries) ≤ 256 → OnOk r (new ≡ dns_next f (with_entered f entries d) g)
    → OnErr r (new ≡ d) → IsSession (dns_session pair new)
units_stay (Ok x) pair d new f g entries h v named few ok err =
    let next : dns_session pair new ≡ compact_rules.next named.0 f (dns_session pair d) g = ap (dns_session pair) ok
    ∙ next_units named.0 pair d f g entries named.1 in
    subst IsSession (sym next) (next_session named.0 f (dns_session pair d) g h v (few_after named.0 f (dns_session pair d) g entries named.1 few))
units_stay (Err e) pair d new f g entries h v named few ok err = subst (λ (x : DnsKept). IsSession (dns_session pair x)) (sym err) h

abbrev FtpKept : Type 0
FtpKept = GateKept ClientLines ServerLines

abbrev pub ftp_session : Pair → CompactState → CompactSession
ftp_session pair h = record { pair = pair; lists = None; kept = h }

-- and of one of FTP
pub lines_stay : {X E : Type 0} (r : Result X E) (pair : Pair) (d new : FtpKept) (f : Host) (g : Segment) → (d.client_dialogue.pair ≡ pair)
    × (d.server_dialogue.pair ≡ pair) → IsSession (ftp_session pair d.kept) → compact_rules.refusal f (ftp_session pair d.kept) g ≡ None
    → OnOk r (new ≡ record d { kept = kept_next (client_lines d.client_dialogue.pair) (server_lines d.server_dialogue.pair) f d.kept g })
    → OnErr r (new ≡ d) → ((new.client_dialogue.pair ≡ pair) × (new.server_dialogue.pair ≡ pair)) × IsSession (ftp_session pair new.kept)
lines_stay (Ok x) pair d new f g pairs h v ok err =
    let kept : new.kept ≡ kept_next (client_lines pair) (server_lines pair) f d.kept g =
    ap (λ (y : FtpKept). y.kept) ok
    ∙ ap (λ (p : Pair). kept_next (client_lines p) (server_lines d.server_dialogue.pair) f d.kept g) pairs.0
    ∙ ap (λ (p : Pair). kept_next (client_lines pair) (server_lines p) f d.kept g) pairs.1 in (
      (ap (λ (y : FtpKept). y.client_dialogue.pair) ok ∙ pairs.0, ap (λ (y : FtpKept). y.server_dialogue.pair) ok ∙ pairs.1),
      subst (λ (k : CompactState). IsSession (ftp_session pair k)) (sym kept)
          (next_session (λ a. None) f (ftp_session pair d.kept) g h v (omega arith)),
    )
lines_stay (Err e) pair d new f g pairs h v ok err = (
  (ap (λ (y : FtpKept). y.client_dialogue.pair) err ∙ pairs.0, ap (λ (y : FtpKept). y.server_dialogue.pair) err ∙ pairs.1),
  subst (λ (y : FtpKept). IsSession (ftp_session pair y.kept)) (sym err) h,
)

-- ## Where memory may be wanting

some_bears : (es : List Entry) (us : List (List ℕ)) → OneBears (dns_units es) us → 1 ≤ length us
some_bears es [] h = absurd h
some_bears es (u ∷ us) h = omega arith

ends_some : (es : List Entry) (t : List ℕ) → OneBears (dns_units es) (units_behind (dns_units es) t (unit_end t))
    → 1 ≤ length (cut (dns_units es) t).units
ends_some es t h =
    elim (none_or_some (unit_end t)) [
      | inl none ↦ absurd (subst (λ (o : Option ℕ). OneBears (dns_units es) (units_behind (dns_units es) t o)) none h)
      | inr some ↦ omega (arith, ap length (units-first t some.0 some.1))
    ]

-- where a segment completes a unit that bears, by whichever list, it completes a unit
completes_some : (es fs : List Entry) (h : CompactSender) (g : Segment) → IsListedStream es h → CompletesBy (dns_units fs) h g
    → 1 ≤ length (kept_completed (dns_units es) h g)
completes_some es fs h g i by =
    let t : List ℕ = drop (start_kept h g).before g.octets in
    let whole : List (List ℕ) = (cut (dns_units es) (h.rest ++ t)).units in
    let all : kept_completed (dns_units es) h g ≡ whole = cond-true (is_data (arrival g)) whole [] (data_is g (by.no_syn, by.no_reset)) in
    let some : 1 ≤ length whole =
    elim (cases_Bool h.released) [
      | inl free ↦
          let none : h.rest ≡ [] = released_none (dns_units es) (dns_units-lawful es) h i.octets i.keeps free in
          let behind : OneBears (dns_units fs) (units_behind (dns_units fs) t (unit_end t)) =
          subst (OneBears (dns_units fs))
          (cond-true h.released (units_behind (dns_units fs) t (unit_end t)) (cut (dns_units fs) (h.rest ++ t)).units free) by.bears in
          subst (λ (r : List ℕ). 1 ≤ length (cut (dns_units es) (r ++ t)).units) (sym none) (ends_some fs t behind)
      | inr held ↦
          some_bears fs whole
          (subst (OneBears (dns_units fs))
          (cond-false h.released (units_behind (dns_units fs) t (unit_end t)) (cut (dns_units fs) (h.rest ++ t)).units held) by.bears)
    ] in
    subst (λ (us : List (List ℕ)). 1 ≤ length us) (sym all) some

pub may_want : (pair : Pair) (d : DnsKept) (f : Host) (g : Segment) (entries : List Entry) → IsSession (dns_session pair d)
    → DnsCompletes f (with_entered f entries d) g → KeptMayWant f (dns_session pair d) g
may_want pair d Client g entries h by =
    completes_some d.client_dialogue (entered_all d.client_dialogue entries) d.kept.client g (side_of pair d Client h) by
may_want pair d Server g entries h by =
    completes_some d.server_dialogue (entered_all d.server_dialogue entries) d.kept.server g (side_of pair d Server h) by
