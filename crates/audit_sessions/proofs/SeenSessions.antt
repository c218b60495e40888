-- A session of either kind as it is seen.
use Rattle.std.proofs.Common.{◌≡◌, ◌≤◌, ℕ, List, length, Option, None, sym, ◌∙◌, ap, subst, arith, refl, Result, OnOk}
use Rattle.std.proofs.lemmas.Result.{on_ok_weaker}
use Rattle.gate_base.specs.declared.address.Addr.{Addr}
use Rattle.gate_base.specs.declared.event.Pair.{Pair}
use Rattle.gate_base.specs.declared.host.Host.{Host}
use Rattle.gate_base.specs.declared.host.Host.TheVariants.{Client, Server}
use Rattle.dialogue.specs.Prelude.{Entry}
use Rattle.ftp_lines.specs.Renaming.{client_lines, server_lines}
use Rattle.ftp_lines.specs.declared.lines.ClientLines.{ClientLines}
use Rattle.ftp_lines.specs.declared.lines.ServerLines.{ServerLines}
use Rattle.stream_model.specs.Prelude.{session_sent, Session, Segment, session, session_next, session_ends}
use Rattle.audit_streams.specs.Hosts.{HeardStreams, sender_by, session_of}
use Rattle.audit_streams.specs.Sending.{handed}
use Rattle.dns_plans.specs.Prelude.{entered_all}
use Rattle.gate_model.proofs.RememberedSessions.{same_session}
use Rattle.audit_sessions.specs.Heard.{HeardSession, session_in, heard_in, heard_rules, heard_sent, IsSession}
use Rattle.audit_sessions.specs.Inside.Sessions.{DnsHeard, listed_of, streams_of, IsListedSide, dns_session, session_by, IsOfPair}
use Rattle.audit_sessions.specs.declared.kinds.SessionKind.{SessionKind}
use Rattle.audit_sessions.specs.declared.kinds.SessionKind.TheVariants.{Lines, Units}

abbrev pub FtpHeard : Type 0
FtpHeard = HeardStreams ClientLines ServerLines

abbrev pub lines_of : FtpHeard → Session
lines_of d = session_of (λ (it : ClientLines). client_lines it.pair) (λ (it : ServerLines). server_lines it.pair) d

-- what was heard of lines between hosts of this pair
abbrev pub ftp_session : Pair → FtpHeard → HeardSession
ftp_session pair d = record { pair = pair; lists = None; client = d.client; server = d.server }

-- by both pairs it is the session over whole lists
lines_are : (pair : Pair) (d : FtpHeard) → (d.client_dialogue.pair ≡ pair) × (d.server_dialogue.pair ≡ pair)
    → lines_of d ≡ (session_in (ftp_session pair d)).session
lines_are pair d h =
    ap (λ (p : Pair). let s : Session =
    record { client = sender_by (client_lines p) d.client; server = sender_by (server_lines d.server_dialogue.pair) d.server } in s) h.0
    ∙ ap (λ (p : Pair). let s : Session = record { client = sender_by (client_lines pair) d.client; server = sender_by (server_lines p) d.server } in
    s) h.1

pub lines_seen : (pair : Pair) (x : SessionKind) (d : FtpHeard) (h : HeardSession) → x ≡ Lines d → IsOfPair pair x → session_by pair x ≡ h
    → lines_of d ≡ (session_in h).session
lines_seen pair x d h is pairs seen = lines_are pair d (subst (IsOfPair pair) is pairs)
    ∙ ap (λ (k : HeardSession). (session_in k).session) (ap (session_by pair) (sym is) ∙ seen)

pub units_seen : (pair : Pair) (x : SessionKind) (d : DnsHeard) (h : HeardSession) → x ≡ Units d → session_by pair x ≡ h
    → streams_of d ≡ (session_in h).session
units_seen pair x d h is seen = ap (λ (k : HeardSession). (session_in k).session) (ap (session_by pair) (sym is) ∙ seen)

-- ## Lines learn nothing

pub next_lines : (image : Addr → Option Addr) (pair : Pair) (d new : FtpHeard) (f : Host) (g : Segment) → (d.client_dialogue.pair ≡ pair)
    × (d.server_dialogue.pair ≡ pair) → lines_of new ≡ session_next f (lines_of d) g
    → ftp_session pair new ≡ heard_rules.next image f (ftp_session pair d) g
next_lines image pair d new f g h n =
    let heard : Session → HeardSession = λ s. heard_in pair (record { lists = None; session = s }) in
    ap heard (n ∙ ap (λ (s : Session). session_next f s g) (lines_are pair d h ∙ same_session f (session_in (ftp_session pair d)).session))

pub sent_lines : (image : Addr → Option Addr) (pair : Pair) (d : FtpHeard) (f : Host) (g : Segment) → (d.client_dialogue.pair ≡ pair)
    × (d.server_dialogue.pair ≡ pair) → handed (session_sent f (lines_of d) g) (session_ends f (lines_of d) g)
    ≡ handed (heard_sent image f (ftp_session pair d) g) (heard_rules.ends f (ftp_session pair d) g)
sent_lines image pair d f g h =
    let s : Session = (session_in (ftp_session pair d)).session in
    ap (λ (x : Session). handed (session_sent f x g) (session_ends f x g)) (lines_are pair d h)
    ∙ ap (λ (x : Session). handed (session_sent f x g) (session_ends f s g)) (same_session f s)

-- nor is anything listed
pub lines_hold : (pair : Pair) (d : FtpHeard) → IsSession (ftp_session pair d)
lines_hold pair d = record { known = λ host. tt; few = λ host. omega arith }

-- no list is longer than the most
pub few_in : (pair : Pair) (d : DnsHeard) (host : Host) (n : ℕ) → IsSession (dns_session pair d) → n ≡ length (listed_of host d) → n ≤ 256
few_in pair d Client n h is = omega (arith, is, h.few Client)
few_in pair d Server n h is = omega (arith, is, h.few Server)

-- and each side is listed
pub side_in : (pair : Pair) (d : DnsHeard) (host : Host) → IsSession (dns_session pair d) → IsListedSide host d
side_in pair d Client h = h.known Client
side_in pair d Server h = h.known Server

-- ## Steps

pub next_seen : {X E : Type 0} (r : Result X E) (image : Addr → Option Addr) (pair : Pair) (d new : FtpHeard) (h : HeardSession) (f : Host)
    (g : Segment) → ftp_session pair d ≡ h → (d.client_dialogue.pair ≡ pair) × (d.server_dialogue.pair ≡ pair)
    → OnOk r (lines_of new ≡ session_next f (lines_of d) g) → OnOk r (ftp_session pair new ≡ heard_rules.next image f h g)
next_seen r image pair d new h f g seen pairs n =
    on_ok_weaker r (λ e. next_lines image pair d new f g pairs e ∙ ap (λ (k : HeardSession). heard_rules.next image f k g) seen) n

pub sent_seen : (image : Addr → Option Addr) (pair : Pair) (d : FtpHeard) (h : HeardSession) (f : Host) (g : Segment) → ftp_session pair d ≡ h
    → (d.client_dialogue.pair ≡ pair) × (d.server_dialogue.pair ≡ pair) → handed (session_sent f (lines_of d) g) (session_ends f (lines_of d) g)
    ≡ handed (heard_sent image f h g) (heard_rules.ends f h g)
sent_seen image pair d h f g seen pairs = sent_lines image pair d f g pairs
    ∙ ap (λ (k : HeardSession). handed (heard_sent image f k g) (heard_rules.ends f k g)) seen

pub listed_in : (f : Host) (pair : Pair) (d : DnsHeard) → heard_rules.listed f (dns_session pair d) ≡ listed_of f d
listed_in Client pair d = refl
listed_in Server pair d = refl

pub few_seen : (pair : Pair) (d : DnsHeard) (h : HeardSession) (f : Host) (entries : List Entry) → dns_session pair d ≡ h
    → length (entered_all (heard_rules.listed f h) entries) ≤ 256 → length (entered_all (listed_of f d) entries) ≤ 256
few_seen pair d h f entries seen few =
    subst (λ (es : List Entry). length (entered_all es entries) ≤ 256) (ap (heard_rules.listed f) (sym seen) ∙ listed_in f pair d) few
