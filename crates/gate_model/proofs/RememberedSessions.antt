-- What sessions remember is true, and so the laws of streams speak of what the world sent.
use Rattle.std.proofs.Common.{◌≡◌, ℕ, Bool, true, false, cond, ◌<◌, ◌≤◌, List, [], ◌∷◌, ◌++◌, length, drop, Option, Some, None, option_map, refl, sym, ◌∙◌, ap, subst, arith, IfSome, ◌^◌, ◌||◌, append-nil}
use Rattle.std.specs.List.{fold, flat_map, AllByRecursion}
use Rattle.std.proofs.Math.Seq.{drop-append_seam}
use Rattle.std.proofs.lemmas.List.Elements.{All-weaker, All-nil}
use Rattle.gate_base.specs.Prelude.{Event as Frame}
use Rattle.gate_base.specs.declared.address.Addr.{Addr}
use Rattle.gate_base.specs.declared.event.Pair.{Pair}
use Rattle.gate_base.specs.declared.side.Side.{Side}
use Rattle.gate_base.specs.declared.host.Host.{Host}
use Rattle.gate_base.specs.declared.host.Host.TheVariants.{Client, Server}
use Rattle.gate_settings.specs.declared.settings.Settings.{Settings}
use Rattle.dialogue.specs.Prelude.{Entry, ReadAlike, AllListed, Meaning, IsLawful, is_unlike, Cut, cut}
use Rattle.dialogue.proofs.Alike.{learned_alike, due_alike, back_alike}
use Rattle.dialogue.proofs.FirstUnit.{cut-on}
use Rattle.dns_stream.specs.Prelude.{unit_addresses, dns_units, dns_units-lawful, dns_units-learning}
use Rattle.ftp_lines.specs.Inside.Lawful.{client_lines-lawful, server_lines-lawful}
use Rattle.stream_model.specs.Prelude.{known, number_at, Sender, Session, Segment, Outgoing, own, other, session, due_in, recent, extent, arrival}
use Rattle.stream_model.specs.Prelude.{start_of, repeats_unlike, segment_refusal, refusal_of, opened, taken, acknowledged, own_after, other_after}
use Rattle.stream_model.specs.Prelude.{session_made, session_next, session_out, if_by, if_to, places_of, numbers_of, IsBack, SentIs, Facts}
use Rattle.stream_model.specs.declared.refusals.Extent.{Extent}
use Rattle.stream_model.proofs.SentLaw.{due_nil}
use Rattle.stream_model.proofs.SessionSent.{SentOf, Silent, sound_step, own_meaning, other_meaning}
use Rattle.stream_model.proofs.SessionAcked.{Acked, acked_step, made_acked}
use Rattle.stream_model.proofs.FactLemmas.{short_step}
use Rattle.stream_model.proofs.RecentFact.{facts_of, few_after}
use Rattle.tcp_tracker.specs.declared.connection.Connection.{Connection}
use Rattle.gate_model.specs.Prelude.{Lists, list_of, with_list, addresses_in, entered, whole_rules, lists_at, meaning_by, entries_by, units_by}
use Rattle.gate_model.specs.Prelude.{completed, reads_by, whole_units, whole_learned, Tracked, opening_world, Reads, Remembered, RememberedSession}
use Rattle.gate_model.specs.Prelude.{remembering_rules, IsRenamed, UnitsAreRenamed, EachTracked, next as world_next}
use Rattle.gate_model.specs.Remembered.{Passed, remembered, begun, step, AllPass, StreamIs, SessionIs}
use Rattle.gate_model.proofs.Entering.{entered_more, entered_all, all_renamed_more, all_renamed, listed_units, all_append, split_listed}
use Rattle.gate_model.proofs.Tracking.{UnitsFit, Keeps, run_keeps}

-- ## A sender whose octets are read by another meaning, in the same way

abbrev pub with_meaning : Sender → Meaning → Sender
with_meaning a n = record a { meaning = n }

extent_alike : (a : Sender) (n : Meaning) → ReadAlike a.meaning n a.octets → extent (with_meaning a n) ≡ extent a
extent_alike a n h =
    ap (λ (d : List ℕ). let e : Extent =
    record { initial = a.initial; octets = length a.octets; due = length d; ended = a.ended; recent = length (recent (with_meaning a n)) } in e)
    (sym (due_alike a.meaning n a.ended a.octets h))
    ∙ ap (λ (k : ℕ). let e : Extent =
    record { initial = a.initial; octets = length a.octets; due = length (due_in a); ended = a.ended; recent = length (drop k a.octets) } in e)
    (sym (back_alike a.meaning n a.ended a.octets a.acked h))

unlike_alike : (a : Sender) (n : Meaning) (g : Segment) → ReadAlike a.meaning n a.octets → repeats_unlike (with_meaning a n) g ≡ repeats_unlike a g
unlike_alike a n g h =
    ap (λ (k : ℕ). is_unlike (drop k a.octets) (start_of a g).before g.octets) (sym (back_alike a.meaning n a.ended a.octets a.acked h))

pub verdict_alike : (f : Host) (a b : Sender) (n : Meaning) (g : Segment) → ReadAlike a.meaning n a.octets
    → refusal_of f (extent (with_meaning a n)) (extent b) (arrival g) (repeats_unlike (with_meaning a n) g) ≡ refusal_of f (extent a) (extent b)
    (arrival g) (repeats_unlike a g)
verdict_alike f a b n g h =
    ap (λ (e : Extent). refusal_of f e (extent b) (arrival g) (repeats_unlike (with_meaning a n) g)) (extent_alike a n h)
    ∙ ap (refusal_of f (extent a) (extent b) (arrival g)) (unlike_alike a n g h)

each_alike : (a : Sender) (n : Meaning) (places numbers : List ℕ) → ReadAlike a.meaning n a.octets → AllByRecursion (IsBack a places) numbers
    → AllByRecursion (IsBack (with_meaning a n) places) numbers
each_alike a n places [] h e = tt
each_alike a n places (x ∷ xs) h e = (
  record {
    place = e.0.place;
    acknowledged = e.0.acknowledged;
    sent = omega (arith, e.0.sent, ap length (due_alike a.meaning n a.ended a.octets h));
    is = e.0.is ∙ ap (number_at (known a.initial)) (back_alike a.meaning n a.ended a.octets e.0.place h);
  },
  each_alike a n places xs h e.1,
)

-- what holds of a sender and what is remembered of its stream
pub record Holds (m : Meaning) (a : Sender) (r : Remembered) : Type 0 where
  pub meaning : a.meaning ≡ m
  pub silent : Silent a
  pub sent : SentOf a r.sent
  pub acked : Acked a r.places r.numbers
  pub short : length a.octets < 2 ^ 30
  pub few : length (recent a) ≤ 65536

holds_alike : (m n : Meaning) (a : Sender) (r : Remembered) → IsLawful n → ReadAlike a.meaning n a.octets → Holds m a r → Holds n (with_meaning a n) r
holds_alike m n a r lawful h k = record {
  meaning = refl;
  silent = k.silent;
  sent = subst (λ (s : List ℕ). SentOfStream s) (due_alike a.meaning n a.ended a.octets h) k.sent;
  acked = record {
    lawful = lawful;
    bound = omega (arith, k.acked.bound, ap length (due_alike a.meaning n a.ended a.octets h));
    given = k.acked.given;
    unheard = k.acked.unheard;
    each = each_alike a n r.places r.numbers h k.acked.each;
  };
  short = k.short;
  few = subst (λ (i : ℕ). length (drop i a.octets) ≤ 65536) (back_alike a.meaning n a.ended a.octets a.acked h) k.few;
}
  where
    SentOfStream : List ℕ → Type 0
    SentOfStream s = SentIs (known a.initial) s r.sent

-- ## A segment that passes

pub meaning_step : (host f : Host) (s : Session) (g : Segment) → (own host (session_next f s g)).meaning ≡ (own host s).meaning
meaning_step Client Client s g = own_meaning g.flags.syn g.flags.reset s.client g
meaning_step Server Server s g = own_meaning g.flags.syn g.flags.reset s.server g
meaning_step Client Server s g = other_meaning (g.flags.syn || g.flags.reset) s.client g
meaning_step Server Client s g = other_meaning (g.flags.syn || g.flags.reset) s.server g

holds_step : (m : Meaning) (host f : Host) (s : Session) (g : Segment) (r : Remembered) → segment_refusal f s g ≡ None → Holds m (own host s) r
    → Holds m (own host (session_next f s g)) (remembered host f s g (session_out f s g) r)
holds_step m host f s g r v k =
    let sound = sound_step host f s g r.sent v (record { lawful = k.acked.lawful; silent = k.silent; sent_is = k.sent }) in
    record {
      meaning = meaning_step host f s g ∙ k.meaning;
      silent = sound.silent;
      sent = sound.sent_is;
      acked = acked_step host f s g r.places r.numbers v k.acked;
      short = short_step host f s g v k.short;
      few = few_after host (record { from = f; segment = g } ∷ []) s r.places r.numbers (v, tt) k.acked k.few;
    }

-- ## What is learned first

pub meaning_lawful : (lists : Option Lists) (pair : Pair) (host : Host) → IsLawful (meaning_by lists pair host)
meaning_lawful None pair Client = client_lines-lawful pair
meaning_lawful None pair Server = server_lines-lawful pair
meaning_lawful (Some lists) pair host = dns_units-lawful (list_of host lists)

pub own_alike : (es es' : List Entry) (a : Sender) → a.meaning ≡ dns_units es → ((more : List Entry) × (es' ≡ es ++ more))
    → AllByRecursion (IsRenamed es) (cut (dns_units es) a.octets).units → ReadAlike a.meaning (dns_units es') a.octets
own_alike es es' a is more units =
    subst (λ (m : Meaning). ReadAlike m (dns_units es') a.octets) (sym is)
    (subst (λ (xs : List Entry). ReadAlike (dns_units es) (dns_units xs) a.octets) (sym more.1)
    (learned_alike unit_addresses dns_units es more.0 a.octets dns_units-learning (listed_units es (cut (dns_units es) a.octets).units units)))

-- the session that has learned
abbrev pub learned : Host → Option Lists → Session → Session
learned f lists s = session f (reads_by lists f (own f s)) (other f s)

pub same_session : (f : Host) (s : Session) → s ≡ session f (own f s) (other f s)
same_session Client s = refl
same_session Server s = refl

pub own_same : (host f : Host) (s : Session) → own host (session f (own f s) (other f s)) ≡ own host s
own_same host f s = ap (own host) (sym (same_session f s))

other_same : (f : Host) (a b : Sender) → other f (session f a b) ≡ b
other_same Client a b = refl
other_same Server a b = refl

-- the list is longer, where there is one
abbrev pub IsLonger : Option Lists → Host → List Entry → Type 0
IsLonger lists f es = IfSome lists (λ l. (more : List Entry) × (es ≡ list_of f l ++ more))

-- what holds of a stream goes on to hold where the list of who sends is longer
pub holds_learned : (lists : Option Lists) (pair : Pair) (host f : Host) (s : Session) (r : Remembered) (es : List Entry) → IsLonger lists f es
    → UnitsAreRenamed lists f (own f s).octets → Holds (meaning_by lists pair host) (own host s) r
    → Holds (meaning_by (option_map (with_list f es) lists) pair host) (own host (learned f (option_map (with_list f es) lists) s)) r
holds_learned None pair host f s r es more units h = subst (λ (a : Sender). Holds (meaning_by None pair host) a r) (sym (own_same host f s)) h
holds_learned (Some l) pair Client Client s r es more units h =
    holds_alike (dns_units l.client) (dns_units es) s.client r (dns_units-lawful es) (own_alike l.client es s.client h.meaning more units) h
holds_learned (Some l) pair Server Server s r es more units h =
    holds_alike (dns_units l.server) (dns_units es) s.server r (dns_units-lawful es) (own_alike l.server es s.server h.meaning more units) h
holds_learned (Some l) pair Client Server s r es more units h = h
holds_learned (Some l) pair Server Client s r es more units h = h

pub verdict_learned : (lists : Option Lists) (pair : Pair) (f : Host) (s : Session) (g : Segment) (es : List Entry) → IsLonger lists f es
    → UnitsAreRenamed lists f (own f s).octets → (own f s).meaning ≡ meaning_by lists pair f
    → segment_refusal f (learned f (option_map (with_list f es) lists) s) g ≡ segment_refusal f s g
verdict_learned None pair Client s g es more units is = refl
verdict_learned None pair Server s g es more units is = refl
verdict_learned (Some l) pair Client s g es more units is =
    verdict_alike Client s.client s.server (dns_units es) g (own_alike l.client es s.client is more units)
verdict_learned (Some l) pair Server s g es more units is =
    verdict_alike Server s.server s.client (dns_units es) g (own_alike l.server es s.server is more units)

-- ## Units that are completed

-- the units so far stay in front
units_split : (m : Meaning) → IsLawful m → (s t : List ℕ)
    → (cut m (s ++ t)).units ≡ (cut m s).units ++ drop (length (cut m s).units) (cut m (s ++ t)).units
units_split m law s t =
    let more : List (List ℕ) = (cut m ((cut m s).rest ++ t)).units in
    let is : (cut m (s ++ t)).units ≡ (cut m s).units ++ more = ap (λ (c : Cut). c.units) (cut-on m law s t) in
    is ∙ ap (λ (us : List (List ℕ)). (cut m s).units ++ us)
    (sym (drop-append_seam (cut m s).units more) ∙ ap (drop (length (cut m s).units)) (sym is))

-- what a sender's segment adds to its octets
own_octets : (a : Sender) (g : Segment) → (t : List ℕ) × ((own_after a g).octets ≡ a.octets ++ t)
own_octets a g = by_tests g.flags.syn g.flags.reset
  where
    by_tests : (x y : Bool) → (t : List ℕ) × ((cond x (opened a g) (cond y a (taken a g))).octets ≡ a.octets ++ t)
    by_tests true y = ([], sym (append-nil a.octets))
    by_tests false true = ([], sym (append-nil a.octets))
    by_tests false false = (drop (start_of a g).before g.octets, refl)

pub other_octets : (b : Sender) (g : Segment) → (other_after b g).octets ≡ b.octets
other_octets b g = by_test (g.flags.syn || g.flags.reset)
  where
    by_test : (c : Bool) → (cond c b (acknowledged b g)).octets ≡ b.octets
    by_test true = refl
    by_test false = refl

-- the octets afterwards don't depend on the meaning
octets_alike : (a : Sender) (n : Meaning) (g : Segment) → (own_after (with_meaning a n) g).octets ≡ (own_after a g).octets
octets_alike a n g = by_tests g.flags.syn g.flags.reset
  where
    by_tests : (x y : Bool)
        → (cond x (opened (with_meaning a n) g) (cond y (with_meaning a n) (taken (with_meaning a n) g))).octets
        ≡ (cond x (opened a g) (cond y a (taken a g))).octets
    by_tests true y = refl
    by_tests false true = refl
    by_tests false false = refl

-- something that holds of each unit by a list, and goes on to hold where the list is longer
abbrev pub Goes : (List Entry → List ℕ → Type 0) → Type 0
Goes P = (es more : List Entry) (us : List (List ℕ)) → AllByRecursion (P es) us → AllByRecursion (P (es ++ more)) us

-- the units of who sends, where its list is longer and it holds of the new ones
own_units : (P : List Entry → List ℕ → Type 0) → Goes P → (es es' : List Entry) (a : Sender) (g : Segment) → a.meaning ≡ dns_units es
    → ((more : List Entry) × (es' ≡ es ++ more)) → AllByRecursion (P es) (cut (dns_units es) a.octets).units → AllByRecursion (P es') (completed a g)
    → AllByRecursion (P es') (cut (dns_units es') (own_after (with_meaning a (dns_units es')) g).octets).units
own_units P goes es es' a g is more units new =
    subst (λ (s : List ℕ). AllByRecursion (P es') (cut (dns_units es') s).units) (sym (octets_alike a (dns_units es') g))
    (subst (λ (us : List (List ℕ)). AllByRecursion (P es') us) (sym split)
    (all_append (P es') (cut (dns_units es) a.octets).units
    (drop (length (cut (dns_units es) a.octets).units) (cut (dns_units es) (own_after a g).octets).units)
    (subst (λ (xs : List Entry). AllByRecursion (P xs) (cut (dns_units es) a.octets).units) (sym more.1)
    (goes es more.0 (cut (dns_units es) a.octets).units units))
    (subst (λ (m : Meaning). AllByRecursion (P es') (drop (length (cut m a.octets).units) (cut m (own_after a g).octets).units)) is new)))
  where
    split : (cut (dns_units es) (own_after a g).octets).units ≡ (cut (dns_units es) a.octets).units ++ drop
        (length (cut (dns_units es) a.octets).units) (cut (dns_units es) (own_after a g).octets).units
    split =
        let t = own_octets a g in
        subst (λ (s : List ℕ). (cut (dns_units es) s).units ≡ (cut (dns_units es) a.octets).units ++ drop (length (cut (dns_units es) a.octets).units)
        (cut (dns_units es) s).units) (sym t.1) (units_split (dns_units es) (dns_units-lawful es) a.octets t.0)

other_units : (P : List Entry → List ℕ → Type 0) (es : List Entry) (b : Sender) (g : Segment)
    → AllByRecursion (P es) (cut (dns_units es) b.octets).units → AllByRecursion (P es) (cut (dns_units es) (other_after b g).octets).units
other_units P es b g h = subst (λ (s : List ℕ). AllByRecursion (P es) (cut (dns_units es) s).units) (sym (other_octets b g)) h

-- each new unit is renamed by the list afterwards
new_units : (lists : Option Lists) (f : Host) (image : Addr → Option Addr) (units : List (List ℕ)) → let es =
    entered image (entries_by lists f) (addresses_in (units_by lists units)) in
    UnitsFit es (units_by lists units) → IfSome lists (λ l. AllByRecursion (IsRenamed es) units)
new_units None f image units fit = tt
new_units (Some l) f image units fit =
    all_renamed (entered image (list_of f l) (addresses_in units)) units
    (entered_all image (list_of f l) (flat_map unit_addresses units)) fit.good fit.small

pub longer : (lists : Option Lists) (f : Host) (image : Addr → Option Addr) (names : List Addr)
    → IsLonger lists f (entered image (entries_by lists f) names)
longer None f image names = tt
longer (Some l) f image names = entered_more image (list_of f l) names

-- all that new units name is listed afterwards
pub new_listed : (image : Addr → Option Addr) (lists : Option Lists) (f : Host) (units : List (List ℕ))
    → IfSome lists
    (λ l. AllByRecursion (λ u. AllListed (entered image (entries_by lists f) (addresses_in (units_by lists units))) (unit_addresses u)) units)
new_listed image None f units = tt
new_listed image (Some l) f units =
    split_listed (entered image (list_of f l) (addresses_in units)) units (entered_all image (list_of f l) (flat_map unit_addresses units))

-- it holds of each whole unit of a stream, where there are lists
abbrev pub EachUnit : (List Entry → List ℕ → Type 0) → Option Lists → Host → List ℕ → Type 0
EachUnit P lists host octets = IfSome lists (λ l. AllByRecursion (P (list_of host l)) (cut (dns_units (list_of host l)) octets).units)

pub units_next : (P : List Entry → List ℕ → Type 0) → Goes P → (lists : Option Lists) (pair : Pair) (host f : Host) (s : Session) (g : Segment)
    (es : List Entry) → IsLonger lists f es → (own f s).meaning ≡ meaning_by lists pair f → EachUnit P lists f (own f s).octets
    → EachUnit P lists host (own host s).octets → IfSome lists (λ l. AllByRecursion (P es) (completed (own f s) g))
    → EachUnit P (option_map (with_list f es) lists) host (own host (session_next f (learned f (option_map (with_list f es) lists) s) g)).octets
units_next P goes None pair host f s g es more is mine units new = tt
units_next P goes (Some l) pair Client Client s g es more is mine units new = own_units P goes l.client es s.client g is more mine new
units_next P goes (Some l) pair Server Server s g es more is mine units new = own_units P goes l.server es s.server g is more mine new
units_next P goes (Some l) pair Client Server s g es more is mine units new = other_units P l.client s.client g units
units_next P goes (Some l) pair Server Client s g es more is mine units new = other_units P l.server s.server g units

-- ## Sessions that remember

-- what both streams keep while segments pass
pub record StreamsHold (t : Tracked RememberedSession) : Type 0 where
  pub holds : (host : Host) → Holds (meaning_by t.session.session.lists t.pair host) (own host t.session.session.session) (t.session.streams host)
  pub units : (host : Host) → UnitsAreRenamed t.session.session.lists host (own host t.session.session.session).octets

made_holds : (lists : Option Lists) (pair : Pair) (initial mss : ℕ) (host : Host)
    → Holds (meaning_by lists pair host) (own host (session_made (meaning_by lists pair Client) (meaning_by lists pair Server) initial mss))
    (record { sent = []; places = []; numbers = [] })
made_holds lists pair initial mss Client = record {
  meaning = refl;
  silent = λ e. refl;
  sent = record { each = tt; whole = λ q l. absurd (omega (arith, ap length (due_nil (meaning_by lists pair Client) false))) };
  acked = made_acked (meaning_by lists pair Client) (meaning_by lists pair Server) initial mss Client (meaning_lawful lists pair Client)
      (meaning_lawful lists pair Server);
  short = omega arith;
  few = omega arith;
}
made_holds lists pair initial mss Server = record {
  meaning = refl;
  silent = λ e. refl;
  sent = record { each = tt; whole = λ q l. absurd (omega (arith, ap length (due_nil (meaning_by lists pair Server) false))) };
  acked = made_acked (meaning_by lists pair Client) (meaning_by lists pair Server) initial mss Server (meaning_lawful lists pair Client)
      (meaning_lawful lists pair Server);
  short = omega arith;
  few = omega arith;
}

pub made_each : (P : List Entry → List ℕ → Type 0) (lists : Option Lists) (m n : Meaning) (initial mss : ℕ) (host : Host)
    → EachUnit P lists host (own host (session_made m n initial mss)).octets
made_each P None m n initial mss host = tt
made_each P (Some l) m n initial mss Client = tt
made_each P (Some l) m n initial mss Server = tt

streams_made : (port : ℕ) (client : Side) (pair : Pair) (initial mss : ℕ)
    → StreamsHold (record { client = client; pair = pair; session = remembering_rules.made port pair initial mss })
streams_made port client pair initial mss =
    record {
      holds = all;
      units =
          made_each IsRenamed (lists_at port) (meaning_by (lists_at port) pair Client) (meaning_by (lists_at port) pair Server) initial mss;
    }
  where
    all : (host : Host)
        → Holds (meaning_by (lists_at port) pair host)
        (own host (session_made (meaning_by (lists_at port) pair Client) (meaning_by (lists_at port) pair Server) initial mss))
        ((remembering_rules.made port pair initial mss).streams host)
    all Client = made_holds (lists_at port) pair initial mss Client
    all Server = made_holds (lists_at port) pair initial mss Server

streams_next : (image : Addr → Option Addr) (f : Host) (t : Tracked RememberedSession) (g : Segment)
    → segment_refusal f t.session.session.session g ≡ None
    → UnitsFit (entered image (whole_rules.listed f t.session.session) (addresses_in (whole_units f t.session.session g)))
    (whole_units f t.session.session g) → StreamsHold t
    → StreamsHold (record { client = t.client; pair = t.pair; session = remembering_rules.next image f t.session g })
streams_next image f t g v fit h =
    record {
      holds = both;
      units = λ host. units_next IsRenamed all_renamed_more lists t.pair host f s g es more (h.holds f).meaning (h.units f) (h.units host)
          (new_units lists f image (completed (own f s) g) fit);
    }
  where
    lists : Option Lists
    lists = t.session.session.lists

    s : Session
    s = t.session.session.session

    es : List Entry
    es = entered image (entries_by t.session.session.lists f) (addresses_in (whole_units f t.session.session g))

    more : IsLonger t.session.session.lists f
        (entered image (entries_by t.session.session.lists f) (addresses_in (whole_units f t.session.session g)))
    more = longer t.session.session.lists f image (addresses_in (whole_units f t.session.session g))

    y : Session
    y = (whole_learned image f t.session.session g).session

    passes : segment_refusal f (whole_learned image f t.session.session g).session g ≡ None
    passes = verdict_learned t.session.session.lists t.pair f t.session.session.session g
        (entered image (entries_by t.session.session.lists f) (addresses_in (whole_units f t.session.session g)))
        (longer t.session.session.lists f image (addresses_in (whole_units f t.session.session g))) (h.units f) (h.holds f).meaning ∙ v

    one : (host : Host) → Holds (meaning_by (whole_learned image f t.session.session g).lists t.pair host)
        (own host (session_next f (whole_learned image f t.session.session g).session g))
        (remembered host f (whole_learned image f t.session.session g).session g (session_out f (whole_learned image f t.session.session g).session g)
        (t.session.streams host))
    one host =
        holds_step (meaning_by (whole_learned image f t.session.session g).lists t.pair host) host f
        (whole_learned image f t.session.session g).session g (t.session.streams host) passes
        (holds_learned t.session.session.lists t.pair host f t.session.session.session (t.session.streams host)
        (entered image (entries_by t.session.session.lists f) (addresses_in (whole_units f t.session.session g)))
        (longer t.session.session.lists f image (addresses_in (whole_units f t.session.session g))) (h.units f) (h.holds host))

    -- who takes the segment is the same before and after
    same : (host : Host) (outs : List Outgoing) (r : Remembered)
        → remembered host f (whole_learned image f t.session.session g).session g outs r ≡ remembered host f t.session.session.session g outs r
    same host outs r =
        ap (λ (b : Sender). let x : Remembered =
        record {
          sent = r.sent ++ if_by host f outs;
          places = r.places ++ if_to host f (places_of b g);
          numbers =
              r.numbers ++ if_to host f (numbers_of b g outs);
        } in x)
        (other_same f (reads_by (whole_learned image f t.session.session g).lists f (own f t.session.session.session))
        (other f t.session.session.session))

    both : (host : Host)
        → Holds (meaning_by (whole_learned image f t.session.session g).lists t.pair host)
        (own host (session_next f (whole_learned image f t.session.session g).session g))
        ((remembering_rules.next image f t.session g).streams host)
    both host = subst (λ (r : Remembered). Holds (meaning_by (whole_learned image f t.session.session g).lists t.pair host)
        (own host (session_next f (whole_learned image f t.session.session g).session g)) r)
        (same host (session_out f (whole_learned image f t.session.session g).session g) (t.session.streams host)) (one host)

-- ## What is remembered is true

pass_more : (t : RememberedSession) (ps : List Passed) (p : Passed) → AllPass t ps
    → segment_refusal p.from (fold step t ps).session.session p.segment ≡ None → AllPass t (ps ++ p ∷ [])
pass_more t [] p all v = (v, tt)
pass_more t (x ∷ ps) p all v = (all.0, pass_more (step t x) ps p all.1 v)

step_more : (t : RememberedSession) (ps : List Passed) (p : Passed) → fold step t (ps ++ p ∷ []) ≡ step (fold step t ps) p
step_more t [] p = refl
step_more t (x ∷ ps) p = step_more (step t x) ps p

-- what a session remembers is true: it began with its hosts' pair, none of its segments was refused, and it is what they made of it
pub record IsRemembered (t : Tracked RememberedSession) : Type 0 where
  pub pair : t.session.pair ≡ t.pair
  pub passed : AllPass (begun t.session) t.session.past
  pub session : t.session ≡ fold step (begun t.session) t.session.past

remembered_next : (image : Addr → Option Addr) (f : Host) (t : Tracked RememberedSession) (g : Segment)
    → segment_refusal f t.session.session.session g ≡ None → IsRemembered t
    → IsRemembered (record { client = t.client; pair = t.pair; session = remembering_rules.next image f t.session g })
remembered_next image f t g v h =
    let p : Passed = record { from = f; segment = g; image = image } in
    record {
      pair = h.pair;
      passed =
          pass_more (begun t.session) t.session.past p h.passed
          (ap (λ (x : RememberedSession). segment_refusal f x.session.session g) (sym h.session) ∙ v);
      session = ap (λ (x : RememberedSession). step x p) h.session ∙ sym (step_more (begun t.session) t.session.past p);
    }

-- ## All of it

pub record TrackedHolds (t : Tracked RememberedSession) : Type 0 where
  pub remembers : IsRemembered t
  pub streams : StreamsHold t

pub remembered_keeps : Keeps remembering_rules TrackedHolds
remembered_keeps = record {
  made = λ port client pair initial mss. record
      { remembers = record { pair = refl; passed = tt; session = refl }; streams = streams_made port client pair initial mss };
  next = λ image f t g v fit h. record { remembers = remembered_next image f t g v h.remembers; streams = streams_next image f t g v fit h.streams };
}

pub remembered_reads : Reads (λ (t : RememberedSession). t.session) remembering_rules whole_rules
remembered_reads = record {
  made = λ port pair initial mss. refl;
  refusal = λ f s g. refl;
  units = λ f s g n. refl;
  listed = λ f s. refl;
  next = λ image f s g n. refl;
  out = λ image f s g n. refl;
  ends = λ f s g. refl;
  inner = λ f s n. refl;
  pending = λ s. refl;
}

-- ## The laws of streams

stream_is : (t : Tracked RememberedSession) (host : Host) → StreamsHold t → StreamIs host t
stream_is t host h =
    record { meaning = (h.holds host).meaning; units = h.units host; sent = (h.holds host).sent; acknowledged = (h.holds host).acked.each }

pub session_is : (t : Tracked RememberedSession) → TrackedHolds t → SessionIs t
session_is t h =
    let r = h.remembers in record { pair = r.pair; passed = r.passed; session = r.session; streams = λ host. stream_is t host h.streams }

-- what always holds of the hosts of a session
facts_is : (host : Host) (t : Tracked RememberedSession) → TrackedHolds t → Facts (own host t.session.session.session)
facts_is host t h =
    let k = h.streams.holds host in
    facts_of (own host t.session.session.session) (t.session.streams host).places (t.session.streams host).numbers k.acked k.short k.few

pub run_holds : (events : List Frame) (settings : Settings)
    → EachTracked TrackedHolds (fold (world_next remembering_rules) (opening_world settings) events).connections
run_holds events settings =
    run_keeps remembering_rules TrackedHolds remembered_keeps events (opening_world settings)
    (All-nil (λ (c : Connection (Tracked RememberedSession)). IfSome c.session TrackedHolds))

-- what follows of each session
pub each : (Q : Tracked RememberedSession → Type 0) → ((t : Tracked RememberedSession) → TrackedHolds t → Q t)
    → (events : List Frame) (settings : Settings) → EachTracked Q (fold (world_next remembering_rules) (opening_world settings) events).connections
each Q weaker events settings =
    All-weaker (λ (c : Connection (Tracked RememberedSession)). IfSome c.session TrackedHolds) (λ c. IfSome c.session Q)
    (λ c h. by_session c.session h) (fold (world_next remembering_rules) (opening_world settings) events).connections (run_holds events settings)
  where
    by_session : (o : Option (Tracked RememberedSession)) → IfSome o TrackedHolds → IfSome o Q
    by_session None h = tt
    by_session (Some t) h = weaker t h

pub sessions_are : (events : List Frame) (settings : Settings)
    → EachTracked SessionIs (fold (world_next remembering_rules) (opening_world settings) events).connections
sessions_are = each SessionIs session_is

pub streams_are : (events : List Frame) (settings : Settings) (host : Host)
    → EachTracked (StreamIs host) (fold (world_next remembering_rules) (opening_world settings) events).connections
streams_are events settings host = each (StreamIs host) (λ t h. stream_is t host h.streams) events settings

pub facts_are : (events : List Frame) (settings : Settings) (host : Host)
    → EachTracked (λ t. Facts (own host t.session.session.session)) (fold (world_next remembering_rules) (opening_world settings) events).connections
facts_are events settings host = each (λ t. Facts (own host t.session.session.session)) (facts_is host) events settings
