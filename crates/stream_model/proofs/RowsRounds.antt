-- A round of repeats, computed: a client of FTP sends a line again, and the server acknowledges its image. And what doesn't go on.
use Rattle.std.proofs.Common.{◌≡◌, ◌<◌, ℕ, false, [], ◌∷◌, ◌++◌, length, Some, None, refl, sym, subst, arith, inl, inr, lit<, lit≤}
use Rattle.std.specs.List.{AllByRecursion}
use Rattle.std.specs.Prelude.{codes}
use Rattle.std.proofs.lemmas.Bool.{false≢true}
use Rattle.gate_base.specs.Address.{number_of}
use Rattle.gate_base.specs.declared.host.Host.TheVariants.{Client, Server}
use Rattle.ftp_lines.specs.Renaming.{client_lines, server_lines}
use Rattle.ftp_lines.proofs.OnLiterals.{lines_on_literals}
use Rattle.tcp_segments.specs.Prelude.{flags_of}
use Rattle.stream_model.specs.Session.{Outgoing, Session, Segment, own, due_in, extent, arrival, place_acknowledged, repeats_unlike}
use Rattle.stream_model.specs.Refusals.{segment_refusal}
use Rattle.stream_model.specs.Progress.{AllShown, Brings, Covers, EndsAt, EndsBy, acknowledged_of}
use Rattle.stream_model.specs.Keeping.{KeepsTo}
use Rattle.stream_model.proofs.RowWords.{pair}
use Rattle.stream_model.specs.Rounds.{Round, IsRound, AllRounds, after_repeat, after_round}

-- a session behind its handshake
abbrev both : Session
both = record {
  client = record { meaning = client_lines pair; mss = 1460; initial = Some 1000; octets = []; ended = false; acked = 0 };
  server = record { meaning = server_lines pair; mss = 1460; initial = Some 5000; octets = []; ended = false; acked = 0 };
}

-- the client's line, of 19 octets, and the server's answer, which acknowledges all 21 of its image
abbrev line : Segment
line = record {
  sequence = 1001;
  acknowledgement = 5001;
  flags = flags_of 24;
  mss = 536;
  options = 0;
  octets =
      codes "PORT 10,0,0,5,4,1" ++ 13 ∷ 10 ∷ [];
}

abbrev answer : Segment
answer = record { sequence = 5001; acknowledgement = 1022; flags = flags_of 16; mss = 536; options = 0; octets = [] }

abbrev round : Round
round = record { repeat = line; has = 21; answer = answer }

passes : segment_refusal Client both line ≡ None
unfolding number_of lines_on_literals
passes = refl

covers : Covers (own Client both) line 0
unfolding number_of lines_on_literals
covers = record { begins = lit≤ tt; goes_past = lit≤ tt }

due : length (due_in (own Client (after_repeat Client both round))) ≡ 21
unfolding number_of lines_on_literals
due = refl

answered : segment_refusal Server (after_repeat Client both round) answer ≡ None
unfolding number_of lines_on_literals
answered = refl

all : place_acknowledged (extent (own Client (after_repeat Client both round))) (arrival answer) ≡ 21
unfolding number_of lines_on_literals
all = refl

-- these two are a round
a_round : IsRound Client both 0 0 round
a_round = record {
  passes = passes;
  kind = refl;
  lacks = inl (record { covers = covers; lacks = subst (λ (n : ℕ). 0 < n) (sym due) (lit< tt) });
  hears = record { keeps = lit≤ tt; goes_on = λ shows. lit< tt; ends = λ is end. lit< tt };
  answered = answered;
  answers = refl;
  all = all;
}

rounds : AllRounds Client both 0 0 (round ∷ [])
rounds = (a_round, tt)

known_then : acknowledged_of (own Client (after_round Client both round)) ≡ 19
unfolding number_of lines_on_literals
known_then = refl

-- the same line once more repeats only what is acknowledged
ends_by : EndsBy (own Client (after_round Client both round)) line 19
unfolding number_of lines_on_literals
ends_by = lit≤ tt

-- it keeps to its sender's stream
acknowledged_first : acknowledged_of (own Client both) ≡ 0
unfolding number_of lines_on_literals
acknowledged_first = refl

alike : repeats_unlike (own Client both) line ≡ false
unfolding number_of lines_on_literals
alike = refl

keeps_to : KeepsTo (own Client both) (own Server both) line
unfolding number_of lines_on_literals
keeps_to = record {
  kind = refl;
  ack = refl;
  own_known = refl;
  other_known = refl;
  begins = lit≤ tt;
  adds = inr (lit≤ tt);
  few = lit≤ tt;
  alike = refl;
  ends = refl;
  acknowledges = refl;
  short = lit< tt;
}

-- ## What doesn't go on

-- a gateway that sends nothing for the line doesn't bring what becomes due with it
nothing_brings : Brings (own Client both) (own Client (after_repeat Client both round)) line [] → ⊥
unfolding number_of lines_on_literals
nothing_brings b = b.due 0 (lit≤ tt) (subst (λ (n : ℕ). 0 < n) (sym due) (lit< tt))

-- a segment without octets and without an end, which acknowledges up to number 7
abbrev bare : Outgoing
bare = record { sequence = 1001; acknowledgement = 7; flags = flags_of 16; octets = [] }

-- it ends nothing, shows no octet, and carries no other number
ends_nothing : EndsAt 1000 0 bare → ⊥
ends_nothing e = false≢true e.fin

shows_nothing : AllShown 1000 (1 ∷ []) 0 (bare ∷ []) → ⊥
shows_nothing shown = elim (shown 0 (lit≤ tt) (lit< tt)) [ inl one ↦ omega (arith, one.from, one.below) | inr none ↦ none ]

carries_another : AllByRecursion (λ o. o.acknowledgement ≡ 8) (bare ∷ []) → ⊥
carries_another carries = let same : 7 ≡ 8 = carries.0 in absurd (omega arith)
