-- A round of repeats, computed over what three frames make: a client of FTP sends a line again, and the server acknowledges its image. Another host sends in between.
use Rattle.std.proofs.Common.{◌≡◌, ◌<◌, ℕ, true, List, [], ◌∷◌, length, Option, Some, None, unwrap_or, refl, sym, subst, inl, lit<, lit≤}
use Rattle.gate_base.specs.Prelude.{Event}
use Rattle.verdicts.specs.declared.verdict.Verdict.TheVariants.{Pass}
use Rattle.gate_base.specs.declared.host.Host.TheVariants.{Client}
use Rattle.gate_base.specs.declared.side.Link.TheVariants.{Raw}
use Rattle.gate_base.specs.declared.side.Side.TheVariants.{Left, Right}
use Rattle.gate_settings.specs.declared.settings.Settings.{Settings}
use Rattle.binding_table.specs.Prelude.{opening}
use Rattle.stream_model.specs.Prelude.{own, due_in, extent, arrival, place_acknowledged, acknowledged_of}
use Rattle.stream_model.specs.Progress.{Covers}
use Rattle.tcp_tracker.specs.declared.connection.Connection.{Connection}
use Rattle.gate_model.specs.Frame.{Stream, datagram_in, kind_of}
use Rattle.gate_model.specs.GoingOn.{streams_of, HasDataSegment}
use Rattle.gate_model.specs.Prelude.{Tracked, World, made_by, remembered_after}
use Rattle.gate_model.specs.Remembered.{RememberedSession, remembering_rules}
use Rattle.gate_model.specs.Rounds.{FrameRound, at_answer, repeated, answered, IsFrameRound, AllFrameRounds}
use Rattle.gate_model.specs.Step.{taker_in}
use Rattle.gate_model.specs.Stream.{segment_of}
use Rattle.gate_model.specs.Taken.{TakesSegment}
use Rattle.gate_model.specs.Verdict.{verdict}
use Rattle.gate_model.specs.World.{at_moment}
use Rattle.gate_model.proofs.RowWords.{hex, fixed, pool, set, event}
use Rattle.gate_model.proofs.OnLiterals.{frames_on_literals}

abbrev settings : Settings
settings = set [] (pool 0xc0a8c801 0xc0a8c8fe) (pool 0xac100901 0xac1009fe)
    (fixed Left 0x0a000005 0xac100901 ∷ fixed Right 0x0a000005 0xc0a8c801 ∷ [])

-- a client connects to a server of FTP:
abbrev syn : Event
syn = event Left 1000000000 Raw true (hex 44 0x4500002c000240004006a81b0a000005c0a8c8019c400015000003e80000000060022000453a0000020405b4)

abbrev syn_answer : Event
syn_answer =
    event Right 2000000000 Raw true (hex 44 0x4500002c0002400040067bb40a000005ac10090100159c4000001388000003e960122000053a0000020405b4)

abbrev connects : Event
connects = event Left 3000000000 Raw true (hex 40 0x45000028000240004006a81f0a000005c0a8c8019c400015000003e90000138950102000495e0000)

-- what is remembered then
abbrev world : World RememberedSession
world = remembered_after settings (syn ∷ syn_answer ∷ connects ∷ [])

-- the session of the first connection
abbrev first_of : List (Connection (Tracked RememberedSession)) → Option (Tracked RememberedSession)
first_of [] = None
first_of (c ∷ more) = c.session

abbrev begun : Tracked RememberedSession
begun = made_by remembering_rules (opening settings) Left (datagram_in syn)

abbrev t : Tracked RememberedSession
t = unwrap_or (first_of world.connections) begun

abbrev line : Event
line = event Left 4000000000 Raw true
    (hex 59 0x4500003b000240004006a80c0a000005c0a8c8019c400015000003e9000013895018200051840000504f52542031302c302c302c352c342c310d0a)

abbrev answer : Event
answer = event Right 5000000000 Raw true (hex 40 0x450000280002400040067bb80a000005ac10090100159c4000001389000003fe501020001ce20000)

-- another host sends a datagram meanwhile
abbrev others : Event
others = event Left 4500000000 Raw true (hex 30 0x4500001e000140004011a81d0a000007c0a8c8010fa01388000ae191686f)

abbrev round : FrameRound
round = record { before = []; repeat = line; between = others ∷ []; has = 21; answer = answer }

line_passes : verdict remembering_rules world line ≡ Pass
unfolding frames_on_literals
line_passes = refl

line_taken : taker_in remembering_rules (at_moment world 4000000000) Left 4000000000 (datagram_in line) ≡ Some t
unfolding frames_on_literals
line_taken = refl

line_kind : kind_of (datagram_in line) ≡ Stream
unfolding frames_on_literals
line_kind = refl

line_data : HasDataSegment line
unfolding frames_on_literals
line_data = refl

covers : Covers (own Client (streams_of t)) (segment_of (datagram_in line)) 0
unfolding frames_on_literals
covers = record { begins = lit≤ tt; goes_past = lit≤ tt }

due : length (due_in (own Client (streams_of (repeated world round t)))) ≡ 21
unfolding frames_on_literals
due = refl

answer_passes : verdict remembering_rules (at_answer world round) answer ≡ Pass
unfolding frames_on_literals
answer_passes = refl

answer_taken : taker_in remembering_rules (at_moment (at_answer world round) 5000000000) Right 5000000000 (datagram_in answer) ≡ Some (repeated world round t)
unfolding frames_on_literals
answer_taken = refl

answer_kind : kind_of (datagram_in answer) ≡ Stream
unfolding frames_on_literals
answer_kind = refl

answer_data : HasDataSegment answer
unfolding frames_on_literals
answer_data = refl

answer_all : place_acknowledged (extent (own Client (streams_of (repeated world round t)))) (arrival (segment_of (datagram_in answer))) ≡ 21
unfolding frames_on_literals
answer_all = refl

acknowledged_then : acknowledged_of (own Client (streams_of (answered world round t))) ≡ 19
unfolding frames_on_literals
acknowledged_then = refl

-- these frames are a round
a_round : IsFrameRound Client world t 0 0 round
unfolding frames_on_literals
a_round = record {
  takes = record { passes = line_passes; stream = line_kind; taker = line_taken };
  by = refl;
  kind = line_data;
  lacks = inl (record { covers = covers; lacks = subst (λ (n : ℕ). 0 < n) (sym due) (lit< tt) });
  hears = record { keeps = lit≤ tt; goes_on = λ shows. lit< tt; ends = λ is end. lit< tt };
  takes_answer = record { passes = answer_passes; stream = answer_kind; taker = answer_taken };
  answers_by = refl;
  answer_kind = answer_data;
  all = answer_all;
}

rounds : AllFrameRounds Client world t 0 0 (round ∷ [])
rounds = (a_round, tt)

-- the session takes the line's segment, which is data: what `going` asks, of a world that a run made
goes_on : TakesSegment remembering_rules world line t × HasDataSegment line
goes_on = (a_round.takes, line_data)
