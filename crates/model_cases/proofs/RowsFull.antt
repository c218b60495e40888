-- The most sessions and the most connections live: computed.
use Rattle.std.proofs.Common.{◌≡◌, true, false, List, [], ◌∷◌, replicate, Some, None, refl}
use Rattle.verdicts.specs.declared.verdict.Verdict.TheVariants.{Pass, Refused}
use Rattle.verdicts.specs.declared.refusal.Refusal.TheVariants.{SessionsFull, SynData}
use Rattle.gate_base.specs.declared.side.Link.TheVariants.{Raw}
use Rattle.gate_base.specs.declared.side.Side.TheVariants.{Left, Right}
use Rattle.gate_settings.specs.declared.settings.Settings.{Settings}
use Rattle.binding_table.specs.Prelude.{opening}
use Rattle.gate_model.specs.Prelude.{WholeSession, whole_rules, Tracked, World}
use Rattle.tcp_tracker.specs.declared.connection.Connection.{Connection}
use Rattle.gate_model.specs.Verdict.{verdict}
use Rattle.gate_model.proofs.RowWords.{hex, fixed, pool, set, event}
use Rattle.gate_model.proofs.OnLiterals.{frames_on_literals}

abbrev settings : Settings
settings = set [] (pool 0xc0a8c801 0xc0a8c8fe) (pool 0xac100901 0xac1009fe)
    (fixed Left 0x0a000005 0xac100901 ∷ fixed Right 0x0a000005 0xc0a8c801 ∷ [])

-- another connection of the two hosts, untracked or tracked
abbrev plain : Connection (Tracked WholeSession)
plain = record {
  key = record { left = record { 0 = 0x0a000005 }; left_port = 1; right = record { 0 = 0x0a000005 }; right_port = 2 };
  left_acknowledges = false;
  right_acknowledges = false;
  closing = false;
  session = None;
  until = record { 0 = 240000000000 };
}

abbrev tracked : Connection (Tracked WholeSession)
tracked = record plain {
  session = Some (record {
    client = Left;
    pair = record { client = record { 0 = 1 }; client_alias = record { 0 = 1 }; server = record { 0 = 1 }; server_alias = record { 0 = 1 } };
    session = whole_rules.made 21 (record { client = record { 0 = 1 }; client_alias = record { 0 = 1 }; server = record { 0 = 1 }; server_alias = record { 0 = 1 } }) 1000 536;
  });
}

abbrev world : List (Connection (Tracked WholeSession)) → World WholeSession
world all = record { clock = 0; table = opening settings; connections = all; pending = 0 }

sessions_full : verdict whole_rules (world (replicate 4096 tracked)) (event Left 1000 Raw true
    (hex 40 0x45000028000100004006e8200a000005c0a8c8019c400015000003e800000000500220005cf60000)) ≡ Refused SessionsFull
unfolding frames_on_literals
sessions_full = refl

data_before_full : verdict whole_rules (world (replicate 4096 tracked)) (event Left 1000 Raw true
    (hex 41 0x45000029000100004006e81f0a000005c0a8c8019c400015000003e80000000050022000e4f4000078)) ≡ Refused SynData
unfolding frames_on_literals
data_before_full = refl

one_session_less : verdict whole_rules (world (replicate 4095 tracked)) (event Left 1000 Raw true
    (hex 40 0x45000028000100004006e8200a000005c0a8c8019c400015000003e800000000500220005cf60000)) ≡ Pass
unfolding frames_on_literals
one_session_less = refl

plain_beside_sessions : verdict whole_rules (world (replicate 4096 tracked)) (event Left 1000 Raw true
    (hex 40 0x45000028000100004006e8200a000005c0a8c8019c400050000003e800000000500220005cbb0000)) ≡ Pass
unfolding frames_on_literals
plain_beside_sessions = refl

connections_full : verdict whole_rules (world (replicate 65536 plain)) (event Left 1000 Raw true
    (hex 40 0x45000028000100004006e8200a000005c0a8c8019c400050000003e800000000500220005cbb0000)) ≡ Refused SessionsFull
unfolding frames_on_literals
connections_full = refl

one_connection_less : verdict whole_rules (world (replicate 65535 plain)) (event Left 1000 Raw true
    (hex 40 0x45000028000100004006e8200a000005c0a8c8019c400050000003e800000000500220005cbb0000)) ≡ Pass
unfolding frames_on_literals
one_connection_less = refl

reset_makes_none : verdict whole_rules (world (replicate 65536 plain)) (event Left 1000 Raw true
    (hex 40 0x45000028000100004006e8200a000005c0a8c8019c400050000003e800000000500420005cb90000)) ≡ Pass
unfolding frames_on_literals
reset_makes_none = refl
