-- What is kept at the beginning, of no octets.
use Rattle.std.proofs.Common.{◌≡◌, ℕ, false, List, [], ◌∷◌, length, refl, sym, ap, subst, arith, min, Option, Some, None}
use Rattle.dialogue.specs.Prelude.{Meaning, IsLawful, Plain, cut}
use Rattle.dialogue.proofs.CutLemmas.{IsRest-nil}
use Rattle.shift_ledger.specs.Prelude.{Kept, StandsFor}
use Rattle.stream_model.specs.Prelude.{session_made}
use Rattle.compact_stream.specs.Prelude.{CompactSender, KeepsSender, InRange, sent_pushes, StandsForSession, kept_made}

no_octets : (l : Kept) → StandsFor l [] 0 → StandsFor l (Plain 0 ∷ []) 0
no_octets l st =
    record {
      proper = (tt, tt);
      octets_in = omega (arith, st.octets_in);
      octets_out = omega (arith, st.octets_out);
      changed = st.changed;
      within =
          omega arith;
    }

pub sender_begins : (m : Meaning) (mss : ℕ) (initial : Option ℕ) (l : Kept) → StandsFor l [] 0
    → KeepsSender m (record { mss = mss; initial = initial; ended = false; acked = 0; rest = []; released = false; ledger = l; recent = [] })
    (record { meaning = m; mss = mss; initial = initial; octets = []; ended = false; acked = 0 })
sender_begins m mss initial l st = record {
  is = refl;
  keeps = record {
    rest = refl;
    released = λ e. refl;
    ledger = let none : 0 ≡ min 0 l.octets_out = omega arith in
        subst (λ (k : ℕ). StandsFor l (sent_pushes m false (cut m [])) k) none (no_octets l st);
    recent = refl;
  };
}

pub session_begins : (m n : Meaning) (initial mss : ℕ) (l k : Kept) → StandsFor l [] 0 → StandsFor k [] 0
    → StandsForSession m n (kept_made initial mss l k) (session_made m n initial mss)
session_begins m n initial mss l k st su = record { client = sender_begins m mss (Some initial) l st; server = sender_begins n 536 None k su }

pub range_begins : (m : Meaning) → IsLawful m → (h : CompactSender) → h.rest ≡ [] → h.recent ≡ [] → h.acked ≡ 0 → StandsFor h.ledger [] 0
    → InRange m h
range_begins m law h e r f st = record {
  octets = omega (arith, st.octets_in, e_len);
  image = omega (arith, st.octets_in, st.octets_out);
  acked = omega (arith, f);
  rest = subst (λ (r : List ℕ). m.first_end r ≡ None) (sym e) (IsRest-nil m law);
  recent = omega (arith, ap length r);
}
  where
    e_len : length h.rest ≡ 0
    e_len = ap length e

pub ranges_begin : (m n : Meaning) (initial mss : ℕ) (l k : Kept) → IsLawful m → IsLawful n → StandsFor l [] 0 → StandsFor k [] 0
    → InRange m (kept_made initial mss l k).client × InRange n (kept_made initial mss l k).server
ranges_begin m n initial mss l k law_m law_n st su = (
  range_begins m law_m (kept_made initial mss l k).client refl refl refl st,
  range_begins n law_n (kept_made initial mss l k).server refl refl refl su,
)
