-- What is kept of sessions has lists.
use Rattle.std.proofs.Common.{◌≡◌, true, [], refl}
use Rattle.std.proofs.lemmas.Bool.{cond-false}
use Rattle.dialogue.specs.Prelude.{Meaning}
use Rattle.stream_model.specs.Prelude.{Segment, arrival, is_data}
use Rattle.compact_stream.specs.Prelude.{CompactSender, sender_kept}
use Rattle.gate_model.specs.Prelude.{HasLists, addresses_in, entered, entries_by, meaning_by}
use Rattle.gate_model.proofs.ListsWorld.{made_at, own_at, other_at, no_units}
use Rattle.gate_sessions.specs.Compact.{kept_completed, kept_units, compact_rules}

syn_completes : (m : Meaning) (h : CompactSender) (g : Segment) → g.flags.syn ≡ true → kept_completed m h g ≡ []
syn_completes m h g syn = cond-false (is_data (arrival g)) _ _ (rw syn refl)

pub kept_have_lists : HasLists compact_rules
kept_have_lists = record {
  made = λ port pair initial mss client. made_at _ client;
  own = λ image f k g. own_at k.lists image f (kept_completed (meaning_by k.lists k.pair f) (sender_kept f k.kept) g);
  other = λ image f k g. other_at k.lists f (entered image (entries_by k.lists f) (addresses_in (kept_units f k g)));
  syn = λ f k g syn. no_units k.lists (kept_completed (meaning_by k.lists k.pair f) (sender_kept f k.kept) g)
      (syn_completes (meaning_by k.lists k.pair f) (sender_kept f k.kept) g syn);
}
