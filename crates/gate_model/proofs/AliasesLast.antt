-- What a frame that passes keeps goes on to be called so, for as long.
use Rattle.std.proofs.Common.{◌≡◌, ◌<◌, ◌⊎◌, ℕ, false, not, List, [], ◌∷◌, Option, Some, unwrap_or, sym, ◌∙◌, ap, subst, inl, inr, fold}
use Rattle.std.proofs.lemmas.Bool.{not-false}
use Rattle.std.proofs.lemmas.List.Elements.{All-head, All-tail}
use Rattle.gate_base.specs.Prelude.{Event, other}
use Rattle.gate_base.specs.declared.address.Addr.{Addr}
use Rattle.verdicts.specs.declared.verdict.Verdict.{Verdict}
use Rattle.verdicts.specs.declared.verdict.Verdict.TheVariants.{Pass, Refused, Held}
use Rattle.verdicts.specs.declared.refusal.Refusal.TheVariants.{SourceInPool, NoBinding}
use Rattle.gate_base.specs.declared.side.Side.{Side}
use Rattle.gate_base.proofs.Sides.{other_other}
use Rattle.binding_table.specs.Prelude.{Bindings, in_pool, seen, expired, IsLawful, IsKnownAs, Use, after_uses}
use Rattle.binding_table.proofs.Kept.{lawful_expired}
use Rattle.binding_table.proofs.Used.{known_after}
use Rattle.gate_model.specs.Called.{table_by, sent_from, sent_to, header_until, CrossBack, AllBefore}
use Rattle.gate_model.specs.Prelude.{SessionRules, World, at_moment, called, source_of, destination_of, datagram_in, kind_of, is_reachable, payload_addresses, payload_uses, uses_of, verdict, next_by, next}
use Rattle.gate_model.proofs.Passing.{passes, none_head, none_tail}
use Rattle.gate_model.proofs.BoundTables.{known_expired, known_seen, lawful_after}
use Rattle.gate_model.proofs.BoundUses.{BothKnown, both_known}
use Rattle.gate_model.proofs.HostsKept.{known_back, known_stays, table_is}

-- ## Addresses that stand for each other

-- of two addresses of the two realms one is a host's and the other is called so there, for good or at least until a moment
abbrev pub StandFor : Bindings → Side → ℕ → ℕ → ℕ → Type 0
StandFor table side address image until = IsKnownAs table side address image until ⊎ IsKnownAs table (other side) image address until

pub cross_back : (table : Bindings) (side : Side) (address image until : ℕ) → IsLawful table → StandFor table side address image until
    → CrossBack table side (record { 0 = address }) (record { 0 = image })
cross_back table side address image until lawful (inl h) = record {
  there = known_seen table side address image until lawful h;
  back = known_back table (other side) address image until lawful
      (subst (λ (s : Side). IsKnownAs table s address image until) (sym (other_other side)) h);
}
cross_back table side address image until lawful (inr h) = record {
  there = known_back table side image address until lawful h;
  back = known_seen table (other side) image address until lawful h;
}

pub called_is : (table : Bindings) (side : Side) (address image : Addr) → seen table side address ≡ Some image → called table side address ≡ image
called_is table side address image e = ap (λ (o : Option Addr). unwrap_or o address) e

-- an address that stands for another one is called so
pub stands_as : (table : Bindings) (side : Side) (address : Addr) (image until : ℕ) → IsLawful table
    → StandFor table side address.0 image until → StandFor table side address.0 (called table side address).0 until
stands_as table side address image until lawful h =
    let is = called_is table side address (record { 0 = image }) (cross_back table side address.0 image until lawful h).there in
    subst (λ (a : Addr). StandFor table side address.0 a.0 until) (sym is) h

pub stand_after : (uses : List Use) (table : Bindings) (side : Side) (address image until : ℕ) → StandFor table side address image until
    → StandFor (after_uses table uses) side address image until
stand_after uses table side address image until (inl h) = inl (known_after uses table side address image until h)
stand_after uses table side address image until (inr h) = inr (known_after uses table (other side) image address until h)

pub stand_expired : (table : Bindings) (side : Side) (address image until now : ℕ) → now < until → StandFor table side address image until
    → StandFor (expired table (record { 0 = now })) side address image until
stand_expired table side address image until now less (inl h) = inl (known_expired table side address image until now less h)
stand_expired table side address image until now less (inr h) = inr (known_expired table (other side) image address until now less h)

-- ## From frame to frame

pub lawful_next : {S : Type 0} (rules : SessionRules S) (w : World S) (e : Event) → IsLawful w.table → IsLawful (next rules w e).table
lawful_next {S = S} rules w e lawful = by_verdict (verdict rules w e) (lawful_expired w.table (record { 0 = e.moment }) lawful)
  where
    by_verdict : (v : Verdict) → IsLawful (at_moment w e.moment).table → IsLawful (next_by rules (at_moment w e.moment) e v).table
    by_verdict Pass k =
        let live = at_moment w e.moment in
        let d = datagram_in e in
        subst (λ (t : Bindings). IsLawful t) (sym (table_is rules live e.side e.moment d (kind_of d)))
        (lawful_after (uses_of rules live e.side e.moment d (kind_of d)) live.table k)
    by_verdict (Refused r) k = k
    by_verdict Held k = k

pub lawful_through : {S : Type 0} (rules : SessionRules S) (events : List Event) (w : World S) → IsLawful w.table
    → IsLawful (fold (next rules) w events).table
lawful_through rules [] w lawful = lawful
lawful_through rules (e ∷ events) w lawful = lawful_through rules events (next rules w e) (lawful_next rules w e lawful)

pub known_through : {S : Type 0} (rules : SessionRules S) (events : List Event) (w : World S) (side : Side) (host alias until : ℕ)
    → AllBefore until events → IsKnownAs w.table side host alias until → IsKnownAs (fold (next rules) w events).table side host alias until
known_through rules [] w side host alias until before h = h
known_through rules (e ∷ events) w side host alias until before h =
    known_through rules events (next rules w e) side host alias until (All-tail (λ (x : Event). x.moment < until) e events before)
    (known_stays rules w e side host alias until (All-head (λ (x : Event). x.moment < until) e events before) h)

pub stand_through : {S : Type 0} (rules : SessionRules S) (events : List Event) (w : World S) (side : Side) (address image until : ℕ)
    → AllBefore until events → StandFor w.table side address image until → StandFor (fold (next rules) w events).table side address image until
stand_through rules events w side address image until before (inl h) = inl (known_through rules events w side address image until before h)
stand_through rules events w side address image until before (inr h) = inr (known_through rules events w (other side) image address until before h)

-- what is known after a frame that passes is what its uses leave
pub passed_table : {S : Type 0} (rules : SessionRules S) (w : World S) (e : Event) → verdict rules w e ≡ Pass
    → (next rules w e).table ≡ table_by rules w e
passed_table rules w e p =
    let live = at_moment w e.moment in
    let d = datagram_in e in
    ap (λ (v : Verdict). (next_by rules live e v).table) p ∙ table_is rules live e.side e.moment d (kind_of d)

pub lawful_by : {S : Type 0} (rules : SessionRules S) (w : World S) (e : Event) → IsLawful w.table → IsLawful (table_by rules w e)
lawful_by rules w e lawful =
    let live = at_moment w e.moment in
    let d = datagram_in e in
    lawful_after (uses_of rules live e.side e.moment d (kind_of d)) live.table (lawful_expired w.table (record { 0 = e.moment }) lawful)

-- ## Both addresses of a frame that passes

-- the source is a host of the frame's realm, and the destination the alias of one of the other realm, for as long as the header says
pub record HostsAre {S : Type 0} (rules : SessionRules S) (w : World S) (e : Event) (table : Bindings) : Type 0 where
  pub own : IsKnownAs table e.side (datagram_in e).source (sent_from rules w e).0 (header_until rules w e)
  pub far : IsKnownAs table (other e.side) (sent_to rules w e).0 (datagram_in e).destination (header_until rules w e)

both_after : {S : Type 0} (rules : SessionRules S) (w : World S) (e : Event) → IsLawful w.table → verdict rules w e ≡ Pass
    → BothKnown (at_moment w e.moment).table (table_by rules w e) e.side (datagram_in e).source (datagram_in e).destination (header_until rules w e)
both_after rules w e lawful v =
    let live = at_moment w e.moment in
    let d = datagram_in e in
    let kind = kind_of d in
    let until = header_until rules w e in
    let p = passes rules w e v in
    let outside : in_pool live.table e.side (source_of d) ≡ false =
    none_head {test = (in_pool live.table e.side (source_of d), SourceInPool)}
    {more = (not (is_reachable live.table e.side (destination_of d)), NoBinding) ∷ []} p.address in
    let reach : not (is_reachable live.table e.side (destination_of d)) ≡ false =
    none_head {test = (not (is_reachable live.table e.side (destination_of d)), NoBinding)} {more = []}
    (none_tail {test = (in_pool live.table e.side (source_of d), SourceInPool)}
    {more = (not (is_reachable live.table e.side (destination_of d)), NoBinding) ∷ []} p.address) in
    both_known live.table e.side d.source d.destination until (destination_of d ∷ payload_addresses rules live e.side d kind)
    (payload_uses rules live e.side e.moment until d kind) (lawful_expired w.table (record { 0 = e.moment }) lawful) outside
    (not-false _ reach) p.pool

pub hosts_are : {S : Type 0} (rules : SessionRules S) (w : World S) (e : Event) → IsLawful w.table → verdict rules w e ≡ Pass
    → HostsAre rules w e (table_by rules w e)
hosts_are rules w e lawful v =
    let d = datagram_in e in
    let until = header_until rules w e in
    let table = table_by rules w e in
    let k = both_after rules w e lawful v in
    let lawful_later = lawful_by rules w e lawful in
    let from : sent_from rules w e ≡ record { 0 = k.alias } =
    called_is table e.side (source_of d) (record { 0 = k.alias }) (known_seen table e.side d.source k.alias until lawful_later k.own) in
    let far = called (at_moment w e.moment).table e.side (destination_of d) in
    let to : sent_to rules w e ≡ far = called_is table e.side (destination_of d) far
    (known_back table e.side far.0 d.destination until lawful_later k.far) in
    record {
      own = subst (λ (a : Addr). IsKnownAs table e.side d.source a.0 until) (sym from) k.own;
      far = subst (λ (a : Addr). IsKnownAs table (other e.side) a.0 d.destination until) (sym to) k.far;
    }

-- so it is at a later moment, before it is over
pub hosts_later : {S : Type 0} (rules : SessionRules S) (w : World S) (e : Event) (between : List Event) (moment : ℕ) → IsLawful w.table
    → verdict rules w e ≡ Pass → AllBefore (header_until rules w e) between → moment < header_until rules w e
    → HostsAre rules w e (at_moment (fold (next rules) (next rules w e) between) moment).table
hosts_later rules w e between moment lawful v before less =
    let d = datagram_in e in
    let until = header_until rules w e in
    let h = hosts_are rules w e lawful v in
    let is = sym (passed_table rules w e v) in
    let last = fold (next rules) (next rules w e) between in
    let own = subst (λ (t : Bindings). IsKnownAs t e.side d.source (sent_from rules w e).0 until) is h.own in
    let far = subst (λ (t : Bindings). IsKnownAs t (other e.side) (sent_to rules w e).0 d.destination until) is h.far in
    record {
      own = known_expired last.table e.side d.source (sent_from rules w e).0 until moment less
          (known_through rules between (next rules w e) e.side d.source (sent_from rules w e).0 until before own);
      far = known_expired last.table (other e.side) (sent_to rules w e).0 d.destination until moment less
          (known_through rules between (next rules w e) (other e.side) (sent_to rules w e).0 d.destination until before far);
    }
