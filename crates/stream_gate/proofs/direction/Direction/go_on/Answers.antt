use Rattle.std.proofs.Common.{◌≡◌, ◌≤◌, ◌<◌, ◌+◌, ◌-◌, ◌^◌, ℕ, Bool, true, List, ◌++◌, length, drop, refl, sym, ◌∙◌, ap, subst, arith, rules, tests, Option, Some, None, is_none, ◌&&◌}
use Rattle.std.proofs.lemmas.Bool.{true≢false}
use Rattle.dialogue.specs.Prelude.{Meaning}
use Rattle.shift_ledger.specs.Prelude.{Kept, IsButForSpare, in_from}
use Rattle.dialogue.specs.Places.{end_from}
use Rattle.compact_stream.specs.Prelude.{CompactSender, went_on, all_pushed}
use Rattle.stream_gate.specs.declared.plan.Plan.{Plan}
use Rattle.stream_gate.specs.Prelude.{DirectionKept, kept_by, PlansFrom, plain_until, pushes_by}
use Rattle.stream_gate.proofs.ToCome.{bare_from}
use Rattle.stream_gate.proofs.PlanIs.{IsPlanOf, plan_is}
use Rattle.stream_gate.proofs.TakenLemmas.{CanTake, can_take, Rooms, rooms, Went, went_by, went_held, held_len, last_more}
use Rattle.stream_gate.proofs.direction.Direction.go_on.Given.{Over}
use Rattle.stream_gate.proofs.direction.Direction.go_on.Goals as goal
use Rattle.stream_gate.proofs.direction.Direction.go_on.Goals.{After-last-follows}

both : (o : Option ℕ) (b : Bool) → true ≡ (is_none o && b) → (o ≡ None) × (b ≡ true)
both None b e = (refl, sym e)
both (Some n) b e = absurd (true≢false e)

module _ (g : Over) (c : After-last-follows g) where
  abbrev m : Meaning
  m = g.D.Dialogue.meaning c.self.inside.dialogue

  abbrev h : CompactSender
  h =
      kept_by c.self.inside.mss c.self.inside.initial c.self.inside.ended c.self.inside.acked c.self.inside.held c.self.inside.released
      c.self.inside.ledger c.self.inside.recent

  abbrev t : List ℕ
  t = c.args.fresh.now

  can : CanTake m h t
  can =
      let some : 1 ≤ length t = search (rules, tests) in
      can_take g.D.Dialogue.meaning _ _ t c.self.view_is c.self.invariant.1 c.requires.open c.requires.recent c.requires.limit some

  -- what is planned
  follows : c.last-follows.result.now ≡ h.rest ++ t
  follows =
      c.last-follows.ensures
      ∙ ap (λ (u : List ℕ). drop (length u - (c.self.inside.held + length t)) u) (c.octets.ensures.octets ∙ c.push.ensures)
      ∙ last_more c.self.inside.held c.self.inside.recent t c.self.invariant.0

  planned : (p : Plan) → PlansFrom m c.last-follows.result.now (plain_until m c.self.inside.released c.last-follows.result.now) p → IsPlanOf m h t p
  planned p plan =
      plan_is m
      (g.met.D.Dialogue.lawful c.self.inside.dialogue) h c.self.invariant.1.octets t p can.open_is c.self.invariant.1.range.acked
      c.self.invariant.1.keeps
      (subst (λ (u : List ℕ). PlansFrom m u (plain_until m h.released u) p) follows plan)

  fits : (p : Plan) → PlansFrom m c.last-follows.result.now (plain_until m c.self.inside.released c.last-follows.result.now) p → Rooms m h p
  fits p plan = rooms m (g.met.D.Dialogue.lawful c.self.inside.dialogue) h t p can (planned p plan)

  went : (p : Plan) (l n : Kept) → PlansFrom m c.last-follows.result.now (plain_until m c.self.inside.released c.last-follows.result.now) p
      → IsButForSpare c.self.inside.ledger l → IsButForSpare (all_pushed l (pushes_by p.changed.items p.plain)) n
      → Went m h t p.held
      (kept_by c.self.inside.mss c.self.inside.initial c.self.inside.ended c.self.inside.acked p.held p.released n c.push.new.self)
  went p l n plan same after =
      went_by m (g.met.D.Dialogue.lawful c.self.inside.dialogue) h l n c.push.new.self t p can (planned p plan)
      (sym (bare_from c.self.inside.ledger l same)) after c.push.ensures

  held : 1 ≤ c.self.inside.held → true ≡ (is_none (m.first_end c.last-follows.result.now) && m.holds c.last-follows.result.now)
      → Went m h t (c.self.inside.held + length t)
      (kept_by c.self.inside.mss c.self.inside.initial c.self.inside.ended c.self.inside.acked
      (c.self.inside.held + length t) c.self.inside.released c.self.inside.ledger c.push.new.self)
  held some waits =
      let w : (m.first_end (h.rest ++ t) ≡ None) × (m.holds (h.rest ++ t) ≡ true) =
      both _ _ (subst (λ (u : List ℕ). true ≡ (is_none (m.first_end u) && m.holds u)) follows waits) in
      went_held m (g.met.D.Dialogue.lawful c.self.inside.dialogue) h c.self.inside.ledger c.push.new.self t c.self.inside.held can some
      (held_len c.self.inside.held c.self.inside.recent c.self.invariant.0) w.0 w.1 refl c.push.ensures

  seen : {x : CompactSender} → x ≡ went_on m h t → x ≡ went_on (g.D.Dialogue.meaning c.args.self.now.dialogue) c.args.self.now.kept t
  seen same = same ∙ ap (λ (d : DirectionKept _). went_on (g.D.Dialogue.meaning d.dialogue) d.kept t) c.self.view_is

pub invariant_of-self : goal.invariant_of-self
invariant_of-self g c = (held g (goal.at.invariant_of-self g c).After-last-follows (omega (arith, c.if-self-gt0.true)) (c.if-waits.ensures)).inside

pub returns-then-waits-clause-kept : goal.returns-then-waits-clause-kept
returns-then-waits-clause-kept g c =
    let a = (goal.at.returns-then-waits-clause-kept g c).After-last-follows in
    seen g a (held g a (omega (arith, c.if-self-gt0.true)) (c.if-waits.ensures)).is

pub push_all-requires-clause-room_in : goal.push_all-requires-clause-room_in
push_all-requires-clause-room_in g c =
    let a = (goal.at.push_all-requires-clause-room_in g c).After-last-follows in
    subst (λ (l : Kept). in_from l.octets_in (pushes_by c.in-Ok.plan.changed.items c.in-Ok.plan.plain) < 2 ^ 31)
    (sym (bare_from c.self.inside.ledger c.make_plan.new.ledger c.in-Ok.ensures.ledger)) (fits g a c.in-Ok.plan c.in-Ok.ensures.plan).ins

pub push_all-requires-clause-room_out : goal.push_all-requires-clause-room_out
push_all-requires-clause-room_out g c =
    let a = (goal.at.push_all-requires-clause-room_out g c).After-last-follows in
    subst (λ (l : Kept). end_from l.octets_out (pushes_by c.in-Ok.plan.changed.items c.in-Ok.plan.plain) < 2 ^ 31)
    (sym (bare_from c.self.inside.ledger c.make_plan.new.ledger c.in-Ok.ensures.ledger)) (fits g a c.in-Ok.plan c.in-Ok.ensures.plan).outs

pub invariant_of-self-in-Ok : goal.invariant_of-self-in-Ok
invariant_of-self-in-Ok g c =
    let a = (goal.at.invariant_of-self-in-Ok g c).After-last-follows in
    let w = went g a c.in-Ok.plan c.make_plan.new.ledger c.push_all.new.ledger c.in-Ok.ensures.plan c.in-Ok.ensures.ledger c.push_all.ensures in
    rw c.in-Ok.ensures.dialogue w.inside

pub returns-in-Ok-clause-kept : goal.returns-in-Ok-clause-kept
returns-in-Ok-clause-kept g c =
    let a = (goal.at.returns-in-Ok-clause-kept g c).After-last-follows in
    seen g a (went g a c.in-Ok.plan c.make_plan.new.ledger c.push_all.new.ledger c.in-Ok.ensures.plan c.in-Ok.ensures.ledger c.push_all.ensures).is
