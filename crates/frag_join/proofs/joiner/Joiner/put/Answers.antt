use Rattle.std.proofs.Common.{◌≡◌, Some, None, slice_get, set, sym, ap, ◌∙◌}
use Rattle.gate_base.specs.Prelude.{event_of}
use Rattle.frag_join.specs.declared.part.Part.{Part}
use Rattle.frag_join.specs.declared.taken.Taken.TheVariants.{Held, Joined}
use Rattle.frag_join.specs.Prelude.{Coverage, State, Step, put_at}
use Rattle.frag_join.proofs.PutSteps.{with_kept, good-there, complete-there, put-held, put-joined}
use Rattle.frag_join.proofs.joiner.Joiner.put.Goals as goal

pub put-requires : goal.put-requires
put-requires c =
    good-there c.self.inside.parts.items c.args.self.now.parts c.args.place c.index_mut-part.result.now c.args.fragment.now
    (ap (λ (s : State Coverage). s.parts) c.self.view_is) c.requires.within c.index_mut-part.ensures.value c.requires.good

-- a datagram that isn't complete is held
held : (c : goal.Then-not-is_complete) (part : Part Coverage) → slice_get c.args.self.now.parts c.args.place ≡ Some part
    → record {
      answer = Held;
      state = record { parts = set c.self.inside.parts.items c.args.place (with_kept c.index_mut-part.result.now c.put.new.self); joined = None };
    }
    ≡ put_at c.args.self.now.parts c.args.place (event_of c.args.event.now) part
held c part there =
    put-held c.self.inside.parts.items c.args.self.now.parts c.args.place (event_of c.args.event.now) part c.index_mut-part.result.now c.put.new.self
    c.args.fragment.now
    (ap (λ (s : State Coverage). s.parts) c.self.view_is) there c.index_mut-part.ensures.value c.put.ensures c.requires.fragment
    (sym c.is_complete.ensures ∙ c.if-not-is_complete.true)

pub returns-then-not-is_complete-clause-answer : goal.returns-then-not-is_complete-clause-answer
returns-then-not-is_complete-clause-answer c part there = ap (λ (s : Step Coverage). s.answer) (held c part there)

pub returns-then-not-is_complete-clause-state : goal.returns-then-not-is_complete-clause-state
returns-then-not-is_complete-clause-state c part there =
    let none : c.self.inside.joined ≡ None = ap (λ (s : State Coverage). s.joined) c.self.view_is ∙ c.requires.joined in
    ap (λ j. record { parts = set c.self.inside.parts.items c.args.place (with_kept c.index_mut-part.result.now c.put.new.self); joined = j }) none
    ∙ ap (λ (s : Step Coverage). s.state) (held c part there)

pub of-requires : goal.of-requires
of-requires c =
    complete-there c.self.inside.parts.items c.args.self.now.parts c.args.place c.index_mut-part.result.now c.remove-part.result c.put.new.self
    (ap (λ (s : State Coverage). s.parts) c.self.view_is) c.requires.within c.remove-part.ensures.value
    (sym c.is_complete.ensures ∙ c.if-not-is_complete.false)

-- one that is complete is joined
joined : (c : goal.Joined-self) (part : Part Coverage) → slice_get c.args.self.now.parts c.args.place ≡ Some part
    → record { answer = Joined; state = record { parts = c.remove-part.new.self.items; joined = Some c.of.result } }
    ≡ put_at c.args.self.now.parts c.args.place (event_of c.args.event.now) part
joined c part there =
    put-joined c.self.inside.parts.items c.args.self.now.parts c.args.place (event_of c.args.event.now) part c.index_mut-part.result.now
    c.put.new.self c.args.fragment.now
    (ap (λ (s : State Coverage). s.parts) c.self.view_is) there c.index_mut-part.ensures.value c.put.ensures c.requires.fragment
    c.remove-part.new.self.items c.remove-part.result c.of.result (sym c.is_complete.ensures ∙ c.if-not-is_complete.false) c.remove-part.ensures.items
    c.remove-part.ensures.value c.of.ensures

pub returns-clause-answer : goal.returns-clause-answer
returns-clause-answer c part there = ap (λ (s : Step Coverage). s.answer) (joined c part there)

pub returns-clause-state : goal.returns-clause-state
returns-clause-state c part there = ap (λ (s : Step Coverage). s.state) (joined c part there)
