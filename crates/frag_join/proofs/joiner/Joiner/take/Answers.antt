use Rattle.std.proofs.Common.{◌≡◌, None, IsSome, subst, sym, ap, ◌∙◌}
use Rattle.gate_base.specs.Prelude.{event_of}
use Rattle.frag_join.specs.declared.taken.Taken.TheVariants.{Plain}
use Rattle.frag_join.specs.Prelude.{Coverage, State, Step, by_known, fragment_step, step}
use Rattle.frag_join.proofs.StepLemmas.{joined-there, step-fragment, step-plain}
use Rattle.frag_join.proofs.joiner.Joiner.take.Goals as goal

pub returns-in-Some : goal.returns-in-Some
returns-in-Some c =
    let parts = c.drop_ended.new.parts.items in
    let e = event_of c.args.event.now in
    let is : fragment_step by_known parts e ≡ step by_known c.args.self.now e =
    step-fragment c.args.self.now c.give_back.new.self c.self.inside.parts.items parts e c.give_back.ensures
    (ap (λ (s : State Coverage). s.parts) c.self.view_is) c.drop_ended.ensures.parts (sym c.in-Some.ensures.is) in
    record {
      answer = c.take_fragment.ensures.answer ∙ ap (λ (s : Step Coverage). s.answer) is;
      state = c.take_fragment.ensures.state ∙ ap (λ (s : Step Coverage). s.state) is;
      joined = λ joined. subst (λ (s : State Coverage). IsSome s.joined) (sym c.take_fragment.ensures.state)
          (joined-there by_known parts e (sym c.take_fragment.ensures.answer ∙ joined));
    }

pub returns-in-None : goal.returns-in-None
returns-in-None c =
    let parts = c.drop_ended.new.parts.items in
    let e = event_of c.args.event.now in
    let none : c.self.inside.joined ≡ None = ap (λ (s : State Coverage). s.joined) (c.self.view_is ∙ c.give_back.ensures) in
    let is : record { answer = Plain; state = record { parts = parts; joined = None } } ≡ step by_known c.args.self.now e =
    step-plain c.args.self.now c.give_back.new.self c.self.inside.parts.items parts e c.give_back.ensures
    (ap (λ (s : State Coverage). s.parts) c.self.view_is) c.drop_ended.ensures.parts (sym c.in-None.ensures.is) in
    record {
      answer = ap (λ (s : Step Coverage). s.answer) is;
      state = ap (λ j. record { parts = parts; joined = j }) none ∙ ap (λ (s : Step Coverage). s.state) is;
      joined = λ joined. absurd cc;
    }
