-- Worlds of related sessions answer alike, and stay related.
use Rattle.std.proofs.Common.{◌≡◌, List, [], ◌∷◌, Option, Some, None, refl, sym, ◌∙◌, ap, fold}
use Rattle.gate_base.specs.Prelude.{Event}
use Rattle.gate_base.specs.declared.address.Addr.{Addr}
use Rattle.verdicts.specs.declared.refusal.Refusal.{Refusal}
use Rattle.gate_base.specs.declared.host.Host.{Host}
use Rattle.gate_settings.specs.declared.settings.Settings.{Settings}
use Rattle.stream_model.specs.Prelude.{Segment}
use Rattle.gate_model.specs.Prelude.{SessionRules, World, opening_world, Reads, Agree, AreRelated, verdict, next, out}
use Rattle.gate_model.specs.Reading.{Both}
use Rattle.gate_model.proofs.ReadWorlds.{verdict_as}
use Rattle.gate_model.proofs.ReadSteps.{next_as, out_as}

-- two related sessions after a segment: they stay as they are where it doesn't pass
abbrev both_after : {S T : Type 0} (R : S → T → Type 0) (a : SessionRules S) (b : SessionRules T) → Agree R a b
    → (i : Addr → Option Addr) (f : Host) (x : Both R) (g : Segment) (v : Option Refusal) → v ≡ a.refusal f x.one g → Both R
both_after R a b agree i f x g None e =
    record { one = a.next i f x.one g; two = b.next i f x.two g; related = agree.next i f x.one x.two g x.related (sym e) }
both_after R a b agree i f x g (Some r) e = x

-- related sessions step together
abbrev pub both_rules : {S T : Type 0} (R : S → T → Type 0) (a : SessionRules S) (b : SessionRules T) → Agree R a b → SessionRules (Both R)
both_rules R a b agree = record {
  made = λ port pair initial mss. record
      { one = a.made port pair initial mss; two = b.made port pair initial mss; related = agree.made port pair initial mss };
  refusal = λ f x g. a.refusal f x.one g;
  units = λ f x g. a.units f x.one g;
  listed = λ f x. a.listed f x.one;
  next = λ i f x g. both_after R a b agree i f x g (a.refusal f x.one g) refl;
  out = λ i f x g. a.out i f x.one g;
  ends = λ f x g. a.ends f x.one g;
  inner = λ f x n. a.inner f x.one n;
  pending = λ x. a.pending x.one;
}

one_after : {S T : Type 0} (R : S → T → Type 0) (a : SessionRules S) (b : SessionRules T) (agree : Agree R a b) (i : Addr → Option Addr) (f : Host)
    (x : Both R) (g : Segment) (v : Option Refusal) (e : v ≡ a.refusal f x.one g) → v ≡ None
    → a.next i f x.one g ≡ (both_after R a b agree i f x g v e).one
one_after R a b agree i f x g None e n = refl
one_after R a b agree i f x g (Some r) e n = absurd (cc)

two_after : {S T : Type 0} (R : S → T → Type 0) (a : SessionRules S) (b : SessionRules T) (agree : Agree R a b) (i : Addr → Option Addr) (f : Host)
    (x : Both R) (g : Segment) (v : Option Refusal) (e : v ≡ a.refusal f x.one g) → v ≡ None
    → b.next i f x.two g ≡ (both_after R a b agree i f x g v e).two
two_after R a b agree i f x g None e n = refl
two_after R a b agree i f x g (Some r) e n = absurd (cc)

pub first_reads : {S T : Type 0} (R : S → T → Type 0) (a : SessionRules S) (b : SessionRules T) (agree : Agree R a b)
    → Reads (λ (x : Both R). x.one) (both_rules R a b agree) a
first_reads R a b agree = record {
  made = λ port pair initial mss. refl;
  refusal = λ f x g. refl;
  units = λ f x g n. refl;
  listed = λ f x. refl;
  next = λ i f x g n. one_after R a b agree i f x g (a.refusal f x.one g) refl n;
  out = λ i f x g n. refl;
  ends = λ f x g. refl;
  inner = λ f x n. refl;
  pending = λ x. refl;
}

pub second_reads : {S T : Type 0} (R : S → T → Type 0) (a : SessionRules S) (b : SessionRules T) (agree : Agree R a b)
    → Reads (λ (x : Both R). x.two) (both_rules R a b agree) b
second_reads R a b agree = record {
  made = λ port pair initial mss. refl;
  refusal = λ f x g. agree.refusal f x.one x.two g x.related;
  units = λ f x g n. agree.units f x.one x.two g x.related n;
  listed = λ f x. agree.listed f x.one x.two x.related;
  next = λ i f x g n. two_after R a b agree i f x g (a.refusal f x.one g) refl n;
  out = λ i f x g n. agree.out i f x.one x.two g x.related n;
  ends = λ f x g. agree.ends f x.one x.two g x.related;
  inner = λ f x n. agree.inner f x.one x.two n x.related;
  pending = λ x. agree.pending x.one x.two x.related;
}

pub related_verdict : {S T : Type 0} (R : S → T → Type 0) (a : SessionRules S) (b : SessionRules T) → Agree R a b → (w : World S) (v : World T)
    → AreRelated R w v → (e : Event) → verdict b v e ≡ verdict a w e
related_verdict R a b agree w v h e =
    ap (λ x. verdict b x e) (sym h.two) ∙ verdict_as (λ (x : Both R). x.two) (both_rules R a b agree) b (second_reads R a b agree) h.pairs e
    ∙ sym (verdict_as (λ (x : Both R). x.one) (both_rules R a b agree) a (first_reads R a b agree) h.pairs e) ∙ ap (λ x. verdict a x e) h.one

pub related_out : {S T : Type 0} (R : S → T → Type 0) (a : SessionRules S) (b : SessionRules T) → Agree R a b → (w : World S) (v : World T)
    → AreRelated R w v → (e : Event) → out b v e ≡ out a w e
related_out R a b agree w v h e =
    ap (λ x. out b x e) (sym h.two) ∙ out_as (λ (x : Both R). x.two) (both_rules R a b agree) b (second_reads R a b agree) h.pairs e
    ∙ sym (out_as (λ (x : Both R). x.one) (both_rules R a b agree) a (first_reads R a b agree) h.pairs e) ∙ ap (λ x. out a x e) h.one

pub related_next : {S T : Type 0} (R : S → T → Type 0) (a : SessionRules S) (b : SessionRules T) → Agree R a b → (w : World S) (v : World T)
    → AreRelated R w v → (e : Event) → AreRelated R (next a w e) (next b v e)
related_next R a b agree w v h e = record {
  pairs = next (both_rules R a b agree) h.pairs e;
  one = sym (next_as (λ (x : Both R). x.one) (both_rules R a b agree) a (first_reads R a b agree) h.pairs e) ∙ ap (λ x. next a x e) h.one;
  two = sym (next_as (λ (x : Both R). x.two) (both_rules R a b agree) b (second_reads R a b agree) h.pairs e) ∙ ap (λ x. next b x e) h.two;
}

pub related_run : {S T : Type 0} (R : S → T → Type 0) (a : SessionRules S) (b : SessionRules T) → Agree R a b
    → (events : List Event) (w : World S) (v : World T) → AreRelated R w v → AreRelated R (fold (next a) w events) (fold (next b) v events)
related_run R a b agree [] w v h = h
related_run R a b agree (e ∷ events) w v h = related_run R a b agree events (next a w e) (next b v e) (related_next R a b agree w v h e)

pub opening_related : {S T : Type 0} (R : S → T → Type 0) (settings : Settings) → AreRelated R (opening_world settings) (opening_world settings)
opening_related R settings = record { pairs = opening_world settings; one = refl; two = refl }
