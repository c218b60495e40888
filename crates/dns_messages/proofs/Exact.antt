-- What reading gives is what the octets are, and no other message is it.
use Rattle.std.proofs.Common.{◌≡◌, ℕ, zero, suc, ◌+◌, ◌-◌, Bool, true, false, cond, ltb, eqb, List, [], ◌∷◌, length, take, drop, Option, Some, None, refl, sym, ap, subst, ◌∙◌, arith, inl, inr, IfOk, Result, Ok, Err, le-ltb, ltb-false, eq-eqb, eqb-true}
use Rattle.dns_names.specs.Prelude.{ReturnsRead, NameAt, name_at}
use Rattle.dns_names.specs.declared.stop.NameStop.{NameStop}
use Rattle.dns_names.specs.declared.stop.NameStop.TheVariants.{BadDns, OutOfMemory}
use Rattle.std.proofs.lemmas.Option.{cond_some}
use Rattle.dns_names.proofs.Walking.{chosen}
use Rattle.dns_names.proofs.Walks.{name_at-finds, name_at-is}
use Rattle.dns_messages.specs.declared.form.Form.{Form}
use Rattle.dns_messages.specs.declared.form.Form.TheVariants as form
use Rattle.dns_messages.specs.declared.message.Content.{Content}
use Rattle.dns_messages.specs.declared.message.Content.TheVariants.{Address, One, Soa, Two, Mx, Octets}
use Rattle.dns_messages.specs.declared.message.Question.{Question}
use Rattle.dns_messages.specs.declared.message.Resource.{Resource}
use Rattle.dns_messages.specs.declared.message.Message.{Message}
use Rattle.byteorder.specs.Endian.{big_number}
use Rattle.gate_base.specs.Prelude.{◌>>=◌}
use Rattle.gate_base.proofs.Quads.{bind_some}
use Rattle.dns_messages.specs.Forms.{form_at}
use Rattle.dns_messages.specs.Reading.{number_at, octets_at, ending, content_by, resource_at, resources_at, question_at, questions_at, message_at}
use Rattle.dns_messages.specs.Relation.{OctetsAt, NumberAt, ContentAt, ResourceAt, ResourcesAt, QuestionAt, QuestionsAt, IsMessage}

-- ---- from the relation to the function

number-read : (w : ℕ) (m : List ℕ) (place n : ℕ) → NumberAt w m place n → number_at w m place ≡ Some (n, place + w)
number-read w m place n a =
    let test : ltb (length m) (place + w) ≡ false = le-ltb _ _ a.within in
    rw test (ap (λ (k : ℕ). Some (k, place + w)) (sym a.is))

octets-read : (m : List ℕ) (place count : ℕ) (octets : List ℕ) → OctetsAt m place count octets
    → octets_at m place count ≡ Some (octets, place + count)
octets-read m place count octets a =
    let test : ltb (length m) (place + count) ≡ false = le-ltb _ _ a.within in
    rw test (ap (λ (k : List ℕ). Some (k, place + count)) (sym a.are))

pub ends : (after end : ℕ) (x : Content) → after ≡ end → ending end after x ≡ Some x
ends after end x e =
    let test : eqb after end ≡ true = eq-eqb _ _ e in
    rw test refl

content-read : (m : List ℕ) (f : Form) (place end : ℕ) (x : Content) → ContentAt m f place end x → content_by f m place end ≡ Some x
unfolding content_by
content-read m f place end (Address a) r = rw (r.0, number-read 4 m place a.0 r.1, ends (place + 4) end (Address a) (sym r.2)) refl
content-read m f place end (One n) r = rw (r.0, name_at-finds m place n end r.1, ends end end (One n) refl) refl
content-read m f place end (Soa n k octets) r =
    let s = r.1 in
    rw (
      r.0,
      name_at-finds m place n s.0 s.2,
      name_at-finds m s.0 k s.1 s.3,
      octets-read m s.1 20 octets s.4,
      ends (s.1 + 20) end (Soa n k octets) (sym s.5),
    ) refl
content-read m f place end (Two n k) r =
    let s = r.1 in
    rw (r.0, name_at-finds m place n s.0 s.1, name_at-finds m s.0 k end s.2, ends end end (Two n k) refl) refl
content-read m f place end (Mx p n) r = rw (r.0, number-read 2 m place p r.1, name_at-finds m (place + 2) n end r.2, ends end end (Mx p n) refl) refl
content-read m f place end (Octets octets) r =
    let s = r.1 in
    let count : end - place ≡ s.0 = omega (arith, s.2) in
    rw (r.0, count, octets-read m place s.0 octets s.1, ends (place + s.0) end (Octets octets) (sym s.2)) refl

number-there : (w : ℕ) (m : List ℕ) (p q n : ℕ) → p ≡ q → NumberAt w m p n → number_at w m q ≡ Some (n, q + w)
number-there w m p q n e a = number-read w m q n (subst (λ (k : ℕ). NumberAt w m k n) e a)

resource-read : (m : List ℕ) (place : ℕ) (e : Resource) (after : ℕ) → ResourceAt m place e after → resource_at m place ≡ Some (e, after)
unfolding resource_at
resource-read m place e after r =
    let f = r.fields in
    let start : f + 10 ≡ f + 2 + 2 + 4 + 2 = omega arith in
    let end : f + 10 + r.count ≡ f + 2 + 2 + 4 + 2 + r.count = omega arith in
    let kind = number-read 2 m f e.kind r.kind in
    let class = number-read 2 m (f + 2) e.class r.class in
    let lifetime = number-there 4 m (f + 4) (f + 2 + 2) e.lifetime (omega arith) r.lifetime in
    let count = number-there 2 m (f + 8) (f + 2 + 2 + 4) r.count (omega arith) r.count_is in
    let there = octets-read m (f + 2 + 2 + 4 + 2) r.count (take r.count (drop (f + 2 + 2 + 4 + 2) m))
    (record { within = omega (arith, r.within); are = refl }) in
    let content : content_by (form_at e.kind e.class r.count) m (f + 2 + 2 + 4 + 2) (f + 2 + 2 + 4 + 2 + r.count) ≡ Some e.content =
    subst (λ (k : ℕ). content_by (form_at e.kind e.class r.count) m k (k + r.count) ≡ Some e.content) start
    (content-read m (form_at e.kind e.class r.count) (f + 10) (f + 10 + r.count) e.content r.content) in
    let last : f + 2 + 2 + 4 + 2 + r.count ≡ after = omega (arith, r.after_is) in
    rw (name_at-finds m place e.name f r.name, kind, class, lifetime, count, there, content, last) refl

resources-read : (m : List ℕ) (place : ℕ) (es : List Resource) (after : ℕ) → ResourcesAt m place es after
    → resources_at (length es) m place ≡ Some (es, after)
unfolding resources_at
resources-read m place [] after r = rw r refl
resources-read m place (e ∷ es) after r = rw (resource-read m place e r.0 r.1, resources-read m r.0 es after r.2) refl

questions-read : (m : List ℕ) (place : ℕ) (q : Option Question) (count after : ℕ) → QuestionsAt m place q count after
    → questions_at count m place ≡ Some (q, after)
unfolding questions_at question_at
questions-read m place None count after r = rw (r.0, r.1) refl
questions-read m place (Some q) count after r =
    let a = r.1 in
    let f = a.fields in
    let last : f + 2 + 2 ≡ after = omega (arith, a.after_is) in
    rw (r.0, name_at-finds m place q.name f a.name, number-read 2 m f q.kind a.kind, number-read 2 m (f + 2) q.class a.class, last) refl

pub message-read : (o : List ℕ) (m : Message) → IsMessage o m → message_at o ≡ Some m
unfolding message_at
message-read o m r =
    let end : eqb (length o) (length o) ≡ true = eq-eqb _ _ refl in
    rw (
      number-read 2 o 0 m.id r.id,
      number-read 2 o 2 m.flags r.flags,
      number-read 2 o 4 r.asked r.asked_is,
      number-read 2 o 6 (length m.answers) r.answers_count,
      number-read 2 o 8 (length m.authority) r.authority_count,
      number-read 2 o 10 (length m.additional) r.additional_count,
      questions-read o 12 m.question r.asked r.p r.question,
      resources-read o r.p m.answers r.q r.answers,
      resources-read o r.q m.authority r.r r.authority,
      resources-read o r.r m.additional (length o) r.additional,
      end,
    ) refl

-- ---- from the function to the relation

guard_none : {A : Type 0} (b : Bool) (x y : A) → cond b None (Some x) ≡ Some y → (b ≡ false) × (x ≡ y)
guard_none true x y e = absurd cc
guard_none false x y e = (refl, cc)

number-is : (w : ℕ) (m : List ℕ) (place : ℕ) (x : ℕ × ℕ) → number_at w m place ≡ Some x → NumberAt w m place x.0 × (x.1 ≡ place + w)
number-is w m place x e =
    let g = guard_none (ltb (length m) (place + w)) (big_number w (drop place m), place + w) x e in
    (record { within = ltb-false _ _ g.0; is = ap (λ (p : ℕ × ℕ). p.0) (sym g.1) }, ap (λ (p : ℕ × ℕ). p.1) (sym g.1))

pub octets-is : (m : List ℕ) (place count : ℕ) (x : List ℕ × ℕ) → octets_at m place count ≡ Some x → OctetsAt m place count x.0
    × (x.1 ≡ place + count)
octets-is m place count x e =
    let g = guard_none (ltb (length m) (place + count)) (take count (drop place m), place + count) x e in
    (record { within = ltb-false _ _ g.0; are = ap (λ (p : List ℕ × ℕ). p.0) (sym g.1) }, ap (λ (p : List ℕ × ℕ). p.1) (sym g.1))

ends-is : (end after : ℕ) (x y : Content) → ending end after x ≡ Some y → (end ≡ after) × (x ≡ y)
ends-is end after x y e = let g = cond_some (eqb after end) x y e in (sym (eqb-true _ _ g.0), g.1)

name-is : (m : List ℕ) (place : ℕ) (x : List (List ℕ) × ℕ) → name_at m place ≡ Some x → NameAt m place x.0 x.1
name-is m place x e = name_at-is m place x.0 x.1 e

name-to : (m : List ℕ) (place end : ℕ) (x : List (List ℕ) × ℕ) → name_at m place ≡ Some x → end ≡ x.1 → NameAt m place x.0 end
name-to m place end x e q = subst (λ (k : ℕ). NameAt m place x.0 k) (sym q) (name-is m place x e)

joined : (a b c : ℕ) → a ≡ b → b ≡ c → a ≡ c
joined a b c p q = p ∙ q

content-is : (m : List ℕ) (f : Form) (place end : ℕ) (x : Content) → content_by f m place end ≡ Some x → ContentAt m f place end x
unfolding content_by
content-is m form.Address place end x e =
    let b = bind_some (number_at 4 m place) (λ a. ending end a.1 (Address (record { 0 = a.0 }))) x e in
    let g = ends-is end b.0.1 (Address (record { 0 = b.0.0 })) x b.2 in
    let n = number-is 4 m place b.0 b.1 in
    subst (λ (y : Content). ContentAt m form.Address place end y) {x = Address (record { 0 = b.0.0 })} g.1
    (refl, n.0, joined end b.0.1 (place + 4) g.0 n.1)
content-is m form.One place end x e =
    let b = bind_some (name_at m place) (λ n. ending end n.1 (One n.0)) x e in
    let g = ends-is end b.0.1 (One b.0.0) x b.2 in
    subst (λ (y : Content). ContentAt m form.One place end y) {x = One b.0.0} g.1 (refl, name-to m place end b.0 b.1 g.0)
content-is m form.Soa place end x e =
    let a = bind_some (name_at m place) (λ n. name_at m n.1 >>= λ k. octets_at m k.1 20 >>= λ o. ending end o.1 (Soa n.0 k.0 o.0)) x e in
    let b = bind_some (name_at m a.0.1) (λ k. octets_at m k.1 20 >>= λ o. ending end o.1 (Soa a.0.0 k.0 o.0)) x a.2 in
    let c = bind_some (octets_at m b.0.1 20) (λ o. ending end o.1 (Soa a.0.0 b.0.0 o.0)) x b.2 in
    let g = ends-is end c.0.1 (Soa a.0.0 b.0.0 c.0.0) x c.2 in
    let o = octets-is m b.0.1 20 c.0 c.1 in
    subst (λ (y : Content). ContentAt m form.Soa place end y) {x = Soa a.0.0 b.0.0 c.0.0} g.1
    (refl, (a.0.1, b.0.1, name-is m place a.0 a.1, name-is m a.0.1 b.0 b.1, o.0, joined end c.0.1 (b.0.1 + 20) g.0 o.1))
content-is m form.Two place end x e =
    let a = bind_some (name_at m place) (λ n. name_at m n.1 >>= λ k. ending end k.1 (Two n.0 k.0)) x e in
    let b = bind_some (name_at m a.0.1) (λ k. ending end k.1 (Two a.0.0 k.0)) x a.2 in
    let g = ends-is end b.0.1 (Two a.0.0 b.0.0) x b.2 in
    subst (λ (y : Content). ContentAt m form.Two place end y) {x = Two a.0.0 b.0.0} g.1
    (refl, (a.0.1, name-is m place a.0 a.1, name-to m a.0.1 end b.0 b.1 g.0))
content-is m form.Mx place end x e =
    let a = bind_some (number_at 2 m place) (λ p. name_at m p.1 >>= λ n. ending end n.1 (Mx p.0 n.0)) x e in
    let b = bind_some (name_at m a.0.1) (λ n. ending end n.1 (Mx a.0.0 n.0)) x a.2 in
    let g = ends-is end b.0.1 (Mx a.0.0 b.0.0) x b.2 in
    let n = number-is 2 m place a.0 a.1 in
    subst (λ (y : Content). ContentAt m form.Mx place end y) {x = Mx a.0.0 b.0.0} g.1
    (refl, n.0, subst (λ (k : ℕ). NameAt m k b.0.0 end) n.1 (name-to m a.0.1 end b.0 b.1 g.0))
content-is m form.Octets place end x e =
    let a = bind_some (octets_at m place (end - place)) (λ o. ending end o.1 (Octets o.0)) x e in
    let g = ends-is end a.0.1 (Octets a.0.0) x a.2 in
    let o = octets-is m place (end - place) a.0 a.1 in
    subst (λ (y : Content). ContentAt m form.Octets place end y) {x = Octets a.0.0} g.1
    (refl, (end - place, o.0, joined end a.0.1 (place + (end - place)) g.0 o.1))

number-from : (w : ℕ) (m : List ℕ) (p q n : ℕ) → p ≡ q → NumberAt w m p n → NumberAt w m q n
number-from w m p q n e a = subst (λ (k : ℕ). NumberAt w m k n) e a

abbrev some : {A : Type 0} → A → Option A
some x = Some x

some_is : {A : Type 0} (x y : A) → some x ≡ some y → x ≡ y
some_is x y e = cc

resource-made : (m : List ℕ) (place : ℕ) (name : List (List ℕ) × ℕ) (kind class lifetime count : ℕ × ℕ) (rest : List ℕ × ℕ) (x : Content)
    → NameAt m place name.0 name.1
    → NumberAt 2 m name.1 kind.0 × (kind.1 ≡ name.1 + 2) → NumberAt 2 m kind.1 class.0 × (class.1 ≡ kind.1 + 2) → NumberAt 4 m class.1 lifetime.0
    × (lifetime.1 ≡ class.1 + 4) → NumberAt 2 m lifetime.1 count.0 × (count.1 ≡ lifetime.1 + 2)
    → OctetsAt m count.1 count.0 rest.0 × (rest.1 ≡ count.1 + count.0) → ContentAt m (form_at kind.0 class.0 count.0) count.1 (count.1 + count.0) x
    → ResourceAt m place (record { name = name.0; kind = kind.0; class = class.0; lifetime = lifetime.0; content = x }) rest.1
resource-made m place name kind class lifetime count rest x n k0 k1 k2 k3 o content =
    let at : count.1 ≡ name.1 + 10 = omega (arith, k0.1, k1.1, k2.1, k3.1) in
    record {
      fields = name.1;
      count = count.0;
      name = n;
      kind = k0.0;
      class = number-from 2 m kind.1 (name.1 + 2) class.0 k0.1 k1.0;
      lifetime = number-from 4 m class.1 (name.1 + 4) lifetime.0 (omega (arith, k0.1, k1.1)) k2.0;
      count_is = number-from 2 m lifetime.1 (name.1 + 8) count.0 (omega (arith, k0.1, k1.1, k2.1)) k3.0;
      within = omega (arith, o.0.within);
      content = subst (λ (k : ℕ). ContentAt m (form_at kind.0 class.0 count.0) k (k + count.0) x) at content;
      after_is = omega (arith, o.1);
    }

resource-is : (m : List ℕ) (place : ℕ) (x : Resource × ℕ) → resource_at m place ≡ Some x → ResourceAt m place x.0 x.1
unfolding resource_at
resource-is m place x e =
    let a = bind_some (name_at m place)
    (λ name. number_at 2 m name.1 >>= λ kind. number_at 2 m kind.1 >>= λ class. number_at 4 m class.1 >>= λ lifetime. number_at 2 m lifetime.1 >>=
    λ count. octets_at m count.1 count.0 >>= λ rest. content_by (form_at kind.0 class.0 count.0) m count.1 (count.1 + count.0) >>= λ y. Some
    (record { name = name.0; kind = kind.0; class = class.0; lifetime = lifetime.0; content = y }, rest.1)) x e in
    let name = a.0 in
    let b = bind_some (number_at 2 m name.1)
    (λ kind. number_at 2 m kind.1 >>= λ class. number_at 4 m class.1 >>= λ lifetime. number_at 2 m lifetime.1 >>= λ count. octets_at m count.1
    count.0 >>= λ rest. content_by (form_at kind.0 class.0 count.0) m count.1 (count.1 + count.0) >>= λ y. Some
    (record { name = name.0; kind = kind.0; class = class.0; lifetime = lifetime.0; content = y }, rest.1)) x a.2 in
    let kind = b.0 in
    let c = bind_some (number_at 2 m kind.1)
    (λ class. number_at 4 m class.1 >>= λ lifetime. number_at 2 m lifetime.1 >>= λ count. octets_at m count.1 count.0 >>= λ rest. content_by
    (form_at kind.0 class.0 count.0) m count.1 (count.1 + count.0) >>= λ y. Some
    (record { name = name.0; kind = kind.0; class = class.0; lifetime = lifetime.0; content = y }, rest.1)) x b.2 in
    let class = c.0 in
    let d = bind_some (number_at 4 m class.1)
    (λ lifetime. number_at 2 m lifetime.1 >>= λ count. octets_at m count.1 count.0 >>= λ rest. content_by (form_at kind.0 class.0 count.0) m
    count.1 (count.1 + count.0) >>= λ y. Some
    (record { name = name.0; kind = kind.0; class = class.0; lifetime = lifetime.0; content = y }, rest.1)) x c.2 in
    let lifetime = d.0 in
    let f = bind_some (number_at 2 m lifetime.1)
    (λ count. octets_at m count.1 count.0 >>= λ rest. content_by (form_at kind.0 class.0 count.0) m count.1 (count.1 + count.0) >>= λ y. Some
    (record { name = name.0; kind = kind.0; class = class.0; lifetime = lifetime.0; content = y }, rest.1)) x d.2 in
    let count = f.0 in
    let g = bind_some (octets_at m count.1 count.0)
    (λ rest. content_by (form_at kind.0 class.0 count.0) m count.1 (count.1 + count.0) >>= λ y. Some
    (record { name = name.0; kind = kind.0; class = class.0; lifetime = lifetime.0; content = y }, rest.1)) x f.2 in
    let rest = g.0 in
    let h = bind_some (content_by (form_at kind.0 class.0 count.0) m count.1 (count.1 + count.0))
    (λ y. Some (record { name = name.0; kind = kind.0; class = class.0; lifetime = lifetime.0; content = y }, rest.1)) x g.2 in
    let made : Resource × ℕ = (record { name = name.0; kind = kind.0; class = class.0; lifetime = lifetime.0; content = h.0 }, rest.1) in
    subst (λ (y : Resource × ℕ). ResourceAt m place y.0 y.1) {x = made} (some_is made x h.2)
    (resource-made m place name kind class lifetime count rest h.0 (name-is m place name a.1)
    (number-is 2 m name.1 kind b.1) (number-is 2 m kind.1 class c.1) (number-is 4 m class.1 lifetime d.1) (number-is 2 m lifetime.1 count f.1)
    (octets-is m count.1 count.0 rest g.1)
    (content-is m (form_at kind.0 class.0 count.0) count.1 (count.1 + count.0) h.0 h.1))

resources-is : (n : ℕ) (m : List ℕ) (place : ℕ) (x : List Resource × ℕ) → resources_at n m place ≡ Some x → (length x.0 ≡ n)
    × ResourcesAt m place x.0 x.1
unfolding resources_at
resources-is zero m place x e =
    let made : List Resource × ℕ = ([], place) in
    subst (λ (y : List Resource × ℕ). (length y.0 ≡ 0) × ResourcesAt m place y.0 y.1) {x = made} (some_is made x e) (refl, refl)
resources-is (suc n) m place x e =
    let a = bind_some (resource_at m place) (λ first. resources_at n m first.1 >>= λ others. Some (first.0 ∷ others.0, others.1)) x e in
    let b = bind_some (resources_at n m a.0.1) (λ others. Some (a.0.0 ∷ others.0, others.1)) x a.2 in
    let made : List Resource × ℕ = (a.0.0 ∷ b.0.0, b.0.1) in
    let rest = resources-is n m a.0.1 b.0 b.1 in
    subst (λ (y : List Resource × ℕ). (length y.0 ≡ suc n) × ResourcesAt m place y.0 y.1) {x = made} (some_is made x b.2)
    (ap suc rest.0, (a.0.1, resource-is m place a.0 a.1, rest.1))

question-is : (m : List ℕ) (place : ℕ) (x : Question × ℕ) → question_at m place ≡ Some x → QuestionAt m place x.0 x.1
unfolding question_at
question-is m place x e =
    let a = bind_some (name_at m place)
    (λ name. number_at 2 m name.1 >>= λ kind. number_at 2 m kind.1 >>= λ class. Some
    (record { name = name.0; kind = kind.0; class = class.0 }, class.1)) x e in
    let b = bind_some (number_at 2 m a.0.1)
    (λ kind. number_at 2 m kind.1 >>= λ class. Some (record { name = a.0.0; kind = kind.0; class = class.0 }, class.1)) x a.2 in
    let c = bind_some (number_at 2 m b.0.1) (λ class. Some (record { name = a.0.0; kind = b.0.0; class = class.0 }, class.1)) x b.2 in
    let made : Question × ℕ = (record { name = a.0.0; kind = b.0.0; class = c.0.0 }, c.0.1) in
    let k0 = number-is 2 m a.0.1 b.0 b.1 in
    let k1 = number-is 2 m b.0.1 c.0 c.1 in
    subst (λ (y : Question × ℕ). QuestionAt m place y.0 y.1) {x = made} (some_is made x c.2)
    (question-made m place a.0 b.0 c.0 (name-is m place a.0 a.1) k0 k1)
  where
    question-made : (m : List ℕ) (place : ℕ) (n : List (List ℕ) × ℕ) (k c : ℕ × ℕ) → NameAt m place n.0 n.1 → NumberAt 2 m n.1 k.0 × (k.1 ≡ n.1 + 2)
        → NumberAt 2 m k.1 c.0 × (c.1 ≡ k.1 + 2) → QuestionAt m place (record { name = n.0; kind = k.0; class = c.0 }) c.1
    question-made m place n k c na k0 k1 =
        record { fields = n.1; name = na; kind = k0.0; class = number-from 2 m k.1 (n.1 + 2) c.0 k0.1 k1.0; after_is = omega (arith, k0.1, k1.1) }

questions-is : (count : ℕ) (m : List ℕ) (place : ℕ) (x : Option Question × ℕ) → questions_at count m place ≡ Some x
    → QuestionsAt m place x.0 count x.1
unfolding questions_at
questions-is count m place x e =
    elim (chosen (eqb count 0) (Some (None, place)) (cond (eqb count 1) (question_at m place >>= λ q. Some (Some q.0, q.1)) None) (Some x) e) [
      | inl t ↦
          let made : Option Question × ℕ = (None, place) in
          subst (λ (y : Option Question × ℕ). QuestionsAt m place y.0 count y.1) {x = made} (some_is made x t.1) (eqb-true _ _ t.0, refl)
      | inr f ↦ elim (chosen (eqb count 1) (question_at m place >>= λ q. Some (Some q.0, q.1)) None (Some x) f.1) [
        | inl t ↦
            let b = bind_some (question_at m place) (λ q. Some (Some q.0, q.1)) x t.1 in
            let made : Option Question × ℕ = (Some b.0.0, b.0.1) in
            subst (λ (y : Option Question × ℕ). QuestionsAt m place y.0 count y.1) {x = made} (some_is made x b.2)
            (eqb-true _ _ t.0, question-is m place b.0 b.1)
        | inr g ↦ absurd (let q : None ≡ some x = g.1 in cc)
      ]
    ]

-- the counts and what they count
message-made : (o : List ℕ) (w : Message) (asked answered backed added : ℕ) (p q r : ℕ) → NumberAt 2 o 0 w.id → NumberAt 2 o 2 w.flags
    → NumberAt 2 o 4 asked → NumberAt 2 o 6 answered → NumberAt 2 o 8 backed → NumberAt 2 o 10 added
    → QuestionsAt o 12 w.question asked p → (length w.answers ≡ answered) × ResourcesAt o p w.answers q → (length w.authority ≡ backed)
    × ResourcesAt o q w.authority r → (length w.additional ≡ added) × ResourcesAt o r w.additional (length o) → IsMessage o w
message-made o w asked answered backed added p q r n0 n1 n2 n3 n4 n5 question xs bs cs = record {
  asked = asked;
  id = n0;
  flags = n1;
  asked_is = n2;
  answers_count = subst (λ (k : ℕ). NumberAt 2 o 6 k) (sym xs.0) n3;
  authority_count = subst (λ (k : ℕ). NumberAt 2 o 8 k) (sym bs.0) n4;
  additional_count = subst (λ (k : ℕ). NumberAt 2 o 10 k) (sym cs.0) n5;
  p = p;
  q = q;
  r = r;
  question = question;
  answers = xs.1;
  authority = bs.1;
  additional = cs.1;
}

places-made : (o : List ℕ) (a b c d e f : ℕ × ℕ) → NumberAt 2 o 0 a.0 × (a.1 ≡ 0 + 2) → NumberAt 2 o a.1 b.0 × (b.1 ≡ a.1 + 2) → NumberAt 2 o b.1 c.0
    × (c.1 ≡ b.1 + 2) → NumberAt 2 o c.1 d.0 × (d.1 ≡ c.1 + 2) → NumberAt 2 o d.1 e.0 × (e.1 ≡ d.1 + 2) → NumberAt 2 o e.1 f.0 × (f.1 ≡ e.1 + 2)
    → NumberAt 2 o 2 b.0 × NumberAt 2 o 4 c.0 × NumberAt 2 o 6 d.0 × NumberAt 2 o 8 e.0 × NumberAt 2 o 10 f.0 × (f.1 ≡ 12)
places-made o a b c d e f na nb nc nd ne nf = (
  number-from 2 o a.1 2 b.0 (omega (arith, na.1)) nb.0,
  number-from 2 o b.1 4 c.0 (omega (arith, na.1, nb.1)) nc.0,
  number-from 2 o c.1 6 d.0 (omega (arith, na.1, nb.1, nc.1)) nd.0,
  number-from 2 o d.1 8 e.0 (omega (arith, na.1, nb.1, nc.1, nd.1)) ne.0,
  number-from 2 o e.1 10 f.0 (omega (arith, na.1, nb.1, nc.1, nd.1, ne.1)) nf.0,
  omega (arith, na.1, nb.1, nc.1, nd.1, ne.1, nf.1),
)

abbrev pub body_at : List ℕ → ℕ × ℕ → ℕ × ℕ → ℕ × ℕ → ℕ × ℕ → ℕ × ℕ → ℕ × ℕ → Option Message
body_at o id flags asked answered backed added = questions_at asked.0 o added.1 >>= λ question. resources_at answered.0 o question.1 >>= λ answers.
    resources_at backed.0 o answers.1 >>= λ authority. resources_at added.0 o authority.1 >>= λ additional. cond (eqb additional.1 (length o))
    (Some (record { id = id.0; flags = flags.0; question = question.0; answers = answers.0; authority = authority.0; additional = additional.0 }))
    None

body-is : (o : List ℕ) (id flags asked answered backed added : ℕ × ℕ) (w : Message) → NumberAt 2 o 0 id.0 → NumberAt 2 o 2 flags.0
    × NumberAt 2 o 4 asked.0 × NumberAt 2 o 6 answered.0 × NumberAt 2 o 8 backed.0 × NumberAt 2 o 10 added.0 × (added.1 ≡ 12)
    → body_at o id flags asked answered backed added ≡ Some w → IsMessage o w
body-is o id flags asked answered backed added w n0 h proof =
    let b6 = bind_some (questions_at asked.0 o added.1)
    (λ question. resources_at answered.0 o question.1 >>= λ answers. resources_at backed.0 o answers.1 >>= λ authority. resources_at added.0 o
    authority.1 >>= λ additional. cond (eqb additional.1 (length o))
    (Some (record { id = id.0; flags = flags.0; question = question.0; answers = answers.0; authority = authority.0; additional = additional.0 }))
    None) w proof in
    let b7 = bind_some (resources_at answered.0 o b6.0.1)
    (λ answers. resources_at backed.0 o answers.1 >>= λ authority. resources_at added.0 o authority.1 >>= λ additional. cond
    (eqb additional.1 (length o))
    (Some (record { id = id.0; flags = flags.0; question = b6.0.0; answers = answers.0; authority = authority.0; additional = additional.0 }))
    None) w b6.2 in
    let b8 = bind_some (resources_at backed.0 o b7.0.1)
    (λ authority. resources_at added.0 o authority.1 >>= λ additional. cond (eqb additional.1 (length o))
    (Some (record { id = id.0; flags = flags.0; question = b6.0.0; answers = b7.0.0; authority = authority.0; additional = additional.0 })) None)
    w b7.2 in
    let b9 = bind_some (resources_at added.0 o b8.0.1)
    (λ additional. cond (eqb additional.1 (length o))
    (Some (record { id = id.0; flags = flags.0; question = b6.0.0; answers = b7.0.0; authority = b8.0.0; additional = additional.0 })) None) w
    b8.2 in
    let made : Message = record { id = id.0; flags = flags.0; question = b6.0.0; answers = b7.0.0; authority = b8.0.0; additional = b9.0.0 } in
    let g = cond_some (eqb b9.0.1 (length o)) made w b9.2 in
    let xs = resources-is answered.0 o b6.0.1 b7.0 b7.1 in
    let ys = resources-is backed.0 o b7.0.1 b8.0 b8.1 in
    let zs = resources-is added.0 o b8.0.1 b9.0 b9.1 in
    let last : ResourcesAt o b8.0.1 b9.0.0 (length o) = subst (λ (k : ℕ). ResourcesAt o b8.0.1 b9.0.0 k) {x = b9.0.1} (eqb-true b9.0.1 (length o) g.0)
    zs.1 in
    let question : QuestionsAt o 12 b6.0.0 asked.0 b6.0.1 = subst (λ (k : ℕ). QuestionsAt o k b6.0.0 asked.0 b6.0.1) {x = added.1} h.5
    (questions-is asked.0 o added.1 b6.0 b6.1) in
    subst (λ (y : Message). IsMessage o y) {x = made} g.1
    (message-made o made asked.0 answered.0 backed.0 added.0 b6.0.1 b7.0.1 b8.0.1 n0 h.0 h.1 h.2 h.3 h.4 question xs ys (zs.0, last))

pub message-is : (o : List ℕ) (w : Message) → message_at o ≡ Some w → IsMessage o w
unfolding message_at
message-is o w proof =
    let b0 = bind_some (number_at 2 o 0)
    (λ id. number_at 2 o id.1 >>= λ flags. number_at 2 o flags.1 >>= λ asked. number_at 2 o asked.1 >>= λ answered. number_at 2 o answered.1 >>=
    λ backed. number_at 2 o backed.1 >>= λ added. body_at o id flags asked answered backed added) w proof in
    let b1 = bind_some (number_at 2 o b0.0.1)
    (λ flags. number_at 2 o flags.1 >>= λ asked. number_at 2 o asked.1 >>= λ answered. number_at 2 o answered.1 >>= λ backed. number_at 2 o
    backed.1 >>= λ added. body_at o b0.0 flags asked answered backed added) w b0.2 in
    let b2 = bind_some (number_at 2 o b1.0.1)
    (λ asked. number_at 2 o asked.1 >>= λ answered. number_at 2 o answered.1 >>= λ backed. number_at 2 o backed.1 >>= λ added. body_at o b0.0 b1.0
    asked answered backed added) w b1.2 in
    let b3 = bind_some (number_at 2 o b2.0.1)
    (λ answered. number_at 2 o answered.1 >>= λ backed. number_at 2 o backed.1 >>= λ added. body_at o b0.0 b1.0 b2.0 answered backed added) w
    b2.2 in
    let b4 = bind_some (number_at 2 o b3.0.1) (λ backed. number_at 2 o backed.1 >>= λ added. body_at o b0.0 b1.0 b2.0 b3.0 backed added) w b3.2 in
    let b5 = bind_some (number_at 2 o b4.0.1) (λ added. body_at o b0.0 b1.0 b2.0 b3.0 b4.0 added) w b4.2 in
    let n0 = number-is 2 o 0 b0.0 b0.1 in
    let h = places-made o b0.0 b1.0 b2.0 b3.0 b4.0 b5.0 n0 (number-is 2 o b0.0.1 b1.0 b1.1) (number-is 2 o b1.0.1 b2.0 b2.1)
    (number-is 2 o b2.0.1 b3.0 b3.1) (number-is 2 o b3.0.1 b4.0 b4.1) (number-is 2 o b4.0.1 b5.0 b5.1) in
    body-is o b0.0 b1.0 b2.0 b3.0 b4.0 b5.0 w n0.0 h b5.2

-- ---- what the reader returned

no_message : (o : List ℕ) (w : Message) → message_at o ≡ None → IsMessage o w → ⊥
no_message o w e is = let q : some w ≡ None = sym (message-read o w is) ∙ e in cc

pub message-found : {X : Type 0} (view : X → Message) (o : List ℕ) (r : Result X NameStop) → ReturnsRead view r (message_at o)
    → IfOk r (λ x. IsMessage o (view x))
message-found view o (Ok x) g = message-is o (view x) g
message-found view o (Err e) g = tt

pub message-none : {X : Type 0} (view : X → Message) (o : List ℕ) (r : Result X NameStop) → ReturnsRead view r (message_at o) → r ≡ Err BadDns
    → (w : Message) → IsMessage o w → ⊥
message-none view o (Ok x) g e w is = absurd cc
message-none view o (Err BadDns) g e w is = no_message o w g is
message-none view o (Err OutOfMemory) g e w is = absurd cc
