-- What is read suits its types.
use Rattle.std.proofs.Common.{◌≡◌, ℕ, ◌+◌, ◌≤◌, List, [], ◌∷◌, length, drop, ap, ◌∙◌, arith, inl, inr, ◌==◌, if◌then◌else◌, IfOk, Result, Ok, Err, eqb-true}
use Rattle.dns_names.specs.declared.stop.NameStop.{NameStop}
use Rattle.std.specs.List.{AllByRecursion}
use Rattle.std.proofs.lemmas.List.{length-take-le, length-drop, nil_from_length}
use Rattle.dns_messages.specs.declared.form.Form.{Form}
use Rattle.dns_messages.specs.declared.form.Form.TheVariants as form
use Rattle.dns_messages.specs.declared.message.Content.{Content}
use Rattle.dns_messages.specs.declared.message.Content.TheVariants.{Address, One, Soa, Two, Mx, Octets}
use Rattle.dns_messages.specs.declared.message.Resource.{Resource}
use Rattle.dns_messages.specs.declared.message.Message.{Message}
use Rattle.dns_messages.specs.Forms.{form_of, form_at}
use Rattle.dns_messages.specs.Relation.{OctetsAt, ContentAt, ResourcesAt, IsMessage}
use Rattle.dns_messages.specs.Suits.{Suits, ResourceSuits, MessageSuits}
use Rattle.dns_names.proofs.Walking.{chosen}

not_octets : (count : ℕ) (f g : Form) → (if count == 0 then form.Octets else f) ≡ g → (form.Octets ≡ g → ⊥) → f ≡ g
not_octets count f g e other =
    elim (chosen (count == 0) form.Octets f g e) [
      | inl t ↦ absurd (other t.1)
      | inr t ↦ t.1
    ]

octets-long : (m : List ℕ) (place count : ℕ) (octets : List ℕ) → OctetsAt m place count octets → length octets ≡ count
octets-long m place count octets a =
    let there : count ≤ length (drop place m) = omega (arith, length-drop place m, a.within) in
    ap length a.are ∙ length-take-le count (drop place m) there

content-suits : (m : List ℕ) (kind class count place : ℕ) (x : Content) → ContentAt m (form_at kind class count) place (place + count) x
    → Suits (form_of kind class) x
content-suits m kind class count place (Address a) r = not_octets count (form_of kind class) form.Address r.0 (λ e. cc)
content-suits m kind class count place (One n) r = not_octets count (form_of kind class) form.One r.0 (λ e. cc)
content-suits m kind class count place (Soa n k octets) r =
    (not_octets count (form_of kind class) form.Soa r.0 (λ e. cc), octets-long m r.1.1 20 octets r.1.4)
content-suits m kind class count place (Two n k) r = not_octets count (form_of kind class) form.Two r.0 (λ e. cc)
content-suits m kind class count place (Mx p n) r = not_octets count (form_of kind class) form.Mx r.0 (λ e. cc)
content-suits m kind class count place (Octets octets) r =
    elim (chosen (count == 0) form.Octets (form_of kind class) form.Octets r.0) [
      | inl t ↦
          let none : r.1.0 ≡ 0 = omega (arith, eqb-true count 0 t.0, r.1.2) in
          inl (nil_from_length octets (octets-long m place r.1.0 octets r.1.1 ∙ none))
      | inr t ↦ inr t.1
    ]

resources-suit : (m : List ℕ) (place : ℕ) (rs : List Resource) (after : ℕ) → ResourcesAt m place rs after → AllByRecursion ResourceSuits rs
resources-suit m place [] after at = tt
resources-suit m place (r ∷ rs) after at =
    (content-suits m r.kind r.class at.1.count (at.1.fields + 10) r.content at.1.content, resources-suit m at.0 rs after at.2)

message-suits : (o : List ℕ) (m : Message) → IsMessage o m → MessageSuits m
message-suits o m is = record {
  answers = resources-suit o is.p m.answers is.q is.answers;
  authority = resources-suit o is.q m.authority is.r is.authority;
  additional = resources-suit o is.r m.additional (length o) is.additional;
}

pub message-can_be_written : (o : List ℕ) (r : Result Message NameStop) → IfOk r (λ m. IsMessage o m) → IfOk r MessageSuits
message-can_be_written o (Ok m) is = message-suits o m is
message-can_be_written o (Err e) is = tt
