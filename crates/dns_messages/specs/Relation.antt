-- Which message octets are (RFC 1035, 4.1).
use Rattle.std.specs.Prelude.{◌≡◌, ℕ, ◌+◌, ◌≤◌, List, [], ◌∷◌, length, take, drop, Option, Some, None}
use Rattle.byteorder.specs.Endian.{big_number}
use Rattle.dns_names.specs.Prelude.{NameAt}
use Rattle.dns_messages.specs.declared.form.Form.{Form}
use Rattle.dns_messages.specs.declared.form.Form.TheVariants as form
use Rattle.dns_messages.specs.declared.message.Content.{Content}
use Rattle.dns_messages.specs.declared.message.Content.TheVariants.{Address, One, Soa, Two, Mx, Octets}
use Rattle.dns_messages.specs.declared.message.Question.{Question}
use Rattle.dns_messages.specs.declared.message.Resource.{Resource}
use Rattle.dns_messages.specs.declared.message.Message.{Message}
use Rattle.dns_messages.specs.Forms.{form_at}

-- So many octets stand at a place.
pub record OctetsAt (m : List ℕ) (place count : ℕ) (octets : List ℕ) : Type 0 where
  pub within : place + count ≤ length m
  pub are : octets ≡ take count (drop place m)

-- A number of so many octets stands at a place.
pub record NumberAt (count : ℕ) (m : List ℕ) (place n : ℕ) : Type 0 where
  pub within : place + count ≤ length m
  pub is : n ≡ big_number count (drop place m)

-- Data of a form stands from a place to an end.
abbrev pub ContentAt : List ℕ → Form → ℕ → ℕ → Content → Type 0
ContentAt m f place end (Address a) = (f ≡ form.Address) × NumberAt 4 m place a.0 × (end ≡ place + 4)
ContentAt m f place end (One n) = (f ≡ form.One) × NameAt m place n end
ContentAt m f place end (Soa n k octets) = (f ≡ form.Soa)
    × ((p : ℕ) × (q : ℕ) × NameAt m place n p × NameAt m p k q × OctetsAt m q 20 octets × (end ≡ q + 20))
ContentAt m f place end (Two n k) = (f ≡ form.Two) × ((p : ℕ) × NameAt m place n p × NameAt m p k end)
ContentAt m f place end (Mx preference n) = (f ≡ form.Mx) × NumberAt 2 m place preference × NameAt m (place + 2) n end
ContentAt m f place end (Octets octets) = (f ≡ form.Octets) × ((count : ℕ) × OctetsAt m place count octets × (end ≡ place + count))

-- A record: its name, type, class, lifetime and length, and the data of that length.
pub record ResourceAt (m : List ℕ) (place : ℕ) (r : Resource) (after : ℕ) : Type 0 where
  pub fields : ℕ
  pub count : ℕ
  pub name : NameAt m place r.name fields
  pub kind : NumberAt 2 m fields r.kind
  pub class : NumberAt 2 m (fields + 2) r.class
  pub lifetime : NumberAt 4 m (fields + 4) r.lifetime
  pub count_is : NumberAt 2 m (fields + 8) count
  pub within : fields + 10 + count ≤ length m
  pub content : ContentAt m (form_at r.kind r.class count) (fields + 10) (fields + 10 + count) r.content
  pub after_is : after ≡ fields + 10 + count

-- Records, one behind the other.
abbrev pub ResourcesAt : List ℕ → ℕ → List Resource → ℕ → Type 0
ResourcesAt m place [] after = after ≡ place
ResourcesAt m place (r ∷ rs) after = (p : ℕ) × ResourceAt m place r p × ResourcesAt m p rs after

-- A question: its name, type and class.
pub record QuestionAt (m : List ℕ) (place : ℕ) (q : Question) (after : ℕ) : Type 0 where
  pub fields : ℕ
  pub name : NameAt m place q.name fields
  pub kind : NumberAt 2 m fields q.kind
  pub class : NumberAt 2 m (fields + 2) q.class
  pub after_is : after ≡ fields + 4

-- At most one question, and how many.
abbrev pub QuestionsAt : List ℕ → ℕ → Option Question → ℕ → ℕ → Type 0
QuestionsAt m place None count after = (count ≡ 0) × (after ≡ place)
QuestionsAt m place (Some q) count after = (count ≡ 1) × QuestionAt m place q after

-- The octets are the message, each of them: nothing stands behind it.
pub record IsMessage (o : List ℕ) (m : Message) : Type 0 where
  pub asked : ℕ
  pub id : NumberAt 2 o 0 m.id
  pub flags : NumberAt 2 o 2 m.flags
  pub asked_is : NumberAt 2 o 4 asked
  pub answers_count : NumberAt 2 o 6 (length m.answers)
  pub authority_count : NumberAt 2 o 8 (length m.authority)
  pub additional_count : NumberAt 2 o 10 (length m.additional)
  pub p : ℕ
  pub q : ℕ
  pub r : ℕ
  pub question : QuestionsAt o 12 m.question asked p
  pub answers : ResourcesAt o p m.answers q
  pub authority : ResourcesAt o q m.authority r
  pub additional : ResourcesAt o r m.additional (length o)
