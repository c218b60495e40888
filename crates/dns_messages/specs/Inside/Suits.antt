-- What only proofs and private contracts need beside `Suits`.
use Rattle.std.specs.Prelude.{◌≡◌, ◌<◌, ◌^◌, [], length, IfSome}
use Rattle.std.specs.List.{AllByRecursion}
use Rattle.dns_names.specs.Prelude.{IsName}
use Rattle.dns_messages.specs.declared.message.Content.{Content}
use Rattle.dns_messages.specs.declared.message.Content.TheVariants.{Address, One, Soa, Two, Mx, Octets}
use Rattle.dns_messages.specs.declared.message.Question.{Question}
use Rattle.dns_messages.specs.declared.message.Resource.{Resource}
use Rattle.dns_messages.specs.declared.message.Message.{Message}

-- at most a question
abbrev pub HasNoRecords : Message → Type 0
HasNoRecords m = (m.answers ≡ []) × (m.authority ≡ []) × (m.additional ≡ [])

-- What is known of each value: names are names, and numbers fit.

abbrev pub ContentFits : Content → Type 0
ContentFits (Address a) = a.0 < 2 ^ 32
ContentFits (One n) = IsName n
ContentFits (Soa n m octets) = IsName n × IsName m
ContentFits (Two n m) = IsName n × IsName m
ContentFits (Mx p n) = (p < 2 ^ 16) × IsName n
ContentFits (Octets octets) = Unit {0}

pub record ResourceFits (r : Resource) : Type 0 where
  pub name : IsName r.name
  pub kind : r.kind < 2 ^ 16
  pub class : r.class < 2 ^ 16
  pub lifetime : r.lifetime < 2 ^ 32
  pub content : ContentFits r.content

pub record QuestionFits (q : Question) : Type 0 where
  pub name : IsName q.name
  pub kind : q.kind < 2 ^ 16
  pub class : q.class < 2 ^ 16

pub record MessageFits (m : Message) : Type 0 where
  pub id : m.id < 2 ^ 16
  pub flags : m.flags < 2 ^ 16
  pub question : IfSome m.question QuestionFits
  pub answers_count : length m.answers < 2 ^ 16
  pub authority_count : length m.authority < 2 ^ 16
  pub additional_count : length m.additional < 2 ^ 16
  pub answers : AllByRecursion ResourceFits m.answers
  pub authority : AllByRecursion ResourceFits m.authority
  pub additional : AllByRecursion ResourceFits m.additional
