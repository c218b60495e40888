-- Reading the parts of a message or of a record, of which one may stop.
use Rattle.std.proofs.Common.{◌≡◌, ◌≢◌, ◌∙◌, ℕ, ◌+◌, true, false, eqb, List, length, Option, Some, None, refl, ap, subst, sym, Result, Ok, Err, eq-eqb, ne_eqb}
use Rattle.std.specs.Result.{IsErrAnd}
use Rattle.dns_names.specs.declared.stop.NameStop.{NameStop}
use Rattle.dns_names.specs.declared.stop.NameStop.TheVariants.{BadDns, OutOfMemory}
use Rattle.dns_names.specs.Prelude.{Fails, ReturnsRead, name_at}
use Rattle.dns_messages.specs.declared.form.Form.{Form}
use Rattle.dns_messages.specs.declared.message.Content.{Content}
use Rattle.dns_messages.specs.declared.message.Question.{Question}
use Rattle.dns_messages.specs.declared.message.Resource.{Resource}
use Rattle.gate_base.specs.Prelude.{◌>>=◌}
use Rattle.dns_messages.specs.Forms.{form_at}
use Rattle.dns_messages.specs.Reading.{number_at, octets_at, content_by, resource_at, resources_at, questions_at, message_at}
use Rattle.dns_messages.proofs.Exact.{body_at, octets-is}

-- an error that is handed on says of the whole what it says of a part
pub handed_on : {X Y : Type 0} (view : X → Y) (r : Result X NameStop) (s : NameStop) (read : Option Y) → IsErrAnd r (λ e. e ≡ s) → Fails s read
    → ReturnsRead view r read
handed_on view (Ok x) s read is fails = absurd is
handed_on view (Err e) s read is fails = rw is fails

-- a part that isn't read leaves the whole unread
stops : {A B : Type 0} (s : NameStop) (part : Option A) (f : A → Option B) → Fails s part → Fails s (part >>= f)
stops BadDns part f fails = rw fails refl
stops OutOfMemory part f fails = tt

-- the header is read, and the body is still to be read
pub record Header (m : List ℕ) (id flags asked answered backed added : ℕ × ℕ) : Type 0 where
  pub is : message_at m ≡ body_at m id flags asked answered backed added

-- the six numbers of a header make it
pub header_read : (m : List ℕ) (id flags asked answered backed added : ℕ × ℕ) → number_at 2 m 0 ≡ Some id → number_at 2 m id.1 ≡ Some flags
    → number_at 2 m flags.1 ≡ Some asked → number_at 2 m asked.1 ≡ Some answered → number_at 2 m answered.1 ≡ Some backed
    → number_at 2 m backed.1 ≡ Some added
    → Header m id flags asked answered backed added
unfolding message_at
header_read m id flags asked answered backed added a b c d e f = record { is = rw (a, b, c, d, e, f) refl }

-- and one part after the other behind it, by a reader that keeps its octets
module _ (m : List ℕ) (id flags asked answered backed added : ℕ × ℕ) (header : Header m id flags asked answered backed added) where
  -- the question isn't read
  pub no_question : (s : NameStop) → Fails s (questions_at asked.0 m added.1) → Fails s (message_at m)
  no_question s fails = rw header.is (stops s (questions_at asked.0 m added.1) _ fails)

  module _ (m1 : List ℕ) (q : Option Question × ℕ) (question : questions_at asked.0 m added.1 ≡ Some q) (stays1 : m1 ≡ m) where
    -- the answers aren't read
    pub no_answers : (s : NameStop) → Fails s (resources_at answered.0 m1 q.1) → Fails s (message_at m)
    no_answers s fails = rw (header.is, question)
        (stops s (resources_at answered.0 m q.1) _ (subst (λ (o : List ℕ). Fails s (resources_at answered.0 o q.1)) stays1 fails))

    module _ (m2 : List ℕ) (a : List Resource × ℕ) (answers : resources_at answered.0 m1 q.1 ≡ Some a) (stays2 : m2 ≡ m1) where
      -- the answers are there
      there2 : resources_at answered.0 m q.1 ≡ Some a
      there2 = subst (λ (o : List ℕ). resources_at answered.0 o q.1 ≡ Some a) stays1 answers

      -- the authority records aren't read
      pub no_authority : (s : NameStop) → Fails s (resources_at backed.0 m2 a.1) → Fails s (message_at m)
      no_authority s fails = rw (header.is, question, there2)
          (stops s (resources_at backed.0 m a.1) _ (subst (λ (o : List ℕ). Fails s (resources_at backed.0 o a.1)) (stays2 ∙ stays1) fails))

      module _ (m3 : List ℕ) (b : List Resource × ℕ) (authority : resources_at backed.0 m2 a.1 ≡ Some b) (stays3 : m3 ≡ m2) where
        -- the authority records are there
        there3 : resources_at backed.0 m a.1 ≡ Some b
        there3 = subst (λ (o : List ℕ). resources_at backed.0 o a.1 ≡ Some b) (stays2 ∙ stays1) authority

        -- the additional records aren't read
        pub no_additional : (s : NameStop) → Fails s (resources_at added.0 m3 b.1) → Fails s (message_at m)
        no_additional s fails = rw (header.is, question, there2, there3)
            (stops s (resources_at added.0 m b.1) _ (subst (λ (o : List ℕ). Fails s (resources_at added.0 o b.1)) (stays3 ∙ stays2 ∙ stays1) fails))

        module _ (m4 : List ℕ) (d : List Resource × ℕ) (additional : resources_at added.0 m3 b.1 ≡ Some d) (stays4 : m4 ≡ m3) where
          -- the additional records are there
          there4 : resources_at added.0 m b.1 ≡ Some d
          there4 = subst (λ (o : List ℕ). resources_at added.0 o b.1 ≡ Some d) (stays3 ∙ stays2 ∙ stays1) additional

          -- octets stand behind the last record
          pub too_long : d.1 ≢ length m4 → message_at m ≡ None
          too_long other =
              let test : eqb d.1 (length m) ≡ false = ne_eqb d.1 (length m)
              (subst (λ (o : List ℕ). d.1 ≢ length o) (stays4 ∙ stays3 ∙ stays2 ∙ stays1) other) in
              rw (header.is, question, there2, there3, there4, test) refl

          -- none stand there, and all is read
          pub all_read : d.1 ≡ length m4
              → message_at m ≡ Some (record { id = id.0; flags = flags.0; question = q.0; answers = a.0; authority = b.0; additional = d.0 })
          all_read end =
              let test : eqb d.1 (length m) ≡ true = eq-eqb d.1 (length m)
              (subst (λ (o : List ℕ). d.1 ≡ length o) (stays4 ∙ stays3 ∙ stays2 ∙ stays1) end) in
              rw (header.is, question, there2, there3, there4, test) refl

-- a record, of which the name is read by a reader that keeps its octets
module _ (m now : List ℕ) (place : ℕ) (name : List (List ℕ) × ℕ) (named : name_at m place ≡ Some name) (stays : now ≡ m) where
  -- the name by the octets that are kept
  here : name_at now place ≡ Some name
  here = subst (λ (o : List ℕ). name_at o place ≡ Some name) (sym stays) named

  -- what stops by the octets that are kept stops
  same : (s : NameStop) → Fails s (resource_at now place) → Fails s (resource_at m place)
  same s fails = subst (λ (o : List ℕ). Fails s (resource_at o place)) stays fails

  module _ (kind class : ℕ × ℕ) (kind_is : number_at 2 now name.1 ≡ Some kind) (class_is : number_at 2 now kind.1 ≡ Some class) where
    -- the lifetime isn't read
    pub no_lifetime : (s : NameStop) → Fails s (number_at 4 now class.1) → Fails s (resource_at m place)
    unfolding resource_at
    no_lifetime s fails = same s (rw (here, kind_is, class_is) (stops s (number_at 4 now class.1) _ fails))

    module _ (lifetime : ℕ × ℕ) (lifetime_is : number_at 4 now class.1 ≡ Some lifetime) where
      -- the length of the data isn't read
      pub no_count : (s : NameStop) → Fails s (number_at 2 now lifetime.1) → Fails s (resource_at m place)
      unfolding resource_at
      no_count s fails = same s (rw (here, kind_is, class_is, lifetime_is) (stops s (number_at 2 now lifetime.1) _ fails))

      module _ (count : ℕ × ℕ) (count_is : number_at 2 now lifetime.1 ≡ Some count) where
        -- the data aren't all there
        pub no_end : (s : NameStop) → Fails s (octets_at now count.1 count.0) → Fails s (resource_at m place)
        unfolding resource_at
        no_end s fails = same s (rw (here, kind_is, class_is, lifetime_is, count_is) (stops s (octets_at now count.1 count.0) _ fails))

        module _ (rest : List ℕ × ℕ) (rest_is : octets_at now count.1 count.0 ≡ Some rest) (f : Form) (form : f ≡ form_at kind.0 class.0 count.0)
          where
            -- the data end where their length says
            end : rest.1 ≡ count.1 + count.0
            end = (octets-is now count.1 count.0 rest rest_is).1

            -- the form and the end are those of the record
            same_content : content_by f now count.1 rest.1 ≡ content_by (form_at kind.0 class.0 count.0) now count.1 (count.1 + count.0)
            same_content = ap (λ g. content_by g now count.1 rest.1) form ∙ ap (content_by (form_at kind.0 class.0 count.0) now count.1) end

            -- the data aren't read
            pub no_content : (s : NameStop) → Fails s (content_by f now count.1 rest.1) → Fails s (resource_at m place)
            unfolding resource_at
            no_content s fails =
                same s (rw (here, kind_is, class_is, lifetime_is, count_is, rest_is)
                (stops s (content_by (form_at kind.0 class.0 count.0) now count.1 (count.1 + count.0)) _ (subst (Fails s) same_content fails)))

            -- all of it is read
            pub record_read : (x : Content) → content_by f now count.1 rest.1 ≡ Some x
                → resource_at m place ≡ Some (record { name = name.0; kind = kind.0; class = class.0; lifetime = lifetime.0; content = x }, rest.1)
            unfolding resource_at
            record_read x read =
                let there : content_by (form_at kind.0 class.0 count.0) now count.1 (count.1 + count.0) ≡ Some x = sym same_content ∙ read in
                rw (← stays, here, kind_is, class_is, lifetime_is, count_is, rest_is, there) refl
