-- The walk over the addresses of a message.
use Rattle.std.proofs.Common.{◌≡◌, ℕ, ◌-◌, ◌≤◌, Bool, true, false, List, [], ◌∷◌, ◌++◌, length, Option, Some, None, option_map, option_to_list, unwrap_or, IsSome, inr, refl, ap, subst, ◌∙◌, sym, arith, append-nil, if◌then◌else◌}
use Rattle.std.proofs.lemmas.Option.{same_Some}
use Rattle.gate_base.specs.Prelude.{◌>>=◌}
use Rattle.snmp_gateway.specs.declared.message.SnmpKind.{SnmpKind}
use Rattle.snmp_gateway.specs.declared.outline.Outline.{Outline}
use Rattle.snmp_gateway.specs.declared.part.Part.{Part}
use Rattle.snmp_gateway.specs.Message.{binding, bindings, outline_of, places_ahead, message, kind_of, places_of}
use Rattle.snmp_gateway.specs.Inside.Walk.{is_at_end, StandsIn, Passes}
use Rattle.snmp_gateway.specs.Renaming.{renamed_at, renamed}
use Rattle.snmp_gateway.proofs.Reading.{message_by, binding_leaves, bindings_next, bindings_stop}
use Rattle.snmp_gateway.proofs.Kept.{renamed_differs, bindings_same}
use Rattle.snmp_gateway.proofs.Whole.{outline_stands}

-- bindings without an address that a walk came past
pub record Walks (octets : List ℕ) (old now : Outline) : Type 0 where
  pub agent : now.agent ≡ None
  pub same : places_ahead octets old ≡ places_ahead octets now
  pub kind : now.kind ≡ old.kind
  pub start : old.bindings.start ≤ now.bindings.start
  pub end : now.bindings.end ≡ old.bindings.end
  pub ordered : now.bindings.start ≤ now.bindings.end

none_first : (first : Option ℕ) (o : Option (List ℕ)) → first ≡ None → (o >>= λ places. Some (option_to_list first ++ places)) ≡ o
none_first None None e = refl
none_first None (Some places) e = refl
none_first (Some place) o e = absurd cc

pub walks_next : (octets : List ℕ) (old now : Outline) (found : Option ℕ × Part) → Walks octets old now
    → binding octets now.kind now.bindings ≡ Some found → found.0 ≡ None
    → Walks octets old (record { kind = now.kind; agent = now.agent; bindings = found.1 })
walks_next octets old now found walks e none =
    let leaves = binding_leaves octets now.kind now.bindings found e in
    record {
      agent = walks.agent;
      same = walks.same ∙ ap (λ o. o >>= λ places. Some (option_to_list now.agent ++ places))
          (bindings_next octets now.kind now.bindings found e ∙ none_first found.0 (bindings octets now.kind found.1) none);
      kind = walks.kind;
      start = omega (arith, walks.start, leaves.some);
      end = leaves.end ∙ walks.end;
      ordered = leaves.ordered;
    }

two_firsts : (first second : Option ℕ) (o : Option (List ℕ)) → first ≡ None
    → (o >>= (λ places. Some (option_to_list second ++ places)) >>= λ places. Some (option_to_list first ++ places))
    ≡ option_map (λ more. option_to_list second ++ more) (o >>= λ places. Some (option_to_list first ++ places))
two_firsts None second None e = refl
two_firsts None second (Some places) e = refl
two_firsts (Some place) second o e = absurd cc

pub walks_found : (octets : List ℕ) (old now : Outline) (found : Option ℕ × Part) → Walks octets old now
    → binding octets now.kind now.bindings ≡ Some found → places_ahead octets old ≡ option_map (λ more. option_to_list found.0 ++ more)
    (places_ahead octets (record { kind = now.kind; agent = now.agent; bindings = found.1 }))
walks_found octets old now found walks e =
    walks.same
    ∙ ap (λ o. o >>= λ places. Some (option_to_list now.agent ++ places)) (bindings_next octets now.kind now.bindings found e)
    ∙ two_firsts now.agent found.0 (bindings octets now.kind found.1) walks.agent

pub walks_passes : (octets : List ℕ) (old now : Outline) (found : Option ℕ × Part) (place : ℕ) → Walks octets old now
    → binding octets now.kind now.bindings ≡ Some found → found.0 ≡ Some place
    → Passes old place (record { kind = now.kind; agent = now.agent; bindings = found.1 })
walks_passes octets old now found place walks e is =
    let leaves = binding_leaves octets now.kind now.bindings found e in
    let none : length (option_to_list now.agent) ≡ 0 = ap (λ (a : Option ℕ). length (option_to_list a)) walks.agent in
    record {
      agent = walks.agent;
      before = (leaves.inside place is).1;
      less = omega (arith, leaves.some, leaves.end, leaves.ordered, walks.start, walks.end, none);
    }

pub stands_next : (octets : List ℕ) (old now : Outline) (found : Option ℕ × Part) → Walks octets old now → StandsIn (length octets) old
    → binding octets now.kind now.bindings ≡ Some found → StandsIn (length octets) (record { kind = now.kind; agent = now.agent; bindings = found.1 })
stands_next octets old now found walks stands e =
    let leaves = binding_leaves octets now.kind now.bindings found e in
    record {
      agent = λ place is. (let wrong = sym walks.agent ∙ is in absurd cc);
      ordered = leaves.ordered;
      end = omega (arith, leaves.end, leaves.within);
    }

none_mapped : (o : Option (List ℕ)) → o ≡ option_map (λ more. [] ++ more) o
none_mapped None = refl
none_mapped (Some places) = refl

pub walks_stop : (octets : List ℕ) (old now : Outline) → Walks octets old now → binding octets now.kind now.bindings ≡ None
    → places_ahead octets now ≡ (if is_at_end now then Some [] else None)
walks_stop octets old now walks e =
    none_first now.agent (bindings octets now.kind now.bindings) walks.agent ∙ bindings_stop octets now.kind now.bindings e

-- at the start the outline of a message is ahead
pub outline_ahead : (octets : List ℕ) (outline : Outline) → outline_of octets ≡ Some outline → StandsIn (length octets) outline
outline_ahead octets outline e =
    let stands = outline_stands octets outline e in
    record { agent = λ place is. (stands.inside place is).1; ordered = stands.ordered; end = stands.end }

-- octets are a message where what is ahead can be read
pub record Checks (octets : List ℕ) (ahead : Outline) : Type 0 where
  pub stands : StandsIn (length octets) ahead
  pub kind : kind_of octets ≡ option_map (λ places. ahead.kind) (places_ahead octets ahead)

pub checks_first : (octets : List ℕ) (outline : Outline) → outline_of octets ≡ Some outline → Checks octets outline
checks_first octets outline e = record {
  stands = outline_ahead octets outline e;
  kind = ap (option_map (λ m. m.0)) (message_by octets (Some outline) e) ∙ by_places (places_ahead octets outline);
}
  where
    by_places : (o : Option (List ℕ)) → option_map (λ (m : SnmpKind × List ℕ). m.0) (o >>= λ places. Some (outline.kind, places))
        ≡ option_map (λ (places : List ℕ). outline.kind) o
    by_places None = refl
    by_places (Some places) = refl

-- the places of a message, of which its outline is ahead
places_first : (octets : List ℕ) (outline : Outline) → outline_of octets ≡ Some outline → IsSome (message octets)
    → places_ahead octets outline ≡ Some (places_of octets)
places_first octets outline e some = by_places (places_ahead octets outline) refl
  where
    by_places : (o : Option (List ℕ)) → places_ahead octets outline ≡ o → o ≡ Some (places_of octets)
    by_places None is = (let wrong = subst IsSome (message_by octets (Some outline) e ∙ ap (λ o. o >>= λ places. Some (outline.kind, places)) is)
        some in absurd cc)
    by_places (Some places) is =
        sym (ap (λ o. Some (unwrap_or (option_map (λ m. m.1) o) []))
        (message_by octets (Some outline) e ∙ ap (λ o. o >>= λ places. Some (outline.kind, places)) is))

-- what a listing has left to do
pub record Lists (octets before items : List ℕ) (ahead : Outline) : Type 0 where
  pub stands : StandsIn (length octets) ahead
  pub more : List ℕ
  pub items_are : items ≡ before ++ more
  pub all : option_map (λ places. more ++ places) (places_ahead octets ahead) ≡ Some (places_of octets)

pub lists_first : (octets before : List ℕ) (outline : Outline) → outline_of octets ≡ Some outline → IsSome (message octets)
    → Lists octets before before outline
lists_first octets before outline e some = record {
  stands = outline_ahead octets outline e;
  more = [];
  items_are = sym (append-nil before);
  all = sym (none_mapped (places_ahead octets outline)) ∙ places_first octets outline e some;
}

-- what is ahead where all is read: nothing
end_of : {A : Type 0} (f : List ℕ → A) (test : Bool) (o : Option (List ℕ)) (all : A) → option_map f o ≡ Some all
    → o ≡ (if test then Some [] else None) → f [] ≡ all
end_of f true o all is e = same_Some _ _ (sym (ap (option_map f) e) ∙ is)
end_of f false o all is e = (let wrong = sym (ap (option_map f) e) ∙ is in absurd cc)

pub lists_last : (octets before items : List ℕ) (old new : Outline) → Lists octets before items old
    → places_ahead octets old ≡ option_map (λ more. [] ++ more) (places_ahead octets new)
    → places_ahead octets new ≡ (if is_at_end new then Some [] else None) → items ≡ before ++ places_of octets
lists_last octets before items old new lists ahead stops =
    lists.items_are
    ∙ ap (λ ps. before ++ ps)
    (sym (append-nil lists.more) ∙ end_of (λ places. lists.more ++ places) (is_at_end new) (places_ahead octets old) (places_of octets) lists.all
    (ahead ∙ sym (none_mapped (places_ahead octets new)) ∙ stops))

-- what a renaming has left to do
pub record Renames (image : ℕ → Option ℕ) (old now : List ℕ) (ahead : Outline) : Type 0 where
  pub stands : StandsIn (length now) ahead
  pub all : option_map (λ places. renamed image places now) (places_ahead now ahead) ≡ Some (renamed image (places_of old) old)

pub renames_first : (image : ℕ → Option ℕ) (old : List ℕ) (outline : Outline) → outline_of old ≡ Some outline → IsSome (message old)
    → Renames image old old outline
renames_first image old outline e some = record {
  stands = outline_ahead old outline e;
  all = ap (option_map (λ places. renamed image places old)) (places_first old outline e some);
}

one_first : (image : ℕ → Option ℕ) (now : List ℕ) (place : ℕ) (more : List ℕ)
    → renamed image ((place ∷ []) ++ more) now ≡ renamed image more (renamed_at image place now)
unfolding renamed
one_first image now place more = refl

-- what is behind an address stays ahead where that is renamed
ahead_same : (image : ℕ → Option ℕ) (now : List ℕ) (old new : Outline) (place : ℕ) → StandsIn (length now) new → Passes old place new
    → (places : List ℕ) → places_ahead now new ≡ Some places → places_ahead (renamed_at image place now) new ≡ Some places
ahead_same image now old new place stands passes places e =
    let part = new.bindings in
    let same = none_first new.agent (bindings now new.kind part) passes.agent in
    let differs = renamed_differs image place now (omega (arith, passes.before, stands.ordered, stands.end)) in
    none_first new.agent (bindings (renamed_at image place now) new.kind part) passes.agent
    ∙ bindings_same place now (renamed_at image place now) differs (part.end - part.start) new.kind part places (sym same ∙ e) (inr passes.before)

pub renames_next : (image : ℕ → Option ℕ) (start now : List ℕ) (old new : Outline) (place : ℕ) → Renames image start now old
    → places_ahead now old ≡ option_map (λ more. (place ∷ []) ++ more) (places_ahead now new) → StandsIn (length now) new → Passes old place new
    → Renames image start (renamed_at image place now) new
renames_next image start now old new place renames ahead stands passes =
    let differs = renamed_differs image place now (omega (arith, passes.before, stands.ordered, stands.end)) in
    record {
      stands = record { agent = stands.agent; ordered = stands.ordered; end = omega (arith, stands.end, differs.size) };
      all = by_places (places_ahead now new) refl;
    }
  where
    by_places : (o : Option (List ℕ)) → places_ahead now new ≡ o → option_map (λ places. renamed image places (renamed_at image place now))
        (places_ahead (renamed_at image place now) new) ≡ Some (renamed image (places_of start) start)
    by_places None is = (let wrong = sym
        (ap (option_map (λ places. renamed image places now)) (ahead ∙ ap (option_map (λ more. (place ∷ []) ++ more)) is)) ∙ renames.all in absurd cc)
    by_places (Some places) is =
        ap (option_map (λ places. renamed image places (renamed_at image place now))) (ahead_same image now old new place stands passes places is)
        ∙ ap Some (sym (one_first image now place places))
        ∙ sym (ap (option_map (λ places. renamed image places now)) (ahead ∙ ap (option_map (λ more. (place ∷ []) ++ more)) is))
        ∙ renames.all

pub none_renamed : (image : ℕ → Option ℕ) (octets : List ℕ) → renamed image [] octets ≡ octets
unfolding renamed
none_renamed image octets = refl

pub renames_last : (image : ℕ → Option ℕ) (start now : List ℕ) (old new : Outline) → Renames image start now old
    → places_ahead now old ≡ option_map (λ more. [] ++ more) (places_ahead now new) → places_ahead now new ≡ (if is_at_end new then Some [] else None)
    → now ≡ renamed image (places_of start) start
renames_last image start now old new renames ahead stops =
    sym (none_renamed image now)
    ∙ end_of (λ places. renamed image places now) (is_at_end new) (places_ahead now old) (renamed image (places_of start) start) renames.all
    (ahead ∙ sym (none_mapped (places_ahead now new)) ∙ stops)
