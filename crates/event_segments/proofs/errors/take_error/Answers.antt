use Rattle.std.proofs.Common.{◌≡◌, ◌+◌, [], ◌∷◌, Some, None, refl, sym, ap, ◌∙◌, ℕ, List, Option, ◌||◌, is_none, option_and_then, unwrap_or}
use Rattle.std.specs.Option.{option_flatten}
use Rattle.gate_base.specs.declared.address.Addr.{Addr}
use Rattle.binding_table.specs.Prelude.{Bindings, seen, after_uses}
use Rattle.twice_translate.specs.Renamed.{datagram_of, renamed}
use Rattle.icmp_errors.specs.Inner.{read_inner, inner_with}
use Rattle.gate_model.specs.Prelude.{inside, with_inside, uses_until}
use Rattle.gate_model.specs.declared.timeouts.TheConstants.{ICMP_TIMEOUT}
use Rattle.event_payloads.specs.Prelude.{image_by}
use Rattle.event_segments.proofs.ErrorsTaken.{IsKnown, inner_read, error_bad, error_unseen, error_unknown, error_empty, error_passes}
use Rattle.event_segments.proofs.errors.take_error.Goals as goal

pub returns-in_default : goal.returns-in_default
returns-in_default g c = record {
  taken = λ live t s w.
      error_bad g.S.Session.rules live c.args.way.now.side
      (datagram_of c.args.octets.now) c.args.inside.now c.in_default.field-0 c.args.table.now c.args.outbox.now c.requires.inside
      (sym c.inner_of.ensures ∙ c.in_default.is) (sym t) c.requires.empty;
}

pub returns-in_default-seen : goal.returns-in_default-seen
returns-in_default-seen g c = record {
  taken = λ live t s w.
      let d = datagram_of c.args.octets.now in
      let side = c.args.way.now.side in
      let read = inner_read (inside d) c.in-Ok.inner (ap read_inner (sym c.requires.inside) ∙ sym c.inner_of.ensures ∙ c.in-Ok.is) in
      let none : seen live.table side c.in-Ok.inner.source ≡ None = ap (λ (x : Bindings). seen x side c.in-Ok.inner.source) t ∙ sym c.seen.ensures
      ∙ c.in_default-seen.is in
      error_unseen g.S.Session.rules live side d c.in-Ok.inner c.args.table.now c.args.outbox.now read
      (ap (λ (o : Option Addr). is_none o || is_none (seen live.table side c.in-Ok.inner.destination)) none) (sym t) c.requires.empty;
}

pub returns-in_default-seen-2 : goal.returns-in_default-seen-2
returns-in_default-seen-2 g c = record {
  taken = λ live t s w.
      let d = datagram_of c.args.octets.now in
      let side = c.args.way.now.side in
      let read = inner_read (inside d) c.in-Ok.inner (ap read_inner (sym c.requires.inside) ∙ sym c.inner_of.ensures ∙ c.in-Ok.is) in
      let some : seen live.table side c.in-Ok.inner.source ≡ Some c.in-Some.source = ap (λ (x : Bindings). seen x side c.in-Ok.inner.source) t
      ∙ sym c.seen.ensures ∙ c.in-Some.is in
      let none : seen live.table side c.in-Ok.inner.destination ≡ None = ap (λ (x : Bindings). seen x side c.in-Ok.inner.destination) t
      ∙ sym c.seen-2.ensures ∙ c.in_default-seen-2.is in
      error_unseen g.S.Session.rules live side d c.in-Ok.inner c.args.table.now c.args.outbox.now read
      (ap (λ (o : Option Addr). is_none o || is_none (seen live.table side c.in-Ok.inner.destination)) some ∙ ap is_none none)
      (sym t) c.requires.empty;
}

pub returns-then-is_unknown : goal.returns-then-is_unknown
returns-then-is_unknown g c = record {
  taken = λ live t s w.
      let d = datagram_of c.args.octets.now in
      let side = c.args.way.now.side in
      let source_is : seen live.table side c.in-Ok.inner.source ≡ Some c.in-Some.source = ap (λ (x : Bindings). seen x side c.in-Ok.inner.source) t
      ∙ sym c.seen.ensures ∙ c.in-Some.is in
      let known : IsKnown g.S.Session.rules live side d c.in-Ok.inner c.in-Some.source c.in-Some-seen.destination c.inner_number-number.result =
      record {
        read = inner_read (inside d) c.in-Ok.inner (ap read_inner (sym c.requires.inside) ∙ sym c.inner_of.ensures ∙ c.in-Ok.is);
        source_is = source_is;
        destination_is = ap (λ (x : Bindings). seen x side c.in-Ok.inner.destination) t ∙ sym c.seen-2.ensures ∙ c.in-Some-seen.is;
        number_is = c.inner_number-number.ensures live s (ap (λ (o : Option Addr). unwrap_or o c.in-Ok.inner.source) source_is);
      } in
      error_unknown g.S.Session.rules live side d c.args.way.now c.in-Ok.inner c.in-Some.source c.in-Some-seen.destination
      c.inner_number-number.result c.args.table.now c.args.outbox.now w known (sym c.is_unknown.ensures ∙ c.if-is_unknown.true)
      (sym t) c.requires.empty;
}

pub returns-then-lacks_alias : goal.returns-then-lacks_alias
returns-then-lacks_alias g c = record {
  taken = λ live t s w.
      let d = datagram_of c.args.octets.now in
      let side = c.args.way.now.side in
      let source_is : seen live.table side c.in-Ok.inner.source ≡ Some c.in-Some.source = ap (λ (x : Bindings). seen x side c.in-Ok.inner.source) t
      ∙ sym c.seen.ensures ∙ c.in-Some.is in
      let known : IsKnown g.S.Session.rules live side d c.in-Ok.inner c.in-Some.source c.in-Some-seen.destination c.inner_number-number.result =
      record {
        read = inner_read (inside d) c.in-Ok.inner (ap read_inner (sym c.requires.inside) ∙ sym c.inner_of.ensures ∙ c.in-Ok.is);
        source_is = source_is;
        destination_is = ap (λ (x : Bindings). seen x side c.in-Ok.inner.destination) t ∙ sym c.seen-2.ensures ∙ c.in-Some-seen.is;
        number_is = c.inner_number-number.ensures live s (ap (λ (o : Option Addr). unwrap_or o c.in-Ok.inner.source) source_is);
      } in
      error_empty g.S.Session.rules live side d c.args.way.now c.in-Ok.inner c.in-Some.source c.in-Some-seen.destination c.inner_number-number.result
      c.args.table.now c.args.outbox.now w known (sym c.is_unknown.ensures ∙ c.if-is_unknown.false)
      (sym c.lacks_alias.ensures ∙ c.if-lacks_alias.true) (sym t) c.requires.empty;
}

flatten_is : (number : Option (Option ℕ)) → option_flatten number ≡ option_and_then (λ n. n) number
flatten_is None = refl
flatten_is (Some number) = refl

pub returns : goal.returns
returns g c = record {
  taken = λ live t s w.
      let d = datagram_of c.args.octets.now in
      let way = c.args.way.now in
      let side = way.side in
      let number = c.inner_number-number.result in
      let source_is : seen live.table side c.in-Ok.inner.source ≡ Some c.in-Some.source = ap (λ (x : Bindings). seen x side c.in-Ok.inner.source) t
      ∙ sym c.seen.ensures ∙ c.in-Some.is in
      let known : IsKnown g.S.Session.rules live side d c.in-Ok.inner c.in-Some.source c.in-Some-seen.destination number = record {
        read = inner_read (inside d) c.in-Ok.inner (ap read_inner (sym c.requires.inside) ∙ sym c.inner_of.ensures ∙ c.in-Ok.is);
        source_is = source_is;
        destination_is = ap (λ (x : Bindings). seen x side c.in-Ok.inner.destination) t ∙ sym c.seen-2.ensures ∙ c.in-Some-seen.is;
        number_is = c.inner_number-number.ensures live s (ap (λ (o : Option Addr). unwrap_or o c.in-Ok.inner.source) source_is);
      } in
      let R : Option ℕ → Addr → Addr → List (List ℕ) =
      λ n a b. renamed (with_inside d (inner_with (inside d) c.in-Some.source.0 c.in-Some-seen.destination.0 n)) a.0 b.0 ∷ [] in
      error_passes g.S.Session.rules live side d way c.in-Ok.inner c.in-Some.source c.in-Some-seen.destination number c.use_both.new.table
      c.put_error.new.outbox w known (sym c.is_unknown.ensures ∙ c.if-is_unknown.false) (sym c.lacks_alias.ensures ∙ c.if-lacks_alias.false)
      (c.use_both.ensures
      ∙ ap (λ (x : Bindings). after_uses x (uses_until side (way.moment.0 + ICMP_TIMEOUT) (way.source ∷ way.destination ∷ []))) (sym t))
      (c.put_error.ensures
      ∙ ap (λ (n : Option ℕ). R n c.source_image.result c.destination_image.result) (c.flatten.ensures ∙ flatten_is number)
      ∙ ap (λ (a : Addr). R (option_and_then (λ n. n) number) a c.destination_image.result) c.source_image.ensures
      ∙ ap (R (option_and_then (λ n. n) number) (image_by way.of_source way.source)) c.destination_image.ensures);
}
