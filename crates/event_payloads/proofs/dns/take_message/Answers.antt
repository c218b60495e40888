use Rattle.std.proofs.Common.{◌≡◌, ◌∷◌, List, ℕ, Vec, Global, Option, Some, IfSome, option_map, sym, ap, subst, ◌∙◌, arith, unwrap_or, nat_lt, drop, is_none}
use Rattle.gate_base.specs.Prelude.{other}
use Rattle.gate_base.specs.declared.address.Addr.{Addr}
use Rattle.binding_table.specs.Prelude.{free, is_settled, after_uses, images_after, needed}
use Rattle.dns_messages.specs.Reading.{message_at}
use Rattle.twice_translate.specs.Renamed.{datagram_of}
use Rattle.gate_model.specs.Prelude.{carried, message_in, named_in, has_unbound, reply_by}
use Rattle.event_payloads.specs.Prelude.{named_uses, plain_rules}
use Rattle.event_payloads.proofs.DnsTaken.{all_bound, all_used, short_payload, names_passed}
use Rattle.event_payloads.proofs.SnmpTaken.{no_items}
use Rattle.event_payloads.proofs.dns.take_message.Goals as goal

pub planned_images-requires : goal.planned_images-requires
planned_images-requires c =
    let table = c.args.table.now in
    let way = c.args.received.way.now in
    let named = c.in_ok-named.named.items in
    let addresses = c.deref-3.ensures.value ∙ c.in_ok-addresses.ensures
    ∙ ap (λ (xs : List Addr). way.source ∷ way.destination ∷ xs) c.deref-2.ensures.value in
    let none = ap (has_unbound table way.side) (sym c.deref.ensures.value) ∙ sym c.has_unbound.ensures ∙ c.if-has_unbound.false in
    record {
      bound =
          all_bound table way.side way.source way.destination named c.deref-3.result.now addresses c.requires.outside
          (ap is_settled (sym c.requires.way.destination) ∙ c.requires.settled) none;
    }

pub reply_by-requires-clause-few : goal.reply_by-requires-clause-few
reply_by-requires-clause-few c =
    short_payload c.args.received.datagram.now.octets.now c.args.received.datagram.now.payload.now c.requires.whole.few c.requires.whole.same

pub returns-clause-taken : goal.returns-clause-taken
returns-clause-taken c = λ live same w.
    let table = c.args.table.now in
    let way = c.args.received.way.now in
    let d = datagram_of c.args.received.datagram.now.octets.now in
    let m = c.args.message.now in
    let named = c.in_ok-named.named.items in
    let uses = named_uses way.side way.moment.0 way.source way.destination named in
    let addresses = c.in_ok-addresses.ensures ∙ ap (λ (xs : List Addr). way.source ∷ way.destination ∷ xs) c.deref-2.ensures.value in
    let none = ap (has_unbound table way.side) (sym c.deref.ensures.value) ∙ sym c.has_unbound.ensures ∙ c.if-has_unbound.false in
    let room = ap (λ (xs : List Addr). nat_lt (free table (other way.side)) (needed table way.side xs)) (sym (c.deref-3.ensures.value ∙ addresses))
    ∙ sym c.in_ok-images.ensures.none ∙ ap is_none c.in-Some.is in
    let octets : List ℕ → List ℕ = λ payload. unwrap_or (option_map (λ (v : Vec ℕ Global). v.items) c.in_ok-reply.reply) payload in
    let P : List ℕ → Type 0 = λ payload. octets payload ≡ reply_by (drop 2 (images_after table uses)) payload (Some m) in
    let message = ap message_at (sym c.requires.whole.same) ∙ c.requires.message in
    let planned =
    c.in_ok-images.ensures.images uses
    (all_used way.side way.moment.0 way.source way.destination named c.deref-3.result.now (c.deref-3.ensures.value ∙ addresses)) in
    let images : c.deref-4.result.now ≡ images_after table uses = c.deref-4.ensures.value
    ∙ subst (λ (o : Option (Vec (Option Addr) Global)). IfSome o (λ v. v.items ≡ images_after table uses)) c.in-Some.is planned in
    let answer =
    subst P c.requires.whole.same
    (c.in_ok-reply.ensures.is
    ∙ ap (λ (xs : List (Option Addr)). reply_by (drop 2 xs) c.args.received.datagram.now.payload.now (Some m)) images) in
    names_passed plain_rules live way.side d m named way table c.pass_names.new.table
    (octets (carried d)) c.pass_names.new.outbox same w message c.in_ok-named.ensures none room
    (c.pass_names.ensures.table
    ∙ ap (λ (xs : List Addr). after_uses table (named_uses way.side way.moment.0 way.source way.destination xs)) c.deref-5.ensures.value)
    answer
    c.pass_names.ensures.out

pub returns-then-is_empty-clause-taken : goal.returns-then-is_empty-clause-taken
returns-then-is_empty-clause-taken c = λ live same w.
    let d = datagram_of c.args.received.datagram.now.octets.now in
    let message : message_in d ≡ Some c.args.message.now = ap message_at (sym c.requires.whole.same) ∙ c.requires.message in
    let none = no_items c.in_ok-named.named.items (grind (arith, c.in_ok-named.named.ok, c.is_empty.ensures, c.if-is_empty.true)) in
    c.take_unnamed.ensures.taken live same w (ap is_none message) (ap named_in message ∙ sym c.in_ok-named.ensures ∙ none)
