use Rattle.std.proofs.Common.{◌≡◌, ◌+◌, arith, sym, ap, subst, min}
use Rattle.dialogue.specs.Prelude.{cut}
use Rattle.shift_ledger.specs.Prelude.{Kept, StandsFor}
use Rattle.compact_stream.specs.Prelude.{sent_pushes}
use Rattle.compact_stream.proofs.PlacesKept.{sender_back, sender_back_end}
use Rattle.compact_stream.proofs.places.back_acknowledged.Goals as goal

pub returns-then-acknowledged-octets_out : goal.returns-then-acknowledged-octets_out
returns-then-acknowledged-octets_out c = λ m h a law i k ledger held acked.
    let out : h.ledger.octets_out ≡ c.args.ledger.now.octets_out = ap (λ (l : Kept). l.octets_out) ledger in
    sender_back m law h a c.args.acknowledged c.back.result k (sym acked) (omega (arith, c.if-acknowledged-octets_out.true, c.octets_out.ensures))
    (λ st low high. c.back.ensures.stands _ _
    (subst (λ (l : Kept). StandsFor l (sent_pushes m h.ended (cut m a.octets)) (min h.acked h.ledger.octets_out)) ledger st) low (omega arith))

pub returns : goal.returns
returns c = λ m h a law i k ledger held acked.
    let out : h.ledger.octets_out ≡ c.args.ledger.now.octets_out = ap (λ (l : Kept). l.octets_out) ledger in
    let in_is : h.ledger.octets_in ≡ c.args.ledger.now.octets_in = ap (λ (l : Kept). l.octets_in) ledger in
    sender_back_end m law h a (c.octets_in.result + c.from.result + 1) k i
    (omega (arith, c.if-acknowledged-octets_out.false, c.octets_out.ensures))
    (omega (arith, c.octets_in.ensures, c.from.ensures))
