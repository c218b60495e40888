use Rattle.std.proofs.Common.{◌≡◌, ℕ, List, take, sym, ap, subst, ◌∙◌, arith, length-take-le, is_ok}
use Rattle.ipv4_frames.specs.Ipv4.{Datagram, total_length_of}
use Rattle.twice_translate.specs.Renamed.{datagram_of}
use Rattle.event_frame.specs.Frames.{IsJudged}
use Rattle.std.specs.Option.{option_or}
use Rattle.std.proofs.lemmas.Result.{err_from_is_err_and}
use Rattle.gate_base.specs.Prelude.{event_of}
use Rattle.verdicts.specs.Prelude.{first_that_holds}
use Rattle.twice_translate.proofs.Accepted.{reads}
use Rattle.gate_model.specs.Prelude.{datagram_in, header_tests, datagram_tests, transport_tests}
use Rattle.event_frame.proofs.Judging.{is_judged}
use Rattle.event_frame.proofs.Tests.{front_is, judged_err, judged_ok}
use Rattle.event_frame.proofs.judged.judge.Goals as goal

pub returns-in_err-datagram : goal.returns-in_err-datagram
returns-in_err-datagram c =
    let e = event_of c.args.event.now in
    let d = datagram_in e in
    let p = err_from_is_err_and c.from_residual.result c.from_residual.ensures.1 in
    rw (p.1, p.2)
    (front_is e
    ∙ ap (λ x. option_or x (option_or (first_that_holds (datagram_tests d)) (first_that_holds (transport_tests d))))
    (judged_err (first_that_holds (header_tests e)) c.in_err-datagram.field-0.0 d c.in_err-datagram.ensures.judged))

pub returns-in-Some : goal.returns-in-Some
returns-in-Some c =
    let e = event_of c.args.event.now in
    let good = judged_ok (first_that_holds (header_tests e)) c.in_ok-datagram.datagram (datagram_in e) c.in_ok-datagram.ensures.judged in
    let held = ap (λ x. first_that_holds (datagram_tests x)) (sym good.1) ∙ sym c.in-Some.ensures.refusal in
    front_is e
    ∙ ap (λ x. option_or x (option_or (first_that_holds (datagram_tests (datagram_in e))) (first_that_holds (transport_tests (datagram_in e)))))
    good.0
    ∙ ap (λ x. option_or x (first_that_holds (transport_tests (datagram_in e)))) held

pub returns-in_err-content : goal.returns-in_err-content
returns-in_err-content c =
    let e = event_of c.args.event.now in
    let good = judged_ok (first_that_holds (header_tests e)) c.in_ok-datagram.datagram (datagram_in e) c.in_ok-datagram.ensures.judged in
    let none = ap (λ x. first_that_holds (datagram_tests x)) (sym good.1) ∙ sym c.datagram_refusal.ensures.refusal ∙ c.in_default.is in
    let p = err_from_is_err_and c.from_residual-in_err-content.result c.from_residual-in_err-content.ensures.1 in
    rw (p.1, p.2) (front_is e
    ∙ ap (λ x. option_or x (option_or (first_that_holds (datagram_tests (datagram_in e))) (first_that_holds (transport_tests (datagram_in e)))))
    good.0
    ∙ ap (λ x. option_or x (first_that_holds (transport_tests (datagram_in e)))) none
    ∙ ap (λ x. first_that_holds (transport_tests x)) (sym good.1) ∙ c.in_err-content.ensures)

pub get_u16-requires : goal.get_u16-requires
get_u16-requires c =
    let read = reads c.octets_in-octets.result.now (ap is_ok c.in_ok-datagram.ensures.read) in
    omega (arith, read.long, read.within)

pub slice_bounds-result-end : goal.slice_bounds-result-end
slice_bounds-result-end c =
    let read = reads c.octets_in-octets.result.now (ap is_ok c.in_ok-datagram.ensures.read) in
    sym (length-take-le c.from-total.result c.octets_in-octets.result.now (omega (arith, c.from-total.ensures, c.get_u16.ensures, read.within)))

pub returns : goal.returns
returns c =
    let e = event_of c.args.event.now in
    let good = judged_ok (first_that_holds (header_tests e)) c.in_ok-datagram.datagram (datagram_in e) c.in_ok-datagram.ensures.judged in
    let none = sym c.datagram_refusal.ensures.refusal ∙ c.in_default.is in
    let total : c.from-total.result ≡ total_length_of c.octets_in-octets.result.now = c.from-total.ensures ∙ c.get_u16.ensures in
    let same : c.in_ok-datagram.datagram ≡ datagram_of c.octets_in-octets.result.now = good.1
    ∙ ap (λ (x : List ℕ). datagram_of x) (sym c.octets_in-octets.ensures) in
    let judged = is_judged c.octets_in-octets.result.now c.in_ok-datagram.datagram c.in_ok-content.content c.in_ok-datagram.ensures.read same none
    c.in_ok-content.ensures.0 (c.datagram_refusal.ensures.alive c.in_default.is) (omega (arith, total, c.from-total.ensures, c.get_u16.type_inv))
    c.in_ok-content.ensures.1 in
    record {
      none = front_is e
          ∙ ap (λ x. option_or x (option_or (first_that_holds (datagram_tests (datagram_in e))) (first_that_holds (transport_tests (datagram_in e)))))
          good.0
          ∙ ap (λ x. option_or x (first_that_holds (transport_tests (datagram_in e))))
          (ap (λ x. first_that_holds (datagram_tests x)) (sym good.1) ∙ none)
          ∙ ap (λ x. first_that_holds (transport_tests x)) (sym good.1) ∙ c.in_ok-content.ensures.0;
      datagram_is = good.1;
      judged = subst (λ (x : Datagram). IsJudged (take c.from-total.result c.octets_in-octets.result.now) x c.in_ok-content.content) good.1
          (subst (λ (k : ℕ). IsJudged (take k c.octets_in-octets.result.now) c.in_ok-datagram.datagram c.in_ok-content.content) (sym total) judged);
    }
