use Rattle.std.proofs.Common.{arith}
use Rattle.gate_desk.specs.declared.slot.Slot.TheVariants.{LeftOut, RightOut}
use Rattle.gateway.specs.Prelude.{WritesPieces, sent}
use Rattle.run_setup.proofs.Causes.{handed_on}
use Rattle.gateway.proofs.Events.{sends_next, sending_fails, can_still_write}
use Rattle.gateway.proofs.Pieces.{writes_none}
use Rattle.gateway.proofs.event.send_all.Goals as goal

pub loop-place-init : goal.loop-place-init
loop-place-init g c = record { written = writes_none (g.D.Desk.outside c.args.desk.now); left = c.requires.left; right = c.requires.right }

pub returns-in_err-send : goal.returns-in_err-send
returns-in_err-send g c =
    let old = g.D.Desk.outside c.args.desk.now in
    let mid = g.D.Desk.outside c.loop-place.desk in
    let new = g.D.Desk.outside c.send.new.desk in
    handed_on
    (λ r. WritesPieces r (sent c.args.settings.now c.args.side c.args.moment.0 c.args.outbox.now) old new) c.from_residual.result
    c.in_err-send.field-0.0 c.from_residual.ensures.1
    (sending_fails c.in_err-send.field-0.0 c.args.settings.now c.args.side c.args.moment.0 c.args.outbox.now c.loop-place.place c.datagram.result.now
    old mid new (omega (arith, c.loop-place-test.true, c.len-place-end.ensures.count)) c.datagram.ensures.octets c.loop-place.invariant.written
    c.in_err-send.ensures)

pub loop-place-preserved : goal.loop-place-preserved
loop-place-preserved g c =
    let old = g.D.Desk.outside c.args.desk.now in
    let mid = g.D.Desk.outside c.loop-place.desk in
    let new = g.D.Desk.outside c.send.new.desk in
    let next =
    sends_next c.args.settings.now c.args.side c.args.moment.0 c.args.outbox.now c.loop-place.place c.datagram.result.now old mid new
    (omega (arith, c.loop-place-test.true, c.len-place-end.ensures.count)) c.datagram.ensures.octets c.loop-place.invariant.written
    c.in_ok-send.ensures in
    record {
      written = next;
      left = can_still_write LeftOut mid new c.in_ok-send.ensures.only.starts c.loop-place.invariant.left;
      right = can_still_write RightOut mid new c.in_ok-send.ensures.only.starts c.loop-place.invariant.right;
    }
