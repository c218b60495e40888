use Rattle.std.proofs.Common.{refl, ap}
use Rattle.gate_desk.specs.declared.slot.Slot.TheVariants.{LeftGiven, RightGiven}
use Rattle.gate_desk.specs.declared.slot.Access.TheVariants.{Read}
use Rattle.run_setup.proofs.Causes.{handed_on, access_of}
use Rattle.run_setup.specs.AuditNames.{names_of, given_starts}
use Rattle.gateway_audit.specs.Inside.Phases.{Readies}
use Rattle.gateway_audit.proofs.Phases.{not_opened, not_begun, no_report, readied}
use Rattle.gate_desk.specs.Outside.{Trace, told_at}
use Rattle.pcap_merge.specs.Prelude.{slot_of}
use Rattle.gateway_audit.proofs.Judging.{incoming_on, files_ready}
use Rattle.file_audit.proofs.Files.{files_none}
use Rattle.gateway_audit.proofs.files.ready.Goals as goal

pub returns-in_err-open_given-clause-answer : goal.returns-in_err-open_given-clause-answer
returns-in_err-open_given-clause-answer g c =
    let names = names_of c.args.names in
    let old = g.D.Desk.outside c.args.desk.now in
    let new = g.D.Desk.outside c.open_given.new.desk in
    let status = c.in_err-open_given.field-0.0 in
    handed_on (λ r. Readies r c.args.settings.now names old new) c.from_residual.result status c.from_residual.ensures.1
    (not_opened status names old new c.in_err-open_given.ensures.answer)

pub begin_given-requires-clause-left : goal.begin_given-requires-clause-left
begin_given-requires-clause-left g c =
    access_of LeftGiven Read (given_starts (names_of c.args.names)) (g.D.Desk.outside c.args.desk.now)
    (g.D.Desk.outside c.open_given.new.desk) c.in_ok-open_given.ensures.answer.starts (λ w. refl)

pub begin_given-requires-clause-right : goal.begin_given-requires-clause-right
begin_given-requires-clause-right g c =
    access_of RightGiven Read (given_starts (names_of c.args.names)) (g.D.Desk.outside c.args.desk.now)
    (g.D.Desk.outside c.open_given.new.desk) c.in_ok-open_given.ensures.answer.starts (λ w. refl)

pub returns-in_err-given-clause-answer : goal.returns-in_err-given-clause-answer
returns-in_err-given-clause-answer g c =
    let names = names_of c.args.names in
    let old = g.D.Desk.outside c.args.desk.now in
    let mid = g.D.Desk.outside c.open_given.new.desk in
    let new = g.D.Desk.outside c.begin_given.new.desk in
    let status = c.in_err-given.field-0.0 in
    handed_on (λ r. Readies r c.args.settings.now names old new) c.from_residual-in_err-given.result status c.from_residual-in_err-given.ensures.1
    (not_begun status c.args.settings.now names old mid new c.in_ok-open_given.ensures.answer c.begin_given.ensures.reads
    c.in_err-given.ensures.answer)

pub returns-in_err-start_slot-clause-answer : goal.returns-in_err-start_slot-clause-answer
returns-in_err-start_slot-clause-answer g c =
    let names = names_of c.args.names in
    let old = g.D.Desk.outside c.args.desk.now in
    let mid = g.D.Desk.outside c.open_given.new.desk in
    let begun = g.D.Desk.outside c.begin_given.new.desk in
    let new = g.D.Desk.outside c.start_slot.new.desk in
    let status = c.in_err-start_slot.field-0.0 in
    handed_on
    (λ r. Readies r c.args.settings.now names old new) c.from_residual-in_err-start_slot.result status c.from_residual-in_err-start_slot.ensures.1
    (no_report status names old mid begun new c.in_ok-open_given.ensures.answer c.begin_given.ensures.reads c.in_err-start_slot.ensures.answer)

pub returns-clause-answer : goal.returns-clause-answer
returns-clause-answer g c =
    readied c.in_ok-given.given c.args.settings.now (names_of c.args.names) (g.D.Desk.outside c.args.desk.now)
    (g.D.Desk.outside c.open_given.new.desk) (g.D.Desk.outside c.begin_given.new.desk) (g.D.Desk.outside c.start_slot.new.desk)
    c.in_ok-open_given.ensures.answer c.begin_given.ensures.reads c.in_ok-given.ensures.answer c.in_ok-start_slot.ensures.answer

pub returns-in_err-open_given-clause-incoming : goal.returns-in_err-open_given-clause-incoming
returns-in_err-open_given-clause-incoming g c = λ side. ap (λ (t : Trace). told_at t (slot_of side)) c.open_given.ensures.left

pub returns-in_err-given-clause-incoming : goal.returns-in_err-given-clause-incoming
returns-in_err-given-clause-incoming g c =
    incoming_on (g.D.Desk.outside c.args.desk.now) (g.D.Desk.outside c.open_given.new.desk) (g.D.Desk.outside c.begin_given.new.desk)
    (g.D.Desk.outside c.begin_given.new.desk) c.open_given.ensures.left c.begin_given.ensures.reads refl

pub returns-in_err-start_slot-clause-incoming : goal.returns-in_err-start_slot-clause-incoming
returns-in_err-start_slot-clause-incoming g c =
    incoming_on (g.D.Desk.outside c.args.desk.now) (g.D.Desk.outside c.open_given.new.desk) (g.D.Desk.outside c.begin_given.new.desk)
    (g.D.Desk.outside c.start_slot.new.desk) c.open_given.ensures.left c.begin_given.ensures.reads c.start_slot.ensures.left

pub returns-clause-incoming : goal.returns-clause-incoming
returns-clause-incoming g c =
    incoming_on (g.D.Desk.outside c.args.desk.now) (g.D.Desk.outside c.open_given.new.desk) (g.D.Desk.outside c.begin_given.new.desk)
    (g.D.Desk.outside c.start_slot.new.desk) c.open_given.ensures.left c.begin_given.ensures.reads c.start_slot.ensures.left

pub returns-in_err-open_given-clause-files : goal.returns-in_err-open_given-clause-files
returns-in_err-open_given-clause-files g c =
    files_none (g.D.Desk.outside c.args.desk.now) (g.D.Desk.outside c.open_given.new.desk) c.open_given.ensures.left

pub returns-in_err-given-clause-files : goal.returns-in_err-given-clause-files
returns-in_err-given-clause-files g c =
    files_ready (g.D.Desk.outside c.args.desk.now) (g.D.Desk.outside c.open_given.new.desk) (g.D.Desk.outside c.begin_given.new.desk)
    (g.D.Desk.outside c.begin_given.new.desk) c.open_given.ensures.left c.begin_given.ensures.reads refl

pub returns-in_err-start_slot-clause-files : goal.returns-in_err-start_slot-clause-files
returns-in_err-start_slot-clause-files g c =
    files_ready (g.D.Desk.outside c.args.desk.now) (g.D.Desk.outside c.open_given.new.desk) (g.D.Desk.outside c.begin_given.new.desk)
    (g.D.Desk.outside c.start_slot.new.desk) c.open_given.ensures.left c.begin_given.ensures.reads c.start_slot.ensures.left

pub returns-clause-files : goal.returns-clause-files
returns-clause-files g c =
    files_ready (g.D.Desk.outside c.args.desk.now) (g.D.Desk.outside c.open_given.new.desk) (g.D.Desk.outside c.begin_given.new.desk)
    (g.D.Desk.outside c.start_slot.new.desk) c.open_given.ensures.left c.begin_given.ensures.reads c.start_slot.ensures.left
