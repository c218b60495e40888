use Rattle.std.proofs.Common.{Ok, Err, OnErr, [], length, subst, refl, arith}
use Rattle.pcap_merge.specs.Prelude.{TakenFor}
use Rattle.gate_desk.specs.declared.slot.Slot.TheVariants.{Settings}
use Rattle.gate_desk.specs.declared.slot.Access.TheVariants.{Read}
use Rattle.settings_file.specs.Firsts.{ReturnsFound}
use Rattle.settings_file.specs.Accepting.{settings_of}
use Rattle.run_setup.specs.Prelude.{settings_start, Settles, status_of_settings, status_of_take}
use Rattle.run_setup.proofs.Causes.{handed_on, access_of}
use Rattle.run_setup.proofs.Beginning.{at_settings, settle_stops, settles}
use Rattle.run_setup.proofs.Untaken.{kept_left, settings_only}
use Rattle.run_setup.proofs.Inputs.{settings_none, settings_taken, settings_text}
use Rattle.run_setup.proofs.heads.read_settings_file.Goals as goal

pub returns-in_err-start_slot-clause-answer : goal.returns-in_err-start_slot-clause-answer
returns-in_err-start_slot-clause-answer g c =
    let old = g.D.Desk.outside c.args.desk.now in
    let new = g.D.Desk.outside c.start_slot.new.desk in
    let status = c.in_err-start_slot.field-0.0 in
    handed_on (λ r. Settles r (settings_start c.args.name.now) old new) c.from_residual.result status c.from_residual.ensures.1
    (at_settings status (settings_start c.args.name.now) old new c.in_err-start_slot.ensures.answer)

pub read_up_to-requires-clause-start : goal.read_up_to-requires-clause-start
read_up_to-requires-clause-start g c =
    access_of Settings Read (settings_start c.args.name.now) (g.D.Desk.outside c.args.desk.now)
    (g.D.Desk.outside c.start_slot.new.desk) c.in_ok-start_slot.ensures.answer.starts (λ w. refl)

pub returns-in_err-text-clause-answer : goal.returns-in_err-text-clause-answer
returns-in_err-text-clause-answer g c =
    let xs = settings_start c.args.name.now in
    let old = g.D.Desk.outside c.args.desk.now in
    let new = g.D.Desk.outside c.read_up_to.new.desk in
    let stop = c.in_err-text.field-0.0 in
    handed_on (λ r. Settles r xs old new) c.from_residual-in_err-text.result (status_of_take stop) c.from_residual-in_err-text.ensures.1
    (settle_stops stop xs 1048577 old
    (g.D.Desk.outside c.start_slot.new.desk) new c.in_ok-start_slot.ensures.answer c.in_err-text.ensures.err c.in_err-text.ensures.cause)

pub returns-in_err-settings-clause-answer : goal.returns-in_err-settings-clause-answer
returns-in_err-settings-clause-answer g c =
    let xs = settings_start c.args.name.now in
    let old = g.D.Desk.outside c.args.desk.now in
    let new = g.D.Desk.outside c.read_up_to.new.desk in
    let stop = c.in_err-settings.field-0.0 in
    handed_on (λ r. Settles r xs old new) c.from_residual-in_err-settings.result (status_of_settings stop) c.from_residual-in_err-settings.ensures.1
    (settles (Err stop) c.in_ok-text.text.items xs old
    (g.D.Desk.outside c.start_slot.new.desk) new c.in_ok-start_slot.ensures.answer c.in_ok-text.ensures.ok c.in_ok-text.ensures.octets
    (subst (λ xs. ReturnsFound (Err stop) (settings_of xs)) c.deref.ensures.value c.in_err-settings.ensures.value) c.in_ok-text.ensures.leaves
    c.in_err-settings.ensures.sound c.in_err-settings.ensures.forms)

pub returns-clause-answer : goal.returns-clause-answer
returns-clause-answer g c =
    settles (Ok c.in_ok-settings.settings) c.in_ok-text.text.items (settings_start c.args.name.now) (g.D.Desk.outside c.args.desk.now)
    (g.D.Desk.outside c.start_slot.new.desk) (g.D.Desk.outside c.read_up_to.new.desk)
    c.in_ok-start_slot.ensures.answer c.in_ok-text.ensures.ok c.in_ok-text.ensures.octets
    (subst (λ xs. ReturnsFound (Ok c.in_ok-settings.settings) (settings_of xs)) c.deref.ensures.value c.in_ok-settings.ensures.value)
    c.in_ok-text.ensures.leaves c.in_ok-settings.ensures.sound c.in_ok-settings.ensures.forms

pub returns-in_err-start_slot-clause-taken : goal.returns-in_err-start_slot-clause-taken
returns-in_err-start_slot-clause-taken g c =
    let old = g.D.Desk.outside c.args.desk.now in
    let new = g.D.Desk.outside c.start_slot.new.desk in
    handed_on (λ r. OnErr r (TakenFor [] old new)) c.from_residual.result c.in_err-start_slot.field-0.0 c.from_residual.ensures.1
    (kept_left old new c.start_slot.ensures.left)

pub returns-in_err-text-clause-taken : goal.returns-in_err-text-clause-taken
returns-in_err-text-clause-taken g c =
    let old = g.D.Desk.outside c.args.desk.now in
    let new = g.D.Desk.outside c.read_up_to.new.desk in
    handed_on (λ r. OnErr r (TakenFor [] old new)) c.from_residual-in_err-text.result
    (status_of_take c.in_err-text.field-0.0) c.from_residual-in_err-text.ensures.1
    (settings_only c.in_err-text.ensures.err.0 old (g.D.Desk.outside c.start_slot.new.desk) new c.start_slot.ensures.left c.in_err-text.ensures.err.2)

pub returns-in_err-settings-clause-taken : goal.returns-in_err-settings-clause-taken
returns-in_err-settings-clause-taken g c =
    let old = g.D.Desk.outside c.args.desk.now in
    let new = g.D.Desk.outside c.read_up_to.new.desk in
    handed_on (λ r. OnErr r (TakenFor [] old new)) c.from_residual-in_err-settings.result
    (status_of_settings c.in_err-settings.field-0.0) c.from_residual-in_err-settings.ensures.1
    (settings_only (length c.in_ok-text.text.items) old
    (g.D.Desk.outside c.start_slot.new.desk) new c.start_slot.ensures.left c.in_ok-text.ensures.ok)

pub returns-in_err-start_slot-clause-settings : goal.returns-in_err-start_slot-clause-settings
returns-in_err-start_slot-clause-settings g c =
    settings_none (g.D.Desk.outside c.args.desk.now) (g.D.Desk.outside c.start_slot.new.desk) c.start_slot.ensures.left

pub returns-in_err-text-clause-settings : goal.returns-in_err-text-clause-settings
returns-in_err-text-clause-settings g c =
    let err = c.in_err-text.ensures.err in
    settings_taken err.0 (g.D.Desk.outside c.args.desk.now) (g.D.Desk.outside c.start_slot.new.desk)
    (g.D.Desk.outside c.read_up_to.new.desk) c.start_slot.ensures.left err.2 (omega (arith, err.1))

pub returns-in_err-settings-clause-settings : goal.returns-in_err-settings-clause-settings
returns-in_err-settings-clause-settings g c =
    settings_text c.in_ok-text.text.items (g.D.Desk.outside c.args.desk.now) (g.D.Desk.outside c.start_slot.new.desk)
    (g.D.Desk.outside c.read_up_to.new.desk) c.start_slot.ensures.left c.in_ok-text.ensures.ok c.in_ok-text.ensures.octets

pub returns-clause-settings : goal.returns-clause-settings
returns-clause-settings g c =
    settings_text c.in_ok-text.text.items (g.D.Desk.outside c.args.desk.now) (g.D.Desk.outside c.start_slot.new.desk)
    (g.D.Desk.outside c.read_up_to.new.desk) c.start_slot.ensures.left c.in_ok-text.ensures.ok c.in_ok-text.ensures.octets
