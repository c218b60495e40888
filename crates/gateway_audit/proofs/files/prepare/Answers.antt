use Rattle.std.proofs.Common.{MatchResult, OnErr, []}
use Rattle.run_setup.proofs.Causes.{handed_on}
use Rattle.gateway_audit.specs.Audits.{IsAudit}
use Rattle.run_setup.specs.Prelude.{settings_start}
use Rattle.run_setup.specs.AuditNames.{names_of}
use Rattle.gateway_audit.specs.Inside.Phases.{Prepared}
use Rattle.gateway_audit.proofs.Phases.{settings_end, heads_end, prepared}
use Rattle.run_setup.proofs.Inputs.{inputs_settings, inputs_both}
use Rattle.pcap_merge.specs.Prelude.{TakenFor}
use Rattle.run_setup.proofs.Untaken.{settled_few}
use Rattle.gateway_audit.proofs.files.prepare.Goals as goal

pub returns-in_err-settings-clause-answer : goal.returns-in_err-settings-clause-answer
returns-in_err-settings-clause-answer g c =
    let names = names_of c.args.names in
    let old = g.D.Desk.outside c.args.desk.now in
    let new = g.D.Desk.outside c.read_settings_file.new.desk in
    let status = c.in_err-settings.field-0.0 in
    handed_on
    (λ r. MatchResult r (λ p. Prepared p.0 p.1 names old new) (λ status. IsAudit status names old new)) c.from_residual.result status
    c.from_residual.ensures.1 (settings_end status names old new c.in_err-settings.ensures.taken c.in_err-settings.ensures.answer)

pub returns-in_err-merge-clause-answer : goal.returns-in_err-merge-clause-answer
returns-in_err-merge-clause-answer g c =
    let names = names_of c.args.names in
    let old = g.D.Desk.outside c.args.desk.now in
    let mid = g.D.Desk.outside c.read_settings_file.new.desk in
    let new = g.D.Desk.outside c.begin.new.desk in
    let status = c.in_err-merge.field-0.0 in
    handed_on
    (λ r. MatchResult r (λ p. Prepared p.0 p.1 names old new) (λ status. IsAudit status names old new)) c.from_residual-in_err-merge.result status
    c.from_residual-in_err-merge.ensures.1
    (heads_end status c.in_ok-settings.settings names old mid new
    (settled_few c.in_ok-settings.settings
    (settings_start names.settings) old mid new c.in_ok-settings.ensures.answer c.in_err-merge.ensures.taken) c.in_ok-settings.ensures.answer
    c.in_err-merge.ensures.answer)

pub returns-clause-answer : goal.returns-clause-answer
returns-clause-answer g c =
    prepared c.in_ok-settings.settings c.in_ok-merge.merge (names_of c.args.names) (g.D.Desk.outside c.args.desk.now)
    (g.D.Desk.outside c.read_settings_file.new.desk)
    (g.D.Desk.outside c.begin.new.desk) c.in_ok-settings.ensures.answer c.in_ok-merge.ensures.answer

pub returns-in_err-merge-clause-taken : goal.returns-in_err-merge-clause-taken
returns-in_err-merge-clause-taken g c =
    let old = g.D.Desk.outside c.args.desk.now in
    let new = g.D.Desk.outside c.begin.new.desk in
    handed_on (λ r. OnErr r (TakenFor [] old new)) c.from_residual-in_err-merge.result c.in_err-merge.field-0.0 c.from_residual-in_err-merge.ensures.1
    (settled_few c.in_ok-settings.settings (settings_start (names_of c.args.names).settings) old
    (g.D.Desk.outside c.read_settings_file.new.desk) new c.in_ok-settings.ensures.answer c.in_err-merge.ensures.taken)

pub returns-in_err-settings-clause-inputs : goal.returns-in_err-settings-clause-inputs
returns-in_err-settings-clause-inputs g c =
    inputs_settings (g.D.Desk.outside c.args.desk.now) (g.D.Desk.outside c.read_settings_file.new.desk) c.read_settings_file.ensures.settings

pub returns-in_err-merge-clause-inputs : goal.returns-in_err-merge-clause-inputs
returns-in_err-merge-clause-inputs g c =
    inputs_both (g.D.Desk.outside c.args.desk.now) (g.D.Desk.outside c.read_settings_file.new.desk)
    (g.D.Desk.outside c.begin.new.desk) c.read_settings_file.ensures.settings c.begin.ensures.captures

pub returns-clause-inputs : goal.returns-clause-inputs
returns-clause-inputs g c =
    inputs_both (g.D.Desk.outside c.args.desk.now) (g.D.Desk.outside c.read_settings_file.new.desk)
    (g.D.Desk.outside c.begin.new.desk) c.read_settings_file.ensures.settings c.begin.ensures.captures
