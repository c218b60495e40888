use Rattle.std.proofs.Common.{MatchResult, OnErr, []}
use Rattle.run_setup.specs.RunNames.{names_of, settings_starts, first_starts}
use Rattle.gateway.specs.Prelude.{Prepared, EndsUnwritten}
use Rattle.pcap_merge.specs.Prelude.{TakenFor}
use Rattle.pcap_merge.proofs.Given.{given_few}
use Rattle.run_setup.proofs.Causes.{handed_on}
use Rattle.run_setup.proofs.Untaken.{settled_few}
use Rattle.run_setup.proofs.Inputs.{inputs_settings, inputs_both}
use Rattle.gateway.proofs.Phases.{settings_end, heads_end, given_gate, on_error}
use Rattle.gateway.proofs.running.prepare.Goals as goal

pub returns-in_err-settings-clause-answer : goal.returns-in_err-settings-clause-answer
returns-in_err-settings-clause-answer g c =
    let old = g.D.Desk.outside c.args.desk.now in
    let new = g.D.Desk.outside c.read_settings_file.new.desk in
    handed_on
    (λ r. MatchResult r (λ p. Prepared p.1 p.0 (first_starts (names_of c.args.names)) old new)
    (λ status. EndsUnwritten status (names_of c.args.names) old new)) c.from_residual.result c.in_err-settings.field-0.0
    c.from_residual.ensures.1
    (settings_end c.in_err-settings.field-0.0 (names_of c.args.names) old new c.in_err-settings.ensures.answer)

pub returns-in_err-merge-clause-answer : goal.returns-in_err-merge-clause-answer
returns-in_err-merge-clause-answer g c =
    let old = g.D.Desk.outside c.args.desk.now in
    let new = g.D.Desk.outside c.begin.new.desk in
    handed_on
    (λ r. MatchResult r (λ p. Prepared p.1 p.0 (first_starts (names_of c.args.names)) old new)
    (λ status. EndsUnwritten status (names_of c.args.names) old new)) c.from_residual-in_err-merge.result c.in_err-merge.field-0.0
    c.from_residual-in_err-merge.ensures.1
    (heads_end c.in_err-merge.field-0.0 c.in_ok-settings.settings (names_of c.args.names) (g.D.Desk.outside c.args.desk.now)
    (g.D.Desk.outside c.read_settings_file.new.desk)
    (g.D.Desk.outside c.begin.new.desk) c.in_ok-settings.ensures.answer c.in_err-merge.ensures.answer)

pub returns-clause-answer : goal.returns-clause-answer
returns-clause-answer g c =
    given_gate c.gate_of.result c.in_ok-settings.settings c.in_ok-merge.merge (names_of c.args.names) (g.D.Desk.outside c.args.desk.now)
    (g.D.Desk.outside c.read_settings_file.new.desk)
    (g.D.Desk.outside c.begin.new.desk) c.gate_of.ensures c.in_ok-settings.ensures.answer c.in_ok-merge.ensures.answer
    (inputs_both (g.D.Desk.outside c.args.desk.now) (g.D.Desk.outside c.read_settings_file.new.desk)
    (g.D.Desk.outside c.begin.new.desk) c.read_settings_file.ensures.settings c.begin.ensures.captures)

pub returns-in_err-merge-clause-taken : goal.returns-in_err-merge-clause-taken
returns-in_err-merge-clause-taken g c =
    let old = g.D.Desk.outside c.args.desk.now in
    let new = g.D.Desk.outside c.begin.new.desk in
    handed_on (λ r. OnErr r (TakenFor [] old new)) c.from_residual-in_err-merge.result c.in_err-merge.field-0.0 c.from_residual-in_err-merge.ensures.1
    (settled_few c.in_ok-settings.settings (settings_starts (names_of c.args.names)) (g.D.Desk.outside c.args.desk.now)
    (g.D.Desk.outside c.read_settings_file.new.desk)
    (g.D.Desk.outside c.begin.new.desk) c.in_ok-settings.ensures.answer c.in_err-merge.ensures.taken)

pub returns-clause-taken : goal.returns-clause-taken
returns-clause-taken g c =
    let old = g.D.Desk.outside c.args.desk.now in
    let mid = g.D.Desk.outside c.read_settings_file.new.desk in
    let new = g.D.Desk.outside c.begin.new.desk in
    on_error c.gate_of.result
    (settled_few c.in_ok-settings.settings (settings_starts (names_of c.args.names)) old mid new c.in_ok-settings.ensures.answer
    (given_few mid c.in_ok-merge.merge new [] c.in_ok-merge.ensures.answer.given))

pub returns-in_err-settings-clause-inputs : goal.returns-in_err-settings-clause-inputs
returns-in_err-settings-clause-inputs g c =
    inputs_settings (g.D.Desk.outside c.args.desk.now) (g.D.Desk.outside c.read_settings_file.new.desk) c.read_settings_file.ensures.settings

pub returns-in_err-merge-clause-inputs : goal.returns-in_err-merge-clause-inputs
returns-in_err-merge-clause-inputs g c =
    inputs_both (g.D.Desk.outside c.args.desk.now) (g.D.Desk.outside c.read_settings_file.new.desk)
    (g.D.Desk.outside c.begin.new.desk) c.read_settings_file.ensures.settings c.begin.ensures.captures

pub returns-clause-inputs : goal.returns-clause-inputs
returns-clause-inputs g c =
    inputs_both (g.D.Desk.outside c.args.desk.now) (g.D.Desk.outside c.read_settings_file.new.desk)
    (g.D.Desk.outside c.begin.new.desk) c.read_settings_file.ensures.settings c.begin.ensures.captures
