use Rattle.std.proofs.Common.{subst}
use Rattle.run_setup.proofs.Causes.{handed_on}
use Rattle.run_setup.specs.AuditNames.{names_of}
use Rattle.gateway_audit.specs.Inside.Phases.{Readied, Judges}
use Rattle.gateway_audit.proofs.Judging.{not_ready, no_head, read_inputs, to_walk, took_none, took_prepared, took_walked, walked}
use Rattle.gateway_audit.proofs.auditing.audit_files.Goals as goal

pub returns-in_err-given-clause-answer : goal.returns-in_err-given-clause-answer
returns-in_err-given-clause-answer g c =
    let names = names_of c.args.names in
    let old = g.D.Desk.outside c.args.desk.now in
    let mid = g.D.Desk.outside c.prepare.new.desk in
    let new = g.D.Desk.outside c.ready.new.desk in
    let status = c.in_err-given.field-0.0 in
    handed_on (λ r. Judges r names old new) c.from_residual-in_err-given.result status c.from_residual-in_err-given.ensures.1
    (not_ready status c.in_ok-settings.settings c.in_ok-settings.merge names old mid new c.in_ok-settings.ensures.answer
    c.in_err-given.ensures.answer)

pub audit_all-requires : goal.audit_all-requires
audit_all-requires g c =
    let names = names_of c.args.names in
    let mid = g.D.Desk.outside c.prepare.new.desk in
    let new = g.D.Desk.outside c.ready.new.desk in
    let readied = subst (λ found. Readied found c.in_ok-settings.settings names mid new) c.in-Some.is c.in_ok-given.ensures.answer in
    to_walk c.in_ok-settings.settings c.in_ok-settings.merge c.in-Some.given names
    (g.D.Desk.outside c.args.desk.now) mid new c.in_ok-settings.ensures.answer readied

pub returns-in-Some-clause-answer : goal.returns-in-Some-clause-answer
returns-in-Some-clause-answer g c =
    let names = names_of c.args.names in
    let mid = g.D.Desk.outside c.prepare.new.desk in
    let new = g.D.Desk.outside c.ready.new.desk in
    let readied = subst (λ found. Readied found c.in_ok-settings.settings names mid new) c.in-Some.is c.in_ok-given.ensures.answer in
    walked c.audit_all.result c.in_ok-settings.settings c.in_ok-settings.merge c.in-Some.given names (g.D.Desk.outside c.args.desk.now) mid new
    (g.D.Desk.outside c.audit_all.new.desk) c.in_ok-settings.ensures.answer readied c.audit_all.ensures.answer c.audit_all.ensures.taken.starts
    c.audit_all.ensures.taken.written c.audit_all.ensures.taken.grows

pub returns-in-None-clause-answer : goal.returns-in-None-clause-answer
returns-in-None-clause-answer g c =
    let names = names_of c.args.names in
    let mid = g.D.Desk.outside c.prepare.new.desk in
    let new = g.D.Desk.outside c.ready.new.desk in
    let readied = subst (λ found. Readied found c.in_ok-settings.settings names mid new) c.in-None.is c.in_ok-given.ensures.answer in
    no_head c.in_ok-settings.settings c.in_ok-settings.merge names (g.D.Desk.outside c.args.desk.now) mid new c.in_ok-settings.ensures.answer readied

pub returns-in_err-settings-clause-taken : goal.returns-in_err-settings-clause-taken
returns-in_err-settings-clause-taken g c =
    took_none (g.D.Desk.outside c.args.desk.now) (g.D.Desk.outside c.prepare.new.desk) c.in_err-settings.ensures.taken
    (read_inputs (g.D.Desk.outside c.args.desk.now) (g.D.Desk.outside c.prepare.new.desk) c.prepare.ensures.inputs)

pub returns-in_err-given-clause-taken : goal.returns-in_err-given-clause-taken
returns-in_err-given-clause-taken g c =
    took_prepared c.in_ok-settings.settings c.in_ok-settings.merge (names_of c.args.names) (g.D.Desk.outside c.args.desk.now)
    (g.D.Desk.outside c.prepare.new.desk) (g.D.Desk.outside c.ready.new.desk) c.in_ok-settings.ensures.answer c.ready.ensures.incoming
    c.prepare.ensures.inputs c.ready.ensures.files

pub returns-in-None-clause-taken : goal.returns-in-None-clause-taken
returns-in-None-clause-taken g c =
    took_prepared c.in_ok-settings.settings c.in_ok-settings.merge (names_of c.args.names) (g.D.Desk.outside c.args.desk.now)
    (g.D.Desk.outside c.prepare.new.desk) (g.D.Desk.outside c.ready.new.desk) c.in_ok-settings.ensures.answer c.ready.ensures.incoming
    c.prepare.ensures.inputs c.ready.ensures.files

pub returns-in-Some-clause-taken : goal.returns-in-Some-clause-taken
returns-in-Some-clause-taken g c =
    let names = names_of c.args.names in
    let mid = g.D.Desk.outside c.prepare.new.desk in
    let new = g.D.Desk.outside c.ready.new.desk in
    let readied = subst (λ found. Readied found c.in_ok-settings.settings names mid new) c.in-Some.is c.in_ok-given.ensures.answer in
    took_walked c.in_ok-settings.settings c.in_ok-settings.merge c.in-Some.given names (g.D.Desk.outside c.args.desk.now) mid new
    (g.D.Desk.outside c.audit_all.new.desk) c.in_ok-settings.ensures.answer readied c.audit_all.ensures.taken c.prepare.ensures.inputs
    c.ready.ensures.files
