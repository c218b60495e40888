use Rattle.std.proofs.Common.{◌≡◌, ◌<◌, suc, false, List, None, length, take, drop, sym, subst, rules, tests, slice_index_or}
use Rattle.dialogue.specs.Prelude.{Entry, is_listed}
use Rattle.dns_plans.proofs.EnteredLemmas.{room_for, drop-next}
use Rattle.audit_sessions.specs.Inside.Sessions.{DnsHeard, listed_of, IsListedSide}
use Rattle.audit_sessions.proofs.LearnedSessions.{with_listed, side_longer}
use Rattle.audit_sessions.proofs.learned.learn_all.Goals as goal

pub learn_one-requires-clause-few : goal.learn_one-requires-clause-few
learn_one-requires-clause-few c =
    let f = c.args.host in
    let i = c.loop-one.one-index in
    let d : Entry = (record { 0 = 0 }, None) in
    let one : Entry = slice_index_or c.args.named.now i d in
    let within : i < length c.args.named.now = search (rules, tests) in
    subst (λ (s : DnsHeard). is_listed (listed_of f s) one.0.0 ≡ false → length (listed_of f s) < 256) (sym c.loop-one.invariant)
    (subst (λ (es : List Entry). is_listed es one.0.0 ≡ false → length es < 256) (sym (with_listed f (take i c.args.named.now) c.args.session.now))
    (room_for (listed_of f c.args.session.now) c.args.named.now (drop (suc i) c.args.named.now) one i
    (drop-next c.args.named.now i d within) c.requires.few))

pub learn_one-requires-clause-listed : goal.learn_one-requires-clause-listed
learn_one-requires-clause-listed c =
    subst (IsListedSide c.args.host) (sym c.loop-one.invariant)
    (side_longer c.args.host (take c.loop-one.one-index c.args.named.now) c.args.session.now c.requires.listed)
