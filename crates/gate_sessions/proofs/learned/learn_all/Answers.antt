use Rattle.std.proofs.Common.{◌≡◌, ◌<◌, suc, false, List, None, length, drop, sym, subst, rules, tests, slice_index_or}
use Rattle.dialogue.specs.Prelude.{Entry, is_listed}
use Rattle.gate_sessions.specs.Inside.Directions.{listed_of}
use Rattle.dns_plans.proofs.EnteredLemmas.{room_for, drop-next}
use Rattle.gate_sessions.proofs.learned.learn_all.Goals as goal

pub learn_one-requires-clause-few : goal.learn_one-requires-clause-few
learn_one-requires-clause-few c =
    let i = c.loop-one.one-index in
    let d : Entry = (record { 0 = 0 }, None) in
    let one : Entry = slice_index_or c.args.named.now i d in
    let within : i < length c.args.named.now = search (rules, tests) in
    subst (λ (es : List Entry). is_listed es one.0.0 ≡ false → length es < 256) (sym c.loop-one.invariant.grown)
    (room_for (listed_of c.args.host c.args.session.now) c.args.named.now (drop (suc i) c.args.named.now) one i
    (drop-next c.args.named.now i d within) c.requires.few)
