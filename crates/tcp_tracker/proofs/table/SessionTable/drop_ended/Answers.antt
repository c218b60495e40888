use Rattle.std.proofs.Common.{◌≡◌, ◌∙◌, ap, sym, subst, List, ℕ}
use Rattle.tcp_tracker.specs.Prelude.{live, IsJoined, joined}
use Rattle.tcp_tracker.specs.declared.connection.Connection.{Connection}
use Rattle.tcp_tracker.proofs.Replacing.{removed_with, removed_plain}
use Rattle.tcp_tracker.proofs.Expiring.{live_joined, filled_at, session_at, dropped}
use Rattle.tcp_tracker.proofs.table.SessionTable.drop_ended.Goals as goal

pub returns-in_default-clause-all : goal.returns-in_default-clause-all
returns-in_default-clause-all g c =
    let none = c.in_default.ensures.none in
    let now = c.args.now in
    let stays : live now c.next_ended.new.self ≡ c.next_ended.new.self = ap (live now) none.0 ∙ none.1 ∙ sym none.0 in
    λ _. sym (live_joined c.self.inside.sessions now c.next_ended.new.self) ∙ ap (joined c.self.inside.sessions) stays

pub clear-requires : goal.clear-requires
clear-requires g c =
    filled_at c.self.inside.sessions c.in-Some.ended.key c.self.inside.tracker c.in-Some.ended c.in-Some-session.slot c.self.invariant.kept
    c.in-Some.ensures.some.there c.in-Some-session.is

pub invariant_of-self-in-Some-session : goal.invariant_of-self-in-Some-session
invariant_of-self-in-Some-session g c =
    let ended = c.in-Some.ensures.some in
    let key = c.in-Some.ended.key in
    subst (λ (all : List (Connection ℕ)). IsJoined all c.clear.new.slots) (sym ended.rest)
    ((removed_with c.self.inside.sessions c.clear.new.slots c.self.inside.tracker key c.in-Some-session.slot c.self.invariant
    (session_at key c.self.inside.tracker c.in-Some.ended ended.there ∙ c.in-Some-session.is) c.clear.ensures.updates c.clear.ensures.len
    c.clear.ensures.capacity).whole)

pub invariant_of-self-in_default-session : goal.invariant_of-self-in_default-session
invariant_of-self-in_default-session g c =
    let ended = c.in-Some.ensures.some in
    let key = c.in-Some.ended.key in
    subst (λ (all : List (Connection ℕ)). IsJoined all c.self.inside.sessions) (sym ended.rest)
    ((removed_plain c.self.inside.sessions c.self.inside.tracker key c.self.invariant
    (session_at key c.self.inside.tracker c.in-Some.ended ended.there ∙ c.in_default-session.is)).whole)

pub returns-in-Some-session-clause-live : goal.returns-in-Some-session-clause-live
returns-in-Some-session-clause-live g c =
    let ended = c.in-Some.ensures.some in
    let key = c.in-Some.ended.key in
    let gone = removed_with c.self.inside.sessions c.clear.new.slots c.self.inside.tracker key c.in-Some-session.slot c.self.invariant
    (session_at key c.self.inside.tracker c.in-Some.ended ended.there ∙ c.in-Some-session.is) c.clear.ensures.updates c.clear.ensures.len
    c.clear.ensures.capacity in
    (dropped c.self.inside.sessions c.clear.new.slots c.args.now c.self.inside.tracker c.next_ended.new.self c.in-Some.ended ended gone).lives
    ∙ ap (live c.args.now) c.self.view_is

pub returns-in_default-session-clause-live : goal.returns-in_default-session-clause-live
returns-in_default-session-clause-live g c =
    let ended = c.in-Some.ensures.some in
    let key = c.in-Some.ended.key in
    let gone = removed_plain c.self.inside.sessions c.self.inside.tracker key c.self.invariant
    (session_at key c.self.inside.tracker c.in-Some.ended ended.there ∙ c.in_default-session.is) in
    (dropped c.self.inside.sessions c.self.inside.sessions c.args.now c.self.inside.tracker c.next_ended.new.self c.in-Some.ended ended gone).lives
    ∙ ap (live c.args.now) c.self.view_is
