use Rattle.std.proofs.Common.{◌≡◌, ◌-◌, ℕ, List, length, true, false, Bool, min, max, ◌&&◌, ◌||◌, ◌==◌, is_none, sym, ◌∙◌, ap, subst, IfOk}
use Rattle.std.proofs.lemmas.Bool.{cond-true}
use Rattle.tcp_segments.specs.Prelude.{flags_of}
use Rattle.tcp_segments.specs.declared.flags.Flags.{Flags}
use Rattle.stream_model.specs.Prelude.{Sender, Segment, Sent, segment_in, start_of, standing, limit_of, syn_sent, sent, ends_by}
use Rattle.audit_streams.specs.Inside.Hosts.{sender_of}
use Rattle.audit_streams.specs.Sending.{Handed, handed}
use Rattle.audit_streams.proofs.streams.pass.Goals as goal

pub returns-then-flags-clause-sent : goal.returns-then-flags-clause-sent
returns-then-flags-clause-sent g c =
    let a : Sender = sender_of g.A.Dialogue.meaning c.args.own.now in
    let opened : Sender = sender_of g.A.Dialogue.meaning c.open.new.self in
    let b : Sender = sender_of g.B.Dialogue.meaning c.args.other.now in
    let s : Segment = segment_in c.args.segment.now in
    let syn : s.flags.syn ≡ true =
    sym (ap (λ (f : Flags). f.syn) (c.flags_of-flags.ensures ∙ ap flags_of c.flags.ensures)) ∙ c.if-flags.true in
    let limit : c.limit_of-limit.result ≡ limit_of b.mss s =
    c.limit_of-limit.ensures
    ∙ ap (λ (n : ℕ). min (max n 88) 65495 - length c.options.result.now) c.mss.ensures
    ∙ ap (λ (xs : List ℕ). min (max b.mss 88) 65495 - length xs) c.options.ensures.octets in
    let is : sent a b s ≡ syn_sent s c.limit_of-limit.result = cond-true _ _ _ syn ∙ ap (syn_sent s) (sym limit) in
    let stays : ends_by (standing a) s ≡ false =
    ap (λ (reset : Bool). reset && (is_none a.initial || ((start_of a s).before == 0))) (c.requires.opens syn) in
    subst (λ (h : Handed). IfOk c.hand_on.result (λ r. r ≡ h))
    (ap (λ (x : Sent). handed x false) {y = sent a b s} (sym (c.going_syn.ensures.sent (standing opened)) ∙ sym is)
    ∙ ap (handed (sent a b s)) (sym stays))
    c.hand_on.ensures
