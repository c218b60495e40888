use Rattle.std.proofs.Common.{◌≡◌, ◌+◌, ◌++◌, [], ℕ, List, length, OnOk, OnErr, ap, ◌∙◌, sym, subst, append_assoc, length-append, eqb-true}
use Rattle.std.proofs.lemmas.List.{nil_from_length}
use Rattle.gate_desk.specs.Outside.{Writes, WritesPart}
use Rattle.pcap_files.specs.Spelling.{record_octets, record_head}
use Rattle.pcap_files.proofs.write.write_packet.Goals as goal

spelled : (moment : ℕ) (front head octets : List ℕ) → front ≡ record_head moment (length head + length octets)
    → front ++ (head ++ octets) ≡ record_octets moment (head ++ octets)
unfolding record_octets
spelled moment front head octets is = ap (λ xs. xs ++ (head ++ octets)) (is ∙ ap (record_head moment) (sym (length-append head octets)))

-- without a head of its link
bare : (moment : ℕ) (front head octets : List ℕ) → front ≡ record_head moment (length head + length octets) → head ≡ []
    → front ++ octets ≡ record_octets moment (head ++ octets)
bare moment front head octets is none = ap (λ xs. front ++ (xs ++ octets)) (sym none) ∙ spelled moment front head octets is

pub returns-then-is_empty-clause-ok : goal.returns-then-is_empty-clause-ok
returns-then-is_empty-clause-ok g c =
    let head = c.args.head.now in
    let none : head ≡ [] = nil_from_length head (eqb-true (length head) 0 (sym c.if-is_empty.ensures)) in
    let is = bare c.args.moment.0 c.head_of_record-front.result head c.args.octets.now c.head_of_record-front.ensures none in
    subst (λ xs. OnOk c.write_both.result (Writes c.args.slot xs (g.D.Desk.outside c.args.desk.now) (g.D.Desk.outside c.write_both.new.self))) is
    c.write_both.ensures.ok

pub returns-then-is_empty-clause-err : goal.returns-then-is_empty-clause-err
returns-then-is_empty-clause-err g c =
    let head = c.args.head.now in
    let none : head ≡ [] = nil_from_length head (eqb-true (length head) 0 (sym c.if-is_empty.ensures)) in
    let is = bare c.args.moment.0 c.head_of_record-front.result head c.args.octets.now c.head_of_record-front.ensures none in
    subst (λ xs. OnErr c.write_both.result (WritesPart c.args.slot xs (g.D.Desk.outside c.args.desk.now) (g.D.Desk.outside c.write_both.new.self))) is
    c.write_both.ensures.err

pub returns-clause-ok : goal.returns-clause-ok
returns-clause-ok g c =
    let front = c.head_of_record-front.result in
    let is = append_assoc front c.args.head.now c.args.octets.now
    ∙ spelled c.args.moment.0 front c.args.head.now c.args.octets.now c.head_of_record-front.ensures in
    subst (λ xs. OnOk c.write_behind.result (Writes c.args.slot xs (g.D.Desk.outside c.args.desk.now) (g.D.Desk.outside c.write_behind.new.desk))) is
    c.write_behind.ensures.ok

pub returns-clause-err : goal.returns-clause-err
returns-clause-err g c =
    let front = c.head_of_record-front.result in
    let is = append_assoc front c.args.head.now c.args.octets.now
    ∙ spelled c.args.moment.0 front c.args.head.now c.args.octets.now c.head_of_record-front.ensures in
    subst (λ xs. OnErr c.write_behind.result
    (WritesPart c.args.slot xs (g.D.Desk.outside c.args.desk.now) (g.D.Desk.outside c.write_behind.new.desk))) is c.write_behind.ensures.err
