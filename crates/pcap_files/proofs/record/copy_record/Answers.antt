use Rattle.std.proofs.Common.{◌≡◌, ℕ, ◌+◌, ◌≤◌, List, ◌++◌, take, drop, length, subst, arith, ap, ◌∙◌, take_at, length-take-le}
use Rattle.pcap_files.specs.Prelude.{after_head, body_of}
use Rattle.pcap_files.proofs.Steps.{whole_ahead}
use Rattle.pcap_files.proofs.record.copy_record.Goals as goal

pub returns : goal.returns
returns c =
    let h = c.in-Ok.fields in
    let octets = c.args.octets.now in
    let judged = subst (λ (xs : List ℕ). (rest : List ℕ) → after_head c.args.form c.args.place xs rest ≡ body_of h.stamp h.whole h.kept rest)
    c.split_at.ensures.front c.in-Ok.ensures.1 in
    let size : 16 + h.kept ≤ length octets = omega (arith, c.split_at.ensures.back_len, c.if-rest-fields.false) in
    let room : h.kept ≤ length c.args.buffer.now = omega (arith, c.in-Ok.ensures.0.kept) in
    let own : length c.copy_from_slice.new.self ≡ h.kept = omega
    (arith, c.copy_from_slice.ensures.len, length-take-le h.kept c.args.buffer.now room) in
    let copied = take_at c.copy_from_slice.new.self (drop h.kept c.args.buffer.now) h.kept own ∙ c.copy_from_slice.ensures.after
    ∙ ap (take h.kept) c.split_at.ensures.back in
    record {
      fits = c.in-Ok.ensures.0;
      size = size;
      next = λ all begins. whole_ahead c.args.form c.args.place h.stamp h.kept h.whole octets
          (c.copy_from_slice.new.self ++ drop h.kept c.args.buffer.now) all size judged copied begins;
    }
