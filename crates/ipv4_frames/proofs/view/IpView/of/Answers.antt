use Rattle.std.proofs.Common.{sym, ◌∙◌, ap, take, slice_range, Ok}
use Rattle.ipv4_frames.specs.Ipv4.{fields_of}
use Rattle.ipv4_frames.proofs.Reading.{accepted}
use Rattle.ipv4_frames.proofs.view.IpView.of.Goals as goal

pub returns-else-has_options : goal.returns-else-has_options
returns-else-has_options c =
    let octets = c.args.octets.now in
    ap (λ total. Ok (fields_of (take 20 octets) (slice_range octets 20 total))) (c.from-total.ensures ∙ c.get_u16.ensures)
    ∙ sym (
    accepted octets
    (sym c.is_not_ipv4.ensures ∙ c.if-is_not_ipv4.false)
    (sym c.has_bad_header.ensures ∙ c.if-has_bad_header.false)
    (sym c.has_bad_header_sum.ensures ∙ c.if-has_bad_header_sum.false)
    (sym c.is_fragment.ensures ∙ c.if-is_fragment.false)
    (sym c.has_options.ensures ∙ c.if-has_options.false)
    )
